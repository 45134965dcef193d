-- A map of names, as the list of the definitions.
use Rattle.std.proofs.Common.{◌≡◌, refl, sym, ap, ◌∙◌, ℕ, List, [], ◌∷◌, map}
use Rattle.std.specs.Prelude.{Bool, true, false, if◌then◌else◌, Option, None, Some, option_map}
use Rattle.std.specs.Borrow.{Bor}
use Rattle.std.specs.Str.{bytes_eq}
use Rattle.std.specs.Map.{lookup}
use Rattle.indexmap.specs.IndexMap.{insert_entry}
use Rattle.std.proofs.lemmas.Slice.Eq.{bytes_eq-Decides}
use Rattle.tall_local.specs.Locals.{Held}
use Rattle.tall_local.specs.Names.{named, put_name, each_named}
use Rattle.tall_local.specs.Functions.{value_functions, local_functions, local_function_named}
use Rattle.tall_local.specs.declared.functions.ValueFunction.{ValueFunction}
use Rattle.tall_local.specs.declared.functions.LocalFunction.TheVariants.{OfValues}
use Rattle.tall_memory.specs.Named.{option_or}
use Rattle.tall_memory.proofs.NamedLemmas.{named_append}
use Rattle.tall_fun.specs.Values.{own_functions}
use Rattle.tall_fun.specs.declared.values.LocalValue.{LocalValue}
use Rattle.tall_fun.specs.Values.{held_seen}

same_bool : (x y : Bool) → (x ≡ true → y ≡ true) → (y ≡ true → x ≡ true) → x ≡ y
same_bool true true a b = refl
same_bool false false a b = refl
same_bool true false a b = sym (a refl)
same_bool false true a b = b refl

eq_either_way : (a b : List ℕ) → bytes_eq a b ≡ bytes_eq b a
eq_either_way a b =
    same_bool (bytes_eq a b) (bytes_eq b a) (λ h. (bytes_eq-Decides b a).1 (sym ((bytes_eq-Decides a b).0 h))) (λ h. (bytes_eq-Decides a b).1 (sym ((bytes_eq-Decides b a).0 h)))

abbrev pub entry_seen : Bor (List ℕ) × LocalValue → List ℕ × Held
entry_seen e = (e.0.now, held_seen e.1)

pub looked_up : (es : List (Bor (List ℕ) × LocalValue)) (q : List ℕ) → option_map held_seen (lookup (λ k. bytes_eq q k.now) es) ≡ named (map (λ e. (e.0.now, held_seen e.1)) es) q
looked_up [] q = refl
looked_up (e ∷ es) q =
    step (named (map (λ e. (e.0.now, held_seen e.1)) es) q) (looked_up es q) (bytes_eq q e.0.now)
    ∙ ap (λ b. if b then Some (held_seen e.1) else named (map (λ e. (e.0.now, held_seen e.1)) es) q) (eq_either_way q e.0.now)
  where
    step : (y : Option Held) → option_map held_seen (lookup (λ k. bytes_eq q k.now) es) ≡ y → (b : Bool)
        → option_map held_seen (if b then Some e.1 else lookup (λ k. bytes_eq q k.now) es) ≡ (if b then Some (held_seen e.1) else y)
    step y h true = refl
    step y h false = h

pub inserted : (es : List (Bor (List ℕ) × LocalValue)) (k : Bor (List ℕ)) (v : LocalValue)
    → map (λ e. (e.0.now, held_seen e.1)) (insert_entry (λ a b. bytes_eq a.now b.now) es k v) ≡ put_name k.now (held_seen v) (map (λ e. (e.0.now, held_seen e.1)) es)
inserted [] k v = refl
inserted (e ∷ es) k v =
    step (put_name k.now (held_seen v) (map (λ e. (e.0.now, held_seen e.1)) es)) (inserted es k v)
    (bytes_eq k.now e.0.now) (bytes_eq e.0.now k.now) (eq_either_way k.now e.0.now) ((bytes_eq-Decides k.now e.0.now).0)
  where
    step : (y : List (List ℕ × Held)) → map (λ e. (e.0.now, held_seen e.1)) (insert_entry (λ a b. bytes_eq a.now b.now) es k v) ≡ y → (b c : Bool) → b ≡ c → (b ≡ true → k.now ≡ e.0.now)
        → map (λ e. (e.0.now, held_seen e.1)) (if b then (e.0, v) ∷ es else e ∷ insert_entry (λ a b. bytes_eq a.now b.now) es k v)
        ≡ (if c then (k.now, held_seen v) ∷ map (λ e. (e.0.now, held_seen e.1)) es else (e.0.now, held_seen e.1) ∷ y)
    step y h true true b is = ap (λ n. (n, held_seen v) ∷ map (λ e. (e.0.now, held_seen e.1)) es) (sym (is refl))
    step y h false false b is = ap (λ z. (e.0.now, held_seen e.1) ∷ z) h
    step y h true false b is = absurd (cc)
    step y h false true b is = absurd (cc)

-- ---- functions by name

named_each : {A B : Type 0} (f : A → B) (xs : List (List ℕ × A)) (name : List ℕ) → named (each_named f xs) name ≡ option_map f (named xs name)
named_each f [] name = refl
named_each f (x ∷ xs) name = step (bytes_eq x.0 name) (named_each f xs name)
  where
    step : (b : Bool) → named (each_named f xs) name ≡ option_map f (named xs name)
        → (if b then Some (f x.1) else named (each_named f xs) name) ≡ option_map f (if b then Some x.1 else named xs name)
    step true h = refl
    step false h = h

split_functions : (name : List ℕ) → named local_functions name ≡ option_or (option_map OfValues (named value_functions name)) (named own_functions name)
split_functions name =
    named_append (each_named OfValues value_functions) own_functions name ∙ ap (λ o. option_or o (named own_functions name)) (named_each OfValues value_functions name)

pub of_values_named : (name : List ℕ) (f : ValueFunction) → Some f ≡ named value_functions name → Some (OfValues f) ≡ local_function_named name
unfolding local_function_named
of_values_named name f h = sym (split_functions name ∙ ap (λ o. option_or (option_map OfValues o) (named own_functions name)) (sym h))

pub own_named : (name : List ℕ) → None ≡ named value_functions name → named own_functions name ≡ local_function_named name
unfolding local_function_named
own_named name h = sym (split_functions name ∙ ap (λ o. option_or (option_map OfValues o) (named own_functions name)) (sym h))
