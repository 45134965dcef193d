-- The table of names as the list of the definitions, and values that stay in the graph.
use Rattle.std.proofs.Common.{◌≡◌, ◌≤◌, refl, sym, ap, subst, ◌∙◌, ℕ, List, [], ◌∷◌, map}
use Rattle.std.specs.Prelude.{Bool, true, false, if◌then◌else◌, IfSome, MatchResult, OnErr, OnOk, Option, None, Some, option_map, Result, Ok, Err, String, string_bytes, string_eq}
use Rattle.std.specs.Borrow.{Bor}
use Rattle.std.specs.Option.{is_some, option_copied}
use Rattle.tall_semantics.specs.Talls.{Tall}
use Rattle.std.specs.List.{All}
use Rattle.std.specs.Map.{lookup}
use Rattle.std.specs.Str.{bytes_eq}
use Rattle.indexmap.specs.IndexMap.{insert_entry}
use Rattle.std.proofs.lemmas.List.Elements.{All-nil, All-cons, All-head, All-tail}
use Rattle.std.proofs.lemmas.Slice.Eq.{bytes_eq-Decides}
use Rattle.tall_local.specs.Names.{named, put_name}
use Rattle.tall_deferred.specs.declared.values.ScriptValue.{ScriptValue}
use Rattle.tall_deferred.specs.Values.{IsValue, value_at}
use Rattle.tall_deferred.proofs.TurnLaws.{value_stays}
use Rattle.tall_environment.specs.Environments.{IsNamed, names_at}
use Rattle.tall_environment.proofs.NameLaws.{named_at}

same_bool : (x y : Bool) → (x ≡ true → y ≡ true) → (y ≡ true → x ≡ true) → x ≡ y
same_bool true true a b = refl
same_bool false false a b = refl
same_bool true false a b = sym (a refl)
same_bool false true a b = b refl

eq_either_way : (a b : List ℕ) → bytes_eq a b ≡ bytes_eq b a
eq_either_way a b =
    same_bool (bytes_eq a b) (bytes_eq b a) (λ h. (bytes_eq-Decides b a).1 (sym ((bytes_eq-Decides a b).0 h))) (λ h. (bytes_eq-Decides a b).1 (sym ((bytes_eq-Decides b a).0 h)))

module _ {Z : Type 0} where
  abbrev pub seen : List (String Z × ScriptValue) → List (List ℕ × ScriptValue)
  seen es = map (λ x. (string_bytes x.0, x.1)) es

  pub looked_up : (es : List (String Z × ScriptValue)) (q : List ℕ) → lookup (λ k. bytes_eq q (string_bytes k)) es ≡ named (seen es) q
  looked_up [] q = refl
  looked_up (e ∷ es) q =
      step (named (seen es) q) (looked_up es q) (bytes_eq q (string_bytes e.0))
      ∙ ap (λ b. if b then Some e.1 else named (seen es) q) (eq_either_way q (string_bytes e.0))
    where
      step : (y : Option ScriptValue) → lookup (λ k. bytes_eq q (string_bytes k)) es ≡ y → (b : Bool)
          → (if b then Some e.1 else lookup (λ k. bytes_eq q (string_bytes k)) es) ≡ (if b then Some e.1 else y)
      step y h true = refl
      step y h false = h

  pub inserted : (es : List (String Z × ScriptValue)) (k : String Z) (v : ScriptValue) → seen (insert_entry string_eq es k v) ≡ put_name (string_bytes k) v (seen es)
  inserted [] k v = refl
  inserted (e ∷ es) k v =
      step (put_name (string_bytes k) v (seen es)) (inserted es k v)
      (string_eq k e.0) (bytes_eq (string_bytes e.0) (string_bytes k)) (eq_either_way (string_bytes k) (string_bytes e.0)) ((bytes_eq-Decides (string_bytes k) (string_bytes e.0)).0)
    where
      step : (y : List (List ℕ × ScriptValue)) → seen (insert_entry string_eq es k v) ≡ y → (b c : Bool) → b ≡ c → (b ≡ true → string_bytes k ≡ string_bytes e.0)
          → seen (if b then (e.0, v) ∷ es else e ∷ insert_entry string_eq es k v) ≡ (if c then (string_bytes k, v) ∷ seen es else (string_bytes e.0, e.1) ∷ y)
      step y h true true b is = ap (λ n. (n, v) ∷ seen es) (sym (is refl))
      step y h false false b is = ap (λ z. (string_bytes e.0, e.1) ∷ z) h
      step y h true false b is = absurd (cc)
      step y h false true b is = absurd (cc)

-- ---- values of the graph

pub named_within : (n : ℕ) (xs : List (List ℕ × ScriptValue)) (name : List ℕ) (v : ScriptValue) → All (IsNamed n) xs → named xs name ≡ Some v → IsValue n v
named_within n [] name v h is = absurd (cc)
named_within n (x ∷ xs) name v h is = step (bytes_eq x.0 name) (λ e. named_within n xs name v (All-tail (IsNamed n) x xs h) e) is where
  some_same : (a b : ScriptValue) → Some a ≡ Some b → a ≡ b
  some_same a b e = cc

  step : (b : Bool) → (named xs name ≡ Some v → IsValue n v) → (if b then Some x.1 else named xs name) ≡ Some v → IsValue n v
  step true rest e = subst (IsValue n) (some_same x.1 v e) (All-head (IsNamed n) x xs h)
  step false rest e = rest e

pub put_within : (n : ℕ) (name : List ℕ) (v : ScriptValue) (xs : List (List ℕ × ScriptValue)) → IsValue n v → All (IsNamed n) xs → All (IsNamed n) (put_name name v xs)
put_within n name v [] k h = All-cons (IsNamed n) (name, v) [] k (All-nil (IsNamed n))
put_within n name v (x ∷ xs) k h = step (bytes_eq x.0 name) (put_within n name v xs k (All-tail (IsNamed n) x xs h)) where
  step : (b : Bool) → All (IsNamed n) (put_name name v xs) → All (IsNamed n) (if b then (name, v) ∷ xs else x ∷ put_name name v xs)
  step true rest = All-cons (IsNamed n) (name, v) xs k (All-tail (IsNamed n) x xs h)
  step false rest = All-cons (IsNamed n) x (put_name name v xs) (All-head (IsNamed n) x xs h) rest

pub names_stay : (n m : ℕ) (xs : List (List ℕ × ScriptValue)) → n ≤ m → All (IsNamed n) xs → All (IsNamed m) xs
names_stay n m [] l h = All-nil (IsNamed m)
names_stay n m (x ∷ xs) l h = All-cons (IsNamed m) x xs (value_stays n m x.1 l (All-head (IsNamed n) x xs h)) (names_stay n m xs l (All-tail (IsNamed n) x xs h))

-- ---- what is found

pub shown_copied : (o : Option (Bor ScriptValue)) → option_map (λ v. v.now) o ≡ option_copied o
shown_copied None = refl
shown_copied (Some v) = refl

pub found_within : (n : ℕ) (xs : List (List ℕ × ScriptValue)) (name : List ℕ) (o : Option (Bor ScriptValue)) → All (IsNamed n) xs → option_map (λ v. v.now) o ≡ named xs name → IfSome o (λ v. IsValue n v.now)
found_within n xs name None h e = tt
found_within n xs name (Some v) h e = named_within n xs name v.now h (sym e)

-- one of two, by an answer
pub either : {A E X P Q : Type 0} (r : Result A E) → MatchResult r (λ _. P) (λ _. Q) → (P → X) → (Q → X) → X
either (Ok a) h f g = f h
either (Err e) h f g = g h

pub has_named : (f : ℕ → Tall) (xs : List (List ℕ × ScriptValue)) (name : List ℕ) (o : Option (Bor ScriptValue)) → option_map (λ v. v.now) o ≡ named xs name → is_some (named (names_at f xs) name) ≡ is_some o
has_named f xs name o h = ap is_some (named_at f xs name ∙ ap (option_map (value_at f)) (sym h)) ∙ same o where
  same : (o : Option (Bor ScriptValue)) → is_some (option_map (value_at f) (option_map (λ v. v.now) o)) ≡ is_some o
  same None = refl
  same (Some v) = refl

pub on_ok : {A E X : Type 0} (P Q : Type 0) (r : Result A E) → MatchResult r (λ _. P) (λ _. Q) → (P → X) → OnOk r X
on_ok P Q (Ok a) h f = f h
on_ok P Q (Err e) h f = tt

pub on_err : {A E X : Type 0} (P Q : Type 0) (r : Result A E) → MatchResult r (λ _. P) (λ _. Q) → (Q → X) → OnErr r X
on_err P Q (Ok a) h f = tt
on_err P Q (Err e) h f = f h
