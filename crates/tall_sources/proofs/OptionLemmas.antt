-- The options of a call, by the pairs as they stand.
use Rattle.std.specs.Prelude.{◌≡◌, refl, ℕ, ◌&&◌, ◌||◌, not, Bool, true, false, if◌then◌else◌, List, [], ◌∷◌, map, Option, None, Some, is_some, option_and_then}
use Rattle.std.specs.List.{list_all}
use Rattle.std.specs.Str.{bytes_eq}
use Rattle.std.proofs.Common.{ap, sym, ◌∙◌}
use Rattle.std.proofs.lemmas.Cmp.{nat_list_eq_equiv}
use Rattle.tall_value.specs.Names.{are_distinct, has_name}
use Rattle.tall_store.specs.Options.{SeenOptions}
use Rattle.tall_local.specs.Applications.{text_of}
use Rattle.tall_local.specs.Lists.{all_of, in_front_of}
use Rattle.tall_local.specs.Memory.{Memory, scalar_in}
use Rattle.tall_local.specs.Names.{named, names_of}
use Rattle.tall_memory.specs.Values.{ref_seen}
use Rattle.tall_script.specs.StoreArguments.{are_options, option_name, options, options_from, options_given, pairs_given, with_option}
use Rattle.tall_store.specs.declared.options.OptionName.{OptionName}
use Rattle.tall_deferred.specs.declared.values.ScriptRef.{ScriptRef}
use Rattle.tall_deferred.specs.declared.values.ScriptRef.TheVariants as lent
use Rattle.tall_sources.specs.Given.{memory_lent, memory_in, is_in_memory, is_new_option, is_text, are_pairs, value_behind, value_of, options_by, options_in_memory, options_lent}

-- ---- values in memory

all_lent : (args : List ScriptRef) → list_all is_in_memory args ≡ true → all_of memory_lent args ≡ Some (map memory_in args)
all_lent [] h = refl
all_lent (lent.Datastore p ∷ rest) h = absurd cc
all_lent (lent.Table xs ∷ rest) h = absurd cc
all_lent (lent.Tall n ∷ rest) h = absurd cc
all_lent (lent.Memory v ∷ rest) h = ap (in_front_of (Some (ref_seen v))) (all_lent rest h)

not_all_lent : (args : List ScriptRef) → list_all is_in_memory args ≡ false → all_of memory_lent args ≡ None
not_all_lent [] h = absurd cc
not_all_lent (lent.Datastore p ∷ rest) h = refl
not_all_lent (lent.Table xs ∷ rest) h = refl
not_all_lent (lent.Tall n ∷ rest) h = refl
not_all_lent (lent.Memory v ∷ rest) h = ap (in_front_of (Some (ref_seen v))) (not_all_lent rest h)

-- ---- pairs

abbrev Pairs : Type 0
Pairs = List (List ℕ × Memory)

-- what the pairs are, by what stands behind names, and by the test
abbrev Told : Option Pairs → (List ℕ → Option Memory) → Bool → Type 0
Told (Some g) behind ok = ((name : List ℕ) → behind name ≡ named g name) × (ok ≡ are_options (names_of g))
Told None behind ok = ok ≡ false

has_named : (g : Pairs) (t : List ℕ) → is_some (named g t) ≡ has_name (names_of g) t
has_named [] t = refl
has_named (e ∷ g) t = either (bytes_eq e.0 t) (bytes_eq t e.0) (nat_list_eq_equiv.symm e.0 t) (has_named g t) where
  either : (a b : Bool) → a ≡ b → is_some (named g t) ≡ has_name (names_of g) t → is_some (if a then Some e.1 else named g t) ≡ (b || has_name (names_of g) t)
  either true true h k = refl
  either true false h k = absurd cc
  either false true h k = absurd cc
  either false false h k = k

parted : (a b c d : Bool) → ((a && not b) && (c && d)) ≡ ((a && c) && (not b && d))
parted true true true d = refl
parted true true false d = refl
parted true false true d = refl
parted true false false d = refl
parted false b c d = refl

never : (a : Bool) → (a && false) ≡ false
never true = refl
never false = refl

one_more : (t : Option (List ℕ)) (v : Memory) (rest : List Memory) (p : Option Pairs) → Told p (value_behind rest) (are_pairs rest)
    → Told (with_option t v p) (λ name. if is_text t name then Some v else value_behind rest name) (is_new_option t rest && are_pairs rest)
one_more None v rest None h = refl
one_more None v rest (Some g) h = refl
one_more (Some t) v rest None h = ap (λ b. is_new_option (Some t) rest && b) h ∙ never (is_new_option (Some t) rest)
one_more (Some t) v rest (Some g) h = (
  λ name. ap (λ o. if bytes_eq t name then Some v else o) (h.0 name),
  ap (λ b. (is_some (named options t) && not b) && are_pairs rest) (ap is_some (h.0 t) ∙ has_named g t)
      ∙ (ap (λ b. (is_some (named options t) && not (has_name (names_of g) t)) && b) h.1
      ∙ parted (is_some (named options t)) (has_name (names_of g) t) (list_all (λ name. is_some (named options name)) (names_of g)) (are_distinct (names_of g))),
)

told : (ms : List Memory) → Told (pairs_given ms) (value_behind ms) (are_pairs ms)
told [] = (λ name. refl, refl)
told (name ∷ []) = refl
told (name ∷ v ∷ rest) = one_more (text_of (scalar_in name)) v rest (pairs_given rest) (told rest)

abbrev read_pairs : Memory → Option Pairs → Option SeenOptions
read_pairs files p = option_and_then (λ given. if are_options (names_of given) then options_from files given else None) p

when_told : (files : Memory) (p : Option Pairs) (behind : List ℕ → Option Memory) (ok : Bool) → Told p behind ok → read_pairs files p ≡ (if ok then options_by files (λ o. behind (option_name o)) else None)
when_told files None behind ok h = ap (λ b. if b then options_by files (λ o. behind (option_name o)) else None) (sym h)
when_told files (Some g) behind ok h =
    ap (λ b. if b then options_from files g else None) (sym h.1)
    ∙ ap (λ o. if ok then o else None) (ap (options_by files) (sym same)) where
      same : ◌≡◌ {A = OptionName → Option Memory} (λ o. behind (option_name o)) (λ o. named g (option_name o))
      same = λ i o. h.0 (option_name o) i

-- ---- calls

pub not_in_memory : (args : List ScriptRef) → list_all is_in_memory args ≡ false → None ≡ options_lent args
not_in_memory args h = ap (option_and_then options_given) (sym (not_all_lent args h))

given_in : (ms : List Memory) → options_given ms ≡ options_in_memory ms
unfolding options_given value_of
given_in [] = refl
given_in (files ∷ pairs) = when_told files (pairs_given pairs) (value_behind pairs) (are_pairs pairs) (told pairs)

pub all_in_memory : (args : List ScriptRef) → list_all is_in_memory args ≡ true → options_in_memory (map memory_in args) ≡ options_lent args
all_in_memory args h = sym (given_in (map memory_in args)) ∙ ap (option_and_then options_given) (sym (all_lent args h))
