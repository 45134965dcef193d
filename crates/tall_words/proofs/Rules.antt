-- The arguments of a parser that is seen as the command line: what its rules say of them.
use Rattle.std.proofs.Common.{◌∙◌, ◌≡◌, ◌⊎◌, ◌<◌, ap, ℕ, zero, suc, Bool, true, false, not, List, [], ◌∷◌, length, map, Some, refl, sym, arith, codes, get_or, inl, inr}
use Rattle.std.specs.Prelude.{slice_get}
use Rattle.std.specs.List.{AllByRecursion, list_all, slice_index_or}
use Rattle.std.specs.Str.{bytes_eq}
use Rattle.std.proofs.lemmas.Bool.{both_ways}
use Rattle.std.proofs.lemmas.List.{length-map}
use Rattle.std.proofs.lemmas.List.Elements.{All-from_recursion}
use Rattle.clap.specs.Words.{Rule, Text, app_of, args_of, groups_of, rule_of}
use Rattle.clap.specs.Built.{IsAuto, NamesNoGroup}
use Rattle.clap.specs.declared.builder.arg.Arg.{Arg}
use Rattle.clap.specs.declared.builder.command.Command.{Command}
use Rattle.clap.specs.declared.builder.command.Command.TheViews.{out-Command}
use Rattle.clap.proofs.SimpleLemmas.{is_nil}
use Rattle.clap.proofs.WalkLemmas.{both}
use Rattle.tall_words.specs.Commands.{tallrun, workers, demo, script}

abbrev pub rules : List Rule
rules = workers ∷ demo ∷ script ∷ []

abbrev pub names : List Text
names = codes "workers" ∷ codes "demo" ∷ codes "script" ∷ []

pub rules_are : (c : Command) → app_of c ≡ tallrun → map rule_of (args_of c) ≡ rules
rules_are c is = ap (λ a. a.top.rules) is

some_rule : (x y : Rule) → Some x ≡ Some y → x ≡ y
some_rule x y e = cc

pub rule_at : (xs : List Arg) (k : ℕ) (d : Arg) (r : Rule) → slice_get (map rule_of xs) k ≡ Some r → rule_of (slice_index_or xs k d) ≡ r
rule_at [] k d r at = cc
rule_at (x ∷ xs) zero d r at = some_rule (rule_of x) r at
rule_at (x ∷ xs) (suc k) d r at = rule_at xs k d r at

pub there_at : (xs : List Arg) (k : ℕ) (r : Rule) → slice_get (map rule_of xs) k ≡ Some r → k < length xs
there_at [] k r at = cc
there_at (x ∷ xs) zero r at = omega arith
there_at (x ∷ xs) (suc k) r at =
    let rest = there_at xs k r at in omega (arith, rest)

three : (P : ℕ → Type 0) → P 0 → P 1 → P 2 → (j : ℕ) → j < 3 → P j
three P a b c zero lt = a
three P a b c (suc zero) lt = b
three P a b c (suc (suc zero)) lt = c
three P a b c (suc (suc (suc j))) lt = absurd (omega (arith, lt))

names_differ : (j k : ℕ) → j < 3 → k < 3 → bytes_eq (get_or names j []) (get_or names k []) ≡ true → j ≡ k
names_differ j k lt lt2 = three (λ j. bytes_eq (get_or names j []) (get_or names k []) ≡ true → j ≡ k)
    (three (λ k. bytes_eq (get_or names 0 []) (get_or names k []) ≡ true → 0 ≡ k) (λ h. refl) (λ h. absurd (both_ways false refl h)) (λ h. absurd (both_ways false refl h)) k lt2)
    (three (λ k. bytes_eq (get_or names 1 []) (get_or names k []) ≡ true → 1 ≡ k) (λ h. absurd (both_ways false refl h)) (λ h. refl) (λ h. absurd (both_ways false refl h)) k lt2)
    (three (λ k. bytes_eq (get_or names 2 []) (get_or names k []) ≡ true → 2 ≡ k) (λ h. absurd (both_ways false refl h)) (λ h. absurd (both_ways false refl h)) (λ h. refl) k lt2)
    j lt

length_three : (xs : List Arg) → map rule_of xs ≡ rules → (j : ℕ) → j < length xs → j < 3
length_three xs same j lt =
    let long : length xs ≡ 3 = sym (length-map xs rule_of) ∙ ap length same in
    omega (arith, lt, long)

name_at : (xs : List Arg) → map rule_of xs ≡ rules → (j : ℕ) (d : Arg) → j < 3 → (slice_index_or xs j d).id.now ≡ get_or names j []
name_at xs same j d lt = three (λ j. (slice_index_or xs j d).id.now ≡ get_or names j [])
    (ap (λ (r : Rule). r.id) (rule_at xs 0 d workers (ap (λ rs. slice_get rs 0) same)))
    (ap (λ (r : Rule). r.id) (rule_at xs 1 d demo (ap (λ rs. slice_get rs 1) same)))
    (ap (λ (r : Rule). r.id) (rule_at xs 2 d script (ap (λ rs. slice_get rs 2) same)))
    j lt

-- no two arguments have one id
pub one_id : (xs : List Arg) → map rule_of xs ≡ rules → (k : ℕ) (d : Arg) → k < 3
    → (j : ℕ) (e : Arg) → j < length xs → bytes_eq (slice_index_or xs j e).id.now (slice_index_or xs k d).id.now ≡ true → j ≡ k
one_id xs same k d lt j e below equal =
    let high = length_three xs same j below in
    names_differ j k high lt (rw (← name_at xs same j e high, ← name_at xs same k d lt) equal)

-- none is the help or the version flag
pub not_auto : (xs : List Arg) → map rule_of xs ≡ rules → (k : ℕ) (d : Arg) → k < 3 → IsAuto (slice_index_or xs k d) → ⊥
not_auto xs same k d lt auto =
    let name = name_at xs same k d lt in
    let first : (t : Text) → (slice_index_or xs k d).id.now ≡ t → get_or (get_or names k []) 0 0 ≡ get_or t 0 0 = λ t is. ap (λ (u : Text). get_or u 0 0) (sym name ∙ is) in
    three (λ k. get_or (get_or names k []) 0 0 ≡ 104 ⊎ get_or (get_or names k []) 0 0 ≡ 118 → ⊥)
    (λ h. elim h [ inl e ↦ omega (arith, e) | inr e ↦ omega (arith, e) ])
    (λ h. elim h [ inl e ↦ omega (arith, e) | inr e ↦ omega (arith, e) ])
    (λ h. elim h [ inl e ↦ omega (arith, e) | inr e ↦ omega (arith, e) ])
    k lt (elim auto [ inl is ↦ inl (first (codes "help") is) | inr is ↦ inr (first (codes "version") is) ])

-- ---- no global argument and no group

not_true : (b : Bool) → not b ≡ true → b ≡ false
not_true false h = refl
not_true true h = cc

pub no_globals : (c : Command) → app_of c ≡ tallrun → (out-Command c).has_globals ≡ false
no_globals c is =
    let plain = ap (λ a. a.top.is_plain) is in
    not_true _ (both _ _ (both _ _ (both _ _ plain).1).1).0

pub no_groups : (c : Command) → app_of c ≡ tallrun → groups_of c ≡ []
no_groups c is =
    let plain = ap (λ a. a.top.is_plain) is in
    is_nil _ (both _ _ plain).0

in_no_group : (xs : List Arg) → list_all (λ (r : Rule). r.is_simple) (map rule_of xs) ≡ true → AllByRecursion (λ a. a.groups.items ≡ []) xs
in_no_group [] h = tt
in_no_group (x ∷ xs) h =
    let parts = both _ _ h in (is_nil _ (both _ _ (both _ _ (both _ _ parts.0).1).1).0, in_no_group xs parts.1)

pub names_no_group : (c : Command) → app_of c ≡ tallrun → NamesNoGroup c
names_no_group c is =
    All-from_recursion _ _ (in_no_group (args_of c) (ap (list_all (λ (r : Rule). r.is_simple)) (rules_are c is)))
