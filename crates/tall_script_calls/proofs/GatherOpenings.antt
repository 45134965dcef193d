-- What a gather opens is what the definitions allow.
use Rattle.std.specs.Prelude.{◌≡◌, ◌≤◌, ◌+◌, ◌||◌, if◌then◌else◌, ℕ, zero, suc, Bool, true, false, not, ◌&&◌, Some, List, [], ◌∷◌, ◌++◌, map}
use Rattle.std.proofs.Common.{refl, sym, ap, subst, ◌∙◌, arith}
use Rattle.std.specs.Str.{bytes_eq}
use Rattle.std.proofs.lemmas.List.Sums.{sum_by-append}
use Rattle.std.proofs.lemmas.Slice.Eq.{bytes_eq-Decides}
use Rattle.tall_value.specs.Names.{are_distinct, has_name}
use Rattle.tall_outside.specs.declared.shelf.Shelf as shelf
use Rattle.tall_outside.specs.Shelf.{openings_of}
use Rattle.tall_semantics.specs.Openings.{share}
use Rattle.tall_semantics.specs.Shapes.{Shape}
use Rattle.tall_script.specs.Gathers as script
use Rattle.tall_script.specs.States.{Openings, Store, times_allowed}
use Rattle.tall_sources.specs.Sources.{store_in}
use Rattle.tall_gather.specs.Gathered.{gather_openings, repeated}
use Rattle.tall_gather.specs.Going.{Went}
use Rattle.tall_environment.specs.Environments.{SeenEnvironment, opening_of}
use Rattle.tall_environment.specs.MoveLaws.{moves_opened}
use Rattle.tall_environment.specs.Moves.{HaveDistinctFiles, Moves}

-- ---- a file of a datastore that lists none twice

unfoldable pub once : Bool → ℕ
once b = if b then 1 else 0

same_test : (a b : List ℕ) → bytes_eq a b ≡ true → bytes_eq b a ≡ true
same_test a b h = (bytes_eq-Decides b a).1 (sym ((bytes_eq-Decides a b).0 h))

opened_more : (name x : List ℕ) (xs : List (List ℕ)) → openings_of name (x ∷ xs) ≡ once (bytes_eq x name) + openings_of name xs
unfolding once
opened_more name x xs =
    let both : openings_of name (x ∷ xs) ≡ openings_of name (x ∷ []) + openings_of name xs = sum_by-append (λ opened. if bytes_eq opened name then 1 else 0) (x ∷ []) xs in
    let one : openings_of name (x ∷ []) ≡ 0 + once (bytes_eq x name) = refl in
    omega (arith, both, one)

-- no name that the list lacks was opened by it, and each other once
counted : (b rest found : Bool) (n m : ℕ) → n ≡ once b + m → m ≤ once rest → (b ≡ true → rest ≡ false) → found ≡ (b || rest) → n ≤ once found
unfolding once
counted true rest found n m e h k is = (let z : m ≤ once false = subst (λ r. m ≤ once r) (k refl) h in let f : once found ≡ 1 = ap once is in omega (arith, e, z, f))
counted false rest found n m e h k is = (let f : once found ≡ once rest = ap once is in omega (arith, e, h, f))

first_apart : (a b : Bool) → (not a && b) ≡ true → (a ≡ false) × (b ≡ true)
first_apart true b h = absurd (cc)
first_apart false b h = (refl, h)

flipped : (name x : List ℕ) → bytes_eq name x ≡ bytes_eq x name
flipped name x = same (bytes_eq name x) (bytes_eq x name) (same_test name x) (same_test x name)
  where
    same : (a b : Bool) → (a ≡ true → b ≡ true) → (b ≡ true → a ≡ true) → a ≡ b
    same true true h k = refl
    same true false h k = sym (h refl)
    same false true h k = k refl
    same false false h k = refl

pub opened_once : (files : List (List ℕ)) (name : List ℕ) → are_distinct files ≡ true → openings_of name files ≤ once (has_name files name)
unfolding once
opened_once [] name d = omega arith
opened_once (x ∷ xs) name d =
    let h = first_apart (has_name xs x) (are_distinct xs) d in
    counted (bytes_eq x name) (has_name xs name) (has_name (x ∷ xs) name) (openings_of name (x ∷ xs)) (openings_of name xs) (opened_more name x xs) (opened_once xs name h.1)
    (λ is. ap (has_name xs) (sym ((bytes_eq-Decides x name).0 is)) ∙ h.0) (ap (λ b. b || has_name xs name) (flipped name x))

repeated_once : (n x : ℕ) (b : Bool) → x ≤ once b → repeated n x ≤ (if b then n else 0)
unfolding once
repeated_once zero x true h = omega arith
repeated_once (suc n) x true h = (let i = repeated_once n x true h in omega (arith, h, i))
repeated_once zero x false h = omega arith
repeated_once (suc n) x false h = (let i = repeated_once n x false h in omega (arith, h, i))

-- ---- all datastores

pub within_allowed : (place : ℕ) (list : List Store) (xs : List Shape) (name : List ℕ) → HaveDistinctFiles list
    → gather_openings place (map store_in list) xs name ≤ times_allowed name (script.gather_openings place list xs)
within_allowed place [] xs name d = omega arith
within_allowed place (x ∷ list) xs name d =
    let rest = within_allowed (place + 1) list xs name (λ k y e. d (suc k) y e) in
    let here = repeated_once (share place xs) (openings_of name x.store.files) (has_name x.store.files name) (opened_once x.store.files name (d 0 x refl)) in
    omega (arith, rest, here)

-- ---- histories

abbrev pub pair_of : Openings → List (List ℕ) × ℕ
pair_of o = (o.files, o.times)

pub as_pairs : (os : List Openings) → map opening_of (map pair_of os) ≡ os
as_pairs [] = refl
as_pairs (o ∷ os) = ap (λ rest. o ∷ rest) (as_pairs os)

some_same : (a b : List (List ℕ)) → Some a ≡ Some b → a ≡ b
some_same a b e = cc

-- ---- what a gather leaves

pub moved : {S : Type 0} (s : shelf.Ghosts S) (old new : SeenEnvironment) (more : List Openings) (before now : S) (bound : List ℕ → ℕ) → new ≡ record old { opened = old.opened ++ more } → Went s bound before now
    → (HaveDistinctFiles old.stores → (name : List ℕ) → bound name ≤ times_allowed name more) → Moves s old new before now
moved s old new more before now bound e went within =
    moves_opened s old new more before now e went.held went.later (λ names told. (let o = went.opens names told in (o.0, o.1, λ name. (o.2 name).0))) (λ files told h names all start end name.
    let o = went.opens names start in
    let same : o.0 ≡ all = some_same o.0 all (sym o.1 ∙ end) in
    let b = within h name in
    let l = subst (λ x. openings_of name x ≤ openings_of name names + bound name) same ((o.2 name).1) in
    omega (arith, l, b))
