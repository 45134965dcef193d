-- Laws of folds over plain values.
use Rattle.std.specs.Prelude.{◌≡◌, ℕ, ◌+◌, ◌≤◌, ℤ, pos, ◌+ℤ◌, List, [], ◌∷◌, Option, None, Some, Bool, true, false, ◌||◌, ◌&&◌, refl, if◌then◌else◌}
use Rattle.std.specs.List.{fold, list_any, list_all, count_by}
use Rattle.std.specs.Int.{int_max, int_min}
use Rattle.std.proofs.Common.{ap, ◌∙◌, arith}
use Rattle.std.proofs.lemmas.Int.{ints, clamps}
use Rattle.tall_clamp.specs.Folds.{of_rows, joined_by, one_row, added, of_both, IsTerm, IsTotal}
use Rattle.tall_clamp.specs.Outcomes.{has_nan, numbers, total, as_double, exact_sum, picked}

-- ---- pairs

pub same_pair : {A : Type 0} (x y : A) (m n : ℕ) → x ≡ y → m ≡ n → ◌≡◌ {A = A × ℕ} (x, m) (y, n)
same_pair {A} x y m n p q =
    let make : A → ℕ → A × ℕ = λ a k. (a, k) in
    ap (λ (a : A). make a m) p ∙ ap (make y) q

pub joined_by-assoc : {A : Type 0} (op : A → A → A) (a b c : A × ℕ) → op (op a.0 b.0) c.0 ≡ op a.0 (op b.0 c.0)
    → joined_by op (joined_by op a b) c ≡ joined_by op a (joined_by op b c)
joined_by-assoc op a b c e = same_pair _ _ _ _ e (omega arith)

pub joined_by-left : {A : Type 0} (op : A → A → A) (e : A) (a : A × ℕ) → op e a.0 ≡ a.0 → joined_by op (e, 0) a ≡ a
joined_by-left op e a h = same_pair _ _ _ _ h (omega arith)

pub joined_by-right : {A : Type 0} (op : A → A → A) (e : A) (a : A × ℕ) → op a.0 e ≡ a.0 → joined_by op a (e, 0) ≡ a
joined_by-right op e a h = same_pair _ _ _ _ h (omega arith)

-- what the fold of a list holds
pub held : {A V : Type 0} (op : A → A → A) (f : V → A) (s : A × ℕ) (vs : List V)
    → (of_rows (joined_by op) (one_row f) s vs).0 ≡ fold (λ a v. op a (f v)) s.0 vs
held op f s [] = refl
held op f s (v ∷ vs) = held op f (joined_by op s (one_row f v)) vs

-- ---- operators

pub added-assoc : (a b c : Option ℤ) → added (added a b) c ≡ added a (added b c)
added-assoc None b c = refl
added-assoc (Some x) None c = refl
added-assoc (Some x) (Some y) None = refl
added-assoc (Some x) (Some y) (Some z) = ap Some (omega (arith, ints))

pub added-zero : (a : Option ℤ) → added a (Some (pos 0)) ≡ a
added-zero None = refl
added-zero (Some x) = ap Some (omega (arith, ints))

pub zero-added : (a : Option ℤ) → added (Some (pos 0)) a ≡ a
zero-added None = refl
zero-added (Some x) = ap Some (omega (arith, ints))

pub of_both-assoc : (pick : ℤ → ℤ → ℤ) → ((x y z : ℤ) → pick (pick x y) z ≡ pick x (pick y z))
    → (a b c : Option ℤ) → of_both pick (of_both pick a b) c ≡ of_both pick a (of_both pick b c)
of_both-assoc pick h None b c = refl
of_both-assoc pick h (Some x) None c = refl
of_both-assoc pick h (Some x) (Some y) None = refl
of_both-assoc pick h (Some x) (Some y) (Some z) = ap Some (h x y z)

pub of_both-none : (pick : ℤ → ℤ → ℤ) (a : Option ℤ) → of_both pick a None ≡ a
of_both-none pick None = refl
of_both-none pick (Some x) = refl

pub int_min-assoc : (x y z : ℤ) → int_min (int_min x y) z ≡ int_min x (int_min y z)
int_min-assoc x y z = omega (arith, ints, clamps)

pub int_max-assoc : (x y z : ℤ) → int_max (int_max x y) z ≡ int_max x (int_max y z)
int_max-assoc x y z = omega (arith, ints, clamps)

-- ---- totals

pub added_is_total : (a b : Option ℤ) (m n : ℕ) → IsTotal a m → IsTotal b n → IsTotal (added a b) (m + n)
added_is_total None b m n p q = tt
added_is_total (Some x) None m n p q = tt
added_is_total (Some x) (Some y) m n p q = (omega (arith, ints, p.0, q.0), omega (arith, ints, p.1, q.1))

pub term_is_total : (v : Option ℤ) → IsTerm v → IsTotal v 1
term_is_total None h = tt
term_is_total (Some n) h = (omega (arith, ints, h.0), omega (arith, ints, h.1))

-- the fold of terms from a number: none from the first NaN on
fold_added_none : (vs : List (Option ℤ)) → fold (λ a v. added a v) None vs ≡ None
fold_added_none [] = refl
fold_added_none (v ∷ vs) = fold_added_none vs

fold_added : (t : ℤ) (vs : List (Option ℤ)) → fold (λ a v. added a v) (Some t) vs
    ≡ (if has_nan vs then None else Some (fold (λ a n. a +ℤ n) t (numbers vs)))
fold_added t [] = refl
fold_added t (None ∷ vs) = fold_added_none vs
fold_added t (Some n ∷ vs) = fold_added (t +ℤ n) vs

-- what a total finishes with
abbrev pub total_outcome : Option ℤ → Option (Option ℤ)
total_outcome None = Some None
total_outcome (Some t) = as_double t

outcome_if : (b : Bool) (t : ℤ) → total_outcome (if b then None else Some t) ≡ (if b then Some None else as_double t)
outcome_if true t = refl
outcome_if false t = refl

pub exact_sum_is : (vs : List (Option ℤ)) → total_outcome (fold (λ a v. added a v) (Some (pos 0)) vs) ≡ exact_sum vs
exact_sum_is vs = ap total_outcome (fold_added (pos 0) vs) ∙ outcome_if (has_nan vs) (total (numbers vs))

-- ---- the least and the greatest

fold_picked : (pick : ℤ → ℤ → ℤ) (n : ℤ) (vs : List (Option ℤ)) → fold (λ a v. of_both pick a v) (Some n) vs ≡ Some (fold pick n (numbers vs))
fold_picked pick n [] = refl
fold_picked pick n (None ∷ vs) = fold_picked pick n vs
fold_picked pick n (Some m ∷ vs) = fold_picked pick (pick n m) vs

pub picked_is : (pick : ℤ → ℤ → ℤ) (vs : List (Option ℤ)) → fold (λ a v. of_both pick a v) None vs ≡ picked pick (numbers vs)
picked_is pick [] = refl
picked_is pick (None ∷ vs) = picked_is pick vs
picked_is pick (Some m ∷ vs) = fold_picked pick m vs

-- ---- truths

any_from : (b : Bool) (vs : List Bool) → fold (λ a v. a || v) b vs ≡ (b || list_any (λ v. v) vs)
any_from true [] = refl
any_from false [] = refl
any_from true (v ∷ vs) = any_from true vs
any_from false (v ∷ vs) = any_from v vs

pub any_is : (vs : List Bool) → fold (λ a v. a || v) false vs ≡ list_any (λ v. v) vs
any_is vs = any_from false vs

all_from : (b : Bool) (vs : List Bool) → fold (λ a v. a && v) b vs ≡ (b && list_all (λ v. v) vs)
all_from true [] = refl
all_from false [] = refl
all_from true (v ∷ vs) = all_from v vs
all_from false (v ∷ vs) = all_from false vs

pub all_is : (vs : List Bool) → fold (λ a v. a && v) true vs ≡ list_all (λ v. v) vs
all_is vs = all_from true vs

pub or-assoc : (a b c : Bool) → ((a || b) || c) ≡ (a || (b || c))
or-assoc true b c = refl
or-assoc false b c = refl

pub and-assoc : (a b c : Bool) → ((a && b) && c) ≡ (a && (b && c))
and-assoc true b c = refl
and-assoc false b c = refl

pub false-or : (a : Bool) → (false || a) ≡ a
false-or a = refl

pub true-and : (a : Bool) → (true && a) ≡ a
true-and a = refl

pub or-false : (a : Bool) → (a || false) ≡ a
or-false true = refl
or-false false = refl

pub and-true : (a : Bool) → (a && true) ≡ a
and-true true = refl
and-true false = refl

-- 1 for a true one
abbrev pub counted : Bool → ℕ
counted v = if v then 1 else 0

pub count_is : (vs : List Bool) → fold (λ a v. a + counted v) 0 vs ≡ count_by (λ v. v) vs
count_is vs = refl

pub counts_none : 0 ≤ 0
counts_none = omega arith

pub counted_few : (v : Bool) → counted v ≤ 1
counted_few true = omega arith
counted_few false = omega arith

pub counts_few : (a b m n : ℕ) → a ≤ m → b ≤ n → a + b ≤ m + n
counts_few a b m n p q = omega arith

pub nothing_is_total : IsTotal (Some (pos 0)) 0
nothing_is_total = (omega (arith, ints), omega (arith, ints))
