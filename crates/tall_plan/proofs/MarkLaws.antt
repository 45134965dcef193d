-- Marks of places: one more, and which nodes are needed by them.
use Rattle.std.specs.Prelude.{◌≡◌, refl, ◌≢◌, ℕ, zero, suc, ◌<◌, ◌≤◌, ◌+◌, ◌-◌, ◌⊎◌, Bool, true, false, ◌||◌, ◌==◌, if◌then◌else◌, Option, None, Some, List, [], ◌∷◌, ◌++◌, length, take, get_or, reverse, slice_get, IfSome}
use Rattle.std.proofs.Common.{ap, sym, subst, ◌∙◌, arith, inl, inr}
use Rattle.std.specs.List.{list_any}
use Rattle.std.proofs.lemmas.List.{append_assoc, append-nil, get_or-set_same, get_or-set_other, length-set, reverse-append, take_more}
use Rattle.std.proofs.Math.ListN.{set}
use Rattle.std.proofs.lemmas.Option.{get_or_from_slice_get, slice_get_read}
use Rattle.std.proofs.lemmas.Bool.Decides.{Decides-eqb}
use Rattle.tall_semantics.specs.Deferred.{Vertex, AllBelow, IsOrdered, IsAmong, AreThere}
use Rattle.tall_semantics.specs.Plans.{is_among, args_of, needed_below, needed_of}
use Rattle.tall_semantics.proofs.Basics.{inside}
use Rattle.tall_plan.specs.Marks.{mark_at, AreMarked}

pub item_below : (n : ℕ) (xs : List ℕ) (i x : ℕ) → AllBelow n xs → i < length xs → x ≡ get_or xs i x → x < n
item_below n [] i x below l e = absurd (omega (arith, l))
item_below n (y ∷ xs) zero x below l e = subst (λ z. z < n) (sym e) below.0
item_below n (y ∷ xs) (suc i) x below l e = item_below n xs i x below.1 (omega (arith, l)) e

pub below_more : (m n : ℕ) (xs : List ℕ) → m ≤ n → AllBelow m xs → AllBelow n xs
below_more m n [] l below = tt
below_more m n (x ∷ xs) l below = (omega (arith, l, below.0), below_more m n xs l below.1)

-- ---- one mark more

or_assoc : (a b c : Bool) → ((a || b) || c) ≡ (a || (b || c))
or_assoc true b c = refl
or_assoc false b c = refl

or_false : (a : Bool) → (a || false) ≡ a
or_false true = refl
or_false false = refl

or_true : (a : Bool) → (a || true) ≡ true
or_true true = refl
or_true false = refl

or_turned : (a b : Bool) → (a || b) ≡ (b || a)
or_turned true b = sym (or_true b)
or_turned false b = sym (or_false b)

pub among_both : (i : ℕ) (xs ys : List ℕ) → is_among i (xs ++ ys) ≡ (is_among i xs || is_among i ys)
among_both i [] ys = refl
among_both i (x ∷ xs) ys = ap (λ b. (x == i) || b) (among_both i xs ys) ∙ sym (or_assoc (x == i) (is_among i xs) (is_among i ys))

among_next : (i x k : ℕ) (xs : List ℕ) → k < length xs → x ≡ get_or xs k x → is_among i (take (k + 1) xs) ≡ (is_among i (take k xs) || (x == i))
among_next i x k xs l e =
    ap (is_among i) (take_more xs k x l) ∙ (among_both i (take k xs) (get_or xs k x ∷ [])
    ∙ (ap (λ y. is_among i (take k xs) || ((y == i) || false)) (sym e) ∙ ap (λ b. is_among i (take k xs) || b) (or_false (x == i))))

not_equal : (r i : ℕ) → (r == i) ≡ false → i ≢ r
not_equal r i e q = let t : (r == i) ≡ true = (Decides-eqb r i).1 (sym q) in let u : true ≡ false = sym t ∙ e in cc

set_if : (marks : List Bool) (r i : ℕ) (b : Bool) → r < length marks → (r == i) ≡ b → mark_at (set marks r true) i ≡ (mark_at marks i || b)
set_if marks r i true l e =
    subst (λ j. mark_at (set marks r true) j ≡ (mark_at marks j || true)) ((Decides-eqb r i).0 e) (get_or-set_same marks r true false l ∙ sym (or_true (mark_at marks r)))
set_if marks r i false l e = get_or-set_other marks r i true false (not_equal r i e) ∙ sym (or_false (mark_at marks i))

set_mark : (marks : List Bool) (r i : ℕ) → r < length marks → mark_at (set marks r true) i ≡ (mark_at marks i || (r == i))
set_mark marks r i l = set_if marks r i (r == i) l refl

-- the marks of the places up to k
pub record AreMore (old marks : List Bool) (xs : List ℕ) (k : ℕ) : Type 0 where
  pub many : length marks ≡ length old
  pub each : (i : ℕ) → i < length old → mark_at marks i ≡ (mark_at old i || is_among i (take k xs))

pub no_mark : (old : List Bool) (xs : List ℕ) → AreMore old old xs 0
no_mark old xs = record { many = refl; each = λ i l. sym (or_false (mark_at old i)) }

pub one_mark : (old marks : List Bool) (xs : List ℕ) (k r x : ℕ) → AllBelow (length old) xs → k < length xs → x ≡ get_or xs k x → r ≡ x → AreMore old marks xs k → AreMore old (set marks r true) xs (k + 1)
one_mark old marks xs k r x below l e q more =
    let b : r < length marks = subst (λ n. n < length marks) (sym q) (subst (λ m. x < m) (sym more.many) (item_below (length old) xs k x below l e)) in
    record {
      many = length-set marks r true ∙ more.many;
      each = λ i h.
          set_mark marks r i b
          ∙ (ap (λ c. c || (r == i)) (more.each i h)
          ∙ (or_assoc (mark_at old i) (is_among i (take k xs)) (r == i)
          ∙ (ap (λ c. mark_at old i || (is_among i (take k xs) || (c == i))) q ∙ ap (λ c. mark_at old i || c) (sym (among_next i x k xs l e)))));
    }

-- ---- what is needed

needed_if : (vs : List Vertex) (n : ℕ) (marked : List ℕ) (b : Bool) → is_among n marked ≡ b → needed_below vs (suc n) marked ≡ (if b then needed_below vs n (args_of (slice_get vs n) ++ marked) ++ n ∷ [] else needed_below vs n marked)
unfolding needed_below
needed_if vs n marked b e = ap (λ c. if c then needed_below vs n (args_of (slice_get vs n) ++ marked) ++ n ∷ [] else needed_below vs n marked) e

-- what is found so far is needed, and what is marked below `left` tells the rest
pub record AreFound (vs : List Vertex) (roots : List ℕ) (marks : List Bool) (left : ℕ) (found : List ℕ) : Type 0 where
  pub marked : List ℕ
  pub many : length marks ≡ length vs
  pub within : left ≤ length vs
  pub marks_are : AreMarked marks left marked
  pub whole : needed_below vs left marked ++ reverse found ≡ needed_of vs roots

pub found_none : (vs : List Vertex) (roots : List ℕ) (marks : List Bool) (left : ℕ) → length marks ≡ length vs → left ≡ length vs → AreMarked marks (length vs) roots → AreFound vs roots marks left []
found_none vs roots marks left many e marks_are = record {
  marked = roots;
  many = many;
  within = omega (arith, e);
  marks_are = subst (λ n. AreMarked marks n roots) (sym e) marks_are;
  whole = append-nil (needed_below vs left roots) ∙ ap (λ n. needed_below vs n roots) e;
}

pub found_all : (vs : List Vertex) (roots : List ℕ) (marks : List Bool) (left : ℕ) (found : List ℕ) → left ≡ 0 → AreFound vs roots marks left found → reverse found ≡ needed_of vs roots
unfolding needed_below
found_all vs roots marks left found e are = ap (λ n. needed_below vs n are.marked ++ reverse found) (sym e) ∙ are.whole

pub in_list : {A : Type 0} (xs : List A) (n : ℕ) → n < length xs → (x : A) × (slice_get xs n ≡ Some x)
in_list [] n l = absurd (omega (arith, l))
in_list (x ∷ xs) zero l = (x, refl)
in_list (x ∷ xs) (suc n) l = in_list xs n (omega (arith, l))

told_args : (o : Option Vertex) (v : Vertex) (args : List ℕ) → o ≡ Some v → IfSome o (λ w. args ≡ w.args) → args ≡ v.args
told_args None v args e h = absurd (cc)
told_args (Some w) v args e h = h ∙ ap (λ (x : Vertex). x.args) (inside w v e)

module _ (vs : List Vertex) (n : ℕ) (args : List ℕ) (l : n < length vs) (told : IfSome (slice_get vs n) (λ w. args ≡ w.args)) where
  args_are : args ≡ args_of (slice_get vs n)
  args_are = (let v = in_list vs n l in told_args (slice_get vs n) v.0 args v.1 told ∙ ap args_of (sym v.1))

  pub args_below : (m : ℕ) → IsOrdered vs → n ≤ m → AllBelow m args
  args_below m ordered k =
      let v = in_list vs n l in
      subst (AllBelow m) (sym (told_args (slice_get vs n) v.0 args v.1 told)) (below_more n m v.0.args k (ordered n v.0 v.1))

  -- a marked place is needed, and its operands are marked
  pub found_marked : (roots : List ℕ) (marks new : List Bool) (left : ℕ) (found : List ℕ) → left ≡ suc n → mark_at marks n ≡ true → AreFound vs roots marks left found → length new ≡ length marks
      → ((i : ℕ) → i < length marks → mark_at new i ≡ (mark_at marks i || is_among i args)) → AreFound vs roots new n (found ++ n ∷ [])
  found_marked roots marks new left found e here are many each =
      let m = are.marked in
      let as_before = needed_below vs n (args_of (slice_get vs n) ++ m) in
      let marked : is_among n m ≡ true = sym (are.marks_are n (omega (arith, e))) ∙ here in
      let step : needed_below vs left m ≡ as_before ++ n ∷ [] = ap (λ k. needed_below vs k m) e ∙ needed_if vs n m true marked in
      record {
        marked = args_of (slice_get vs n) ++ m;
        many = many ∙ are.many;
        within = omega (arith, are.within, e);
        marks_are = λ i h.
            each i (omega (arith, h, l, are.many))
            ∙ (ap (λ b. b || is_among i args) (are.marks_are i (omega (arith, h, e)))
            ∙ (or_turned (is_among i m) (is_among i args)
            ∙ (ap (λ xs. is_among i xs || is_among i m) args_are ∙ sym (among_both i (args_of (slice_get vs n)) m))));
        whole =
            ap (λ xs. as_before ++ xs) (reverse-append found (n ∷ []))
            ∙ (sym (append_assoc as_before (n ∷ []) (reverse found)) ∙ (ap (λ xs. xs ++ reverse found) (sym step) ∙ are.whole));
      }

-- an unmarked place is not needed
pub found_passed : (vs : List Vertex) (n : ℕ) (roots : List ℕ) (marks : List Bool) (left : ℕ) (found : List ℕ) → left ≡ suc n → mark_at marks n ≡ false → AreFound vs roots marks left found → AreFound vs roots marks n found
found_passed vs n roots marks left found e here are =
    let m = are.marked in
    let out : is_among n m ≡ false = sym (are.marks_are n (omega (arith, e))) ∙ here in
    let step : needed_below vs left m ≡ needed_below vs n m = ap (λ k. needed_below vs k m) e ∙ needed_if vs n m false out in
    record {
      marked = m;
      many = are.many;
      within = omega (arith, are.within, e);
      marks_are = λ i h. are.marks_are i (omega (arith, h, e));
      whole = ap (λ xs. xs ++ reverse found) (sym step) ∙ are.whole;
    }

read_mark : (marks : List Bool) (n : ℕ) (r b : Bool) → n < length marks → r ≡ get_or marks n r → r ≡ b → mark_at marks n ≡ b
read_mark marks n r b l is e = get_or_from_slice_get marks n r false (slice_get_read marks (length marks) n r refl l is) ∙ e

pub marked_at : (vs : List Vertex) (n : ℕ) (args : List ℕ) → n < length vs → IfSome (slice_get vs n) (λ w. args ≡ w.args) → (roots : List ℕ) (marks new : List Bool) (left : ℕ) (found others : List ℕ) (r : Bool)
    → n ≡ left - 1 → 0 < left → r ≡ get_or marks (left - 1) r → r ≡ true → AreFound vs roots marks left found → length new ≡ length marks
    → ((i : ℕ) → i < length marks → mark_at new i ≡ (mark_at marks i || is_among i args)) → others ≡ found ++ n ∷ [] → AreFound vs roots new (left - 1) others
marked_at vs n args l told roots marks new left found others r e some is true_is are many each pushed =
    let here : mark_at marks n ≡ true = ap (mark_at marks) e ∙ read_mark marks (left - 1) r true (omega (arith, some, are.within, are.many)) is true_is in
    subst (λ fs. AreFound vs roots new (left - 1) fs) (sym pushed)
    (subst (λ m. AreFound vs roots new m (found ++ n ∷ [])) e (found_marked vs n args l told roots marks new left found (omega (arith, e, some)) here are many each))

pub passed_at : (vs : List Vertex) (roots : List ℕ) (marks : List Bool) (left : ℕ) (found : List ℕ) (r : Bool) → 0 < left → r ≡ get_or marks (left - 1) r → r ≡ false → AreFound vs roots marks left found → AreFound vs roots marks (left - 1) found
passed_at vs roots marks left found r some is false_is are =
    found_passed vs (left - 1) roots marks left found (omega (arith, some)) (read_mark marks (left - 1) r false (omega (arith, some, are.within, are.many)) is false_is) are
