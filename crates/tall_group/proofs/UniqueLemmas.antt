-- Distinct cells of some cells and one more, of some cells and then others, and at the end.
use Rattle.std.specs.Prelude.{◌≡◌, refl, ℕ, zero, suc, ◌+◌, ◌<◌, ◌||◌, Bool, true, false, not, if◌then◌else◌, Option, None, Some, Result, Ok, Err, IfOk, List, [], ◌∷◌, ◌++◌, length, take, slice_get}
use Rattle.std.proofs.Common.{ap, sym, subst, ◌∙◌, arith, length-append, add-one}
use Rattle.std.specs.List.{All, filter, list_any}
use Rattle.std.proofs.lemmas.List.{append-nil, append_assoc}
use Rattle.std.proofs.lemmas.List.Elements.{All-nil, All-cons, All-head, All-tail, All-append, All-filter, All-same, filter-append}
use Rattle.std.proofs.lemmas.List.Folds.{list_any-append}
use Rattle.tall_value.specs.declared.class.Class.{Class}
use Rattle.tall_value.specs.declared.class.Kind.{Kind}
use Rattle.tall_value.specs.Cells.{Seen, whole, logical, double, text, is_nan, seen_kind}
use Rattle.tall_value.specs.Classes.{kind_of, class_of}
use Rattle.tall_value.specs.Columns.{HasKind}
use Rattle.tall_value.specs.Distinct.{ascending, distinct}
use Rattle.tall_value.specs.Groups.{is_of_group}
use Rattle.tall_value.specs.Reductions.{present, is_present}
use Rattle.tall_value.proofs.KindLaws.{kind_again}
use Rattle.tall_value.proofs.FunctionLaws.{ascending_all}
use Rattle.tall_dense.specs.Columns.{SeenColumn, class_of_cell, with_cell}
use Rattle.tall_group.specs.Keys.{found, with_key, IsPlaced, ArePlaced, AreSorted, copies, nans_of}
use Rattle.tall_group.specs.Numbers.{key_cell}
use Rattle.tall_group.specs.declared.numbers.Number.TheVariants.{Nan}
use Rattle.tall_group.specs.UniqueFolds.{IsUniqueOf}
use Rattle.tall_group.specs.declared.unique.UniqueFold.{UniqueFold}
use Rattle.tall_group.proofs.OrderLemmas.{found_alike, one_rising, ascending_rises, found_ascending}

-- a cell of a class has its kind
pub kind_is : (c : Seen) (class : Class) → class_of_cell c ≡ class → seen_kind c ≡ kind_of class
kind_is c class h = sym (kind_again (seen_kind c)) ∙ ap kind_of h

-- ---- the keys with one more

already : (a b : Bool) → (b ≡ true → a ≡ true) → a ≡ (a || (b || false))
already true b h = refl
already false true h = h refl
already false false h = refl

with_by : (ks : List Seen) (k c : Seen) (b : Bool) → found k ks ≡ b → found c (if b then ks else ks ++ k ∷ []) ≡ (found c ks || (is_of_group c k || false))
with_by ks k c true h = already (found c ks) (is_of_group c k) (λ e. found_alike c k ks e ∙ h)
with_by ks k c false h = list_any-append (is_of_group c) ks (k ∷ [])

pub found_with : (ks cs : List Seen) (k : Seen) → ((c : Seen) → found c ks ≡ found c cs) → (c : Seen) → found c (with_key ks k) ≡ found c (cs ++ k ∷ [])
found_with ks cs k same c =
    with_by ks k c (found k ks) refl
    ∙ (ap (λ b. b || (is_of_group c k || false)) (same c) ∙ sym (list_any-append (is_of_group c) cs (k ∷ [])))

-- ---- one cell more

present_one : (c : Seen) → is_nan c ≡ false → present (c ∷ []) ≡ c ∷ []
present_one c h = ap (λ b. if not b then c ∷ [] else []) h

nan_one : (c : Seen) (b : Bool) → is_nan c ≡ b → filter is_nan (c ∷ []) ≡ (if b then c ∷ [] else [])
nan_one c b h = ap (λ b. if b then c ∷ [] else []) h

pub more_unique : (fold : UniqueFold) (keys : SeenColumn) (cs : List Seen) (c : Seen) (p : ℕ) → is_nan c ≡ false → class_of_cell c ≡ fold.keys.class → keys.class ≡ fold.keys.class
    → IsPlaced fold.keys.cells keys.cells c p → IsUniqueOf fold cs → IsUniqueOf (record { keys = keys; nans = fold.nans }) (cs ++ c ∷ [])
more_unique fold keys cs c p n h same placed u =
    record {
      found_in = λ x.
          ap (found x) placed.keys ∙ (found_with fold.keys.cells (present cs) c u.found_in x
          ∙ ap (found x) (sym (filter-append is_present cs (c ∷ []) ∙ ap (λ ds. present cs ++ ds) (present_one c n))));
      nans = u.nans ∙ ap length (sym (filter-append is_nan cs (c ∷ []) ∙ (ap (λ ds. filter is_nan cs ++ ds) (nan_one c false n) ∙ append-nil (filter is_nan cs))));
      kinds =
          subst (λ k. All (HasKind (kind_of k)) (cs ++ c ∷ [])) (sym same)
          (All-append (HasKind (kind_of fold.keys.class)) cs (c ∷ []) u.kinds
          (All-cons (HasKind (kind_of fold.keys.class)) c [] (kind_is c fold.keys.class h) (All-nil (HasKind (kind_of fold.keys.class)))));
    }

-- ---- NaNs

pub one_copy_more : (n : ℕ) (c : Seen) → copies (n + 1) c ≡ copies n c ++ c ∷ []
one_copy_more n c = ap (λ m. copies m c) (add-one n) ∙ behind n
  where
    behind : (m : ℕ) → copies (suc m) c ≡ copies m c ++ c ∷ []
    behind zero = refl
    behind (suc m) = ap (λ ds. c ∷ ds) (behind m)

-- a NaN's cell is that of its kind
nan_is : (k : Kind) (c : Seen) → HasKind k c → is_nan c ≡ true → key_cell k Nan ≡ c
nan_is k (double None) h n = ap (λ k. key_cell k Nan) (sym h)
nan_is k c h n = absurd cc

nans_by : (k : Kind) (c : Seen) (ds : List Seen) (b : Bool) → is_nan c ≡ b → HasKind k c → nans_of k (length ds) ≡ ds → nans_of k (length (if b then c ∷ ds else ds)) ≡ (if b then c ∷ ds else ds)
nans_by k c ds true n h e = ap (λ x. x ∷ nans_of k (length ds)) (nan_is k c h n) ∙ ap (λ xs. c ∷ xs) e
nans_by k c ds false n h e = e

pub nans_are : (k : Kind) (cs : List Seen) → All (HasKind k) cs → nans_of k (length (filter is_nan cs)) ≡ filter is_nan cs
nans_are k [] a = refl
nans_are k (c ∷ cs) a = nans_by k c (filter is_nan cs) (is_nan c) refl (All-head (HasKind k) c cs a) (nans_are k cs (All-tail (HasKind k) c cs a))

-- ---- at the end

pub sorted_distinct : (k : Kind) (keys sorted cs : List Seen) (places : List ℕ) → AreSorted keys places sorted → All (HasKind k) sorted → All (HasKind k) cs → ((c : Seen) → found c keys ≡ found c (present cs)) → sorted ≡ ascending (present cs)
sorted_distinct k keys sorted cs places s a b same =
    one_rising k sorted (ascending (present cs)) a (ascending_all (HasKind k) (present cs) (All-filter is_present (HasKind k) cs b)) s.rising (ascending_rises (present cs))
    (λ c. s.same c ∙ (same c ∙ sym (found_ascending c (present cs))))

pub unique_cells : (fold : UniqueFold) (cs sorted : List Seen) (places : List ℕ) → AreSorted fold.keys.cells places sorted → All (HasKind (kind_of fold.keys.class)) sorted → IsUniqueOf fold cs
    → sorted ++ nans_of (kind_of fold.keys.class) fold.nans ≡ distinct cs
unique_cells fold cs sorted places s a u =
    let k = kind_of fold.keys.class in
    ap (λ xs. xs ++ nans_of k fold.nans) (sorted_distinct k fold.keys.cells sorted cs places s a u.kinds u.found_in)
    ∙ ap (λ xs. ascending (present cs) ++ xs) (ap (nans_of k) u.nans ∙ nans_are k cs u.kinds)

-- ---- rows of a column, and others behind

-- one row more of the first rows
pub taken_more : {A : Type 0} (xs : List A) (i : ℕ) (x : A) → slice_get xs i ≡ Some x → take (i + 1) xs ≡ take i xs ++ x ∷ []
taken_more xs i x h = ap (λ n. take n xs) (add-one i) ∙ next xs i h
  where
    next : (ys : List _) (j : ℕ) → slice_get ys j ≡ Some x → take (suc j) ys ≡ take j ys ++ x ∷ []
    next [] j e = absurd cc
    next (y ∷ ys) zero e = let s : y ≡ x = cc in ap (λ z. z ∷ []) s
    next (y ∷ ys) (suc j) e = ap (λ zs. y ∷ zs) (next ys j e)

pub row_unique : (fold : UniqueFold) (cs ds : List Seen) (i : ℕ) (c : Seen) → slice_get ds i ≡ Some c → IsUniqueOf fold ((cs ++ take i ds) ++ c ∷ []) → IsUniqueOf fold (cs ++ take (i + 1) ds)
row_unique fold cs ds i c h u = subst (IsUniqueOf fold) (append_assoc cs (take i ds) (c ∷ []) ∙ ap (λ es. cs ++ es) (sym (taken_more ds i c h))) u

pub joined_unique : (fold later : UniqueFold) (keys : SeenColumn) (nans : ℕ) (cs ds : List Seen) (ps : List ℕ) → later.keys.class ≡ fold.keys.class → keys.class ≡ fold.keys.class
    → ArePlaced fold.keys.cells keys.cells later.keys.cells ps → nans ≡ fold.nans + later.nans → IsUniqueOf fold cs → IsUniqueOf later ds → IsUniqueOf (record { keys = keys; nans = nans }) (cs ++ ds)
joined_unique fold later keys nans cs ds ps h same placed n u v =
    record {
      found_in = λ c.
          placed.found_in c
          ∙ (ap (λ b. b || found c later.keys.cells) (u.found_in c)
          ∙ (ap (λ b. found c (present cs) || b) (v.found_in c)
          ∙ (sym (list_any-append (is_of_group c) (present cs) (present ds)) ∙ ap (found c) (sym (filter-append is_present cs ds)))));
      nans = n ∙ (ap (λ m. m + later.nans) u.nans ∙ (ap (λ m. length (filter is_nan cs) + m) v.nans ∙ (sym (length-append (filter is_nan cs) (filter is_nan ds)) ∙ ap length (sym (filter-append is_nan cs ds)))));
      kinds =
          subst (λ k. All (HasKind (kind_of k)) (cs ++ ds)) (sym same)
          (All-append (HasKind (kind_of fold.keys.class)) cs ds u.kinds (subst (λ k. All (HasKind (kind_of k)) ds) h v.kinds));
    }

pub nans_more : (k : Kind) (n : ℕ) (before : List Seen) (old new : SeenColumn) (d : Seen) → old.cells ≡ before ++ nans_of k n → new ≡ with_cell old d → d ≡ key_cell k Nan → new.cells ≡ before ++ nans_of k (n + 1)
nans_more k n before old new d o h e =
    ap (λ (c : SeenColumn). c.cells) h
    ∙ (ap (λ cs. cs ++ d ∷ []) o ∙ (append_assoc before (nans_of k n) (d ∷ []) ∙ (ap (λ x. before ++ (nans_of k n ++ x ∷ [])) e ∙ ap (λ cs. before ++ cs) (sym (one_copy_more n (key_cell k Nan))))))

-- the first rows and one more are of the class
pub kinds_more : (class : Class) (cs : List Seen) (i : ℕ) (c : Seen) → slice_get cs i ≡ Some c → class_of_cell c ≡ class → All (HasKind (kind_of class)) (take i cs) → All (HasKind (kind_of class)) (take (i + 1) cs)
kinds_more class cs i c h e a =
    let of = HasKind (kind_of class) in
    subst (All of) (sym (taken_more cs i c h)) (All-append of (take i cs) (c ∷ []) a (All-cons of c [] (kind_is c class e) (All-nil of)))
