-- Sorted keys: they rise, and stand at their places.
use Rattle.std.specs.Prelude.{◌≡◌, refl, ℤ, ℕ, Option, None, Some, zero, suc, ◌+◌, ◌<◌, ◌≤◌, Bool, true, false, List, [], ◌∷◌, length, get_or, map, IsPermutation, IsSorted, Result, Ok, Err, IfOk}
use Rattle.std.proofs.Common.{ap, sym, subst, ◌∙◌, arith}
use Rattle.std.specs.List.{All, IsDistinct, list_any}
use Rattle.std.specs.Map.{keys_of}
use Rattle.std.specs.declared.cmp.Ordering.{Ordering}
use Rattle.std.specs.declared.cmp.Ordering.TheVariants.{Less, Equal, Greater}
use Rattle.std.specs.Ordering.{is_eq, is_lt, int_cmp, bool_cmp}
use Rattle.std.proofs.lemmas.List.{length-map}
use Rattle.std.proofs.lemmas.List.Elements.{All-nil, All-cons, All-head, All-tail, All-same}
use Rattle.std.proofs.lemmas.List.Sorted.{All-permutation, IsPermutation-map, list_any-IsPermutation}
use Rattle.tall_value.specs.Cells.{Seen, whole, logical, double, text, bit, seen_kind}
use Rattle.tall_value.specs.CellOrder.{cell_order, nan_last}
use Rattle.tall_value.specs.Groups.{is_of_group}
use Rattle.tall_group.specs.Keys.{found, IsBelow, IsRising, StandAt, AreSorted}
use Rattle.tall_dense.specs.Columns.{SeenColumn}
use Rattle.tall_value.specs.declared.class.Class.{Class}
use Rattle.tall_value.specs.Columns.{HasKind}
use Rattle.tall_value.specs.declared.class.Kind.{Kind}
use Rattle.tall_value.specs.declared.class.Kind.TheVariants.{Integer, Logical, Double, Text}
use Rattle.tall_group.specs.Numbers.{number_of, number_or_nan, key_cell}
use Rattle.tall_group.specs.Tables.{ArePlaces, AreExact, IsNumeric, number_cells}
use Rattle.tall_group.specs.declared.numbers.Number.{Number}
use Rattle.tall_group.specs.declared.numbers.Number.TheVariants.{Whole, Nan}
use Rattle.tall_group.specs.contracts.numbers.NumberOrd.TheImpl as derived
use Rattle.tall_group.specs.contracts.numbers.NumberPartialEq.TheImpl as same
use Rattle.tall_group.proofs.NumberLemmas.{cells_equal, key_kind}
use Rattle.tall_group.proofs.PlaceLemmas.{derived as derived_eq}
use Rattle.tall_group.proofs.OrderLemmas.{greater_less, group_turned, below_after}

below_by : (x y : Seen) (r : Ordering) → cell_order y x ≡ r → is_lt r ≡ false → is_of_group x y ≡ false → cell_order x y ≡ Less
below_by x y Less e h n = absurd cc
below_by x y Equal e h n = absurd (let t : is_of_group x y ≡ true = group_turned y x (ap is_eq e) in let f : true ≡ false = sym t ∙ n in cc)
below_by x y Greater e h n = greater_less y x e

module _ {K : Type 0} (cell : K → Seen) (cmp : K → K → Ordering) (eq : K → K → Bool) (P : K × ℕ → Type 0)
    (ordered : (e f : K × ℕ) → P e → P f → cell_order (cell e.0) (cell f.0) ≡ cmp e.0 f.0) (alike : (e f : K × ℕ) → P e → P f → is_of_group (cell e.0) (cell f.0) ≡ eq e.0 f.0) where
  abbrev shown : List (K × ℕ) → List Seen
  shown es = map (λ e. cell e.0) es

  later_sorted : (x : K) (ks : List K) → IsSorted cmp (x ∷ ks) → IsSorted cmp ks
  later_sorted x ks s k d low high =
      let e : suc (k + 1) ≡ suc k + 1 = omega arith in
      ap (λ n. is_lt (cmp (get_or (x ∷ ks) n d) (get_or ks k d))) e ∙ s (suc k) d (omega arith) (omega (arith, high))

  pub rises : (fs : List (K × ℕ)) → All P fs → IsSorted cmp (keys_of fs) → IsDistinct eq (keys_of fs) → IsRising (shown fs)
  unfolding IsDistinct
  rises [] a s d = tt
  rises (f ∷ []) a s d = (tt, tt)
  rises (f ∷ g ∷ fs) a s d =
      let p : P f = All-head P f (g ∷ fs) a in
      let q : P g = All-head P g fs (All-tail P f (g ∷ fs) a) in
      let less : cell_order (cell f.0) (cell g.0) ≡ Less =
      below_by (cell f.0) (cell g.0) (cell_order (cell g.0) (cell f.0)) refl (ap is_lt (ordered g f q p) ∙ s 0 f.0 (omega arith) (omega arith)) (alike f g p q ∙ d.0.0) in
      let rest = rises (g ∷ fs) (All-tail P f (g ∷ fs) a) (later_sorted f.0 (keys_of (g ∷ fs)) s) d.1 in
      ((less, below_after (cell f.0) (cell g.0) (shown fs) less rest.0), rest)

  AtPlace : List (K × ℕ) → K × ℕ → Type 0
  AtPlace es f = (f.1 < length es) × ((d : K × ℕ) → get_or es f.1 d ≡ f)

  get_shown : (es : List (K × ℕ)) (i : ℕ) (d : K × ℕ) (x : Seen) → i < length es → get_or (shown es) i x ≡ cell (get_or es i d).0
  get_shown [] i d x l = absurd (omega arith)
  get_shown (e ∷ es) zero d x l = refl
  get_shown (e ∷ es) (suc i) d x l = get_shown es i d x (omega arith)

  stand_at : (es fs : List (K × ℕ)) → All (AtPlace es) fs → StandAt (shown es) (map (λ e. e.1) fs) (shown fs)
  unfolding AtPlace
  stand_at es [] a = tt
  stand_at es (f ∷ fs) a =
      let h = All-head (AtPlace es) f fs a in
      (omega (arith, h.0, length-map es (λ (e : K × ℕ). cell e.0)), (λ x. get_shown es f.1 f x h.0 ∙ ap (λ e. cell e.0) (h.1 f)), stand_at es fs (All-tail (AtPlace es) f fs a))

  get_by_any : (es : List (K × ℕ)) (i : ℕ) (d x : K × ℕ) → i < length es → get_or es i x ≡ get_or es i d
  get_by_any [] i d x l = absurd (omega arith)
  get_by_any (e ∷ es) zero d x l = refl
  get_by_any (e ∷ es) (suc i) d x l = get_by_any es i d x (omega arith)

  own_places : (es : List (K × ℕ)) → ArePlaces es → All (AtPlace es) es
  unfolding AtPlace
  own_places es h i d l =
      let e : (get_or es i d).1 ≡ i = h i d l in
      (omega (arith, e, l), λ x. ap (λ j. get_or es j x) e ∙ get_by_any es i d x l)

  pub sorted_keys : (es fs : List (K × ℕ)) → All P es → ArePlaces es → IsPermutation es fs → IsSorted cmp (keys_of fs) → IsDistinct eq (keys_of fs)
      → AreSorted (shown es) (map (λ e. e.1) fs) (shown fs)
  sorted_keys es fs a h p s d =
      record {
        rising = rises fs (All-permutation P es fs p a) s d;
        same = λ c. sym (list_any-IsPermutation (is_of_group c) (shown es) (shown fs) (IsPermutation-map (λ e. cell e.0) es fs p));
        stand = stand_at es fs (All-permutation (AtPlace es) es fs p (own_places es h));
      }

-- of what a call gave, if it gave something
pub sorted_given : {A E : Type 0} (r : Result A E) (column : A → SeenColumn) (places : A → List ℕ) (keys : List Seen) (all : SeenColumn) (ps : List ℕ)
    → IfOk r (λ a. column a ≡ all) → IfOk r (λ a. places a ≡ ps) → AreSorted keys ps all.cells → IfOk r (λ a. AreSorted keys (places a) (column a).cells)
sorted_given (Ok a) column places keys all ps c p s = subst (λ ps. AreSorted keys ps (column a).cells) (sym p) (subst (λ cs. AreSorted keys ps cs) (sym (ap (λ (x : SeenColumn). x.cells) c)) s)
sorted_given (Err e) column places keys all ps c p s = c

-- ---- numbers

bits_ordered : (a b : Bool) → bool_cmp a b ≡ int_cmp (bit a) (bit b)
bits_ordered true true = refl
bits_ordered true false = refl
bits_ordered false true = refl
bits_ordered false false = refl

doubles_ordered : (a b : Option ℤ) → nan_last a b ≡ derived.cmp-value.it (number_or_nan a) (number_or_nan b)
doubles_ordered (Some a) (Some b) = refl
doubles_ordered (Some a) None = refl
doubles_ordered None (Some b) = refl
doubles_ordered None None = refl

numbers_ordered : (k : Kind) → IsNumeric k → (c d : Seen) → seen_kind c ≡ k → seen_kind d ≡ k → cell_order c d ≡ derived.cmp-value.it (number_of c) (number_of d)
numbers_ordered (Integer k) n (whole i a) (whole j b) p q = refl
numbers_ordered Logical n (logical a) (logical b) p q = bits_ordered a b
numbers_ordered Double n (double a) (double b) p q = doubles_ordered a b
numbers_ordered Text n c d p q = absurd n
numbers_ordered k n c d p q = absurd cc

abbrev IsOwn : Kind → Number × ℕ → Type 0
IsOwn k e = number_of (key_cell k e.0) ≡ e.0

own_numbers : (k : Kind) (es : List (Number × ℕ)) → AreExact k es → All (IsOwn k) es
own_numbers k [] h = All-nil (IsOwn k)
own_numbers k (e ∷ es) h = All-cons (IsOwn k) e es h.0 (own_numbers k es h.1)

cells_ordered : (k : Kind) → IsNumeric k → (e f : Number × ℕ) → IsOwn k e → IsOwn k f → cell_order (key_cell k e.0) (key_cell k f.0) ≡ derived.cmp-value.it e.0 f.0
cells_ordered k h e f p q =
    numbers_ordered k h (key_cell k e.0) (key_cell k f.0) (key_kind k e.0) (key_kind k f.0)
    ∙ (ap (λ x. derived.cmp-value.it x (number_of (key_cell k f.0))) p ∙ ap (derived.cmp-value.it e.0) q)

cells_alike : (k : Kind) → IsNumeric k → (e f : Number × ℕ) → IsOwn k e → IsOwn k f → is_of_group (key_cell k e.0) (key_cell k f.0) ≡ same.eq-value.it e.0 f.0
cells_alike k h e f p q = cells_equal k h e.0 f.0 p q ∙ sym (derived_eq e.0 f.0)

pub sorted_numbers : (k : Kind) → IsNumeric k → (es fs : List (Number × ℕ)) → AreExact k es → ArePlaces es → IsPermutation es fs → IsSorted derived.cmp-value.it (keys_of fs) → IsDistinct same.eq-value.it (keys_of fs)
    → AreSorted (number_cells k es) (map (λ e. e.1) fs) (number_cells k fs)
sorted_numbers k h es fs x p s d u = sorted_keys (key_cell k) derived.cmp-value.it same.eq-value.it (IsOwn k) (cells_ordered k h) (cells_alike k h) es fs (own_numbers k es x) p s d u

number_kinds : (k : Kind) (es : List (Number × ℕ)) → All (HasKind k) (number_cells k es)
number_kinds k [] = All-nil (HasKind k)
number_kinds k (e ∷ es) = All-cons (HasKind k) (key_cell k e.0) (number_cells k es) (key_kind k e.0) (number_kinds k es)

text_kinds : {A : Type 0} (bytes : A → List ℕ) (es : List A) → All (HasKind Text) (map (λ e. text (bytes e)) es)
text_kinds bytes [] = All-nil (HasKind Text)
text_kinds bytes (e ∷ es) = All-cons (HasKind Text) (text (bytes e)) (map (λ e. text (bytes e)) es) refl (text_kinds bytes es)

kinds_given : {A E : Type 0} (k : Kind) (r : Result A E) (column : A → SeenColumn) (all : SeenColumn) → IfOk r (λ a. column a ≡ all) → All (HasKind k) all.cells → IfOk r (λ a. All (HasKind k) (column a).cells)
kinds_given k (Ok a) column all c h = All-same (HasKind k) (column a).cells all.cells (ap (λ (x : SeenColumn). x.cells) c) h
kinds_given k (Err e) column all c h = c

pub numbers_given : {A E : Type 0} (k : Kind) (r : Result A E) (column : A → SeenColumn) (c : Class) (es : List (Number × ℕ))
    → IfOk r (λ a. column a ≡ record { class = c; cells = number_cells k es }) → IfOk r (λ a. All (HasKind k) (column a).cells)
numbers_given k r column c es h = kinds_given k r column (record { class = c; cells = number_cells k es }) h (number_kinds k es)

pub texts_given : {A E B : Type 0} (r : Result A E) (column : A → SeenColumn) (c : Class) (bytes : B → List ℕ) (es : List B)
    → IfOk r (λ a. column a ≡ record { class = c; cells = map (λ e. text (bytes e)) es }) → IfOk r (λ a. All (HasKind Text) (column a).cells)
texts_given r column c bytes es h = kinds_given Text r column (record { class = c; cells = map (λ e. text (bytes e)) es }) h (text_kinds bytes es)
