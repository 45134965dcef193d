-- What is put into what is known, one after the other.
use Rattle.std.specs.Prelude.{◌≡◌, refl, ℕ, zero, suc, ◌+◌, ◌<◌, ◌⊎◌, ◌==◌, ◌&&◌, if◌then◌else◌, Bool, true, false, IfSome, Option, None, Some, List, [], ◌∷◌, length, slice_get}
use Rattle.std.proofs.Common.{ap, sym, subst, ◌∙◌, arith, inl, inr}
use Rattle.std.proofs.lemmas.Bool.{eq-eqb, eqb-true}
use Rattle.std.proofs.lemmas.Bool.Decides.{nat_tests}
use Rattle.std.proofs.lemmas.Option.{slice_get_within}
use Rattle.tall_value.specs.declared.class.Class.{Class}
use Rattle.tall_value.specs.declared.faults.Fault as value
use Rattle.tall_value.specs.Cells.{Seen}
use Rattle.tall_dense.specs.Columns.{SeenColumn, class_of_cell}
use Rattle.tall_semantics.specs.Faults.{Fault}
use Rattle.tall_semantics.specs.Deferred.{Vertex}
use Rattle.tall_semantics.specs.Least.{IsBelow}
use Rattle.tall_semantics.specs.Numbered.{number_at}
use Rattle.tall_semantics.proofs.Basics.{both, inside}
use Rattle.tall_blocks.specs.PassWork.{is_below}
use Rattle.tall_fuse.specs.Results.{Found, with_carry, with_found}
use Rattle.tall_fuse.specs.Kept.{carry, found}
use Rattle.tall_fuse.specs.declared.known.Known.{Known}
use Rattle.tall_part.specs.declared.results.EndColumn.{EndColumn}
use Rattle.tall_pass.specs.declared.endings.Ended.{Ended}
use Rattle.tall_pass.specs.declared.endings.Ending.{Ending}
use Rattle.tall_pass.specs.declared.endings.Ending.TheVariants as ending
use Rattle.tall_pass.specs.PassPlans.{IsBelowAt}
use Rattle.tall_pass.specs.Endings.{Gains, HasClass, IsCellHere, IsCellIn, IsCellOf, IsOfClass, IsResultHere, IsResultIn, IsResultOf, PutsAll, PutsBelow, PutsCells, PutsOne, found_at_end}

-- ---- one look-up

pub gains_none : {A : Type 0} (More : A → Type 0) (old new : Option A) → new ≡ old → ((x : A) → More x → ⊥) → Gains More old new
gains_none More old new e none = record {
  sound = λ x h. inl (sym e ∙ h);
  kept = λ x h. (x, e ∙ h);
  more = λ x m. absurd (none x m);
}

pub gains_then : {A : Type 0} (P Q : A → Type 0) (a b c : Option A) → Gains P a b → Gains Q b c → Gains (λ x. P x ⊎ Q x) a c
gains_then P Q a b c g h = record {
  sound = λ x e. elim (h.sound x e) [
    | inl f ↦ elim (g.sound x f) [ inl k ↦ inl k | inr m ↦ inr (inl m) ]
    | inr m ↦ inr (inr m)
  ];
  kept = λ x e. (let w = g.kept x e in h.kept w.0 w.1);
  more = λ x m. elim m [
    | inl p ↦ (let w = g.more x p in h.kept w.0 w.1)
    | inr q ↦ h.more x q
  ];
}

pub gains_alike : {A : Type 0} (P Q : A → Type 0) (a b : Option A) → ((x : A) → P x → Q x) → ((x : A) → Q x → P x) → Gains P a b → Gains Q a b
gains_alike P Q a b to from g = record {
  sound = λ x e. elim (g.sound x e) [ inl k ↦ inl k | inr m ↦ inr (to x m) ];
  kept = g.kept;
  more = λ x m. g.more x (from x m);
}

-- one cell that is put where the test holds
put_where : {A : Type 0} (P : A → Type 0) (test : Bool) (r : A) (old : Option A) → (test ≡ true → P r) → ((x : A) → P x → test ≡ true) → Gains P old (if test then Some r else old)
put_where P true r old is only = record {
  sound = λ x e. inr (subst P (inside r x e) (is refl));
  kept = λ x e. (r, refl);
  more = λ x m. (r, refl);
}
put_where P false r old is only = record {
  sound = λ x e. inl e;
  kept = λ x e. (x, e);
  more = λ x m. absurd (let h : false ≡ true = only x m in cc);
}

-- ---- a scan's carries

first_true : (a b : Bool) → a ≡ true → b ≡ true → (a && b) ≡ true
first_true true b e f = f
first_true false b e f = absurd (cc)

cell_gain : (node n : ℕ) (cells : List Seen) (c : Seen) → slice_get cells n ≡ Some c → (g : ℕ → ℕ → Option Seen) (i b : ℕ) → Gains (λ (x : Seen). (node ≡ i) × (b ≡ n) × (slice_get cells b ≡ Some x)) (g i b) (with_carry g node n c i b)
cell_gain node n cells c got g i b =
    put_where (λ (x : Seen). (node ≡ i) × (b ≡ n) × (slice_get cells b ≡ Some x)) (i == node && b == n) c (g i b)
    (λ t. (let w = both (i == node) (b == n) t in let e : b ≡ n = eqb-true b n w.1 in (sym (eqb-true i node w.0), e, ap (slice_get cells) e ∙ got)))
    (λ x m. first_true (i == node) (b == n) (eq-eqb i node (sym m.0)) (eq-eqb b n m.1))

pub no_cells : (node : ℕ) (column : SeenColumn) (k l : Known) → ((i : ℕ) → found l i ≡ found k i) → ((i b : ℕ) → carry l i b ≡ carry k i b) → PutsCells node 0 column k l
no_cells node column k l e f = record {
  results = e;
  carries = λ i b. gains_none (λ (x : Seen). (node ≡ i) × (b < 0) × (slice_get column.cells b ≡ Some x)) (carry k i b) (carry l i b) (f i b) (λ x m. omega (arith, m.1));
  class = λ b c l e. absurd (omega (arith, l));
}

below_or_at : (n b : ℕ) → b < n + 1 → (b < n) ⊎ (b ≡ n)
below_or_at n b l = grind (arith, l)

class_more : (cells : List Seen) (n : ℕ) (k : Class) (c : Seen) → slice_get cells n ≡ Some c → class_of_cell c ≡ k → IsOfClass cells n k → IsOfClass cells (n + 1) k
class_more cells n k c got is all b x l e = elim (below_or_at n b l) [
  | inl less ↦ all b x less e
  | inr at ↦ (let same : x ≡ c = inside x c (sym e ∙ (ap (slice_get cells) at ∙ got)) in ap class_of_cell same ∙ is)
]

pub cell_more : (node n : ℕ) (column : SeenColumn) (c : Seen) (start k l : Known) → slice_get column.cells n ≡ Some c → class_of_cell c ≡ column.class → PutsCells node n column start k
    → ((i : ℕ) → found l i ≡ found k i) → ((i b : ℕ) → carry l i b ≡ with_carry (carry k) node n c i b) → PutsCells node (n + 1) column start l
cell_more node n column c start k l got is puts e f = record {
  results = λ i. e i ∙ puts.results i;
  carries = λ i b.
      let More = λ (x : Seen). (node ≡ i) × (b < n) × (slice_get column.cells b ≡ Some x) in
      let Here = λ (x : Seen). (node ≡ i) × (b ≡ n) × (slice_get column.cells b ≡ Some x) in
      let g : Gains Here (carry k i b) (carry l i b) = subst (Gains Here (carry k i b)) (sym (f i b)) (cell_gain node n column.cells c got (carry k) i b) in
      gains_alike (λ (x : Seen). More x ⊎ Here x) (λ (x : Seen). (node ≡ i) × (b < n + 1) × (slice_get column.cells b ≡ Some x)) (carry start i b) (carry l i b)
      (λ x m. elim m [ inl h ↦ (h.0, less b h.1, h.2) | inr h ↦ (h.0, here b h.1, h.2) ])
      (λ x m. elim (below_or_at n b m.1) [ inl h ↦ inl (m.0, h, m.2) | inr h ↦ inr (m.0, h, m.2) ])
      (gains_then More Here (carry start i b) (carry k i b) (carry l i b) (puts.carries i b) g);
  class = class_more column.cells n column.class c got is puts.class;
}
  where
    less : (b : ℕ) → b < n → b < n + 1
    less b l = omega (arith, l)

    here : (b : ℕ) → b ≡ n → b < n + 1
    here b l = omega (arith, l)

-- ---- what the sum of a node comes to

-- a result
pub puts_found : (node : ℕ) (c : EndColumn) (k l : Known) → ((i : ℕ) → found l i ≡ with_found (found k) node (found_at_end c) i) → ((i b : ℕ) → carry l i b ≡ carry k i b) → PutsOne (record { node = node; ending = ending.Found c }) k l
puts_found node c k l e f = record {
  results = λ i.
      let Here = λ (r : Found). (node ≡ i) × (found_at_end c ≡ r) in
      subst (Gains Here (found k i)) (sym (e i))
      (put_where Here (i == node) (found_at_end c) (found k i) (λ t. (sym (eqb-true i node t), refl)) (λ x m. eq-eqb i node (sym m.0)));
  carries = λ i b. gains_none (λ (x : Seen). (node ≡ i) × ⊥) (carry k i b) (carry l i b) (f i b) (λ x m. m.1);
  class = tt;
}

-- carries
pub puts_cells : (node : ℕ) (column : SeenColumn) (k l : Known) → PutsCells node (length column.cells) column k l → PutsOne (record { node = node; ending = ending.Carries column }) k l
puts_cells node column k l puts = record {
  results = λ i. gains_none (λ (r : Found). (node ≡ i) × ⊥) (found k i) (found l i) (puts.results i) (λ x m. m.1);
  carries = λ i b.
      gains_alike (λ (x : Seen). (node ≡ i) × (b < length column.cells) × (slice_get column.cells b ≡ Some x)) (λ (x : Seen). (node ≡ i) × (slice_get column.cells b ≡ Some x)) (carry k i b) (carry l i b)
      (λ x m. (m.0, m.2)) (λ x m. (m.0, slice_get_within column.cells b x m.1, m.1)) (puts.carries i b);
  class = puts.class;
}

-- nothing
pub puts_nothing : (e : Ended) (k l : Known) → ((r : Found) → IsResultOf e.ending r → ⊥) → ((b : ℕ) (c : Seen) → IsCellOf e.ending b c → ⊥) → HasClass e.ending → ((i : ℕ) → found l i ≡ found k i) → ((i b : ℕ) → carry l i b ≡ carry k i b) → PutsOne e k l
puts_nothing e k l no_result no_cell class same_found same_carry = record {
  results = λ i. gains_none (λ (r : Found). (e.node ≡ i) × IsResultOf e.ending r) (found k i) (found l i) (same_found i) (λ x m. no_result x m.1);
  carries = λ i b. gains_none (λ (c : Seen). (e.node ≡ i) × IsCellOf e.ending b c) (carry k i b) (carry l i b) (same_carry i b) (λ x m. no_cell b x m.1);
  class = class;
}

-- by what the sum comes to
with_ending : (e : Ended) (g : Ending) (k l : Known) → e.ending ≡ g → PutsOne (record { node = e.node; ending = g }) k l → PutsOne e k l
with_ending e g k l q puts = subst (λ x. PutsOne (record { node = e.node; ending = x }) k l) (sym q) puts

pub found_put : (e : Ended) (c : EndColumn) (k l : Known) → e.ending ≡ ending.Found c → ((i : ℕ) → found l i ≡ with_found (found k) e.node (found_at_end c) i) → ((i b : ℕ) → carry l i b ≡ carry k i b) → PutsOne e k l
found_put e c k l q f g = with_ending e (ending.Found c) k l q (puts_found e.node c k l f g)

pub carries_put : (e : Ended) (column : SeenColumn) (k l : Known) → e.ending ≡ ending.Carries column → PutsCells e.node (length column.cells) column k l → PutsOne e k l
carries_put e column k l q puts = with_ending e (ending.Carries column) k l q (puts_cells e.node column k l puts)

pub failed_put : (e : Ended) (f : value.Fault) (k : Known) → e.ending ≡ ending.Failed f → PutsOne e k k
failed_put e f k q = with_ending e (ending.Failed f) k k q (puts_nothing (record { node = e.node; ending = ending.Failed f }) k k (λ r h. h) (λ b c h. h) tt (λ i. refl) (λ i b. refl))

pub nothing_put : (e : Ended) (k : Known) → e.ending ≡ ending.Nothing → PutsOne e k k
nothing_put e k q = with_ending e ending.Nothing k k q (puts_nothing (record { node = e.node; ending = ending.Nothing }) k k (λ r h. h) (λ b c h. h) tt (λ i. refl) (λ i b. refl))

-- ---- below a bound

below_is : (c : Option Fault) (n : ℕ) → is_below c n ≡ true → IsBelow c n
below_is None n h = tt
below_is (Some x) n h = grind (arith, nat_tests)

below_not : (c : Option Fault) (n : ℕ) → is_below c n ≡ false → IsBelow c n → ⊥
below_not None n h b = absurd (cc)
below_not (Some x) n h b = absurd (grind (arith, nat_tests))

number_is : (vs : List Vertex) (i n : ℕ) → i < length vs → IfSome (slice_get vs i) (λ v. n ≡ v.at.number) → n ≡ number_at (slice_get vs i)
number_is vs i n l h = (let w = there vs i l in subst (λ o. IfSome o (λ v. n ≡ v.at.number) → n ≡ number_at o) (sym w.1) (λ e. e) h)
  where
    there : (vs : List Vertex) (i : ℕ) → i < length vs → (v : Vertex) × (slice_get vs i ≡ Some v)
    there [] i l = absurd (omega (arith, l))
    there (v ∷ vs) zero l = (v, refl)
    there (v ∷ vs) (suc i) l = there vs i (omega (arith, l))

pub is_below_at : (vs : List Vertex) (c : Option Fault) (i n : ℕ) → i < length vs → IfSome (slice_get vs i) (λ v. n ≡ v.at.number) → is_below c n ≡ true → IsBelowAt vs c i
is_below_at vs c i n l h t = subst (IsBelow c) (number_is vs i n l h) (below_is c n t)

pub not_below_at : (vs : List Vertex) (c : Option Fault) (i n : ℕ) → i < length vs → IfSome (slice_get vs i) (λ v. n ≡ v.at.number) → is_below c n ≡ false → IsBelowAt vs c i → ⊥
not_below_at vs c i n l h t b = below_not c n t (subst (IsBelow c) (sym (number_is vs i n l h)) b)

pub puts_here : (vs : List Vertex) (c : Option Fault) (e : Ended) (k l : Known) (n : ℕ) → e.node < length vs → IfSome (slice_get vs e.node) (λ v. n ≡ v.at.number) → is_below c n ≡ true → PutsOne e k l → PutsBelow vs c e k l
puts_here vs c e k l n less h t puts =
    let below : IsBelowAt vs c e.node = is_below_at vs c e.node n less h t in
    record {
      results = λ i.
          gains_alike (λ (r : Found). (e.node ≡ i) × IsResultOf e.ending r) (IsResultHere vs c e i) (found k i) (found l i)
          (λ x m. (m.0, subst (IsBelowAt vs c) m.0 below, m.1)) (λ x m. (m.0, m.2)) (puts.results i);
      carries = λ i b.
          gains_alike (λ (x : Seen). (e.node ≡ i) × IsCellOf e.ending b x) (IsCellHere vs c e i b) (carry k i b) (carry l i b)
          (λ x m. (m.0, subst (IsBelowAt vs c) m.0 below, m.1)) (λ x m. (m.0, m.2)) (puts.carries i b);
      class = λ _. puts.class;
    }

pub puts_not : (vs : List Vertex) (c : Option Fault) (e : Ended) (k l : Known) (n : ℕ) → e.node < length vs → IfSome (slice_get vs e.node) (λ v. n ≡ v.at.number) → is_below c n ≡ false → ((i : ℕ) → found l i ≡ found k i) → ((i b : ℕ) → carry l i b ≡ carry k i b) → PutsBelow vs c e k l
puts_not vs c e k l n less h t same_found same_carry =
    let no : (i : ℕ) → e.node ≡ i → IsBelowAt vs c i → ⊥ = λ i q b. not_below_at vs c e.node n less h t (subst (IsBelowAt vs c) (sym q) b) in
    record {
      results = λ i. gains_none (IsResultHere vs c e i) (found k i) (found l i) (same_found i) (λ x m. no i m.0 m.1);
      carries = λ i b. gains_none (IsCellHere vs c e i b) (carry k i b) (carry l i b) (same_carry i b) (λ x m. no i m.0 m.1);
      class = λ b. absurd (no e.node refl b);
    }

-- ---- of a list

pub puts_none : (vs : List Vertex) (c : Option Fault) (k : Known) → PutsAll vs c [] k k
puts_none vs c k = record {
  results = λ i. gains_none (IsResultIn vs c [] i) (found k i) (found k i) refl (λ x m. m);
  carries = λ i b. gains_none (IsCellIn vs c [] i b) (carry k i b) (carry k i b) refl (λ x m. m);
  classes = tt;
}

pub puts_more : (vs : List Vertex) (c : Option Fault) (e : Ended) (es : List Ended) (k l m : Known) → PutsBelow vs c e k l → PutsAll vs c es l m → PutsAll vs c (e ∷ es) k m
puts_more vs c e es k l m one all = record {
  results = λ i. gains_then (IsResultHere vs c e i) (IsResultIn vs c es i) (found k i) (found l i) (found m i) (one.results i) (all.results i);
  carries = λ i b. gains_then (IsCellHere vs c e i b) (IsCellIn vs c es i b) (carry k i b) (carry l i b) (carry m i b) (one.carries i b) (all.carries i b);
  classes = (one.class, all.classes);
}

-- ---- the loop over a list

pub turn : (vs : List Vertex) (c : Option Fault) (es rest all : List Ended) (e : Ended) (start k l : Known) → es ≡ e ∷ rest → PutsBelow vs c e k l → ((m : Known) → PutsAll vs c es k m → PutsAll vs c all start m)
    → (m : Known) → PutsAll vs c rest l m → PutsAll vs c all start m
turn vs c es rest all e start k l q one goes m puts = goes m (subst (λ xs. PutsAll vs c xs k m) (sym q) (puts_more vs c e rest k l m one puts))

pub last : (vs : List Vertex) (c : Option Fault) (es all : List Ended) (start k : Known) → es ≡ [] → ((m : Known) → PutsAll vs c es k m → PutsAll vs c all start m) → PutsAll vs c all start k
last vs c es all start k q goes = goes k (subst (λ xs. PutsAll vs c xs k k) (sym q) (puts_none vs c k))
