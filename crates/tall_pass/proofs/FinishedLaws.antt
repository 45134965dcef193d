-- The answer of a pass from what its sums come to: what is added whatever the shelf tells, and what is told.
use Rattle.std.specs.Prelude.{◌≡◌, refl, ℕ, ◌≤◌, ◌⊎◌, Option, None, Some, List, [], ◌∷◌, slice_get}
use Rattle.std.proofs.Common.{ap, sym, subst, ◌∙◌, arith, inl, inr}
use Rattle.std.proofs.lemmas.Option.{slice_get_within}
use Rattle.tall_value.specs.Cells.{Seen}
use Rattle.tall_dense.specs.Columns.{class_of_cell}
use Rattle.tall_semantics.specs.Faults.{Fault, earlier, fault_seen, least_fault}
use Rattle.tall_semantics.specs.Deferred.{Vertex}
use Rattle.tall_semantics.specs.Least.{AtMost, IsBelow}
use Rattle.tall_semantics.specs.Numbered.{number_at}
use Rattle.tall_semantics.specs.ShapesInOrder.{shape_at}
use Rattle.tall_semantics.proofs.OrderLaws.{at_most_itself, at_most_left, at_most_right, below_left, by_number}
use Rattle.tall_fuse.specs.Results.{Found, or_else}
use Rattle.tall_fuse.specs.Kept.{carry, found}
use Rattle.tall_fuse.specs.declared.known.Known.{Known}
use Rattle.tall_plan.specs.declared.passes.Pass.{Pass}
use Rattle.tall_piece.specs.declared.parts.Sum.{Sum}
use Rattle.tall_piece.specs.declared.wanted.Wanted.{Wanted}
use Rattle.tall_piece.specs.declared.wanted.Way.{Way}
use Rattle.tall_piece.specs.declared.wanted.Way.TheVariants as way
use Rattle.tall_piece.specs.Passes.{IsEndWay}
use Rattle.tall_piece.specs.Wants.{class_at}
use Rattle.tall_pass.specs.declared.endings.Ended.{Ended}
use Rattle.tall_pass.specs.declared.endings.Ending.{Ending}
use Rattle.tall_pass.specs.declared.endings.Ending.TheVariants as ending
use Rattle.tall_pass.specs.PassPlans.{IsBelowAt, IsCarried, IsResult}
use Rattle.tall_pass.specs.Fitting.{IsFit}
use Rattle.tall_pass.specs.Answered.{Adding}
use Rattle.tall_pass.specs.Finished.{AreCarriesWanted, AreOfStores, Covers, IsCarriesWay, IsOfStore, IsResultWanted, IsResultWay}
use Rattle.tall_pass.specs.Endings.{AreEndings, FitsBelow, HasClass, HaveClass, IsCellIn, IsCellOf, IsResultIn, IsResultOf, PutsAll, fault_at_end, faults_at_end, found_at_end}

-- ---- ways

pub no_both : (y : Way) → IsResultWay y → IsCarriesWay y → ⊥
no_both (way.End e a b) r c = c
no_both (way.Carries s a) r c = r
no_both way.Rows r c = c

pub no_end_carries : (y : Way) → IsEndWay y → IsCarriesWay y → ⊥
no_end_carries (way.End e a b) r c = c
no_end_carries (way.Carries s a) r c = r
no_end_carries way.Rows r c = c

pub result_of_end : (y : Way) → IsEndWay y → IsResultWay y
result_of_end (way.End e a b) h = tt
result_of_end (way.Carries s a) h = absurd h
result_of_end way.Rows h = absurd h

-- ---- faults

not_below : (c : Option Fault) (x : Fault) (n : ℕ) → AtMost c x → x.number ≡ n → IsBelow c n → ⊥
not_below (Some z) x n h e b = (let q : z.number ≤ x.number = by_number z x h in absurd (omega (arith, q, e, b)))
not_below None x n h e b = h

-- no fault of the endings precedes it
abbrev AreAtLeast : Option Fault → List Ended → Type 0
AreAtLeast c [] = Unit {0}
AreAtLeast c (e ∷ es) = ((x : Fault) → fault_at_end e.ending ≡ Some x → AtMost c x) × AreAtLeast c es

at_least_least : (es : List Ended) (c : Option Fault) → ((x : Fault) → AtMost (least_fault (faults_at_end es)) x → AtMost c x) → AreAtLeast c es
at_least_least [] c up = tt
at_least_least (e ∷ es) c up = (
  λ x h. up x (at_most_left (fault_at_end e.ending) (least_fault (faults_at_end es)) x (subst (λ d. AtMost d x) (sym h) (at_most_itself x))),
  at_least_least es c (λ x a. up x (at_most_right (fault_at_end e.ending) (least_fault (faults_at_end es)) x a)),
)

pub answer_least : (es : List Ended) (c : Option Fault) → AreAtLeast (earlier c (least_fault (faults_at_end es))) es
answer_least es c = at_least_least es (earlier c (least_fault (faults_at_end es))) (λ x a. at_most_right c (least_fault (faults_at_end es)) x a)

-- ---- what is wanted is there

module _ (vs : List Vertex) (bound answer : Option Fault) (lower : (n : ℕ) → IsBelow answer n → IsBelow bound n) where
  result_at : (w : Wanted) (g : Ending) → FitsBelow vs bound w g → IsResultWay w.way → IsBelowAt vs answer w.node → ((x : Fault) → fault_at_end g ≡ Some x → AtMost answer x) → (r : Found) × IsResultOf g r
  result_at w (ending.Found c) fits is below least = (found_at_end c, refl)
  result_at w (ending.Carries column) fits is below least = absurd (no_both w.way is fits.1.0)
  result_at w (ending.Failed f) fits is below least = absurd (not_below answer (fault_seen f) (number_at (slice_get vs w.node)) (least (fault_seen f) refl) fits.1.1 below)
  result_at w ending.Nothing fits is below least = absurd (fits (lower (number_at (slice_get vs w.node)) below))

  result_there : (ws : List Wanted) (ss : List Sum) (es : List Ended) → AreEndings vs bound ws ss es → AreAtLeast answer es → (i : ℕ) → IsResultWanted ws i → IsBelowAt vs answer i → (r : Found) × IsResultIn vs answer es i r
  result_there [] ss es are least i is below = absurd is
  result_there (w ∷ ws) [] es are least i is below = absurd are
  result_there (w ∷ ws) (s ∷ ss) [] are least i is below = absurd are
  result_there (w ∷ ws) (s ∷ ss) (e ∷ es) are least i is below = elim is [
    | inl here ↦
        let r = result_at w e.ending are.0.1 here.1 (subst (IsBelowAt vs answer) (sym here.0) below) least.0 in
        (r.0, inl (are.0.0 ∙ here.0, below, r.1))
    | inr later ↦ (let r = result_there ws ss es are.1 least.1 i later below in (r.0, inr r.1))
  ]

  -- ---- and what is there is wanted

  result_of : (w : Wanted) (g : Ending) (r : Found) → FitsBelow vs bound w g → IsResultOf g r → IsResultWay w.way × (IsOfStore vs w.node w.way → IsFit (shape_at vs w.node) r)
  result_of w (ending.Found c) r fits is = (fits.1.0, λ of. subst (IsFit (shape_at vs w.node)) is (fits.1.1 of))
  result_of w (ending.Carries column) r fits is = absurd is
  result_of w (ending.Failed f) r fits is = absurd is
  result_of w ending.Nothing r fits is = absurd is

  result_from : (ws : List Wanted) (ss : List Sum) (es : List Ended) → AreEndings vs bound ws ss es → (i : ℕ) (r : Found) → IsResultIn vs answer es i r → IsResultWanted ws i × IsBelowAt vs answer i × (AreOfStores vs ws → IsFit (shape_at vs i) r)
  result_from [] ss es are i r is = absurd (subst (λ xs. IsResultIn vs answer xs i r) are is)
  result_from (w ∷ ws) [] es are i r is = absurd are
  result_from (w ∷ ws) (s ∷ ss) [] are i r is = absurd are
  result_from (w ∷ ws) (s ∷ ss) (e ∷ es) are i r is = elim is [
    | inl here ↦
        let q = result_of w e.ending r are.0.1 here.2 in
        let at : w.node ≡ i = sym are.0.0 ∙ here.0 in
        (inl (at, q.0), here.1, λ of. subst (λ j. IsFit (shape_at vs j) r) at (q.1 of.0))
    | inr later ↦ (let q = result_from ws ss es are.1 i r later in (inr q.0, q.1, λ of. q.2 of.1))
  ]

  cell_of : (w : Wanted) (g : Ending) (b : ℕ) (c : Seen) → FitsBelow vs bound w g → HasClass g → IsCellOf g b c → IsCarriesWay w.way × (class_of_cell c ≡ class_at vs w.node)
  cell_of w (ending.Found x) b c fits class is = absurd is
  cell_of w (ending.Carries column) b c fits class is = (fits.1.0, class b c (slice_get_within column.cells b c is) is ∙ fits.1.1)
  cell_of w (ending.Failed f) b c fits class is = absurd is
  cell_of w ending.Nothing b c fits class is = absurd is

  cell_from : (ws : List Wanted) (ss : List Sum) (es : List Ended) → AreEndings vs bound ws ss es → HaveClass vs answer es → (i b : ℕ) (c : Seen) → IsCellIn vs answer es i b c → AreCarriesWanted ws i × IsBelowAt vs answer i × (class_of_cell c ≡ class_at vs i)
  cell_from [] ss es are class i b c is = absurd (subst (λ xs. IsCellIn vs answer xs i b c) are is)
  cell_from (w ∷ ws) [] es are class i b c is = absurd are
  cell_from (w ∷ ws) (s ∷ ss) [] are class i b c is = absurd are
  cell_from (w ∷ ws) (s ∷ ss) (e ∷ es) are class i b c is = elim is [
    | inl here ↦
        let q = cell_of w e.ending b c are.0.1 (class.0 (subst (IsBelowAt vs answer) (sym here.0) here.1)) here.2 in
        let at : w.node ≡ i = sym are.0.0 ∙ here.0 in
        (inl (at, q.0), here.1, q.1 ∙ ap (class_at vs) at)
    | inr later ↦ (let q = cell_from ws ss es are.1 class.1 i b c later in (inr q.0, q.1, q.2))
  ]

-- ---- look-ups behind a join

either_of : {A : Type 0} (a b : Option A) (x : A) → or_else a b ≡ Some x → (a ≡ Some x) ⊎ ((a ≡ None) × (b ≡ Some x))
either_of None b x e = inr (refl, e)
either_of (Some y) b x e = inl e

pub none_or : {A : Type 0} (a : Option A) → (a ≡ None) ⊎ ((x : A) × (a ≡ Some x))
none_or None = inl refl
none_or (Some x) = inr (x, refl)

pub not_there : {A : Type 0} (a : Option A) (x : A) → a ≡ None → a ≡ Some x → ⊥
not_there a x e f = (let h : None ≡ Some x = sym e ∙ f in absurd (cc))

-- what is added: `fresh` has what was put below the answer, into nothing, and then stands before what was known
pub record IsAdded (vs : List Vertex) (answer : Option Fault) (es : List Ended) (start fresh old new : Known) : Type 0 where
  pub puts : PutsAll vs answer es start fresh
  pub no_result : (i : ℕ) → found start i ≡ None
  pub no_carry : (i b : ℕ) → carry start i b ≡ None
  pub results : (i : ℕ) → found new i ≡ or_else (found fresh i) (found old i)
  pub carries : (i b : ℕ) → carry new i b ≡ or_else (carry fresh i b) (carry old i b)

module _ (vs : List Vertex) (bound : Option Fault) (ws : List Wanted) (ss : List Sum) (es : List Ended) (are : AreEndings vs bound ws ss es) (start fresh old new : Known)
    (added : IsAdded vs (earlier bound (least_fault (faults_at_end es))) es start fresh old new) where
  abbrev Answer : Option Fault
  Answer = earlier bound (least_fault (faults_at_end es))

  pub lower : (n : ℕ) → IsBelow Answer n → IsBelow bound n
  lower n = below_left bound (least_fault (faults_at_end es)) n

  -- what is found of it is there
  pub fresh_result : (i : ℕ) (r : Found) → found fresh i ≡ Some r → IsResultIn vs Answer es i r
  fresh_result i r e = elim ((added.puts.results i).sound r e) [ inl h ↦ absurd (not_there (found start i) r (added.no_result i) h) | inr m ↦ m ]

  pub fresh_carry : (i b : ℕ) (c : Seen) → carry fresh i b ≡ Some c → IsCellIn vs Answer es i b c
  fresh_carry i b c e = elim ((added.puts.carries i b).sound c e) [ inl h ↦ absurd (not_there (carry start i b) c (added.no_carry i b) h) | inr m ↦ m ]

  pub wanted_result : (i : ℕ) → IsResultWanted ws i → IsBelowAt vs Answer i → (r : Found) × (found fresh i ≡ Some r)
  wanted_result i is below = (let r = result_there vs bound Answer lower ws ss es are (answer_least es bound) i is below in (added.puts.results i).more r.0 r.1)

  pub new_result : (i : ℕ) (r : Found) → found fresh i ≡ Some r → found new i ≡ Some r
  new_result i r e = added.results i ∙ ap (λ o. or_else o (found old i)) e

  pub new_carry : (i b : ℕ) (c : Seen) → carry fresh i b ≡ Some c → carry new i b ≡ Some c
  new_carry i b c e = added.carries i b ∙ ap (λ o. or_else o (carry old i b)) e

  old_result : (i : ℕ) → found fresh i ≡ None → found new i ≡ found old i
  old_result i e = added.results i ∙ ap (λ o. or_else o (found old i)) e

  pub old_carry : (i b : ℕ) → carry fresh i b ≡ None → carry new i b ≡ carry old i b
  old_carry i b e = added.carries i b ∙ ap (λ o. or_else o (carry old i b)) e

  -- ---- whatever the shelf tells

  module _ (pass : Pass) (covers : Covers vs pass ws) where
    result_of_pass : (i : ℕ) (r : Found) → found fresh i ≡ Some r → IsResult vs pass Answer i × IsFit (shape_at vs i) r
    result_of_pass i r e = (let q = result_from vs bound Answer lower ws ss es are i r (fresh_result i r e) in ((((covers.results i).1 q.0).0, q.1), q.2 covers.rows))

    carry_of_pass : (i b : ℕ) (c : Seen) → carry fresh i b ≡ Some c → IsCarried vs pass Answer i × (class_of_cell c ≡ (shape_at vs i).class)
    carry_of_pass i b c e =
        let q = cell_from vs bound Answer lower ws ss es are added.puts.classes i b c (fresh_carry i b c e) in
        let k = (covers.carries i).1 q.0 in
        ((k.0, k.1, k.2, q.1), q.2)

    pub adding : Adding vs pass Answer old new
    adding = record {
      added = λ i is. (let f = wanted_result i ((covers.results i).0 (is.0, tt)) is.1 in (f.0, new_result i f.0 f.1));
      results = λ i r e. elim (either_of (found fresh i) (found old i) r (sym (added.results i) ∙ e)) [
        | inl here ↦ inr (result_of_pass i r here)
        | inr there ↦ inl there.1
      ];
      stay = λ i r e. elim (none_or (found fresh i)) [
        | inl none ↦ inl (old_result i none ∙ e)
        | inr some ↦ inr (result_of_pass i some.0 some.1).0
      ];
      carries = λ i b c e. elim (either_of (carry fresh i b) (carry old i b) c (sym (added.carries i b) ∙ e)) [
        | inl here ↦ inr (carry_of_pass i b c here)
        | inr there ↦ inl there.1
      ];
      carries_stay = λ i b c e. elim (none_or (carry fresh i b)) [
        | inl none ↦ inl (old_carry i b none ∙ e)
        | inr some ↦ inr (carry_of_pass i b some.0 some.1).0
      ];
    }

-- the answer as the code has it
pub adding_at : (vs : List Vertex) (bound answer : Option Fault) (ws : List Wanted) (ss : List Sum) (es : List Ended) → AreEndings vs bound ws ss es → (start fresh old new : Known) → answer ≡ earlier bound (least_fault (faults_at_end es))
    → IsAdded vs answer es start fresh old new → (pass : Pass) → Covers vs pass ws → Adding vs pass answer old new
adding_at vs bound answer ws ss es are start fresh old new q added pass covers =
    subst (λ c. Adding vs pass c old new) (sym q) (adding vs bound ws ss es are start fresh old new (subst (λ c. IsAdded vs c es start fresh old new) q added) pass covers)
