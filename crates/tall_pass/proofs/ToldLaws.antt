-- What the answer of a pass tells, from what its sums come to.
use Rattle.std.specs.Prelude.{◌≡◌, refl, ℕ, ◌+◌, ◌⊎◌, Option, None, Some, List, [], ◌∷◌, length, slice_get}
use Rattle.std.proofs.Common.{ap, sym, subst, ◌∙◌, inl, inr}
use Rattle.tall_value.specs.Cells.{Seen}
use Rattle.tall_dense.specs.Columns.{SeenColumn}
use Rattle.tall_semantics.specs.Faults.{Fault, earlier, fault_seen, least_fault}
use Rattle.tall_semantics.specs.Outcomes.{Outcome, rows, scalar, fault, fault_of}
use Rattle.tall_semantics.specs.Talls.{Tall}
use Rattle.tall_semantics.specs.Deferred.{IsAmong, Vertex, fault_in, own_at, own_fault, own_in}
use Rattle.tall_semantics.specs.Least.{AtMost, IsBelow, IsLeast}
use Rattle.tall_semantics.specs.Numbered.{number_at}
use Rattle.tall_semantics.specs.ShapesInOrder.{IsMade}
use Rattle.tall_semantics.proofs.Basics.{inside}
use Rattle.tall_semantics.proofs.OrderLaws.{at_most_itself, at_most_left, at_most_right, below_left, one_of_two}
use Rattle.tall_semantics.proofs.OriginLaws.{below_among, get_before}
use Rattle.tall_semantics.proofs.ShapesInOrderLaws.{value_shape}
use Rattle.tall_blocks.specs.PassWork.{IsEndOf, IsWorkOf}
use Rattle.tall_blocks.proofs.EndOperandLaws.{end_operands}
use Rattle.tall_blocks.proofs.PassWorkLaws.{below_more}
use Rattle.tall_blocks.proofs.SeenLaws.{all_none}
use Rattle.tall_fuse.specs.Results.{Found}
use Rattle.tall_fuse.specs.Kept.{carry}
use Rattle.tall_fuse.specs.declared.known.Known.{Known}
use Rattle.tall_part.specs.Operations.{op_of}
use Rattle.tall_part.specs.declared.operation.EndOperation.{EndOperation}
use Rattle.tall_piece.specs.declared.parts.Sum.{Sum}
use Rattle.tall_piece.specs.declared.wanted.Wanted.{Wanted}
use Rattle.tall_piece.specs.declared.wanted.Way.{Way}
use Rattle.tall_piece.specs.declared.wanted.Way.TheVariants as way
use Rattle.tall_piece.specs.Carried.{AreAllCarries}
use Rattle.tall_piece.specs.Passes.{AreWanted, IsEndWanted, IsEndWay, IsWantedOf, PassOver, blocks_up_to, carry_of, fault_up_to}
use Rattle.tall_piece.specs.Passes as passes
use Rattle.tall_piece.specs.Pieces.{AreSums, SumsAre}
use Rattle.tall_piece.specs.Wants.{IsOfWay}
use Rattle.tall_piece.proofs.AnswerLaws.{all_carries, end_value, pass_fault, value_rows}
use Rattle.tall_pass.specs.declared.endings.Ended.{Ended}
use Rattle.tall_pass.specs.declared.endings.Ending.{Ending}
use Rattle.tall_pass.specs.declared.endings.Ending.TheVariants as ending
use Rattle.tall_pass.specs.PassPlans.{IsBelowAt}
use Rattle.tall_pass.specs.Told.{IsOutcome, Shows}
use Rattle.tall_pass.specs.Finished.{AreCarriesWanted, IsCarriesWay, IsFinished}
use Rattle.tall_pass.specs.Endings.{AreEndings, AreTold, FitsBelow, IsCellIn, IsCellOf, IsResultIn, IsResultOf, ShowsEnding, fault_at_end, faults_at_end}
use Rattle.tall_pass.proofs.FinishedLaws.{IsAdded, fresh_carry, fresh_result, new_carry, new_result, no_both, no_end_carries, none_or, not_there, old_carry, wanted_result}

-- ---- the ends that are numbered below the bound

abbrev end_node : ℕ → Way → Ending → List ℕ → List ℕ
end_node i (way.End e a b) ending.Nothing rest = rest
end_node i (way.End e a b) g rest = i ∷ rest
end_node i (way.Carries s a) g rest = rest
end_node i way.Rows g rest = rest

abbrev end_nodes : List Wanted → List Ended → List ℕ
end_nodes [] es = []
end_nodes (w ∷ ws) [] = []
end_nodes (w ∷ ws) (e ∷ es) = end_node w.node w.way e.ending (end_nodes ws es)

module _ (vs : List Vertex) (bound : Option Fault) where
  abbrev Fits : ℕ → Way → Ending → Type 0
  Fits i y g = FitsBelow vs bound (record { node = i; way = y }) g

  end_among : (i : ℕ) (y : Way) (g : Ending) (rest : List ℕ) (j : ℕ) → Fits i y g → IsAmong (end_node i y g rest) j → ((i ≡ j) × IsEndWay y × IsBelowAt vs bound i) ⊎ IsAmong rest j
  end_among i (way.End e a b) (ending.Found c) rest j fits m = elim m [ inl q ↦ inl (q, tt, fits.0) | inr r ↦ inr r ]
  end_among i (way.End e a b) (ending.Carries column) rest j fits m = elim m [ inl q ↦ inl (q, tt, fits.0) | inr r ↦ inr r ]
  end_among i (way.End e a b) (ending.Failed f) rest j fits m = elim m [ inl q ↦ inl (q, tt, fits.0) | inr r ↦ inr r ]
  end_among i (way.End e a b) ending.Nothing rest j fits m = inr m
  end_among i (way.Carries s a) g rest j fits m = inr m
  end_among i way.Rows g rest j fits m = inr m

  among_end : (i : ℕ) (y : Way) (g : Ending) (rest : List ℕ) → Fits i y g → IsEndWay y → IsBelowAt vs bound i → IsAmong (end_node i y g rest) i
  among_end i (way.End e a b) (ending.Found c) rest fits is below = inl refl
  among_end i (way.End e a b) (ending.Carries column) rest fits is below = inl refl
  among_end i (way.End e a b) (ending.Failed f) rest fits is below = inl refl
  among_end i (way.End e a b) ending.Nothing rest fits is below = absurd (fits below)
  among_end i (way.Carries s a) g rest fits is below = absurd is
  among_end i way.Rows g rest fits is below = absurd is

  among_rest : (i : ℕ) (y : Way) (g : Ending) (rest : List ℕ) (j : ℕ) → IsAmong rest j → IsAmong (end_node i y g rest) j
  among_rest i (way.End e a b) (ending.Found c) rest j m = inr m
  among_rest i (way.End e a b) (ending.Carries column) rest j m = inr m
  among_rest i (way.End e a b) (ending.Failed f) rest j m = inr m
  among_rest i (way.End e a b) ending.Nothing rest j m = m
  among_rest i (way.Carries s a) g rest j m = m
  among_rest i way.Rows g rest j m = m

  ends_among : (ws : List Wanted) (ss : List Sum) (es : List Ended) → AreEndings vs bound ws ss es → (j : ℕ) → IsAmong (end_nodes ws es) j → IsEndWanted ws j × IsBelowAt vs bound j
  ends_among [] ss es are j m = absurd m
  ends_among (w ∷ ws) [] es are j m = absurd are
  ends_among (w ∷ ws) (s ∷ ss) [] are j m = absurd are
  ends_among (w ∷ ws) (s ∷ ss) (e ∷ es) are j m = elim (end_among w.node w.way e.ending (end_nodes ws es) j are.0.1 m) [
    | inl here ↦ (inl (here.0, here.1), subst (IsBelowAt vs bound) here.0 here.2)
    | inr later ↦ (let q = ends_among ws ss es are.1 j later in (inr q.0, q.1))
  ]

  among_ends : (ws : List Wanted) (ss : List Sum) (es : List Ended) → AreEndings vs bound ws ss es → (j : ℕ) → IsEndWanted ws j → IsBelowAt vs bound j → IsAmong (end_nodes ws es) j
  among_ends [] ss es are j is below = absurd is
  among_ends (w ∷ ws) [] es are j is below = absurd are
  among_ends (w ∷ ws) (s ∷ ss) [] are j is below = absurd are
  among_ends (w ∷ ws) (s ∷ ss) (e ∷ es) are j is below = elim is [
    | inl here ↦
        subst (IsAmong (end_node w.node w.way e.ending (end_nodes ws es))) here.0
        (among_end w.node w.way e.ending (end_nodes ws es) are.0.1 here.1 (subst (IsBelowAt vs bound) (sym here.0) below))
    | inr later ↦ among_rest w.node w.way e.ending (end_nodes ws es) j (among_ends ws ss es are.1 j later below)
  ]

  -- ---- what the endings show

  module _ (f : ℕ → Tall) (given : ℕ → ℕ → Option Seen) where
    abbrev pub ShowsHere : ℕ → Ending → Type 0
    ShowsHere i g = IsBelowAt vs bound i → ShowsEnding (f i) (given i) g

    abbrev pub AreShown : List Ended → Type 0
    AreShown [] = Unit {0}
    AreShown (e ∷ es) = ShowsHere e.node e.ending × AreShown es

    -- the least fault is one of theirs
    failed_at : (i : ℕ) (y : Way) (g : Ending) (rest : List ℕ) (x : Fault) → Fits i y g → ShowsHere i g → fault_at_end g ≡ Some x → IsAmong (end_node i y g rest) i × ((f i).outcome ≡ fault x)
    failed_at i y (ending.Found c) rest x fits shows h = absurd (cc)
    failed_at i y (ending.Carries column) rest x fits shows h = absurd (cc)
    failed_at i y (ending.Failed k) rest x fits shows h = (among_end i y (ending.Failed k) rest fits fits.1.0 fits.0, shows fits.0 ∙ ap fault (inside (fault_seen k) x h))
    failed_at i y ending.Nothing rest x fits shows h = absurd (cc)

    one_failed : (ws : List Wanted) (ss : List Sum) (es : List Ended) → AreEndings vs bound ws ss es → AreShown es → (x : Fault) → least_fault (faults_at_end es) ≡ Some x → (i : ℕ) × IsAmong (end_nodes ws es) i × ((f i).outcome ≡ fault x)
    one_failed [] ss es are shown x h = absurd (let k : None ≡ Some x = subst (λ l. least_fault (faults_at_end l) ≡ Some x) are h in cc)
    one_failed (w ∷ ws) [] es are shown x h = absurd are
    one_failed (w ∷ ws) (s ∷ ss) [] are shown x h = absurd are
    one_failed (w ∷ ws) (s ∷ ss) (e ∷ es) are shown x h = elim (one_of_two (fault_at_end e.ending) (least_fault (faults_at_end es)) x h) [
      | inl here ↦ (let q = failed_at w.node w.way e.ending (end_nodes ws es) x are.0.1 (subst (λ j. ShowsHere j e.ending) are.0.0 shown.0) here in (w.node, q.0, q.1))
      | inr later ↦ (let q = one_failed ws ss es are.1 shown.1 x later in (q.0, among_rest w.node w.way e.ending (end_nodes ws es) q.0 q.1, q.2))
    ]

    -- and none precedes it
    failed_least : (i : ℕ) (y : Way) (g : Ending) (x : Fault) → Fits i y g → ShowsHere i g → IsEndWay y → IsBelowAt vs bound i → (f i).outcome ≡ fault x → AtMost (fault_at_end g) x
    failed_least i y (ending.Found c) x fits shows is below o = absurd (subst (λ u. IsOutcome u c.column.cells) o (shows below).cells)
    failed_least i y (ending.Carries column) x fits shows is below o = absurd (no_end_carries y is fits.1.0)
    failed_least i y (ending.Failed k) x fits shows is below o = (let e : fault x ≡ fault (fault_seen k) = sym o ∙ shows below in let q : x ≡ fault_seen k = cc in subst (λ (z : Fault). AtMost (Some z) x) q (at_most_itself x))
    failed_least i y ending.Nothing x fits shows is below o = absurd (fits below)

    least_failed : (ws : List Wanted) (ss : List Sum) (es : List Ended) → AreEndings vs bound ws ss es → AreShown es → (j : ℕ) (x : Fault) → IsEndWanted ws j → IsBelowAt vs bound j → (f j).outcome ≡ fault x → AtMost (least_fault (faults_at_end es)) x
    least_failed [] ss es are shown j x is below o = absurd is
    least_failed (w ∷ ws) [] es are shown j x is below o = absurd are
    least_failed (w ∷ ws) (s ∷ ss) [] are shown j x is below o = absurd are
    least_failed (w ∷ ws) (s ∷ ss) (e ∷ es) are shown j x is below o = elim is [
      | inl here ↦
          at_most_left (fault_at_end e.ending) (least_fault (faults_at_end es)) x
          (failed_least w.node w.way e.ending x are.0.1 (subst (λ i. ShowsHere i e.ending) are.0.0 shown.0) here.1 (subst (IsBelowAt vs bound) (sym here.0) below) (ap (λ i. (f i).outcome) here.0 ∙ o))
      | inr later ↦ at_most_right (fault_at_end e.ending) (least_fault (faults_at_end es)) x (least_failed ws ss es are.1 shown.1 j x later below o)
    ]

    module _ (answer : Option Fault) (lower : (n : ℕ) → IsBelow answer n → IsBelow bound n) where
      result_shown : (t : Tall) (k : ℕ → Option Seen) (g : Ending) (r : Found) → ShowsEnding t k g → IsResultOf g r → Shows t r
      result_shown t k (ending.Found c) r shows is = subst (Shows t) is shows
      result_shown t k (ending.Carries column) r shows is = absurd is
      result_shown t k (ending.Failed x) r shows is = absurd is
      result_shown t k ending.Nothing r shows is = absurd is

      pub result_in : (es : List Ended) → AreShown es → (i : ℕ) (r : Found) → IsResultIn vs answer es i r → Shows (f i) r
      result_in [] shown i r is = absurd is
      result_in (e ∷ es) shown i r is = elim is [
        | inl here ↦ result_shown (f i) (given i) e.ending r (subst (λ j. ShowsHere j e.ending) here.0 shown.0 (lower (number_at (slice_get vs i)) here.1)) here.2
        | inr later ↦ result_in es shown.1 i r later
      ]

      cell_shown : (t : Tall) (k : ℕ → Option Seen) (g : Ending) (b : ℕ) (c : Seen) → ShowsEnding t k g → IsCellOf g b c → k b ≡ Some c
      cell_shown t k (ending.Found x) b c shows is = absurd is
      cell_shown t k (ending.Carries column) b c shows is = sym (shows b) ∙ is
      cell_shown t k (ending.Failed x) b c shows is = absurd is
      cell_shown t k ending.Nothing b c shows is = absurd is

      pub cell_in : (es : List Ended) → AreShown es → (i b : ℕ) (c : Seen) → IsCellIn vs answer es i b c → given i b ≡ Some c
      cell_in [] shown i b c is = absurd is
      cell_in (e ∷ es) shown i b c is = elim is [
        | inl here ↦ cell_shown (f i) (given i) e.ending b c (subst (λ j. ShowsHere j e.ending) here.0 shown.0 (lower (number_at (slice_get vs i)) here.1)) here.2
        | inr later ↦ cell_in es shown.1 i b c later
      ]

      -- where the carries of a scan are wanted, all of them are there
      carries_at : (i : ℕ) (y : Way) (g : Ending) → Fits i y g → ShowsHere i g → IsCarriesWay y → IsBelowAt vs bound i → (column : SeenColumn) × AreAllCarries (given i) column.cells × ((b : ℕ) (c : Seen) → slice_get column.cells b ≡ Some c → IsCellOf g b c)
      carries_at i y (ending.Found x) fits shows is below = absurd (no_both y fits.1.0 is)
      carries_at i y (ending.Carries column) fits shows is below = (column, shows below, λ b c e. e)
      carries_at i y (ending.Failed x) fits shows is below = absurd (no_end_carries y fits.1.0 is)
      carries_at i y ending.Nothing fits shows is below = absurd (fits below)

      pub carries_there : (ws : List Wanted) (ss : List Sum) (es : List Ended) → AreEndings vs bound ws ss es → AreShown es → (i : ℕ) → AreCarriesWanted ws i → IsBelowAt vs answer i
          → (column : SeenColumn) × AreAllCarries (given i) column.cells × ((b : ℕ) (c : Seen) → slice_get column.cells b ≡ Some c → IsCellIn vs answer es i b c)
      carries_there [] ss es are shown i is below = absurd is
      carries_there (w ∷ ws) [] es are shown i is below = absurd are
      carries_there (w ∷ ws) (s ∷ ss) [] are shown i is below = absurd are
      carries_there (w ∷ ws) (s ∷ ss) (e ∷ es) are shown i is below = elim is [
        | inl here ↦
            let low : IsBelowAt vs bound i = lower (number_at (slice_get vs i)) below in
            let q = carries_at w.node w.way e.ending are.0.1 (subst (λ j. ShowsHere j e.ending) are.0.0 shown.0) here.1 (subst (IsBelowAt vs bound) (sym here.0) low) in
            (q.0, subst (λ j. AreAllCarries (given j) q.0.cells) here.0 q.1, λ b c h. inl (are.0.0 ∙ here.0, below, q.2 b c h))
        | inr later ↦ (let q = carries_there ws ss es are.1 shown.1 i later below in (q.0, q.1, λ b c h. inr (q.2 b c h)))
      ]

-- ---- one pass

fault_is : (o : Outcome) (x : Fault) → fault_of o ≡ Some x → o ≡ fault x
fault_is (rows rs) x h = absurd (cc)
fault_is (scalar c) x h = absurd (cc)
fault_is (fault y) x h = ap fault (inside y x h)

-- nothing is there, and nothing was known that isn't right
no_old : (o g : Option Seen) → g ≡ None → ((c : Seen) → o ≡ Some c → g ≡ Some c) → o ≡ g
no_old None g e right = sym e
no_old (Some c) g e right = sym (right c refl)

stays_none : (o : Option Seen) → ((c : Seen) → o ≡ Some c → ⊥) → o ≡ None
stays_none None never = refl
stays_none (Some c) never = absurd (never c refl)

module _ {vs : List Vertex} {store : ℕ} {all : List ℕ} {ws : List Wanted} (p : PassOver vs store all ws) (made : IsMade vs) where
  abbrev Count : ℕ
  Count = length (passes.outcomes p)

  abbrev Below : ℕ → Type 0
  Below i = IsBelow (fault_up_to p Count) (number_at (slice_get vs i))

  abbrev IsEnd : ℕ → Type 0
  IsEnd i = IsEndOf store vs p.f p.levels p.needed (p.before + 1) p.candidate i

  abbrev given : ℕ → ℕ → Option Seen
  given i b = carry_of p b i

  -- the sums of the blocks tell the value of a node that is wanted
  told_of : (i : ℕ) (y : Way) → IsOfWay vs i y → IsWantedOf store vs p.f p.levels p.carried p.needed (p.before + 1) p.candidate p.cut i y → Below i → AreTold vs (given i) (blocks_up_to p Count) i y (p.f i)
  told_of i (way.End e a b) w is below = (value_shape p.columns vs p.f made p.gather.meaning i w.0 w.2, λ u. end_value p made i e a b u is below)
  told_of i (way.Carries s a) w is below = λ xs are. all_carries p made i s a w xs are
  told_of i way.Rows w is below = ((store, (p.cuts.within i is).0), value_rows p i is below)

  all_shown : (us : List Wanted) (ss : List Sum) (es : List Ended) (n : ℕ) (bound : Option Fault) → bound ≡ fault_up_to p Count → AreWanted store vs p.f p.levels p.carried p.needed (p.before + 1) p.candidate p.cut us
      → SumsAre p Count n bound us ss → AreEndings vs bound us ss es → AreShown vs bound p.f given es
  all_shown [] ss es n bound q wanted sums are = subst (AreShown vs bound p.f given) (sym are) tt
  all_shown (w ∷ us) [] es n bound q wanted sums are = absurd are
  all_shown (w ∷ us) (s ∷ ss) [] n bound q wanted sums are = absurd are
  all_shown (w ∷ us) (s ∷ ss) (e ∷ es) n bound q wanted sums are = (
    subst (λ j. ShowsHere vs bound p.f given j e.ending) (sym are.0.0)
        (λ below. are.0.2 (p.f w.node) (given w.node) (blocks_up_to p Count) (told_of w.node w.way wanted.0.0 wanted.0.1 (subst (λ c. IsBelow c (number_at (slice_get vs w.node))) q below)) (sums.0 below).0),
    all_shown us ss es n bound q wanted.1 sums.1 are.1,
  )

  end_wanted : (us : List Wanted) → AreWanted store vs p.f p.levels p.carried p.needed (p.before + 1) p.candidate p.cut us → (i : ℕ) → IsEndWanted us i → IsEnd i × ((e : EndOperation) × (a : ℕ) × (b : ℕ) × IsOfWay vs i (way.End e a b))
  end_wanted [] wanted i is = absurd is
  end_wanted (w ∷ us) wanted i is = elim is [
    | inl here ↦ subst (λ j. IsEnd j × ((e : EndOperation) × (a : ℕ) × (b : ℕ) × IsOfWay vs j (way.End e a b))) here.0 (by_way w.node w.way here.1 wanted.0.0 wanted.0.1)
    | inr later ↦ end_wanted us wanted.1 i later
  ]
    where
      by_way : (i : ℕ) (y : Way) → IsEndWay y → IsOfWay vs i y → IsWantedOf store vs p.f p.levels p.carried p.needed (p.before + 1) p.candidate p.cut i y → IsEnd i × ((e : EndOperation) × (a : ℕ) × (b : ℕ) × IsOfWay vs i (way.End e a b))
      by_way i (way.End e a b) is of wants = (wants, (e, a, b, of))
      by_way i (way.Carries s a) is of wants = absurd is
      by_way i way.Rows is of wants = absurd is

  -- a fault of an end that is numbered below is its own, since its operands have rows
  own_fault_of : (i : ℕ) (e : EndOperation) (a b : ℕ) (w : IsOfWay vs i (way.End e a b)) → IsEnd i → Below i → own_in vs p.f i ≡ fault_in p.f i
  own_fault_of i e a b w of below =
      let v = w.0 in
      let op = op_of e w.1 in
      let same : of.1.1.0 ≡ v = inside of.1.1.0 v (sym of.1.1.2 ∙ w.2) in
      let among : IsAmong v.args of.1.1.1 = subst (λ (u : Vertex). IsAmong u.args of.1.1.1) same of.1.1.3 in
      let all_of = end_operands p.columns vs p.f p.gather.meaning store i of.1.1.1 v op w.2 w.3 of.1.0 among of.1.1.4 in
      let none : (c : ℕ) → IsAmong v.args c → fault_in p.f c ≡ None = λ c m.
      (let t = get_before vs i c v w.2 (below_among i v.args c (p.gather.ordered i v w.2) m) in
      ap fault_of (value_rows p c (p.cuts.ends i c v of w.2 m (all_of.2 c m)) (below_more (fault_up_to p Count) (number_at (slice_get vs c)) (number_at (slice_get vs i)) (p.gather.levelled.operands i c v t.0 w.2 m t.1).0 below))) in
      ap (λ o. own_at p.f o i) w.2 ∙ ap (λ c. own_fault c (fault_in p.f i)) (all_none (fault_in p.f) v.args none)

  module _ (ss : List Sum) (es : List Ended) (n : ℕ) (bound : Option Fault) (sums : AreSums p Count n bound ss) (are : AreEndings vs bound ws ss es) where
    abbrev Answer : Option Fault
    Answer = earlier bound (least_fault (faults_at_end es))

    shown : AreShown vs bound p.f given es
    shown = all_shown ws ss es n bound sums.fault_is p.ways sums.sums_are are

    found_below : (i : ℕ) → IsBelowAt vs bound i → Below i
    found_below i below = subst (λ c. IsBelow c (number_at (slice_get vs i))) sums.fault_is below

    least_of_ends : IsLeast (own_in vs p.f) (IsAmong (end_nodes ws es)) (least_fault (faults_at_end es))
    least_of_ends = record {
      one = λ x h.
          let q = one_failed vs bound p.f given ws ss es are shown x h in
          let m = ends_among vs bound ws ss es are q.0 q.1 in
          let w = end_wanted ws p.ways q.0 m.0 in
          (q.0, q.1, own_fault_of q.0 w.1.0 w.1.1 w.1.2 w.1.3 w.0 (found_below q.0 m.1) ∙ ap fault_of q.2);
      least = λ i x m h.
          let k = ends_among vs bound ws ss es are i m in
          let w = end_wanted ws p.ways i k.0 in
          least_failed vs bound p.f given ws ss es are shown i x k.0 k.1 (fault_is (p.f i).outcome x (sym (own_fault_of i w.1.0 w.1.1 w.1.2 w.1.3 w.0 (found_below i k.1)) ∙ h));
    }

    told_fault : IsLeast (own_in vs p.f) (λ i. IsWorkOf store vs p.f p.levels p.needed (p.before + 1) p.candidate i ⊎ IsEnd i) Answer
    told_fault =
        subst (λ c. IsLeast (own_in vs p.f) (λ i. IsWorkOf store vs p.f p.levels p.needed (p.before + 1) p.candidate i ⊎ IsEnd i) (earlier c (least_fault (faults_at_end es)))) (sym sums.fault_is)
        (pass_fault p (end_nodes ws es) (λ i m. (end_wanted ws p.ways i (ends_among vs bound ws ss es are i m).0).0)
        (λ i is below. among_ends vs bound ws ss es are i (p.ends i is) (subst (λ c. IsBelow c (number_at (slice_get vs i))) (sym sums.fault_is) below)) (least_fault (faults_at_end es)) least_of_ends)

    low : (n : ℕ) → IsBelow Answer n → IsBelow bound n
    low n = below_left bound (least_fault (faults_at_end es)) n

    pub finished_told : (start fresh old new : Known) → IsAdded vs Answer es start fresh old new → IsFinished p Answer old new
    finished_told start fresh old new added = record {
      fault = told_fault;
      results = λ i r is below e.
          let y = wanted_result vs bound ws ss es are start fresh old new added i is below in
          let same : y.0 ≡ r = inside y.0 r (sym (new_result vs bound ws ss es are start fresh old new added i y.0 y.1) ∙ e) in
          subst (Shows (p.f i)) same (result_in vs bound p.f given Answer low es shown i y.0 (fresh_result vs bound ws ss es are start fresh old new added i y.0 y.1));
      carries = λ i b is below right. elim (none_or (carry fresh i b)) [
        | inr some ↦
            new_carry vs bound ws ss es are start fresh old new added i b some.0 some.1
            ∙ sym (cell_in vs bound p.f given Answer low es shown i b some.0 (fresh_carry vs bound ws ss es are start fresh old new added i b some.0 some.1))
        | inl none ↦
            let q = carries_there vs bound p.f given Answer low ws ss es are shown i is below in
            old_carry vs bound ws ss es are start fresh old new added i b none
            ∙ no_old (carry old i b) (given i b)
            (sym (q.1 b) ∙ stays_none (slice_get q.0.cells b) (λ c h. (let y = (added.puts.carries i b).more c (q.2 b c h) in not_there (carry fresh i b) y.0 none y.1))) right
      ];
    }

-- the answer as the code has it
pub told_at : (vs : List Vertex) → IsMade vs → (bound answer : Option Fault) (ws : List Wanted) (ss : List Sum) (es : List Ended) → AreEndings vs bound ws ss es → (n : ℕ) (start fresh old new : Known) → answer ≡ earlier bound (least_fault (faults_at_end es))
    → IsAdded vs answer es start fresh old new → (store : ℕ) (all : List ℕ) (p : PassOver vs store all ws) → AreSums p (length (passes.outcomes p)) n bound ss → IsFinished p answer old new
told_at vs made bound answer ws ss es are n start fresh old new q added store all p sums =
    subst (λ c. IsFinished p c old new) (sym q) (finished_told p made ss es n bound sums are start fresh old new (subst (λ c. IsAdded vs c es start fresh old new) q added))
