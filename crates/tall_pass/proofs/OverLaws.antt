-- A pass over the blocks of files: what its work asks for is a cut that serves, what is wanted is its work, and the blocks are those of
-- the stored columns.
use Rattle.std.specs.Prelude.{◌≡◌, refl, ℕ, ◌<◌, ◌≤◌, ◌+◌, ◌*◌, ◌⊎◌, ◌↔◌, ◌==◌, nat_le, nat_lt, ◌^◌, if◌then◌else◌, Bool, true, false, Option, None, Some, List, [], ◌∷◌, slice_get}
use Rattle.std.proofs.Common.{ap, sym, subst, ◌∙◌, arith, inl, inr}
use Rattle.std.proofs.lemmas.Bool.Decides.{nat_tests}
use Rattle.tall_outside.specs.Shelf.{Files}
use Rattle.tall_cut.specs.declared.cutter.ReadSize.{ReadSize}
use Rattle.tall_cut.specs.declared.cutter.ReadSize.TheVariants.{Rows, File}
use Rattle.tall_semantics.specs.Operations.{Made, stored, operation}
use Rattle.tall_semantics.specs.Faults.{Fault}
use Rattle.tall_semantics.specs.Spaces.{Space, single, rows_of, filtered, first, last, groups, has_rows, is_single, store_of}
use Rattle.tall_semantics.specs.Spaces as spaces
use Rattle.tall_semantics.specs.Shapes.{Shape, level}
use Rattle.tall_semantics.specs.ShapesInOrder.{IsMade, shape_at}
use Rattle.tall_semantics.specs.Talls.{Columns, Tall}
use Rattle.tall_semantics.specs.Deferred.{AreThere, AreUnder, IsAmong, IsMeaning, IsOrdered, Vertex, itself, through}
use Rattle.tall_semantics.specs.Least.{IsBelow}
use Rattle.tall_semantics.specs.Levels.{UpTo}
use Rattle.tall_semantics.specs.Numbered.{AreNumbered, AreReadings, IsGather, nodes_by, number_at}
use Rattle.tall_semantics.specs.Plans.{is_among, is_scan_at, is_store, needed_of}
use Rattle.tall_semantics.specs.Ranks.{is_in_pass, rank, rank_at, ranks_in}
use Rattle.tall_semantics.specs.ScanLevels.{AreScans, chain_ranks_in, scans_by}
use Rattle.tall_semantics.proofs.Basics.{and_true, both, inside}
use Rattle.tall_semantics.proofs.CandidateLaws.{further, graph_ranks}
use Rattle.tall_semantics.proofs.MeaningLaws.{stored_value}
use Rattle.tall_semantics.proofs.OriginLaws.{below_among, get_before}
use Rattle.tall_semantics.proofs.PlanLaws.{among_filter, needed_there, needed_under}
use Rattle.tall_semantics.proofs.ScanLevelLaws.{scans_by_ranks}
use Rattle.tall_semantics.proofs.ShapesInOrderLaws.{made_ordered, value_shape}
use Rattle.tall_blocks.specs.Blocks.{IsVariable}
use Rattle.tall_blocks.specs.PassWork.{AreAsked, IsCutFor, IsDueOf, IsEndOf, IsWorkOf}
use Rattle.tall_blocks.proofs.LevelWorkLaws.{collected_is, collected_work, plan_work}
use Rattle.tall_blocks.proofs.PassWorkLaws.{below_more, least_serves, lower_ranks}
use Rattle.tall_store.specs.Blocks.{HasRows, in_blocks}
use Rattle.tall_store.specs.Options.{is_size}
use Rattle.tall_store.specs.Stored.{first_fault}
use Rattle.tall_store.specs.Stores.{IsStore, SeenStore}
use Rattle.tall_store.proofs.Joins.{sizes_cut}
use Rattle.tall_stored.specs.StoredColumns.{Store, rows_of_stores}
use Rattle.tall_stored.proofs.StoredLaws.{are_columns, are_readings}
use Rattle.tall_stored_blocks.proofs.StoredBlockLaws.{ascending_blocks, stored_blocks, stored_tables}
use Rattle.tall_fuse.specs.declared.known.Known.{Known}
use Rattle.tall_piece.specs.declared.wanted.Wanted.{Wanted}
use Rattle.tall_piece.specs.declared.wanted.Way.{Way}
use Rattle.tall_piece.specs.declared.wanted.Way.TheVariants as way
use Rattle.tall_piece.specs.Passes.{AreWanted, IsEndWanted, IsEndWay, IsWantedOf}
use Rattle.tall_piece.specs.Wants.{IsOfWay}
use Rattle.tall_plan.specs.declared.passes.Pass.{Pass}
use Rattle.tall_pass.specs.PassPlans.{IsPassBelow}
use Rattle.tall_pass.specs.Told.{IsGiven, pass_blocks}
use Rattle.tall_pass.specs.Work.{HasWanted, IsOverFiles, asked_of, computed_of, cut_of, has_rows_of, is_own, rank_before, wanted_of}
use Rattle.tall_pass.proofs.WorkLaws.{among_test, asked_from, asked_within, asks_itself, asks_operand, collect_is, level_test, store_test, true_or_false, work_is, work_needed, work_there}
use Rattle.tall_pass.proofs.WayLaws.{IsOfWork, all_are_wanted, all_wanted, none_or_other, scan_rows, way_is}

-- ---- spaces and levels

pub with_rows : (u : Space) (s : ℕ) → store_of u ≡ Some s → has_rows u ≡ true
with_rows single s h = absurd (cc)
with_rows (rows_of t) s h = refl
with_rows (filtered u m) s h = with_rows u s h
with_rows (first k u) s h = absurd (cc)
with_rows (last k u) s h = absurd (cc)
with_rows (spaces.distinct t) s h = absurd (cc)
with_rows (groups m k d) s h = absurd (cc)

pub single_small : (u : Space) → is_single u ≡ true → store_of u ≡ None
single_small single h = refl
single_small (rows_of t) h = absurd (cc)
single_small (filtered u m) h = absurd (cc)
single_small (first k u) h = absurd (cc)
single_small (last k u) h = absurd (cc)
single_small (spaces.distinct t) h = absurd (cc)
single_small (groups m k d) h = absurd (cc)

-- a value with a datastore's rows takes one pass more than its chain
pub level_of_rows : (x : Shape) (s : ℕ) → store_of x.space ≡ Some s → level x ≡ x.chain + 1
level_of_rows x s h = ap (λ b. if b then x.chain + 1 else x.chain) (with_rows x.space s h)

level_of_rank : (b : Bool) (x : Shape) (k : ℕ) → rank b x ≡ 2 * k → level x ≡ k
level_of_rank true x k h = (let g : 2 * level x ≡ 2 * k = h in omega (arith, g))
level_of_rank false x k h = (let g : 2 * level x + 1 ≡ 2 * k = h in omega (arith, g))

least_rank : (b : Bool) (x : Shape) → 2 * level x ≤ rank b x
least_rank true x = omega (arith)
least_rank false x = omega (arith)

-- twice the level is at most the rank
pub rank_over : (vs : List Vertex) (f : ℕ → Tall) (i : ℕ) (v : Vertex) → slice_get vs i ≡ Some v → 2 * level (f i).shape ≤ ranks_in vs f i
rank_over vs f i v e = subst (λ o. 2 * level (f i).shape ≤ rank_at f o i) (sym e) (least_rank (is_in_pass f v i) (f i).shape)

rows_of_size : (size : ReadSize) → is_size size ≡ true → HasRows size
rows_of_size (Rows n) h = (let w = both (nat_le 1 n) (nat_lt n (2 ^ 31)) h in let l : nat_le 1 n ≡ true = w.0 in grind (arith, nat_tests, l))
rows_of_size File h = tt

one_number : (s t : ℕ) → Some s ≡ Some t → s ≡ t
one_number s t h = inside s t h

-- ---- what is wanted at the end

end_wanted : (ws : List Wanted) (i : ℕ) → HasWanted IsEndWay ws i → IsEndWanted ws i
end_wanted [] i h = h
end_wanted (w ∷ ws) i h = elim h [ inl a ↦ inl a | inr b ↦ inr (end_wanted ws i b) ]

-- ---- of any solution

module _ (columns : Columns) (of_stores : ℕ → List ℕ) (vs : List Vertex) (f : ℕ → Tall) (made : IsMade vs) (numbered : AreNumbered vs) (readings : AreReadings columns vs) (meaning : IsMeaning columns vs f)
    (roots : List ℕ) (c : Option Fault) (pass : Pass) (planned : IsPassBelow vs roots c pass) where
  ordered : IsOrdered vs
  ordered = made_ordered vs made

  abbrev Datastore : ℕ
  Datastore = pass.store

  abbrev Level : ℕ
  Level = pass.level

  abbrev Work : List ℕ
  Work = pass.work.items

  abbrev Needed : List ℕ
  Needed = needed_of vs roots

  abbrev Asked : List ℕ
  Asked = asked_of vs pass.store pass.level pass.work.items

  abbrev Ranks : ℕ → ℕ
  Ranks = ranks_in vs f

  abbrev Chains : ℕ → ℕ
  Chains = chain_ranks_in f

  abbrev Cut : ℕ → Bool
  Cut = cut_of vs f pass

  abbrev Behind : ℕ
  Behind = rank_before pass + 1

  behind : Behind ≡ 2 * pass.level
  behind = (let l : 0 < pass.level = planned.level in omega (arith, l))

  needed_are_there : AreThere vs Needed
  needed_are_there i h = needed_there vs made roots planned.there i h

  pub asked_are_there : AreThere vs Asked
  asked_are_there = asked_within vs ordered Datastore Level Work (λ j m. work_there vs roots c pass planned made j m)

  pub gather : IsGather columns vs f Ranks roots Needed
  gather = record {
    meaning = meaning;
    ordered = ordered;
    levelled = graph_ranks columns vs f meaning numbered readings;
    there = planned.there;
    under = needed_under vs roots ordered planned.there;
  }

  pub shape_of : (i : ℕ) (v : Vertex) → slice_get vs i ≡ Some v → (f i).shape ≡ shape_at vs i
  shape_of i v e = value_shape columns vs f made meaning i v e

  pub store_is : (i : ℕ) (v : Vertex) → slice_get vs i ≡ Some v → store_of (f i).shape.space ≡ store_of (shape_at vs i).space
  store_is i v e = ap (λ (x : Shape). store_of x.space) (shape_of i v e)

  rank_level : (i : ℕ) (v : Vertex) → slice_get vs i ≡ Some v → Ranks i ≡ 2 * Level → level (shape_at vs i) ≡ Level
  rank_level i v e h = ap level (sym (shape_of i v e)) ∙ level_of_rank (is_in_pass f v i) (f i).shape Level (sym (ap (λ o. rank_at f o i) e) ∙ h)

  -- ---- the work in the words of ranks

  abbrev Of : ℕ → Type 0
  Of i = IsWorkOf Datastore vs f Ranks Needed Behind c i ⊎ IsEndOf Datastore vs f Ranks Needed Behind c i

  abbrev Due : ℕ → Type 0
  Due i = IsDueOf Datastore vs f Chains Needed Behind c i

  in_pass : (i : ℕ) → IsAmong Work i ↔ (Of i ⊎ Due i)
  in_pass i = (
    λ h.
        subst (λ n. (IsWorkOf Datastore vs f Ranks Needed n c i ⊎ IsEndOf Datastore vs f Ranks Needed n c i) ⊎ IsDueOf Datastore vs f Chains Needed n c i) (sym behind)
        ((plan_work columns vs f made meaning ordered Needed needed_are_there c Datastore Level i).0 ((work_is vs roots c pass planned i).0 h)),
    λ w.
        (work_is vs roots c pass planned i).1
        ((plan_work columns vs f made meaning ordered Needed needed_are_there c Datastore Level i).1
        (subst (λ n. (IsWorkOf Datastore vs f Ranks Needed n c i ⊎ IsEndOf Datastore vs f Ranks Needed n c i) ⊎ IsDueOf Datastore vs f Chains Needed n c i) behind w)),
  )

  -- of a scan that is due the level is one more than the pass's
  due_level : (i : ℕ) (v : Vertex) → slice_get vs i ≡ Some v → Due i → level (shape_at vs i) ≡ Level + 1
  due_level i v e h =
      let x : Shape = (f i).shape in
      let r : level x ≡ x.chain + 1 = level_of_rows x Datastore h.2 in
      let g : 2 * x.chain ≡ 2 * Level = h.3 ∙ behind in
      let l : level x ≡ level (shape_at vs i) = ap level (shape_of i v e) in
      omega (arith, r, g, l)

  own_is : (i : ℕ) → is_own vs Datastore Level i ≡ true → (store_of (shape_at vs i).space ≡ Some Datastore) × (level (shape_at vs i) ≡ Level)
  own_is i h =
      let w = both (has_rows_of vs Datastore i) (level (shape_at vs i) == Level) h in
      ((store_test Datastore (store_of (shape_at vs i).space)).0 w.0, (level_test (level (shape_at vs i)) Level).0 w.1)

  is_own_so : (i : ℕ) → store_of (shape_at vs i).space ≡ Some Datastore → level (shape_at vs i) ≡ Level → is_own vs Datastore Level i ≡ true
  is_own_so i h l =
      and_true (has_rows_of vs Datastore i) (level (shape_at vs i) == Level) ((store_test Datastore (store_of (shape_at vs i).space)).1 h) ((level_test (level (shape_at vs i)) Level).1 l)

  not_own : (i : ℕ) → ((store_of (shape_at vs i).space ≡ Some Datastore) × (level (shape_at vs i) ≡ Level) → ⊥) → is_own vs Datastore Level i ≡ false
  not_own i h = elim (true_or_false (is_own vs Datastore Level i)) [ inl own ↦ absurd (h (own_is i own)) | inr other ↦ other ]

  end_not_own : (i : ℕ) (v : Vertex) → slice_get vs i ≡ Some v → IsEndOf Datastore vs f Ranks Needed Behind c i → is_own vs Datastore Level i ≡ false
  end_not_own i v e h = not_own i (λ w. none_or_other (store_of (f i).shape.space) Datastore h.1.0 (store_is i v e ∙ w.0))

  due_not_own : (i : ℕ) (v : Vertex) → slice_get vs i ≡ Some v → Due i → is_own vs Datastore Level i ≡ false
  due_not_own i v e h = not_own i (λ w. (let l = due_level i v e h in let m = w.1 in omega (arith, l, m)))

  -- ---- what is asked for

  abbrev IsWithin : ℕ → Type 0
  IsWithin i = UpTo (nodes_by vs f Ranks) (IsAmong Needed) Behind i × IsBelow c (number_at (slice_get vs i))

  -- it is of the rank, or a scan that is due
  rank_or_due : (j : ℕ) → IsAmong Work j → (Ranks j ≡ Behind) ⊎ Due j
  rank_or_due j m = elim ((in_pass j).0 m) [ inl of ↦ elim of [ inl w ↦ inl w.0.1 | inr w ↦ inl w.0.1 ] | inr due ↦ inr due ]

  own_within : (j : ℕ) → IsAmong Work j → is_own vs Datastore Level j ≡ true → IsWithin j
  own_within j m own =
      let v = work_there vs roots c pass planned made j m in
      let n = (work_needed vs roots c pass planned j m).0 in
      let b = ((work_is vs roots c pass planned j).0 m).1 in
      elim (rank_or_due j m) [
        | inl r ↦ ((n, (let h : Ranks j ≡ Behind = r in omega (arith, h))), b)
        | inr due ↦ absurd (let l = due_level j v.0 v.1 due in let o = (own_is j own).1 in omega (arith, l, o))
      ]

  scans : AreScans vs (scans_by vs f Chains) Ranks
  scans = scans_by_ranks columns vs f meaning ordered

  due_scan : (j : ℕ) → Due j → (scans_by vs f Chains).is_scan j ≡ true
  due_scan j h = and_true (is_scan_at (slice_get vs j)) (has_rows (f j).shape.space) h.1 (with_rows (f j).shape.space Datastore h.2)

  operand_needed : (j i : ℕ) (v : Vertex) → slice_get vs j ≡ Some v → IsAmong v.args i → IsAmong Needed j → IsAmong Needed i
  operand_needed j i v e m n = (let r = (gather.under j).0 n in (gather.under i).1 (r.0, r.1, further vs r.0 j i r.2 (through j i i v e m (itself i))))

  operand_asked : (j i : ℕ) (v : Vertex) → IsAmong Work j → slice_get vs j ≡ Some v → IsAmong v.args i → IsWithin i
  operand_asked j i v m e among =
      let n = (work_needed vs roots c pass planned j m).0 in
      let b = ((work_is vs roots c pass planned j).0 m).1 in
      let w = get_before vs j i v e (below_among j v.args i (ordered j v e) among) in
      let before = gather.levelled.operands j i v w.0 e among w.1 in
      let low : IsBelow c (number_at (slice_get vs i)) = below_more c (number_at (slice_get vs i)) (number_at (slice_get vs j)) before.0 b in
      let r : Ranks i ≤ Behind = elim (rank_or_due j m) [
        | inl r ↦ (let h : Ranks j ≡ Behind = r in let l : Ranks i ≤ Ranks j = before.1 in omega (arith, h, l))
        | inr due ↦ (let h : Chains j ≡ Behind = due.3 in let l : Ranks i ≤ Chains j = scans.operands j i v (due_scan j due) e among in omega (arith, h, l))
      ] in
      ((operand_needed j i v e among n, r), low)

  asked_is_within : (i : ℕ) → IsAmong Asked i → IsWithin i
  asked_is_within i h =
      let w = asked_from vs Datastore Level i Work h in
      elim w.2 [
        | inl own ↦ subst IsWithin own.1 (own_within w.0 w.1 own.0)
        | inr arg ↦ operand_asked w.0 i arg.0 w.1 arg.1 arg.2
      ]

  operand_store : (i a : ℕ) (v : Vertex) → slice_get vs i ≡ Some v → IsAmong v.args a → store_of (f a).shape.space ≡ Some Datastore → store_of (shape_at vs a).space ≡ Some Datastore
  operand_store i a v e among h = (let w = get_before vs i a v e (below_among i v.args a (ordered i v e) among) in sym (store_is a w.0 w.1) ∙ h)

  asked_serve : AreAsked Datastore vs f Ranks Chains Needed Behind c Asked
  asked_serve = record {
    within = asked_is_within;
    work = λ i w.
        let m : IsAmong Work i = (in_pass i).1 (inl (inl w)) in
        let v = work_there vs roots c pass planned made i m in
        asks_itself vs Datastore Level i Work m (is_own_so i (sym (store_is i v.0 v.1) ∙ w.1) (rank_level i v.0 v.1 (w.0.1 ∙ behind)));
    ends = λ i a v w e among here. asks_operand vs Datastore Level i a v Work ((in_pass i).1 (inl (inr w))) (end_not_own i v e w) e among (operand_store i a v e among here);
    scans = λ i a v w e among here. asks_operand vs Datastore Level i a v Work ((in_pass i).1 (inr w)) (due_not_own i v e w) e among (operand_store i a v e among here);
  }

  pub cuts : IsCutFor Datastore vs f Ranks Chains Needed Behind c Cut
  cuts = least_serves columns of_stores vs f Ranks Chains roots Needed gather Datastore (rank_before pass) c Asked asked_serve

  pub asked_under : AreUnder vs Asked (needed_of vs Asked)
  asked_under = needed_under vs Asked ordered asked_are_there

  pub listed : (i : ℕ) → IsAmong (computed_of vs pass) i ↔ (Cut i ≡ true)
  listed i = (
    λ h.
        let w = (among_filter (has_rows_of vs Datastore) (needed_of vs Asked) i).0 h in
        let v = needed_there vs made Asked asked_are_there i w.0 in
        and_true (is_store Datastore (store_of (f i).shape.space)) (is_among i (needed_of vs Asked))
        ((store_test Datastore (store_of (f i).shape.space)).1 (store_is i v.0 v.1 ∙ (store_test Datastore (store_of (shape_at vs i).space)).0 w.1)) ((among_test i (needed_of vs Asked)).1 w.0),
    λ h.
        let w = both (is_store Datastore (store_of (f i).shape.space)) (is_among i (needed_of vs Asked)) h in
        let n = (among_test i (needed_of vs Asked)).0 w.1 in
        let v = needed_there vs made Asked asked_are_there i n in
        (among_filter (has_rows_of vs Datastore) (needed_of vs Asked) i).1
        (n, (store_test Datastore (store_of (shape_at vs i).space)).1 (sym (store_is i v.0 v.1) ∙ (store_test Datastore (store_of (f i).shape.space)).0 w.0)),
  )

  -- ---- what is wanted

  abbrev IsGoodWay : ℕ → Way → Type 0
  IsGoodWay i y = IsOfWay vs i y × IsWantedOf Datastore vs f Ranks Chains Needed Behind c Cut i y

  small_end : (i : ℕ) (v : Vertex) → slice_get vs i ≡ Some v → IsAmong Work i → store_of (shape_at vs i).space ≡ None → IsEndOf Datastore vs f Ranks Needed Behind c i
  small_end i v e m small = elim ((in_pass i).0 m) [
    | inl of ↦ elim of [ inl w ↦ absurd (none_or_other (store_of (shape_at vs i).space) Datastore small (sym (store_is i v e) ∙ w.1)) | inr w ↦ w ]
    | inr due ↦ absurd (none_or_other (store_of (shape_at vs i).space) Datastore small (sym (store_is i v e) ∙ due.2))
  ]

  -- a scan of the work whose chain is the pass's level is due
  pub due_of : (i : ℕ) (v : Vertex) → slice_get vs i ≡ Some v → IsAmong Work i → is_scan_at (slice_get vs i) ≡ true → (shape_at vs i).chain ≡ Level → IsDueOf Datastore vs f Chains Needed Behind c i
  due_of i v e m scan chain =
      let n = work_needed vs roots c pass planned i m in (
        n.0,
        scan,
        store_is i v e ∙ scan_rows vs made i Datastore v e scan n.1,
        ap (λ k. 2 * k) (ap (λ (x : Shape). x.chain) (shape_of i v e) ∙ chain) ∙ sym behind,
        ((work_is vs roots c pass planned i).0 m).1,
      )

  good_work : (i : ℕ) (v : Vertex) (y : Way) → slice_get vs i ≡ Some v → IsAmong Work i → IsOfWork vs made Level i y → IsWantedOf Datastore vs f Ranks Chains Needed Behind c Cut i y
  good_work i v (way.End x a b) e m h = elim h [ inl w ↦ small_end i v e m w.1 | inr w ↦ absurd w.0 ]
  good_work i v (way.Carries s a) e m h = elim h [ inl w ↦ absurd w.0 | inr w ↦ due_of i v e m w.1 w.2 ]
  good_work i v way.Rows e m h = elim h [ inl w ↦ absurd w.0 | inr w ↦ absurd w.0 ]

  good_rows : (i : ℕ) → IsAmong pass.collect.items i → IsGoodWay i way.Rows
  good_rows i h =
      let w = collect_is vs roots c pass planned i h in
      let k = (collected_is vs ordered roots planned.there Datastore Level i).0 w.0 in
      let m : IsAmong Work i = (work_is vs roots c pass planned i).1 (collected_work vs ordered roots planned.there Datastore Level i w.0, w.1) in
      let v = work_there vs roots c pass planned made i m in
      let a : IsAmong Asked i = asks_itself vs Datastore Level i Work m (is_own_so i k.1 k.2) in (
        v,
        and_true (is_store Datastore (store_of (f i).shape.space)) (is_among i (needed_of vs Asked)) ((store_test Datastore (store_of (f i).shape.space)).1 (store_is i v.0 v.1 ∙ k.1))
            ((among_test i (needed_of vs Asked)).1 ((asked_under i).1 (i, a, itself i))),
      )

  pub ways : AreWanted Datastore vs f Ranks Chains Needed Behind c Cut (wanted_of vs pass)
  ways = all_wanted vs (AreWanted Datastore vs f Ranks Chains Needed Behind c Cut) IsGoodWay tt (λ w ws p a. (p, a)) pass
      (λ i y m e. (let v = work_there vs roots c pass planned made i m in let w = way_is vs made Level i v.0 y v.1 e in (w.0, good_work i v.0 y v.1 m w.1))) good_rows

  pub ends : (i : ℕ) → IsEndOf Datastore vs f Ranks Needed Behind c i → IsEndWanted (wanted_of vs pass) i
  ends i h =
      let m : IsAmong Work i = (in_pass i).1 (inl (inr h)) in
      let v = work_there vs roots c pass planned made i m in
      end_wanted (wanted_of vs pass) i ((all_are_wanted vs made roots c pass planned).ends i m (sym (store_is i v.0 v.1) ∙ h.1.0))

  -- a variable that is computed is the datastore's
  pub variable_here : (i : ℕ) (v : Vertex) (s a : ℕ) → slice_get vs i ≡ Some v → Cut i ≡ true → IsVariable v.made s a → s ≡ Datastore
  variable_here i v s a e h x = of_made v.made refl x
    where
      of_made : (m : Made) → v.made ≡ m → IsVariable m s a → s ≡ Datastore
      of_made (stored t b k) q y =
          let here : Some t ≡ Some Datastore = ap (λ (z : Tall). store_of z.shape.space) (stored_value columns vs f meaning i v t b k e q) ∙ (cuts.within i h).0 in
          sym y.0 ∙ one_number t Datastore here
      of_made (operation op) q y = absurd y

-- ---- over files

pub over_files : (files : Files) (stores : List Store) (d : Store) (columns : Columns) (vs : List Vertex) (f : ℕ → Tall) (roots : List ℕ) (c : Option Fault) (pass : Pass) (store : SeenStore) (known : Known) (counts : List (Option ℕ))
    → IsMade vs → AreNumbered vs → IsStore store → IsGiven files stores d columns vs f roots c pass store known counts → first_fault store files ≡ None
    → (all : List ℕ) (wanted : List Wanted) → all ≡ computed_of vs pass → wanted ≡ wanted_of vs pass → IsOverFiles files stores d columns vs f roots c pass all wanted
unfolding pass_blocks
over_files files stores d columns vs f roots c pass store known counts made numbered is_store given whole all wanted all_is wanted_is =
    let readings : AreReadings columns vs = are_readings files stores vs columns given.stored in
    let of_stores : ℕ → List ℕ = rows_of_stores files stores in
    let cut : ℕ → Bool = cut_of vs f pass in
    let here = variable_here columns of_stores vs f made numbered readings given.meaning roots c pass given.planned in
    let none : first_fault d.store files ≡ None = ap (λ (s : SeenStore). first_fault s files) given.same ∙ whole in
    let size : HasRows d.store.size = subst (λ (s : SeenStore). HasRows s.size) (sym given.same) (rows_of_size store.size is_store.size) in
    let cutting = sizes_cut d.store.size size in
    subst (λ xs. IsOverFiles files stores d columns vs f roots c pass xs wanted) (sym all_is)
    (subst (λ ws. IsOverFiles files stores d columns vs f roots c pass (computed_of vs pass) ws) (sym wanted_is)
    (record {
      behind = (let l : 0 < pass.level = given.planned.level in omega (arith, l));
      gather = gather columns of_stores vs f made numbered readings given.meaning roots c pass given.planned;
      least = given.candidate;
      cuts = cuts columns of_stores vs f made numbered readings given.meaning roots c pass given.planned;
      listed = listed columns of_stores vs f made numbered readings given.meaning roots c pass given.planned;
      ways = ways columns of_stores vs f made numbered readings given.meaning roots c pass given.planned;
      ends = ends columns of_stores vs f made numbered readings given.meaning roots c pass given.planned;
      numbered = numbered;
      readings = are_columns files stores vs columns given.stored;
      scalars = lower_ranks columns vs f given.meaning;
      scans = scans_by_ranks columns vs f given.meaning (made_ordered vs made);
      of_blocks = stored_blocks files stores vs columns given.stored pass.store d given.there cut here none (in_blocks d.store.size) cutting;
      tables = stored_tables files stores vs columns given.stored pass.store d given.there cut here none (in_blocks d.store.size) cutting;
      ascending = ascending_blocks files d none (in_blocks d.store.size) cutting;
    }))
