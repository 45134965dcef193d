-- What each block's work goes on from is known: the scalars that it needs, and the carries of its scans.
use Rattle.std.specs.Prelude.{◌≡◌, refl, ℕ, suc, ◌<◌, ◌≤◌, ◌+◌, ◌*◌, ◌⊎◌, Bool, true, false, Option, Some, List, [], ◌∷◌, length, map, option_map, slice_get}
use Rattle.std.proofs.Common.{ap, sym, subst, ◌∙◌, arith, inl, inr}
use Rattle.std.proofs.lemmas.List.{length-map}
use Rattle.std.proofs.lemmas.List.Elements.{All-head}
use Rattle.std.proofs.lemmas.Option.{slice_get-map, slice_get_within}
use Rattle.tall_outside.specs.Shelf.{Files}
use Rattle.tall_value.specs.Cells.{Seen}
use Rattle.tall_dense.specs.Columns.{class_of_cell}
use Rattle.tall_semantics.specs.ClassesOfCells.{HasClass, HaveClass}
use Rattle.tall_semantics.specs.Operations.{unary, binary, filter, scan, Made, stored, operation}
use Rattle.tall_semantics.specs.Faults.{Fault}
use Rattle.tall_semantics.specs.Outcomes.{Outcome, fault_of, scalar}
use Rattle.tall_semantics.specs.Spaces.{is_single, store_of}
use Rattle.tall_semantics.specs.Shapes.{Shape, level}
use Rattle.tall_semantics.specs.ShapesInOrder.{IsMade, shape_at}
use Rattle.tall_semantics.specs.Talls.{Columns, Tall}
use Rattle.tall_semantics.specs.Deferred.{AreThere, DependsOn, IsAmong, IsOrdered, Vertex, itself, own_in, through}
use Rattle.tall_semantics.specs.Least.{IsLeast}
use Rattle.tall_semantics.specs.Numbered.{AreNumbered, number_at}
use Rattle.tall_semantics.specs.Plans.{is_scan_at, needed_of}
use Rattle.tall_semantics.specs.Ranks.{ranks_in}
use Rattle.tall_semantics.specs.RowsOfSpaces.{Fits}
use Rattle.tall_semantics.specs.ScanLevels.{chain_ranks_in}
use Rattle.tall_semantics.proofs.CandidateLaws.{further}
use Rattle.tall_semantics.proofs.ClassLaws.{value_class}
use Rattle.tall_semantics.proofs.OriginLaws.{below_among, get_before}
use Rattle.tall_semantics.proofs.PlanLaws.{among_filter, needed_there, needed_under}
use Rattle.tall_semantics.proofs.ShapesInOrderLaws.{made_ordered, value_shape}
use Rattle.tall_semantics.proofs.SpaceLaws.{value_fits}
use Rattle.tall_blocks.specs.Blocks.{Block, block_columns}
use Rattle.tall_blocks.specs.Cut.{CanBeCut, IsScalar}
use Rattle.tall_blocks.specs.PassWork.{IsDueOf, IsEndOf, IsWorkOf}
use Rattle.tall_blocks.specs.ValuesOver.{block_outcomes, next_cells, no_cells, outcomes_over}
use Rattle.tall_blocks.proofs.LeastLaws.{path_number}
use Rattle.tall_blocks.proofs.PassCarryLaws.{pass_carries}
use Rattle.tall_blocks.proofs.PassWorkLaws.{below_more, lower_levels}
use Rattle.tall_store.specs.Blocks as store
use Rattle.tall_store.specs.Stores.{SeenStore}
use Rattle.tall_stored.specs.StoredColumns.{Store, rows_of_stores}
use Rattle.tall_stored.proofs.StoredLaws.{are_readings}
use Rattle.tall_stored_blocks.specs.StoredBlocks.{block_of}
use Rattle.tall_fuse.specs.Kept.{carry}
use Rattle.tall_fuse.specs.declared.known.Known.{Known}
use Rattle.tall_block.specs.BlockWork.{IsAscending, IsKnown}
use Rattle.tall_block.specs.OfBlocks.{first_cell, known_scalar, scalar_of}
use Rattle.tall_piece.specs.declared.wanted.Wanted.{Wanted}
use Rattle.tall_piece.specs.Given as piece
use Rattle.tall_piece.specs.Passes.{carry_of, outcomes}
use Rattle.tall_piece.proofs.PassOverLaws.{can}
use Rattle.tall_plan.specs.declared.passes.Pass.{Pass}
use Rattle.tall_plan.proofs.MarkLaws.{in_list}
use Rattle.tall_pass.specs.Fitting.{AreFit, CanRun}
use Rattle.tall_pass.specs.PassPlans.{FitsStore, IsBelowAt, IsCarried, IsPassBelow}
use Rattle.tall_pass.specs.Told.{IsGiven, IsOutcome, IsOwnWork, carry_behind, carry_over, defined_carry, pass_blocks}
use Rattle.tall_pass.specs.Work.{IsOverFiles, asked_of, computed_of, cut_of, has_rows_of, pass_over, rank_before}
use Rattle.tall_pass.proofs.WorkLaws.{asked_from, asked_within, asks_there, computed_ascending, work_is, work_needed, work_there}
use Rattle.tall_pass.proofs.OverLaws.{due_of, level_of_rows, rank_over, single_small, with_rows}

-- ---- blocks

over_each : (vs : List Vertex) (f : ℕ → Tall) (cut : ℕ → Bool) (so_far : ℕ → List Seen) (bs : List Block) → length (block_outcomes vs f cut so_far bs) ≡ length bs
over_each vs f cut so_far [] = refl
over_each vs f cut so_far (b ∷ bs) = ap suc (over_each vs f cut (next_cells vs (outcomes_over (block_columns b) so_far vs f cut) so_far) bs)

-- ---- scalars

out_of_cut : (cut : ℕ → Bool) (a b : ℕ) → cut a ≡ false → cut b ≡ true → b ≡ a → ⊥
out_of_cut cut a b n y e = absurd (let z : true ≡ false = sym y ∙ (ap cut e ∙ n) in cc)

scalar_operand : (f : ℕ → Tall) (cut : ℕ → Bool) (m : Made) (args : List ℕ) (a : ℕ) → CanBeCut f cut m args → IsAmong args a → cut a ≡ false → IsScalar (f a).outcome
scalar_operand f cut (stored s v k) args a h m n = absurd (subst (λ xs. IsAmong xs a) h m)
scalar_operand f cut (operation (unary op)) (b ∷ []) a h m n = absurd (elim m [ inl e ↦ out_of_cut cut a b n h e | inr z ↦ z ])
scalar_operand f cut (operation (binary op)) (b ∷ d ∷ []) a h m n = elim h [
  | inl w ↦ absurd (elim m [ inl e ↦ out_of_cut cut a b n w.0 e | inr r ↦ elim r [ inl e ↦ out_of_cut cut a d n w.1 e | inr z ↦ z ] ])
  | inr one ↦ elim one [
    | inl w ↦ elim m [
      | inl e ↦ absurd (out_of_cut cut a b n w.0 e)
      | inr r ↦ elim r [ inl e ↦ subst (λ j. IsScalar (f j).outcome) e w.1.1 | inr z ↦ absurd z ]
    ]
    | inr w ↦ elim m [
      | inl e ↦ subst (λ j. IsScalar (f j).outcome) e w.0.1
      | inr r ↦ elim r [ inl e ↦ absurd (out_of_cut cut a d n w.1 e) | inr z ↦ absurd z ]
    ]
  ]
]
scalar_operand f cut (operation filter) (b ∷ d ∷ []) a h m n = absurd (elim m [ inl e ↦ out_of_cut cut a b n h.0 e | inr r ↦ elim r [ inl e ↦ out_of_cut cut a d n h.1 e | inr z ↦ z ] ])
scalar_operand f cut (operation (scan s)) (b ∷ []) a h m n = absurd (elim m [ inl e ↦ out_of_cut cut a b n h e | inr z ↦ z ])
scalar_operand f cut m args a h g n = absurd h

-- what shows a scalar has its cell
one_cell : (x : Outcome) (c : Seen) (cs : List Seen) → x ≡ scalar c → IsOutcome x cs → cs ≡ c ∷ []
one_cell x c cs e h = subst (λ y. IsOutcome y cs) e h

single_shape : (s : Shape) (x : Outcome) (c : Seen) → x ≡ scalar c → Fits s x → is_single s.space ≡ true
single_shape s x c e h = subst (Fits s) e h

cell_class : (k : _) (x : Outcome) (c : Seen) → x ≡ scalar c → HaveClass k x → class_of_cell c ≡ k
cell_class k x c e h = All-head (HasClass k) c [] (subst (HaveClass k) e h)

-- ---- what the roots of any plan have to do with what is computed

module _ (vs : List Vertex) (made : IsMade vs) (pass : Pass) where
  -- it is made for some of the work
  computed_under : (roots : List ℕ) (c : Option Fault) → IsPassBelow vs roots c pass → (i : ℕ) → IsAmong (computed_of vs pass) i → (j : ℕ) × IsAmong pass.work.items j × DependsOn vs j i
  computed_under roots c planned i h =
      let ordered : IsOrdered vs = made_ordered vs made in
      let asked : List ℕ = asked_of vs pass.store pass.level pass.work.items in
      let there : AreThere vs asked = asked_within vs ordered pass.store pass.level pass.work.items (λ j m. work_there vs roots c pass planned made j m) in
      let w = (among_filter (has_rows_of vs pass.store) (needed_of vs asked) i).0 h in
      let u = (needed_under vs asked ordered there i).0 w.0 in
      let a = asked_from vs pass.store pass.level u.0 pass.work.items u.1 in
      let v = work_there vs roots c pass planned made a.0 a.1 in
      (a.0, a.1, further vs a.0 u.0 i (asks_there vs ordered pass.store pass.level a.0 u.0 v.0 v.1 a.2).1 u.2)

  -- so it is needed for the roots of each plan that has this pass, and below its candidate
  work_depends : AreNumbered vs → (roots : List ℕ) (c : Option Fault) → IsPassBelow vs roots c pass → (j i : ℕ) → IsAmong pass.work.items j → DependsOn vs j i → IsAmong (needed_of vs roots) i × IsBelowAt vs c i
  work_depends numbered roots c planned j i m path =
      let ordered : IsOrdered vs = made_ordered vs made in
      let under = needed_under vs roots ordered planned.there in
      let r = (under j).0 (work_needed vs roots c pass planned j m).0 in
      let needed : IsAmong (needed_of vs roots) i = (under i).1 (r.0, r.1, further vs r.0 j i r.2 path) in
      let v = work_there vs roots c pass planned made j m in
      let w = needed_there vs made roots planned.there i needed in
      let l : w.0.at.number ≤ v.0.at.number = path_number vs ordered numbered j i v.0 w.0 v.1 w.1 path in
      let nj : number_at (slice_get vs j) ≡ v.0.at.number = ap number_at v.1 in
      let ni : number_at (slice_get vs i) ≡ w.0.at.number = ap number_at w.1 in
      (needed, below_more c (number_at (slice_get vs i)) (number_at (slice_get vs j)) (omega (arith, l, nj, ni)) ((work_is vs roots c pass planned j).0 m).1)

pub places_within : (vs : List Vertex) (made : IsMade vs) (roots : List ℕ) (c : Option Fault) (pass : Pass) (planned : IsPassBelow vs roots c pass) (i : ℕ) → IsAmong (computed_of vs pass) i → i < length vs
places_within vs made roots c pass planned i h =
    let asked : List ℕ = asked_of vs pass.store pass.level pass.work.items in
    let there : AreThere vs asked = asked_within vs (made_ordered vs made) pass.store pass.level pass.work.items (λ j m. work_there vs roots c pass planned made j m) in
    let w = (among_filter (has_rows_of vs pass.store) (needed_of vs asked) i).0 h in
    let v = needed_there vs made asked there i w.0 in
    slice_get_within vs i v.0 v.1

-- ---- of a pass over files

module _ (files : Files) (stores : List Store) (d : Store) (columns : Columns) (vs : List Vertex) (f : ℕ → Tall) (roots : List ℕ) (c : Option Fault) (pass : Pass) (seen : SeenStore) (known : Known) (counts : List (Option ℕ))
    (all : List ℕ) (wanted : List Wanted) (q : IsOverFiles files stores d columns vs f roots c pass all wanted) (given : IsGiven files stores d columns vs f roots c pass seen known counts)
    (made : IsMade vs) (all_is : all ≡ computed_of vs pass) (ready : CanRun vs pass known) (fit : AreFit vs known) (fits : FitsStore vs pass.store seen) where
  ordered : IsOrdered vs
  ordered = made_ordered vs made

  shape_of : (i : ℕ) (v : Vertex) → slice_get vs i ≡ Some v → (f i).shape ≡ shape_at vs i
  shape_of i v e = value_shape columns vs f made given.meaning i v e

  -- an operand that isn't cut is a scalar of a lower level, so it is known
  scalar_known : (i a : ℕ) (v : Vertex) → IsAmong all i → slice_get vs i ≡ Some v → IsAmong v.args a → cut_of vs f pass a ≡ false → IsKnown vs (known_scalar known) f a
  scalar_known i a v m e among out =
      let is_cut : cut_of vs f pass i ≡ true = (q.listed i).0 m in
      let k = scalar_operand f (cut_of vs f pass) v.made v.args a (can (pass_over q) i v e is_cut) among out in
      let b = get_before vs i a v e (below_among i v.args a (ordered i v e) among) in
      let here = q.cuts.within i is_cut in
      let single_f : is_single (f a).shape.space ≡ true =
      single_shape (f a).shape (f a).outcome k.0 k.1 (value_fits columns (rows_of_stores files stores) vs f given.meaning ordered q.readings a b.0 b.1 (ap fault_of k.1)) in
      let single : is_single (shape_at vs a).space ≡ true = ap (λ (x : Shape). is_single x.space) (sym (shape_of a b.0 b.1)) ∙ single_f in
      let class : class_of_cell k.0 ≡ (shape_at vs a).class =
      cell_class (f a).shape.class (f a).outcome k.0 k.1 (value_class columns (rows_of_stores files stores) vs f given.meaning ordered q.readings a b.0 b.1) ∙ ap (λ (x : Shape). x.class) (shape_of a b.0 b.1) in
      let u = computed_under vs made pass roots c given.planned i (subst (λ xs. IsAmong xs i) all_is m) in
      let path : DependsOn vs u.0 a = further vs u.0 i a u.2 (through i a a v e among (itself a)) in
      let n = work_depends vs made pass q.numbered ready.0 ready.1 ready.2.planned u.0 a u.1 path in
      let low : level (shape_at vs a) < pass.level = level_low i a v b.0 e b.1 among is_cut single_f in
      let r = ready.2.lower a (n.0, low, n.1, single_small (shape_at vs a).space single) in
      let cells : r.0.column.cells ≡ k.0 ∷ [] = one_cell (f a).outcome k.0 r.0.column.cells k.1 (given.right.results a r.0 r.1).cells in
      record { cell = k.0; known = ap scalar_of r.1 ∙ ap first_cell cells; is = k.1; class = class; single = single }
    where
      level_low : (i a : ℕ) (v w : Vertex) → slice_get vs i ≡ Some v → slice_get vs a ≡ Some w → IsAmong v.args a → cut_of vs f pass i ≡ true → is_single (f a).shape.space ≡ true → level (shape_at vs a) < pass.level
      level_low i a v w e g among is_cut single =
          let here = q.cuts.within i is_cut in
          let x : Shape = (f i).shape in
          let one : level (f a).shape < level x = lower_levels columns vs f given.meaning i a v e among single (with_rows x.space pass.store here.0) in
          let two : 2 * level x ≤ ranks_in vs f i = rank_over vs f i v e in
          let three : ranks_in vs f i ≤ rank_before pass + 1 = here.1.1 in
          let four : rank_before pass + 1 ≡ 2 * pass.level = q.behind in
          let five : level (f a).shape ≡ level (shape_at vs a) = ap level (shape_of a w g) in
          omega (arith, one, two, three, four, five)

  -- in the blocks of the pass a scan that is computed or due has the defined carries
  defined : (n i : ℕ) → store_of (f i).shape.space ≡ Some pass.store
      → (cut_of vs f pass i ≡ true) ⊎ IsDueOf pass.store vs f (chain_ranks_in f) (needed_of vs roots) (rank_before pass + 1) c i → carry_of (pass_over q) n i ≡ defined_carry vs f files stores i n
  defined n i here h =
      pass_carries columns (rows_of_stores files stores) vs f (ranks_in vs f) (chain_ranks_in f) roots (needed_of vs roots) q.gather pass.store (rank_before pass) c (cut_of vs f pass) q.cuts (pass_blocks d.store files) n i h
      ∙ sym (ap (λ o. carry_over vs f files stores o i n) here ∙ ap (λ o. carry_behind vs f files pass.store o i n) given.there)

  -- the carries of a scan that is computed come with a lower level, so they are known
  pub carry_known : (n i : ℕ) → IsAmong all i → is_scan_at (slice_get vs i) ≡ true → carry known i n ≡ carry_of (pass_over q) n i
  carry_known n i m scans =
      let is_cut : cut_of vs f pass i ≡ true = (q.listed i).0 m in
      let here = q.cuts.within i is_cut in
      let v = needed_there vs made roots given.planned.there i here.1.0 in
      let x : Shape = (f i).shape in
      let rows : store_of (shape_at vs i).space ≡ Some pass.store = ap (λ (y : Shape). store_of y.space) (sym (shape_of i v.0 v.1)) ∙ here.0 in
      let low : (shape_at vs i).chain < pass.level =
      (
      let one : level x ≡ x.chain + 1 = level_of_rows x pass.store here.0 in
      let two : 2 * level x ≤ ranks_in vs f i = rank_over vs f i v.0 v.1 in
      let three : ranks_in vs f i ≤ rank_before pass + 1 = here.1.1 in
      let four : rank_before pass + 1 ≡ 2 * pass.level = q.behind in
      let five : x.chain ≡ (shape_at vs i).chain = ap (λ (y : Shape). y.chain) (shape_of i v.0 v.1) in
      omega (arith, one, two, three, four, five)
      ) in
      given.carried i n (here.1.0, scans, rows, low, here.2) ∙ sym (defined n i here.0 (inl is_cut))

  block_there : (block : store.Block) (n : ℕ) → slice_get (store.all_blocks seen files) n ≡ Some block → slice_get (pass_blocks d.store files) n ≡ Some (block_of seen block)
  unfolding pass_blocks
  block_there block n e =
      subst (λ (s : SeenStore). slice_get (map (block_of s) (store.all_blocks s files)) n ≡ Some (block_of seen block)) (sym given.same)
      (slice_get-map (block_of seen) (store.all_blocks seen files) n ∙ ap (option_map (block_of seen)) e)

  pub block_given : (block : store.Block) (n : ℕ) (h : ℕ → Outcome) → slice_get (store.all_blocks seen files) n ≡ Some block → slice_get (outcomes (pass_over q)) n ≡ Some h
      → piece.IsGiven (pass_over q) seen known block n h
  block_given block n h e over = record {
    made = made;
    ascending = subst IsAscending (sym all_is) (computed_ascending vs pass);
    variables = fits;
    over = over;
    records = block_there block n e;
    scalars = scalar_known;
    carries = λ i m scans. carry_known n i m scans;
    classes = λ i x g. fit.carries i n x g;
  }

  pub outcomes_are : length (outcomes (pass_over q)) ≡ length (store.all_blocks seen files)
  unfolding pass_blocks
  outcomes_are =
      over_each vs f (cut_of vs f pass) no_cells (pass_blocks d.store files)
      ∙ (length-map (store.all_blocks d.store files) (block_of d.store) ∙ ap (λ (s : SeenStore). length (store.all_blocks s files)) given.same)

  -- each block of the files is given
  pub blocks_given : (n : ℕ) (block : store.Block) → slice_get (store.all_blocks seen files) n ≡ Some block → (h : ℕ → Outcome) × piece.IsGiven (pass_over q) seen known block n h
  blocks_given n block e =
      let l : n < length (store.all_blocks seen files) = slice_get_within (store.all_blocks seen files) n block e in
      let same = outcomes_are in
      let h = in_list (outcomes (pass_over q)) n (omega (arith, l, same)) in
      (h.0, block_given block n h.0 e h.1)

  -- ---- what the pass's answer says of the defined values

  -- carries that come with the pass are the defined ones, and none that was known before is in their way
  pub due_carries : (p : Option Fault) (n i : ℕ) → IsCarried vs pass p i → carry_of (pass_over q) n i ≡ defined_carry vs f files stores i n
  due_carries p n i h =
      let v = work_there vs roots c pass given.planned made i h.0 in
      let readings = are_readings files stores vs columns given.stored in
      let due = due_of columns (rows_of_stores files stores) vs f made q.numbered readings given.meaning roots c pass given.planned i v.0 v.1 h.0 h.1 h.2 in
      defined n i due.2 (inr due)

  pub old_carries : (p : Option Fault) (n i : ℕ) (x : Seen) → IsCarried vs pass p i → carry known i n ≡ Some x → carry_of (pass_over q) n i ≡ Some x
  old_carries p n i x h e = due_carries p n i h ∙ given.right.carries i n x e

  pub own_work : (x : Option Fault) → IsLeast (own_in vs f) (λ i. IsWorkOf pass.store vs f (ranks_in vs f) (needed_of vs roots) (rank_before pass + 1) c i ⊎ IsEndOf pass.store vs f (ranks_in vs f) (needed_of vs roots) (rank_before pass + 1) c i) x
      → IsLeast (own_in vs f) (IsOwnWork vs f roots c pass) x
  own_work x least =
      subst (λ k. IsLeast (own_in vs f) (λ i. IsWorkOf pass.store vs f (ranks_in vs f) (needed_of vs roots) k c i ⊎ IsEndOf pass.store vs f (ranks_in vs f) (needed_of vs roots) k c i) x) q.behind least
