use Rattle.std.specs.Prelude.{◌≡◌, ◌+◌, ◌↔◌, ℕ, Bool, true, false, List, None, Option, Some, slice_get}
use Rattle.tall_semantics.specs.Faults.{Fault}
use Rattle.tall_semantics.specs.Talls.{Columns, Tall}
use Rattle.tall_semantics.specs.Deferred.{IsAmong, Vertex, fault_in, own_in}
use Rattle.tall_semantics.specs.Chains.{needs_all_rows}
use Rattle.tall_semantics.specs.Operations.{Op, operation}
use Rattle.tall_semantics.specs.Outcomes.{rows}
use Rattle.tall_semantics.specs.Plans.{is_scan}
use Rattle.tall_semantics.specs.Least.{IsBelow, IsLeast}
use Rattle.tall_semantics.specs.Levels.{UpTo}
use Rattle.tall_semantics.specs.Numbered.{AreNumbered, IsGather, nodes_by, number_at}
use Rattle.tall_semantics.specs.RowsOfSpaces.{AreColumns}
use Rattle.tall_blocks.specs.Blocks.{AreAscending, AreBlocksOf, AreTables, Block}
use Rattle.tall_blocks.specs.PassWork.{AreScalarsLower, IsCutFor, IsEndOf, IsWorkOf}
use Rattle.tall_blocks.specs.Gathered.{end_outcome}
use Rattle.tall_blocks.specs.Pieces.{fault_from, pass_blocks}
use Rattle.tall_blocks.specs.SeenFaults.{IsBlockwise}
use Rattle.std.proofs.Common.{sym, subst, ◌∙◌}
use Rattle.tall_blocks.specs.Blocks.{all_rows, block_columns}
use Rattle.tall_blocks.specs.ValuesOver.{no_cells, rows_of_blocks}
use Rattle.tall_blocks.proofs.BlockLaws.{over_others}
use Rattle.tall_blocks.proofs.PassLaws.{can, rows_of_value, whole}
use Rattle.tall_blocks.proofs.PassWorkLaws.{below_more, level_of_store, level_work, level_found, cut_no_fault, level_ends, scans_free}
use Rattle.tall_semantics.proofs.Basics.{inside}
use Rattle.tall_semantics.proofs.OriginLaws.{get_before, below_among}
use Rattle.tall_blocks.proofs.EndOperandLaws.{end_operands}
use Rattle.tall_blocks.proofs.GatheredLaws.{end_by_blocks}
use Rattle.tall_blocks.proofs.PassCarryLaws.{pass_carries}
use Rattle.tall_blocks.proofs.PieceLaws.{found_all}
use Rattle.tall_blocks.proofs.levels.a_pass_finds_the_fault_of_its_level.Goals as goal

module _ (columns : Columns) (of_stores : ℕ → List ℕ) (vs : List Vertex) (f : ℕ → Tall) (levels carried : ℕ → ℕ) (roots needed : List ℕ) (gather : IsGather columns vs f levels roots needed)
    (store k : ℕ) (c : Option Fault) (candidate : IsLeast (own_in vs f) (UpTo (nodes_by vs f levels) (IsAmong needed) k) c) (cut : ℕ → Bool) (cuts : IsCutFor store vs f levels carried needed (k + 1) c cut) where
  as_pass : AreNumbered vs → AreColumns columns of_stores vs → AreScalarsLower vs f levels → (bs : List Block) → AreBlocksOf columns vs cut bs → AreTables vs cut bs → AreAscending bs → IsBlockwise columns of_stores vs f store cut bs
  as_pass numbered readings lower bs blocks tables ascending = record {
    meaning = gather.meaning;
    ordered = gather.ordered;
    numbered = numbered;
    readings = readings;
    of_store = level_of_store columns of_stores vs f levels carried roots needed gather store k c candidate cut cuts readings lower;
    blocks = blocks;
    tables = tables;
    ascending = ascending;
  }

  module _ (all : List ℕ) (are : (i : ℕ) → IsAmong all i ↔ (cut i ≡ true)) (numbered : AreNumbered vs) (readings : AreColumns columns of_stores vs) (lower : AreScalarsLower vs f levels) (bs : List Block)
      (blocks : AreBlocksOf columns vs cut bs) (tables : AreTables vs cut bs) (ascending : AreAscending bs) where
    pass : IsBlockwise columns of_stores vs f store cut bs
    pass = as_pass numbered readings lower bs blocks tables ascending

    of_cut : IsLeast (own_in vs f) (IsAmong all) (fault_from vs f all None (pass_blocks vs f cut bs))
    of_cut = found_all columns of_stores vs f store cut bs pass all (level_work columns of_stores vs f levels carried roots needed gather store k c candidate cut cuts all are)

    of_work : IsLeast (own_in vs f) (IsWorkOf store vs f levels needed (k + 1) c) (fault_from vs f all None (pass_blocks vs f cut bs))
    of_work = (level_found columns of_stores vs f levels carried roots needed gather store k c candidate cut cuts all are (fault_from vs f all None (pass_blocks vs f cut bs))).0 of_cut

pub returns-clause-blockwise : goal.returns-clause-blockwise
returns-clause-blockwise g = as_pass

pub returns-clause-work : goal.returns-clause-work
returns-clause-work g = level_work

pub returns-clause-found : goal.returns-clause-found
returns-clause-found g = level_found

pub returns-clause-seen : goal.returns-clause-seen
returns-clause-seen g = of_work

pub returns-clause-no_fault : goal.returns-clause-no_fault
returns-clause-no_fault g columns of_stores vs f levels carried roots needed gather store k c candidate cut cuts all are numbered readings lower bs blocks tables ascending =
    let p = pass columns of_stores vs f levels carried roots needed gather store k c candidate cut cuts all are numbered readings lower bs blocks tables ascending in
    cut_no_fault columns of_stores vs f levels carried roots needed gather store k c candidate cut cuts all are (can columns of_stores vs f store cut bs p) numbered (fault_from vs f all None (pass_blocks vs f cut bs))
    (of_cut columns of_stores vs f levels carried roots needed gather store k c candidate cut cuts all are numbered readings lower bs blocks tables ascending)
    (over_others (block_columns (all_rows bs)) columns no_cells vs f cut (λ i. (f i).outcome) (λ i v s a e d q. sym (p.blocks i v s a e d q)) (whole columns of_stores vs f store cut bs p))

pub returns-clause-ends : goal.returns-clause-ends
returns-clause-ends g columns of_stores vs f levels carried roots needed gather store k c candidate cut cuts all are numbered readings lower bs blocks tables ascending ends =
    let p = pass columns of_stores vs f levels carried roots needed gather store k c candidate cut cuts all are numbered readings lower bs blocks tables ascending in
    level_ends columns of_stores vs f levels carried roots needed gather store k c candidate cut cuts all are (can columns of_stores vs f store cut bs p) numbered (fault_from vs f all None (pass_blocks vs f cut bs))
    (of_work columns of_stores vs f levels carried roots needed gather store k c candidate cut cuts all are numbered readings lower bs blocks tables ascending) ends

pub returns-clause-scans : goal.returns-clause-scans
returns-clause-scans g = scans_free

pub returns-clause-carries : goal.returns-clause-carries
returns-clause-carries g = pass_carries

module _ (columns : Columns) (of_stores : ℕ → List ℕ) (vs : List Vertex) (f : ℕ → Tall) (levels carried : ℕ → ℕ) (roots needed : List ℕ) (gather : IsGather columns vs f levels roots needed)
    (store k : ℕ) (c : Option Fault) (candidate : IsLeast (own_in vs f) (UpTo (nodes_by vs f levels) (IsAmong needed) k) c) (cut : ℕ → Bool) (cuts : IsCutFor store vs f levels carried needed (k + 1) c cut)
    (all : List ℕ) (are : (i : ℕ) → IsAmong all i ↔ (cut i ≡ true)) (numbered : AreNumbered vs) (readings : AreColumns columns of_stores vs) (lower : AreScalarsLower vs f levels) (bs : List Block)
    (blocks : AreBlocksOf columns vs cut bs) (tables : AreTables vs cut bs) (ascending : AreAscending bs) where
  the_pass : IsBlockwise columns of_stores vs f store cut bs
  the_pass = as_pass columns of_stores vs f levels carried roots needed gather store k c candidate cut cuts numbered readings lower bs blocks tables ascending

  free : (i : ℕ) → cut i ≡ true → IsBelow (fault_from vs f all None (pass_blocks vs f cut bs)) (number_at (slice_get vs i)) → fault_in f i ≡ None
  free = cut_no_fault columns of_stores vs f levels carried roots needed gather store k c candidate cut cuts all are (can columns of_stores vs f store cut bs the_pass) numbered (fault_from vs f all None (pass_blocks vs f cut bs))
      (of_cut columns of_stores vs f levels carried roots needed gather store k c candidate cut cuts all are numbered readings lower bs blocks tables ascending)
      (over_others (block_columns (all_rows bs)) columns no_cells vs f cut (λ i. (f i).outcome) (λ i v s a e d q. sym (the_pass.blocks i v s a e d q)) (whole columns of_stores vs f store cut bs the_pass))

  of_columns : (i : ℕ) (v : Vertex) → slice_get vs i ≡ Some v → cut i ≡ true → IsBelow (fault_from vs f all None (pass_blocks vs f cut bs)) (number_at (slice_get vs i)) → (f i).outcome ≡ rows (rows_of_blocks (pass_blocks vs f cut bs) i)
  of_columns i v e is_cut below = rows_of_value columns of_stores vs f store cut bs the_pass i v e is_cut (free i is_cut below)

  of_ends : (i : ℕ) (v : Vertex) (op : Op) → IsEndOf store vs f levels needed (k + 1) c i → slice_get vs i ≡ Some v → v.made ≡ operation op → IsBelow (fault_from vs f all None (pass_blocks vs f cut bs)) (number_at (slice_get vs i))
      → (f i).outcome ≡ end_outcome v.at f (pass_blocks vs f cut bs) op v.args
  of_ends i v op end e q below =
      let same : end.1.1.0 ≡ v = inside end.1.1.0 v (sym end.1.1.2 ∙ e) in
      let among : IsAmong v.args end.1.1.1 = subst (λ (w : Vertex). IsAmong w.args end.1.1.1) same end.1.1.3 in
      let w = end_operands columns vs f gather.meaning store i end.1.1.1 v op e q end.1.0 among end.1.1.4 in
      end_by_blocks columns of_stores vs f store cut bs the_pass i v op e q (subst (λ m. needs_all_rows m ≡ true) (sym q) w.0) (subst (λ m. is_scan m ≡ false) (sym q) w.1)
      (λ a m.
      let ca : cut a ≡ true = cuts.ends i a v end e m (w.2 a m) in
      let b = get_before vs i a v e (below_among i v.args a (gather.ordered i v e) m) in
      let before = gather.levelled.operands i a v b.0 e m b.1 in
      (ca, free a ca (below_more (fault_from vs f all None (pass_blocks vs f cut bs)) (number_at (slice_get vs a)) (number_at (slice_get vs i)) before.0 below)))

pub returns-clause-columns : goal.returns-clause-columns
returns-clause-columns g = of_columns

pub returns-clause-results : goal.returns-clause-results
returns-clause-results g = of_ends
