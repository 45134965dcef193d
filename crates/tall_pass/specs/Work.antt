-- What a pass computes block by block, which of its nodes have a result and in which way it is told, and the pass over the
-- blocks of a datastore's files, as crates/tall_piece asks for it.
use Rattle.std.specs.Prelude.{◌≡◌, ◌↔◌, ◌-◌, ◌+◌, ◌*◌, ◌&&◌, ◌==◌, ◌⊎◌, if◌then◌else◌, ℕ, Bool, true, Option, None, Some, List, [], ◌∷◌, ◌++◌, map, slice_get}
use Rattle.std.specs.List.{filter, flat_map}
use Rattle.tall_outside.specs.Shelf.{Files}
use Rattle.tall_value.specs.declared.functions.Scan.{Scan}
use Rattle.tall_semantics.specs.Operations.{reduce, scan, head, tail, distinct, group, Made, operation}
use Rattle.tall_semantics.specs.Faults.{Fault}
use Rattle.tall_semantics.specs.Spaces.{store_of}
use Rattle.tall_semantics.specs.Shapes.{level}
use Rattle.tall_semantics.specs.ShapesInOrder.{shape_at}
use Rattle.tall_semantics.specs.Talls.{Columns, Tall}
use Rattle.tall_semantics.specs.Deferred.{Vertex, IsAmong, own_in}
use Rattle.tall_semantics.specs.Least.{IsLeast}
use Rattle.tall_semantics.specs.Levels.{UpTo}
use Rattle.tall_semantics.specs.Numbered.{AreNumbered, IsGather, nodes_by}
use Rattle.tall_semantics.specs.Plans.{args_of, is_store, needed_of}
use Rattle.tall_semantics.specs.Ranks.{ranks_in}
use Rattle.tall_semantics.specs.RowsOfSpaces.{AreColumns}
use Rattle.tall_semantics.specs.ScanLevels.{AreScans, chain_ranks_in, scans_by}
use Rattle.tall_blocks.specs.Blocks.{AreAscending, AreBlocksOf, AreTables}
use Rattle.tall_blocks.specs.LevelWork.{is_no_store}
use Rattle.tall_blocks.specs.PassWork.{AreScalarsLower, IsCutFor, IsEndOf, cut_under}
use Rattle.tall_stored.specs.StoredColumns.{Store, rows_of_stores}
use Rattle.tall_part.specs.declared.operation.EndOperation.{EndOperation}
use Rattle.tall_part.specs.declared.operation.EndOperation.TheVariants as end
use Rattle.tall_piece.specs.declared.wanted.Wanted.{Wanted}
use Rattle.tall_piece.specs.declared.wanted.Way.{Way}
use Rattle.tall_piece.specs.declared.wanted.Way.TheVariants as way
use Rattle.tall_piece.specs.Passes.{AreWanted, IsEndWanted, IsEndWay, PassOver}
use Rattle.tall_plan.specs.declared.passes.Pass.{Pass}
use Rattle.tall_pass.specs.PassPlans.{IsCarried, IsPassBelow, IsSmall}
use Rattle.tall_pass.specs.Told.{pass_blocks}

-- the pass is one of a plan, below some candidate
abbrev pub IsOfPlan : List Vertex → Pass → Type 0
IsOfPlan vs pass = (roots : List ℕ) × (c : Option Fault) × IsPassBelow vs roots c pass

-- ---- what is computed block by block

abbrev pub has_rows_of : List Vertex → (store : ℕ) → ℕ → Bool
has_rows_of vs s i = is_store s (store_of (shape_at vs i).space)

-- it has the datastore's rows, and its own faults are found at this level
abbrev pub is_own : List Vertex → (store level : ℕ) → ℕ → Bool
is_own vs s k i = has_rows_of vs s i && level (shape_at vs i) == k

-- its own place, else the operands with the datastore's rows
abbrev pub asked_at : List Vertex → (store level : ℕ) → ℕ → List ℕ
asked_at vs s k i = if is_own vs s k i then i ∷ [] else filter (has_rows_of vs s) (args_of (slice_get vs i))

abbrev pub asked_of : List Vertex → (store level : ℕ) → (work : List ℕ) → List ℕ
asked_of vs s k work = flat_map (asked_at vs s k) work

-- what is asked for, and all with the datastore's rows that it is made of; ascending
abbrev pub computed_of : List Vertex → Pass → List ℕ
computed_of vs pass = filter (has_rows_of vs pass.store) (needed_of vs (asked_of vs pass.store pass.level pass.work.items))

-- ---- what has a result, and in which way it is told

abbrev pub end_operation : Made → Option EndOperation
end_operation (operation (reduce r)) = Some (end.Reduce r)
end_operation (operation (head k)) = Some (end.Head k)
end_operation (operation (tail k)) = Some (end.Tail k)
end_operation (operation distinct) = Some end.Distinct
end_operation (operation (group m part)) = Some (end.Group m)
end_operation made = None

-- one operand is the first and the last
abbrev pub end_over : EndOperation → (args : List ℕ) → Option Way
end_over e [] = None
end_over e (a ∷ []) = Some (way.End e a a)
end_over e (a ∷ b ∷ []) = Some (way.End e a b)
end_over e (a ∷ b ∷ c ∷ args) = None

abbrev pub end_way : Option EndOperation → (args : List ℕ) → Option Way
end_way None args = None
end_way (Some e) args = end_over e args

abbrev pub carries_over : Scan → (args : List ℕ) → Option Way
carries_over s [] = None
carries_over s (a ∷ []) = Some (way.Carries s a)
carries_over s (a ∷ b ∷ args) = None

abbrev pub carries_way : Made → (args : List ℕ) → Option Way
carries_way (operation (scan s)) args = carries_over s args
carries_way made args = None

-- of the work at this level: a value without a datastore's rows comes at the end, and of a scan whose chain is the level come
-- the carries
abbrev pub work_way : List Vertex → (level : ℕ) → ℕ → Option Vertex → Option Way
work_way vs k i None = None
work_way vs k i (Some v) =
    if is_no_store (store_of (shape_at vs i).space) then end_way (end_operation v.made) v.args
    else if (shape_at vs i).chain == k then carries_way v.made v.args
    else None

abbrev pub wanted_as : (i : ℕ) → Way → Wanted
wanted_as i y = record { node = i; way = y }

abbrev pub one_wanted : (i : ℕ) → Option Way → List Wanted
one_wanted i None = []
one_wanted i (Some y) = wanted_as i y ∷ []

abbrev pub wanted_at : List Vertex → (level : ℕ) → ℕ → List Wanted
wanted_at vs k i = one_wanted i (work_way vs k i (slice_get vs i))

abbrev pub rows_wanted : ℕ → Wanted
rows_wanted i = wanted_as i way.Rows

abbrev pub wanted_of : List Vertex → Pass → List Wanted
wanted_of vs pass = flat_map (wanted_at vs pass.level) pass.work.items ++ map rows_wanted pass.collect.items

-- ---- what is wanted are the results and the carries of the pass

-- it is wanted, in such a way
abbrev pub HasWanted : (Way → Type 0) → List Wanted → ℕ → Type 0
HasWanted Is [] i = ⊥
HasWanted Is (w ∷ ws) i = ((w.node ≡ i) × Is w.way) ⊎ HasWanted Is ws i

abbrev pub IsCarriesWay : Way → Type 0
IsCarriesWay (way.End e a b) = ⊥
IsCarriesWay (way.Carries s a) = Unit {0}
IsCarriesWay way.Rows = ⊥

abbrev pub IsRowsWay : Way → Type 0
IsRowsWay (way.End e a b) = ⊥
IsRowsWay (way.Carries s a) = ⊥
IsRowsWay way.Rows = Unit {0}

-- what a node that is wanted is of the pass
abbrev pub IsWantedFor : List Vertex → Pass → (i : ℕ) → Way → Type 0
IsWantedFor vs pass i (way.End e a b) = IsAmong pass.work.items i × IsSmall vs i
IsWantedFor vs pass i (way.Carries s a) = IsCarried vs pass None i
IsWantedFor vs pass i way.Rows = IsAmong pass.collect.items i

abbrev pub AreWantedFor : List Vertex → Pass → List Wanted → Type 0
AreWantedFor vs pass [] = Unit {0}
AreWantedFor vs pass (w ∷ ws) = IsWantedFor vs pass w.node w.way × AreWantedFor vs pass ws

-- what is wanted is a result or has carries that come with the pass, and each such node is wanted
pub record AreAllWanted (vs : List Vertex) (pass : Pass) (ws : List Wanted) : Type 0 where
  pub each : AreWantedFor vs pass ws
  pub ends : (i : ℕ) → IsAmong pass.work.items i → IsSmall vs i → HasWanted IsEndWay ws i
  pub carries : (i : ℕ) → IsCarried vs pass None i → HasWanted IsCarriesWay ws i
  pub rows : (i : ℕ) → IsAmong pass.collect.items i → HasWanted IsRowsWay ws i

-- ---- the pass over the blocks of the files

abbrev pub rank_before : Pass → ℕ
rank_before pass = 2 * pass.level - 1

abbrev pub cut_of : List Vertex → (ℕ → Tall) → Pass → ℕ → Bool
cut_of vs f pass = cut_under pass.store vs f (asked_of vs pass.store pass.level pass.work.items)

-- what is known of a pass over the blocks of the datastore d, where the files have no reading fault
pub record IsOverFiles (files : Files) (stores : List Store) (d : Store) (columns : Columns) (vs : List Vertex) (f : ℕ → Tall) (roots : List ℕ) (c : Option Fault) (pass : Pass) (all : List ℕ) (wanted : List Wanted) : Type 0 where
  pub behind : rank_before pass + 1 ≡ 2 * pass.level
  pub gather : IsGather columns vs f (ranks_in vs f) roots (needed_of vs roots)
  pub least : IsLeast (own_in vs f) (UpTo (nodes_by vs f (ranks_in vs f)) (IsAmong (needed_of vs roots)) (rank_before pass)) c
  pub cuts : IsCutFor pass.store vs f (ranks_in vs f) (chain_ranks_in f) (needed_of vs roots) (rank_before pass + 1) c (cut_of vs f pass)
  pub listed : (i : ℕ) → IsAmong all i ↔ (cut_of vs f pass i ≡ true)
  pub ways : AreWanted pass.store vs f (ranks_in vs f) (chain_ranks_in f) (needed_of vs roots) (rank_before pass + 1) c (cut_of vs f pass) wanted
  pub ends : (i : ℕ) → IsEndOf pass.store vs f (ranks_in vs f) (needed_of vs roots) (rank_before pass + 1) c i → IsEndWanted wanted i
  pub numbered : AreNumbered vs
  pub readings : AreColumns columns (rows_of_stores files stores) vs
  pub scalars : AreScalarsLower vs f (ranks_in vs f)
  pub scans : AreScans vs (scans_by vs f (chain_ranks_in f)) (ranks_in vs f)
  pub of_blocks : AreBlocksOf columns vs (cut_of vs f pass) (pass_blocks d.store files)
  pub tables : AreTables vs (cut_of vs f pass) (pass_blocks d.store files)
  pub ascending : AreAscending (pass_blocks d.store files)

-- the pass as crates/tall_piece has it
abbrev pub pass_over : {files : Files} {stores : List Store} {d : Store} {columns : Columns} {vs : List Vertex} {f : ℕ → Tall} {roots : List ℕ} {c : Option Fault} {pass : Pass} {all : List ℕ} {wanted : List Wanted}
    → IsOverFiles files stores d columns vs f roots c pass all wanted → PassOver vs pass.store all wanted
pass_over {files = files} {stores = stores} {d = d} {columns = columns} {vs = vs} {f = f} {roots = roots} {c = c} {pass = pass} q = record {
  columns = columns;
  of_stores = rows_of_stores files stores;
  f = f;
  levels = ranks_in vs f;
  carried = chain_ranks_in f;
  roots = roots;
  needed = needed_of vs roots;
  before = rank_before pass;
  candidate = c;
  cut = cut_of vs f pass;
  blocks = pass_blocks d.store files;
  gather = q.gather;
  least = q.least;
  cuts = q.cuts;
  listed = q.listed;
  ways = q.ways;
  ends = q.ends;
  numbered = q.numbered;
  readings = q.readings;
  scalars = q.scalars;
  scans = q.scans;
  of_blocks = q.of_blocks;
  tables = q.tables;
  ascending = q.ascending;
}
