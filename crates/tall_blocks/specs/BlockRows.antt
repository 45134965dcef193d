-- Worked values over blocks. y = 1 ./ l fails at the 0 of the first block, and l = logical(x) only at the NaN of the
-- second, so over all rows the fault of y is that of l, and no fault of its own.
use Rattle.std.specs.Prelude.{◌≡◌, refl, ℕ, pos, false, true, Option, None, Some, List, [], ◌∷◌, map}
use Rattle.tall_value.specs.declared.faults.FaultKind.TheVariants.{Inexact, NanLogical}
use Rattle.tall_value.specs.Columns.{numbered}
use Rattle.tall_semantics.specs.Faults.{Fault, fault_at, least_fault}
use Rattle.tall_semantics.specs.Outcomes.{Outcome, rows, scalar}
use Rattle.tall_semantics.specs.Talls.{tall}
use Rattle.tall_semantics.specs.Deferred.{own_in}
use Rattle.tall_semantics.specs.InOrder.{talls_from}
use Rattle.tall_semantics.specs.Numbered.{levels_in}
use Rattle.tall_semantics.specs.Plans.{needed_below}
use Rattle.tall_semantics.specs.Samples.{at, doubles, number}
use Rattle.tall_blocks.specs.Blocks.{all_rows}
use Rattle.tall_blocks.specs.PassWork.{cut_at, cut_under}
use Rattle.tall_blocks.specs.ValuesOver.{no_cells, value_over, block_outcomes, rows_of_blocks}
use Rattle.tall_blocks.specs.BlockSamples.{vertices, blocks, value, cut, over_first, behind_first, over_second}

abbrev own : (ℕ → Outcome) → List (Option Fault)
own h = map (own_in vertices (value_over value h)) (0 ∷ 1 ∷ 3 ∷ 4 ∷ [])

rows_in_order : all_rows blocks 0 0 ≡ numbered 1 (doubles (Some (pos 0) ∷ None ∷ []))
rows_in_order = refl

-- ---- faults

seen_in_first : own over_first ≡ None ∷ None ∷ Some (fault_at (at 4 3) (Some 1) Inexact) ∷ None ∷ []
unfolding tall talls_from
seen_in_first = refl

-- a fault has its row's number, not its place in the block
seen_in_second : own over_second ≡ None ∷ Some (fault_at (at 2 2) (Some 2) NanLogical) ∷ None ∷ None ∷ []
unfolding tall talls_from
seen_in_second = refl

own_of_all : map (own_in vertices value) (0 ∷ 1 ∷ 3 ∷ 4 ∷ []) ≡ None ∷ Some (fault_at (at 2 2) (Some 2) NanLogical) ∷ None ∷ None ∷ []
unfolding tall talls_from
own_of_all = refl

least_of_seen : least_fault (least_fault (own over_first) ∷ least_fault (own over_second) ∷ []) ≡ least_fault (map (own_in vertices value) (0 ∷ 1 ∷ 3 ∷ 4 ∷ []))
unfolding tall talls_from
least_of_seen = refl

-- ---- values

-- the constant is the same over each block
known_whole : map over_second (2 ∷ []) ≡ scalar (number (pos 1)) ∷ []
unfolding tall talls_from
known_whole = refl

-- the running sum of the second block goes on behind the 0 of the first
carried : behind_first 4 ≡ number (pos 0) ∷ []
unfolding tall talls_from
carried = refl

sums_of_blocks : rows_of_blocks (block_outcomes vertices value cut no_cells blocks) 4 ≡ numbered 1 (doubles (Some (pos 0) ∷ None ∷ []))
unfolding tall talls_from
sums_of_blocks = refl

sums_of_all : (value 4).outcome ≡ rows (numbered 1 (doubles (Some (pos 0) ∷ None ∷ [])))
unfolding tall talls_from
sums_of_all = refl

-- ---- what is cut

abbrev places : List ℕ
places = 0 ∷ 1 ∷ 2 ∷ 3 ∷ 4 ∷ []

-- the pass of level 1 with no candidate computes x, l and y, but not the running sum, of level 2; that pass computes all
first_pass : map (cut_at 0 vertices value (levels_in value) places 1 None) places ≡ true ∷ true ∷ false ∷ true ∷ false ∷ []
unfolding tall talls_from
first_pass = refl

second_pass : map (cut_at 0 vertices value (levels_in value) places 2 None) places ≡ true ∷ true ∷ false ∷ true ∷ true ∷ []
unfolding tall talls_from
second_pass = refl

-- of what is needed, and numbered below the candidate; of another datastore nothing
second_pass_of_few : map (cut_at 0 vertices value (levels_in value) (4 ∷ 0 ∷ []) 2 None) places ≡ true ∷ false ∷ false ∷ false ∷ true ∷ []
unfolding tall talls_from
second_pass_of_few = refl

second_pass_below_a_candidate : map (cut_at 0 vertices value (levels_in value) places 2 (Some (fault_at (at 4 3) (Some 1) Inexact))) places ≡ true ∷ true ∷ false ∷ false ∷ false ∷ []
unfolding tall talls_from
second_pass_below_a_candidate = refl

pass_of_another : map (cut_at 1 vertices value (levels_in value) places 2 None) places ≡ false ∷ false ∷ false ∷ false ∷ false ∷ []
unfolding tall talls_from
pass_of_another = refl

-- what y alone needs
under_one : map (cut_under 0 vertices value (3 ∷ [])) places ≡ true ∷ true ∷ false ∷ true ∷ false ∷ []
unfolding tall talls_from needed_below
under_one = refl
