-- Worked values of a pass block by block: faults and carries from block to block, what is left out, and what is kept for values
-- that need all rows.
use Rattle.std.specs.Prelude.{◌≡◌, refl, ℕ, ◌+◌, pos, true, false, None, Some, List, [], ◌∷◌, map, take}
use Rattle.tall_value.specs.declared.faults.FaultKind.TheVariants.{Inexact, NanLogical}
use Rattle.tall_value.specs.declared.functions.Method.TheVariants as method
use Rattle.tall_value.specs.declared.functions.Reduction.TheVariants.{Sum, Min, Numel}
use Rattle.tall_value.specs.Columns.{numbered}
use Rattle.tall_semantics.specs.Operations.{reduce, head, tail, distinct, group, keys, counts, values}
use Rattle.tall_semantics.specs.Faults.{fault_at}
use Rattle.tall_semantics.specs.Outcomes.{Outcome, rows, scalar}
use Rattle.tall_semantics.specs.InOrder.{talls_from}
use Rattle.tall_semantics.specs.Talls.{tall}
use Rattle.tall_semantics.specs.Samples.{at, doubles, number, nan}
use Rattle.tall_semantics.specs.GraphSamples.{running}
use Rattle.tall_semantics.specs.Plans.{needed_below, needed_of}
use Rattle.tall_semantics.specs.ShapesInOrder.{shapes_from}
use Rattle.tall_blocks.specs.BlockSamples.{vertices, blocks, value, cut}
use Rattle.tall_blocks.specs.Gathered.{end_outcome}
use Rattle.tall_blocks.specs.LevelWork.{rest_of, earliest}
use Rattle.tall_blocks.specs.Pieces.{pass_blocks, store_blocks, fault_from, carry_in, looked_at}

abbrev hs : List (ℕ → Outcome)
hs = pass_blocks vertices value cut blocks

abbrev work : List ℕ
work = 0 ∷ 1 ∷ 3 ∷ 4 ∷ []

-- ---- faults: y fails in the first block, but behind both blocks the fault is that of l

found_first : fault_from vertices value work None (take 1 hs) ≡ Some (fault_at (at 4 3) (Some 1) Inexact)
unfolding tall talls_from
found_first = refl

found_all : fault_from vertices value work None hs ≡ Some (fault_at (at 2 2) (Some 2) NanLogical)
unfolding tall talls_from
found_all = refl

-- ---- carries of the running sum

carries : map (carry_in vertices value hs 4) (0 ∷ 1 ∷ 2 ∷ []) ≡ Some (number (pos 0)) ∷ Some (number (pos 0)) ∷ None ∷ []
unfolding tall talls_from
carries = refl

-- they are the same in whatever pass, and no other value has any
carries_of_store : map (carry_in vertices value (store_blocks vertices value 0 blocks) 4) (0 ∷ 1 ∷ []) ≡ Some (number (pos 0)) ∷ Some (number (pos 0)) ∷ []
unfolding tall talls_from
carries_of_store = refl

no_carry : carry_in vertices value hs 1 0 ≡ None
unfolding tall talls_from
no_carry = refl

-- without its carry the running sum is left out, and with it what isn't numbered below it
left_out : looked_at vertices (λ i. None) (4 ∷ 3 ∷ 0 ∷ []) ≡ 3 ∷ 0 ∷ []
left_out = refl

nothing_left_out : looked_at vertices (λ i. Some nan) (4 ∷ 3 ∷ 0 ∷ []) ≡ 4 ∷ 3 ∷ 0 ∷ []
nothing_left_out = refl

-- ---- values that need all rows of x, which has 0 and NaN in a block each

sums : map (λ r. end_outcome (at 6 5) value hs (reduce r) (0 ∷ [])) (Sum false false ∷ Sum false true ∷ Min ∷ Numel ∷ []) ≡ scalar nan ∷ scalar (number (pos 0)) ∷ scalar (number (pos 0)) ∷ scalar (number (pos 2)) ∷ []
unfolding tall talls_from
sums = refl

first_row : end_outcome (at 6 5) value hs (head 1) (0 ∷ []) ≡ rows ((1, number (pos 0)) ∷ [])
unfolding tall talls_from
first_row = refl

last_row : end_outcome (at 6 5) value hs (tail 1) (0 ∷ []) ≡ rows ((2, nan) ∷ [])
unfolding tall talls_from
last_row = refl

distinct_rows : end_outcome (at 6 5) value hs distinct (0 ∷ []) ≡ rows ((1, number (pos 0)) ∷ (2, nan) ∷ [])
unfolding tall talls_from
distinct_rows = refl

groups : map (λ part. end_outcome (at 6 5) value hs (group method.Sum part) (0 ∷ 4 ∷ [])) (keys ∷ counts ∷ values ∷ []) ≡ rows (numbered 1 (doubles (Some (pos 0) ∷ None ∷ []))) ∷ rows (numbered 1 (doubles (Some (pos 1) ∷ Some (pos 1) ∷ []))) ∷ rows (numbered 1 (doubles (Some (pos 0) ∷ Some (pos 0) ∷ []))) ∷ []
unfolding tall talls_from
groups = refl

-- ---- what stands in no pass, by level

rests : map (rest_of running (needed_of running (8 ∷ 13 ∷ []))) (0 ∷ 1 ∷ 2 ∷ 3 ∷ []) ≡ (2 ∷ []) ∷ [] ∷ [] ∷ [] ∷ []
unfolding shapes_from needed_below
rests = refl

earliest_of_two : earliest (λ s. Some (fault_at (at (5 + s) 1) None Inexact)) 2 ≡ Some (fault_at (at 5 1) None Inexact)
earliest_of_two = refl
