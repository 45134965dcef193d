-- What the blocks of a scan go on from: the fold of the rows before each block. With it a block's rows are scanned by
-- themselves, so a scan takes one pass for its carries and a later one for its rows.
use Rattle.std.specs.Prelude.{pos, Option, None, Some, Result, Ok, Err, List, [], ◌∷◌, ◌++◌, map}
use Rattle.std.specs.List.{filter_map}
use Rattle.tall_int.specs.Sums.{clamped_sum}
use Rattle.tall_value.specs.declared.class.Kind.{Kind}
use Rattle.tall_value.specs.declared.class.Kind.TheVariants.{Integer}
use Rattle.tall_value.specs.declared.functions.Scan.{Scan}
use Rattle.tall_value.specs.declared.functions.Scan.TheVariants.{CumSum, CumMin, CumMax}
use Rattle.tall_value.specs.Cells.{Seen, whole, amount}
use Rattle.tall_value.specs.Classes.{least, greatest}
use Rattle.tall_value.specs.Groups.{or_nan}
use Rattle.tall_value.specs.Reductions.{or_cell, present, exact_total, lesser, greater, folded}

-- the fold of some rows of a column of a kind; over no rows the cell that changes nothing. There is none where a sum of
-- doubles is above 2^53 in magnitude
abbrev pub fold_of : Scan → Kind → List Seen → Option Seen
fold_of CumSum (Integer k) cs = Some (whole k (clamped_sum (least k) (greatest k) (pos 0) (filter_map amount cs)))
fold_of CumSum a cs = elim (exact_total cs) [ Ok c ↦ Some c | Err e ↦ None ]
fold_of CumMin (Integer k) cs = Some (or_cell (whole k (greatest k)) (folded lesser cs))
fold_of CumMin a cs = Some (or_nan (folded lesser (present cs)))
fold_of CumMax (Integer k) cs = Some (or_cell (whole k (least k)) (folded greater cs))
fold_of CumMax a cs = Some (or_nan (folded greater (present cs)))

-- from the first one that is missing on, all are missing
abbrev pub while_there : Option Seen → List (Option Seen) → List (Option Seen)
while_there (Some c) rest = Some c ∷ rest
while_there None rest = None ∷ map (λ o. None) rest

-- the carry of each block, of which `before` are the cells so far
abbrev pub carries_behind : Scan → Kind → (before : List Seen) → (blocks : List (List Seen)) → List (Option Seen)
carries_behind s a before [] = []
carries_behind s a before (b ∷ bs) = while_there (fold_of s a before) (carries_behind s a (before ++ b) bs)

-- a carry is missing where a fold before the block or before an earlier one is out of range, since the scan has its first
-- fault in an earlier block then
abbrev pub carries_of : Scan → Kind → (blocks : List (List Seen)) → List (Option Seen)
carries_of s a blocks = carries_behind s a [] blocks
