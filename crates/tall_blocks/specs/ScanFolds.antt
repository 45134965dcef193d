-- What a pass keeps of the cells so far for the carries of a scan: a fold, whose result is the carry.
use Rattle.std.specs.Prelude.{Bool, true, false, Option, None, Some, Result, Ok, Err}
use Rattle.tall_value.specs.declared.class.Kind.{Kind}
use Rattle.tall_value.specs.declared.class.Kind.TheVariants.{Integer, Logical, Double, Text}
use Rattle.tall_value.specs.declared.faults.FaultKind.{FaultKind}
use Rattle.tall_value.specs.declared.functions.Scan.{Scan}
use Rattle.tall_value.specs.declared.functions.Scan.TheVariants.{CumSum, CumMin, CumMax}
use Rattle.tall_value.specs.Cells.{Seen, whole}
use Rattle.tall_value.specs.Classes.{least, greatest}
use Rattle.tall_value.specs.Groups.{or_nan}
use Rattle.tall_value.specs.Reductions.{or_cell}
use Rattle.tall_blocks.specs.Folds.{Fold, by_parts, class_sum, exact_sum, least_cell, greatest_cell, Kept, total_result}

abbrev pub scan_fold : Scan → Kind → Fold
scan_fold CumSum (Integer k) = class_sum k
scan_fold CumSum a = by_parts exact_sum
scan_fold CumMin a = by_parts least_cell
scan_fold CumMax a = by_parts greatest_cell

-- it passes NaN over; an integer class has none
abbrev pub scan_omits : Scan → Kind → Bool
scan_omits CumSum a = false
scan_omits s (Integer k) = false
scan_omits s a = true

abbrev pub if_exact : Result Seen FaultKind → Option Seen
if_exact (Ok c) = Some c
if_exact (Err e) = None

abbrev pub carry_result : (s : Scan) (a : Kind) → Kept (scan_fold s a) → Option Seen
carry_result CumSum (Integer k) n = Some (whole k n)
carry_result CumSum Logical t = if_exact (total_result t)
carry_result CumSum Double t = if_exact (total_result t)
carry_result CumSum Text t = if_exact (total_result t)
carry_result CumMin (Integer k) o = Some (or_cell (whole k (greatest k)) o)
carry_result CumMin Logical o = Some (or_nan o)
carry_result CumMin Double o = Some (or_nan o)
carry_result CumMin Text o = Some (or_nan o)
carry_result CumMax (Integer k) o = Some (or_cell (whole k (least k)) o)
carry_result CumMax Logical o = Some (or_nan o)
carry_result CumMax Double o = Some (or_nan o)
carry_result CumMax Text o = Some (or_nan o)
