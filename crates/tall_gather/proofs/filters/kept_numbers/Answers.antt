use Rattle.std.specs.Prelude.{get_or}
use Rattle.std.proofs.Common.{arith}
use Rattle.std.proofs.lemmas.Option.{slice_get-get_or}
use Rattle.tall_value.specs.Cells.{seen}
use Rattle.tall_value.specs.Filters.{kept}
use Rattle.tall_gather.proofs.FilterLaws.{kept_all, kept_turn}
use Rattle.tall_gather.proofs.filters.kept_numbers.Goals as goal

pub loop-row-preserved : goal.loop-row-preserved
loop-row-preserved c =
    kept_turn c.args.numbers.now c.args.mask.now.cells c.loop-row.row (get_or c.args.numbers.now c.loop-row.row 0) (seen c.get.result) c.is_true.result (kept c.args.numbers.now c.args.mask.now.cells) c.loop-row.rows.items c.push_if.new.rows.items
    (slice_get-get_or c.args.numbers.now c.loop-row.row 0 (omega arith)) c.get.ensures.cell c.is_true.ensures c.loop-row.invariant c.in_ok-push_if.ensures

pub returns : goal.returns
returns c = kept_all c.args.numbers.now c.args.mask.now.cells c.loop-row.row c.loop-row.rows.items (omega arith) c.loop-row.invariant
