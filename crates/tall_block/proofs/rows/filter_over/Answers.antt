use Rattle.std.specs.Prelude.{length}
use Rattle.std.proofs.Common.{arith}
use Rattle.tall_block.proofs.Heights.{filtered_short, sliced_short}
use Rattle.tall_block.proofs.Operators.{filter_told}
use Rattle.tall_block.proofs.rows.filter_over.Goals as goal

pub returns-then-len-clause-rows : goal.returns-then-len-clause-rows
returns-then-len-clause-rows c = filter_told c.filter.result c.args.a.now c.args.mask.now c.filter.ensures

pub returns-then-len-clause-height : goal.returns-then-len-clause-height
returns-then-len-clause-height c = filtered_short c.filter.result c.args.a.now c.args.mask.now (length c.args.a.now.cells) c.filter.ensures (omega (arith))

pub returns-clause-height : goal.returns-clause-height
returns-clause-height c = filtered_short c.filter-4.result c.in_ok-slice.field-0 c.in_ok-slice-2.field-0 (length c.args.a.now.cells) c.filter-4.ensures (sliced_short c.args.a.now c.in_ok-slice.field-0 _ c.in_ok-slice.ensures)
