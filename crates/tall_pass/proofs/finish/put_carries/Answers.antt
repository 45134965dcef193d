use Rattle.tall_pass.proofs.PuttingLaws.{cell_more, no_cells}
use Rattle.std.proofs.Common.{refl}
use Rattle.tall_value.specs.Cells.{seen}
use Rattle.tall_pass.proofs.finish.put_carries.Goals as goal

pub loop-block-init : goal.loop-block-init
loop-block-init c = no_cells c.args.node c.args.cells.now c.args.known.now c.args.known.now (λ i. refl) (λ i b. refl)

pub loop-block-preserved : goal.loop-block-preserved
loop-block-preserved c =
    cell_more c.args.node c.loop-block.block c.args.cells.now (seen c.get.result) c.args.known.now c.loop-block.known c.put_carry.new.self c.get.ensures.cell c.get.ensures.class c.loop-block.invariant c.put_carry.ensures.found
    c.in_ok-put_carry.ensures.put
