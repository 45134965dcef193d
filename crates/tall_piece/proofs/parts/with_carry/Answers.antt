use Rattle.std.specs.Prelude.{option_map}
use Rattle.std.proofs.Common.{ap}
use Rattle.tall_value.specs.Cells.{seen}
use Rattle.tall_piece.proofs.JoinLaws.{carry_cell_class, one_with_carry_ok}
use Rattle.tall_piece.proofs.parts.with_carry.Goals as goal

pub with_cell-requires : goal.with_cell-requires
with_cell-requires c = carry_cell_class c.args.next.now c.args.cells (option_map seen c.cell.result) (seen c.in-Some.cell) c.requires c.cell.ensures (ap (option_map seen) c.in-Some.is)

pub returns-in-Some : goal.returns-in-Some
returns-in-Some c = one_with_carry_ok c.args.next.now c.args.cells (option_map seen c.cell.result) (seen c.in-Some.cell) c.cell.ensures (ap (option_map seen) c.in-Some.is) c.with_cell.result c.with_cell.ensures
