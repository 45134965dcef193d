use Rattle.std.specs.Prelude.{option_map}
use Rattle.tall_semantics.specs.Faults.{fault_seen}
use Rattle.tall_piece.proofs.GivenLaws.{parts_fit, right_piece}
use Rattle.tall_piece.proofs.pieces.table_piece.Goals as goal

pub returns-clause-fits : goal.returns-clause-fits
returns-clause-fits c = parts_fit c.args.graph.now c.args.table.now c.in_ok-values.values.columns c.args.first_row c.args.rows c.args.wanted.now c.in_ok-parts.parts.items c.in_ok-parts.ensures

pub returns-clause-right : goal.returns-clause-right
returns-clause-right c = right_piece c.args.graph.now c.args.table.now c.in_ok-values.values.columns c.args.first_row c.args.rows c.args.all.now c.args.wanted.now c.args.known.now c.args.place (option_map fault_seen c.in_ok-values.values.fault)
    c.in_ok-parts.parts.items c.in_ok-values.ensures.values c.in_ok-parts.ensures
