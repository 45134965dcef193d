use Rattle.std.specs.Prelude.{[]}
use Rattle.std.proofs.Common.{ap, sym, ◌∙◌}
use Rattle.tall_value.specs.Cells.{seen}
use Rattle.tall_value.specs.OwnedCells.{owned_seen}
use Rattle.tall_dense.specs.Columns.{class_of_cell}
use Rattle.tall_semantics.specs.Operations.{constant}
use Rattle.tall_semantics.specs.Outcomes.{scalar}
use Rattle.tall_block.specs.OfBlocks.{vertex_over}
use Rattle.tall_gather.proofs.NodeLaws.{own_alone}
use Rattle.tall_gather.proofs.OperatorLaws.{constant_is, single_told}
use Rattle.tall_gather.proofs.operators.constant_value.Goals as goal

pub single_value-requires-clause-single : goal.single_value-requires-clause-single
single_value-requires-clause-single c = (constant_is c.args.graph.now c.keeps_its_rules.ensures.made c.args.n (owned_seen c.args.cell.now) c.requires.node).single_is

pub single_value-requires-clause-class : goal.single_value-requires-clause-class
single_value-requires-clause-class c = ap class_of_cell c.cell.ensures ∙ (constant_is c.args.graph.now c.keeps_its_rules.ensures.made c.args.n (owned_seen c.args.cell.now) c.requires.node).class_is

pub returns-clause-told : goal.returns-clause-told
returns-clause-told c columns f computed =
    single_told columns c.args.graph.now f computed c.keeps_its_rules.ensures.made c.keeps_its_rules.ensures.ordered c.args.n (vertex_over c.requires.node.0 (constant (owned_seen c.args.cell.now)) []) (scalar (seen c.cell.result)) c.single_value.result c.requires.rest c.requires.node.1
    (constant_is c.args.graph.now c.keeps_its_rules.ensures.made c.args.n (owned_seen c.args.cell.now) c.requires.node).single_is
    (own_alone columns c.args.graph.now f computed c.keeps_its_rules.ensures.made c.keeps_its_rules.ensures.ordered c.args.n (constant (owned_seen c.args.cell.now)) c.requires.node ∙ ap scalar (sym c.cell.ensures)) c.single_value.ensures.told
