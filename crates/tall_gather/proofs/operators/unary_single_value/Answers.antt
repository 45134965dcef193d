use Rattle.std.specs.Prelude.{Err, [], ◌∷◌, ◌≡◌, true}
use Rattle.std.proofs.Common.{ap, sym, ◌∙◌}
use Rattle.tall_value.specs.Cells.{seen}
use Rattle.tall_value.specs.Reductions.{or_fault}
use Rattle.tall_column.proofs.ClassLemmas.{class_of_one}
use Rattle.tall_semantics.specs.Operations.{unary}
use Rattle.tall_semantics.specs.Outcomes.{alone, scalar}
use Rattle.tall_semantics.specs.ShapesInOrder.{shape_at}
use Rattle.tall_semantics.specs.Spaces.{is_single}
use Rattle.tall_block.specs.OfBlocks.{vertex_over}
use Rattle.tall_block.proofs.OperandLaws.{unary_taken}
use Rattle.tall_gather.specs.Smalls.{found_in}
use Rattle.tall_gather.proofs.OperatorLaws.{single_told, unary_scalar, unary_space}
use Rattle.tall_gather.proofs.operators.unary_single_value.Goals as goal

pub single_value-requires-clause-single : goal.single_value-requires-clause-single
single_value-requires-clause-single c = ap is_single (sym (unary_space c.args.graph.now c.keeps_its_rules.ensures.made c.args.n c.args.a c.args.op c.requires.node)) ∙ c.requires.single

pub single_value-requires-clause-class : goal.single_value-requires-clause-class
single_value-requires-clause-class c =
    class_of_one c.args.op (shape_at c.args.graph.now c.args.a).class (shape_at c.args.graph.now c.args.n).class (seen c.get.result) (seen c.in-Ok.cell) (unary_taken c.args.graph.now c.keeps_its_rules.ensures.made c.args.n c.args.a c.args.op c.requires.node) (c.get.ensures.class ∙ c.requires.fit.class) (sym c.in-Ok.ensures)

pub returns-in-Ok-clause-told : goal.returns-in-Ok-clause-told
returns-in-Ok-clause-told c columns f computed shows =
    let v = vertex_over c.requires.node.0 (unary c.args.op) (c.args.a ∷ []) in
    let one : is_single (shape_at c.args.graph.now c.args.n).space ≡ true = ap is_single (sym (unary_space c.args.graph.now c.keeps_its_rules.ensures.made c.args.n c.args.a c.args.op c.requires.node)) ∙ c.requires.single in
    single_told columns c.args.graph.now f computed c.keeps_its_rules.ensures.made c.keeps_its_rules.ensures.ordered c.args.n v (scalar (seen c.in-Ok.cell)) c.single_value.result c.requires.rest c.requires.node.1 one
    (unary_scalar columns c.args.graph.now f computed c.keeps_its_rules.ensures.made c.keeps_its_rules.ensures.ordered c.args.n c.args.a c.args.op c.requires.node (found_in c.args.x.now) (seen c.get.result) c.requires.single shows c.get.ensures.cell ∙ ap (λ r. alone c.requires.node.0 (or_fault r)) (sym c.in-Ok.ensures))
    c.single_value.ensures.told

pub returns-in-Err-clause-told : goal.returns-in-Err-clause-told
returns-in-Err-clause-told c columns f computed shows =
    let v = vertex_over c.requires.node.0 (unary c.args.op) (c.args.a ∷ []) in
    let one : is_single (shape_at c.args.graph.now c.args.n).space ≡ true = ap is_single (sym (unary_space c.args.graph.now c.keeps_its_rules.ensures.made c.args.n c.args.a c.args.op c.requires.node)) ∙ c.requires.single in
    single_told columns c.args.graph.now f computed c.keeps_its_rules.ensures.made c.keeps_its_rules.ensures.ordered c.args.n v (alone c.requires.node.0 (or_fault (Err c.in-Err.fault))) c.single_fault.result c.requires.rest c.requires.node.1 one
    (unary_scalar columns c.args.graph.now f computed c.keeps_its_rules.ensures.made c.keeps_its_rules.ensures.ordered c.args.n c.args.a c.args.op c.requires.node (found_in c.args.x.now) (seen c.get.result) c.requires.single shows c.get.ensures.cell ∙ ap (λ r. alone c.requires.node.0 (or_fault r)) (sym c.in-Err.ensures))
    (c.single_fault.ensures.told v c.requires.node.1)
