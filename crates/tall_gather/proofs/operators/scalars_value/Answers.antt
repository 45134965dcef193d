use Rattle.std.specs.Prelude.{Err, [], ◌∷◌, ◌≡◌, true}
use Rattle.std.proofs.Common.{ap, sym, ◌∙◌}
use Rattle.tall_value.specs.Cells.{seen}
use Rattle.tall_value.specs.Reductions.{or_fault}
use Rattle.tall_column.proofs.ClassLemmas.{class_of_two}
use Rattle.tall_semantics.specs.Operations.{binary}
use Rattle.tall_semantics.specs.Outcomes.{alone, scalar}
use Rattle.tall_semantics.specs.ShapesInOrder.{shape_at}
use Rattle.tall_semantics.specs.Spaces.{is_single}
use Rattle.tall_block.specs.OfBlocks.{vertex_over}
use Rattle.tall_block.proofs.OperandLaws.{binary_taken}
use Rattle.tall_gather.specs.Smalls.{found_in}
use Rattle.tall_gather.proofs.OperatorLaws.{binary_scalars, binary_spaces, single_told}
use Rattle.tall_gather.proofs.operators.scalars_value.Goals as goal

pub single_value-requires-clause-single : goal.single_value-requires-clause-single
single_value-requires-clause-single c = (binary_spaces c.args.graph.now c.keeps_its_rules.ensures.made c.args.n c.args.a c.args.b c.args.op c.requires.node).neither c.requires.left c.requires.right

pub single_value-requires-clause-class : goal.single_value-requires-clause-class
single_value-requires-clause-class c =
    class_of_two c.args.op (shape_at c.args.graph.now c.args.a).class (shape_at c.args.graph.now c.args.b).class (shape_at c.args.graph.now c.args.n).class (is_single (shape_at c.args.graph.now c.args.a).space) (is_single (shape_at c.args.graph.now c.args.b).space) (seen c.get.result) (seen c.get-2.result) (seen c.in-Ok.cell)
    (binary_taken c.args.graph.now c.keeps_its_rules.ensures.made c.args.n c.args.a c.args.b c.args.op c.requires.node) (c.get.ensures.class ∙ c.requires.left_fit.class) (c.get-2.ensures.class ∙ c.requires.right_fit.class) (sym c.in-Ok.ensures)

pub returns-in-Ok-clause-told : goal.returns-in-Ok-clause-told
returns-in-Ok-clause-told c columns f computed left right =
    let v = vertex_over c.requires.node.0 (binary c.args.op) (c.args.a ∷ c.args.b ∷ []) in
    let one : is_single (shape_at c.args.graph.now c.args.n).space ≡ true = (binary_spaces c.args.graph.now c.keeps_its_rules.ensures.made c.args.n c.args.a c.args.b c.args.op c.requires.node).neither c.requires.left c.requires.right in
    single_told columns c.args.graph.now f computed c.keeps_its_rules.ensures.made c.keeps_its_rules.ensures.ordered c.args.n v (scalar (seen c.in-Ok.cell)) c.single_value.result c.requires.rest c.requires.node.1 one
    (binary_scalars columns c.args.graph.now f computed c.keeps_its_rules.ensures.made c.keeps_its_rules.ensures.ordered c.args.n c.args.a c.args.b c.args.op c.requires.node (found_in c.args.x.now) (found_in c.args.y.now) (seen c.get.result) (seen c.get-2.result) c.requires.left c.requires.right left right c.get.ensures.cell c.get-2.ensures.cell
    ∙ ap (λ r. alone c.requires.node.0 (or_fault r)) (sym c.in-Ok.ensures))
    c.single_value.ensures.told

pub returns-in-Err-clause-told : goal.returns-in-Err-clause-told
returns-in-Err-clause-told c columns f computed left right =
    let v = vertex_over c.requires.node.0 (binary c.args.op) (c.args.a ∷ c.args.b ∷ []) in
    let one : is_single (shape_at c.args.graph.now c.args.n).space ≡ true = (binary_spaces c.args.graph.now c.keeps_its_rules.ensures.made c.args.n c.args.a c.args.b c.args.op c.requires.node).neither c.requires.left c.requires.right in
    single_told columns c.args.graph.now f computed c.keeps_its_rules.ensures.made c.keeps_its_rules.ensures.ordered c.args.n v (alone c.requires.node.0 (or_fault (Err c.in-Err.fault))) c.single_fault.result c.requires.rest c.requires.node.1 one
    (binary_scalars columns c.args.graph.now f computed c.keeps_its_rules.ensures.made c.keeps_its_rules.ensures.ordered c.args.n c.args.a c.args.b c.args.op c.requires.node (found_in c.args.x.now) (found_in c.args.y.now) (seen c.get.result) (seen c.get-2.result) c.requires.left c.requires.right left right c.get.ensures.cell c.get-2.ensures.cell
    ∙ ap (λ r. alone c.requires.node.0 (or_fault r)) (sym c.in-Err.ensures))
    (c.single_fault.ensures.told v c.requires.node.1)
