use Rattle.std.specs.Prelude.{◌≡◌, refl, [], ◌∷◌, Some, option_copied}
use Rattle.std.proofs.Common.{ap, sym, ◌∙◌, inl}
use Rattle.tall_semantics.specs.Operations.{unary}
use Rattle.tall_block.specs.OfBlocks.{column_at, vertex_over}
use Rattle.tall_block.proofs.ValueLaws.{column_shown, is_cut, not_there, of_block, unary_operand, value_led, value_short, value_told}
use Rattle.tall_block.proofs.values.unary_at.Goals as goal

pub returns-in-Some-clause-led : goal.returns-in-Some-clause-led
returns-in-Some-clause-led c =
    value_led c.args.graph.now c.args.table.now c.args.made.now c.args.n c.unary_value.result c.args.a c.value_from.result c.value_from.ensures c.in-Some.x.now (sym c.column.ensures ∙ ap option_copied c.in-Some.is)
    (vertex_over c.requires.node.0 (unary c.args.op) (c.args.a ∷ [])) c.requires.node.1 (inl refl)

pub returns-in-Some-clause-tells : goal.returns-in-Some-clause-tells
returns-in-Some-clause-tells c = λ scalars carries first work columns so_far f cut h ready at e.
    let x_is : column_at c.args.graph.now c.args.table.now c.args.made.now c.args.a ≡ Some c.in-Some.x.now = sym c.column.ensures ∙ ap option_copied c.in-Some.is in
    value_told c.args.graph.now c.args.table.now c.args.made.now at h c.args.n c.unary_value.result c.args.a c.value_from.result c.value_from.ensures
    (c.unary_value.ensures.rows columns so_far f cut h (of_block ready) (is_cut ready) (column_shown ready c.requires.columns c.args.a (vertex_over at (unary c.args.op) (c.args.a ∷ [])) c.in-Some.x.now e (inl refl) x_is, tt) at e)

pub returns-in-None-clause-tells : goal.returns-in-None-clause-tells
returns-in-None-clause-tells c = λ scalars carries first work columns so_far f cut h ready at e.
    not_there c.args.graph.now c.args.table.now c.args.made.now c.args.a (sym c.column.ensures ∙ ap option_copied c.in-None.is) (unary_operand ready c.args.a c.args.op at e)

pub returns-in-Some-clause-height : goal.returns-in-Some-clause-height
returns-in-Some-clause-height c = value_short c.unary_value.result c.args.a c.value_from.result _ _ c.value_from.ensures c.unary_value.ensures.height (c.requires.heights c.args.a c.in-Some.x.now (sym c.column.ensures ∙ ap option_copied c.in-Some.is))
