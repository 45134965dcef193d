use Rattle.std.specs.Prelude.{◌≡◌, refl, [], ◌∷◌, Some, option_copied}
use Rattle.std.proofs.Common.{ap, sym, ◌∙◌, inl, inr}
use Rattle.tall_value.specs.Cells.{seen}
use Rattle.tall_semantics.specs.Operations.{binary}
use Rattle.tall_block.specs.OfBlocks.{column_at, vertex_over}
use Rattle.tall_block.proofs.ValueLaws.{column_shown, is_cut, known_cell, no_column_known, of_block, one_column, scalar_lacks, value_led, value_short, value_told}
use Rattle.tall_block.proofs.values.right_at.Goals as goal

pub scalar_left_value-requires-clause-operand : goal.scalar_left_value-requires-clause-operand
scalar_left_value-requires-clause-operand c = (c.requires.columns c.args.b c.in-Some.y.now (sym c.column.ensures ∙ ap option_copied c.in-Some.is)).0

pub returns-in-Some-scalar_at-clause-led : goal.returns-in-Some-scalar_at-clause-led
returns-in-Some-scalar_at-clause-led c =
    value_led c.args.graph.now c.args.table.now c.args.made.now c.args.n c.scalar_left_value.result c.args.b c.value_from.result c.value_from.ensures c.in-Some.y.now (sym c.column.ensures ∙ ap option_copied c.in-Some.is)
    (vertex_over c.requires.node.0 (binary c.args.op) (c.args.a ∷ c.args.b ∷ [])) c.requires.node.1 (inr (inl refl))

pub returns-in-Some-scalar_at-clause-tells : goal.returns-in-Some-scalar_at-clause-tells
returns-in-Some-scalar_at-clause-tells c = λ carries first work columns so_far f cut h ready at e.
    let y_is : column_at c.args.graph.now c.args.table.now c.args.made.now c.args.b ≡ Some c.in-Some.y.now = sym c.column.ensures ∙ ap option_copied c.in-Some.is in
    value_told c.args.graph.now c.args.table.now c.args.made.now at h c.args.n c.scalar_left_value.result c.args.b c.value_from.result c.value_from.ensures
    (c.scalar_left_value.ensures.rows columns so_far f cut h (of_block ready) (is_cut ready)
    (column_shown ready c.requires.columns c.args.b (vertex_over at (binary c.args.op) (c.args.a ∷ c.args.b ∷ [])) c.in-Some.y.now e (inr (inl refl)) y_is, tt)
    (known_cell ready c.args.a (vertex_over at (binary c.args.op) (c.args.a ∷ c.args.b ∷ [])) (seen c.in-Some-scalar_at.cell) e (inl refl) c.requires.left c.in-Some-scalar_at.ensures.some.0) at e)

pub returns-in-None-scalar_at-clause-tells : goal.returns-in-None-scalar_at-clause-tells
returns-in-None-scalar_at-clause-tells c = λ carries first work columns so_far f cut h ready at e.
    scalar_lacks (no_column_known ready c.args.a (vertex_over at (binary c.args.op) (c.args.a ∷ c.args.b ∷ [])) e (inl refl) c.requires.left) c.in-None-scalar_at.ensures.none

pub returns-in-None-clause-tells : goal.returns-in-None-clause-tells
returns-in-None-clause-tells c = λ carries first work columns so_far f cut h ready at e.
    one_column ready c.args.a c.args.b c.args.op at e c.requires.left (sym c.column.ensures ∙ ap option_copied c.in-None.is)

pub returns-in-Some-scalar_at-clause-height : goal.returns-in-Some-scalar_at-clause-height
returns-in-Some-scalar_at-clause-height c = value_short c.scalar_left_value.result c.args.b c.value_from.result _ _ c.value_from.ensures c.scalar_left_value.ensures.height (c.requires.heights c.args.b c.in-Some.y.now (sym c.column.ensures ∙ ap option_copied c.in-Some.is))
