use Rattle.std.specs.Prelude.{◌≡◌, refl, [], ◌∷◌, None, Some, option_copied}
use Rattle.std.proofs.Common.{ap, sym, ◌∙◌, inl, inr}
use Rattle.tall_value.specs.Cells.{seen}
use Rattle.tall_semantics.specs.Operations.{binary}
use Rattle.tall_block.specs.OfBlocks.{column_at, vertex_over}
use Rattle.tall_block.proofs.ValueLaws.{column_shown, is_cut, known_cell, no_column_known, of_block, scalar_lacks, value_led, value_short, value_told}
use Rattle.tall_block.proofs.values.left_at.Goals as goal

pub binary_value-requires-clause-left : goal.binary_value-requires-clause-left
binary_value-requires-clause-left c = (c.requires.columns c.args.a c.args.x.now c.requires.left).0

pub binary_value-requires-clause-right : goal.binary_value-requires-clause-right
binary_value-requires-clause-right c = (c.requires.columns c.args.b c.in-Some.y.now (sym c.column.ensures ∙ ap option_copied c.in-Some.is)).0

pub scalar_right_value-requires-clause-operand : goal.scalar_right_value-requires-clause-operand
scalar_right_value-requires-clause-operand c = (c.requires.columns c.args.a c.args.x.now c.requires.left).0

pub returns-in-Some-clause-led : goal.returns-in-Some-clause-led
returns-in-Some-clause-led c =
    value_led c.args.graph.now c.args.table.now c.args.made.now c.args.n c.binary_value.result c.args.a c.value_from.result c.value_from.ensures c.args.x.now c.requires.left
    (vertex_over c.requires.node.0 (binary c.args.op) (c.args.a ∷ c.args.b ∷ [])) c.requires.node.1 (inl refl)

pub returns-in-Some-clause-tells : goal.returns-in-Some-clause-tells
returns-in-Some-clause-tells c = λ carries first work columns so_far f cut h ready at e.
    let y_is : column_at c.args.graph.now c.args.table.now c.args.made.now c.args.b ≡ Some c.in-Some.y.now = sym c.column.ensures ∙ ap option_copied c.in-Some.is in
    value_told c.args.graph.now c.args.table.now c.args.made.now at h c.args.n c.binary_value.result c.args.a c.value_from.result c.value_from.ensures
    (c.binary_value.ensures.rows columns so_far f cut h (of_block ready) (is_cut ready) (
      column_shown ready c.requires.columns c.args.a (vertex_over at (binary c.args.op) (c.args.a ∷ c.args.b ∷ [])) c.args.x.now e (inl refl) c.requires.left,
      (column_shown ready c.requires.columns c.args.b (vertex_over at (binary c.args.op) (c.args.a ∷ c.args.b ∷ [])) c.in-Some.y.now e (inr (inl refl)) y_is, tt),
    ) at e)

pub returns-in-Some-scalar_at-clause-led : goal.returns-in-Some-scalar_at-clause-led
returns-in-Some-scalar_at-clause-led c =
    value_led c.args.graph.now c.args.table.now c.args.made.now c.args.n c.scalar_right_value.result c.args.a c.value_from-in-Some-scalar_at.result c.value_from-in-Some-scalar_at.ensures c.args.x.now c.requires.left
    (vertex_over c.requires.node.0 (binary c.args.op) (c.args.a ∷ c.args.b ∷ [])) c.requires.node.1 (inl refl)

pub returns-in-Some-scalar_at-clause-tells : goal.returns-in-Some-scalar_at-clause-tells
returns-in-Some-scalar_at-clause-tells c = λ carries first work columns so_far f cut h ready at e.
    let none : column_at c.args.graph.now c.args.table.now c.args.made.now c.args.b ≡ None = sym c.column.ensures ∙ ap option_copied c.in-None.is in
    value_told c.args.graph.now c.args.table.now c.args.made.now at h c.args.n c.scalar_right_value.result c.args.a c.value_from-in-Some-scalar_at.result c.value_from-in-Some-scalar_at.ensures
    (c.scalar_right_value.ensures.rows columns so_far f cut h (of_block ready) (is_cut ready)
    (column_shown ready c.requires.columns c.args.a (vertex_over at (binary c.args.op) (c.args.a ∷ c.args.b ∷ [])) c.args.x.now e (inl refl) c.requires.left, tt)
    (known_cell ready c.args.b (vertex_over at (binary c.args.op) (c.args.a ∷ c.args.b ∷ [])) (seen c.in-Some-scalar_at.cell) e (inr (inl refl)) none c.in-Some-scalar_at.ensures.some.0) at e)

pub returns-in-None-scalar_at-clause-tells : goal.returns-in-None-scalar_at-clause-tells
returns-in-None-scalar_at-clause-tells c = λ carries first work columns so_far f cut h ready at e.
    let none : column_at c.args.graph.now c.args.table.now c.args.made.now c.args.b ≡ None = sym c.column.ensures ∙ ap option_copied c.in-None.is in
    scalar_lacks (no_column_known ready c.args.b (vertex_over at (binary c.args.op) (c.args.a ∷ c.args.b ∷ [])) e (inr (inl refl)) none) c.in-None-scalar_at.ensures.none

pub returns-in-Some-clause-height : goal.returns-in-Some-clause-height
returns-in-Some-clause-height c = value_short c.binary_value.result c.args.a c.value_from.result _ _ c.value_from.ensures c.binary_value.ensures.height (c.requires.heights c.args.a c.args.x.now c.requires.left)

pub returns-in-Some-scalar_at-clause-height : goal.returns-in-Some-scalar_at-clause-height
returns-in-Some-scalar_at-clause-height c = value_short c.scalar_right_value.result c.args.a c.value_from-in-Some-scalar_at.result _ _ c.value_from-in-Some-scalar_at.ensures c.scalar_right_value.ensures.height (c.requires.heights c.args.a c.args.x.now c.requires.left)
