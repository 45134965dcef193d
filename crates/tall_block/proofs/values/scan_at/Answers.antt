use Rattle.std.specs.Prelude.{◌≡◌, refl, [], ◌∷◌, Some, option_copied}
use Rattle.std.proofs.Common.{ap, sym, ◌∙◌, inl}
use Rattle.tall_value.specs.Cells.{seen}
use Rattle.tall_semantics.specs.Operations.{scan}
use Rattle.tall_block.specs.OfBlocks.{column_at, vertex_over}
use Rattle.tall_block.proofs.ValueLaws.{column_shown, goes_on, lacks_carry, not_there, scan_operand, value_led, value_short, value_told}
use Rattle.tall_block.proofs.values.scan_at.Goals as goal

pub returns-in-Some-carry_at-clause-led : goal.returns-in-Some-carry_at-clause-led
returns-in-Some-carry_at-clause-led c =
    value_led c.args.graph.now c.args.table.now c.args.made.now c.args.n c.scan_value.result c.args.a c.value_from.result c.value_from.ensures c.in-Some.x.now (sym c.column.ensures ∙ ap option_copied c.in-Some.is)
    (vertex_over c.requires.node.0 (scan c.args.s) (c.args.a ∷ [])) c.requires.node.1 (inl refl)

pub returns-in-Some-carry_at-clause-tells : goal.returns-in-Some-carry_at-clause-tells
returns-in-Some-carry_at-clause-tells c = λ scalars first work columns so_far f cut h ready at e.
    let x_is : column_at c.args.graph.now c.args.table.now c.args.made.now c.args.a ≡ Some c.in-Some.x.now = sym c.column.ensures ∙ ap option_copied c.in-Some.is in
    value_told c.args.graph.now c.args.table.now c.args.made.now at h c.args.n c.scan_value.result c.args.a c.value_from.result c.value_from.ensures
    (c.scan_value.ensures.rows h at (goes_on ready c.args.a at c.args.s (seen c.in-Some-carry_at.cell) e c.in-Some-carry_at.ensures.some.0)
    (column_shown ready c.requires.columns c.args.a (vertex_over at (scan c.args.s) (c.args.a ∷ [])) c.in-Some.x.now e (inl refl) x_is))

pub returns-in-None-carry_at-clause-tells : goal.returns-in-None-carry_at-clause-tells
returns-in-None-carry_at-clause-tells c = λ scalars first work columns so_far f cut h ready at e.
    lacks_carry ready c.args.a at c.args.s e c.in-None-carry_at.ensures.none

pub returns-in-None-clause-tells : goal.returns-in-None-clause-tells
returns-in-None-clause-tells c = λ scalars first work columns so_far f cut h ready at e.
    not_there c.args.graph.now c.args.table.now c.args.made.now c.args.a (sym c.column.ensures ∙ ap option_copied c.in-None.is) (scan_operand ready c.args.a c.args.s at e)

pub returns-in-Some-carry_at-clause-height : goal.returns-in-Some-carry_at-clause-height
returns-in-Some-carry_at-clause-height c = value_short c.scan_value.result c.args.a c.value_from.result _ _ c.value_from.ensures c.scan_value.ensures.height (c.requires.heights c.args.a c.in-Some.x.now (sym c.column.ensures ∙ ap option_copied c.in-Some.is))
