use Rattle.std.specs.Prelude.{◌≡◌, refl, [], ◌∷◌, Some, option_copied}
use Rattle.std.proofs.Common.{ap, sym, ◌∙◌, inl, inr}
use Rattle.tall_semantics.specs.Operations.{filter}
use Rattle.tall_block.specs.OfBlocks.{column_at, vertex_over}
use Rattle.tall_block.proofs.ValueLaws.{column_shown, filter_mask, filter_operand, is_cut, no_more, not_there, of_block}
use Rattle.tall_block.proofs.values.filter_at.Goals as goal

pub filter_value-requires-clause-operand : goal.filter_value-requires-clause-operand
filter_value-requires-clause-operand c = (c.requires.columns c.args.a c.in-Some.x.now (sym c.column.ensures ∙ ap option_copied c.in-Some.is)).0

pub filter_value-requires-clause-mask_class : goal.filter_value-requires-clause-mask_class
filter_value-requires-clause-mask_class c = (c.requires.columns c.args.m c.in-Some-column.mask.now (sym c.column-in-Some.ensures ∙ ap option_copied c.in-Some-column.is)).0

pub returns-in_ok-filter_value-in-Some-column-clause-tells : goal.returns-in_ok-filter_value-in-Some-column-clause-tells
returns-in_ok-filter_value-in-Some-column-clause-tells c = λ scalars carries first work columns so_far f cut h ready at e.
    let x_is : column_at c.args.graph.now c.args.table.now c.args.made.now c.args.a ≡ Some c.in-Some.x.now = sym c.column.ensures ∙ ap option_copied c.in-Some.is in
    let mask_is : column_at c.args.graph.now c.args.table.now c.args.made.now c.args.m ≡ Some c.in-Some-column.mask.now = sym c.column-in-Some.ensures ∙ ap option_copied c.in-Some-column.is in
    c.in_ok-filter_value-in-Some-column.ensures.rows columns so_far f cut h (of_block ready) (is_cut ready) (
      column_shown ready c.requires.columns c.args.a (vertex_over at filter (c.args.a ∷ c.args.m ∷ [])) c.in-Some.x.now e (inl refl) x_is,
      (column_shown ready c.requires.columns c.args.m (vertex_over at filter (c.args.a ∷ c.args.m ∷ [])) c.in-Some-column.mask.now e (inr (inl refl)) mask_is, tt),
    ) at e

pub returns-in-None-column-clause-tells : goal.returns-in-None-column-clause-tells
returns-in-None-column-clause-tells c = λ scalars carries first work columns so_far f cut h ready at e.
    not_there c.args.graph.now c.args.table.now c.args.made.now c.args.m (sym c.column-in-Some.ensures ∙ ap option_copied c.in-None-column.is) (filter_mask ready c.args.a c.args.m at e)

pub returns-in-None-clause-tells : goal.returns-in-None-clause-tells
returns-in-None-clause-tells c = λ scalars carries first work columns so_far f cut h ready at e.
    not_there c.args.graph.now c.args.table.now c.args.made.now c.args.a (sym c.column.ensures ∙ ap option_copied c.in-None.is) (filter_operand ready c.args.a c.args.m at e)

pub returns-in_ok-filter_value-in-Some-column-clause-height : goal.returns-in_ok-filter_value-in-Some-column-clause-height
returns-in_ok-filter_value-in-Some-column-clause-height c = no_more (c.in_ok-filter_value-in-Some-column.ensures.height) (c.requires.heights c.args.a c.in-Some.x.now (sym c.column.ensures ∙ ap option_copied c.in-Some.is))
