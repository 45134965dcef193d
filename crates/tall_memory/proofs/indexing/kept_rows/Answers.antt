use Rattle.std.proofs.Common.{◌∙◌, ap, sym, subst, length, take, ◌++◌, ◌∷◌, []}
use Rattle.tall_column.specs.Columns.{rows_kept}
use Rattle.tall_column.specs.Tables.{FitsHeight, column_named}
use Rattle.tall_local.specs.Names.{each_named}
use Rattle.tall_memory.proofs.TableLemmas.{fits_height, is_new_name, kept_rows_keep, one_more, variable_height}
use Rattle.tall_memory.proofs.indexing.kept_rows.Goals as goal

pub filter-requires-clause-same_length : goal.filter-requires-clause-same_length
filter-requires-clause-same_length c = sym c.requires.same_height ∙ sym (variable_height c.args.t.now c.loop-i.i c.at.result.now c.width-i-end.ensures.table c.at.ensures)

pub add_variable-requires-clause-new_name : goal.add_variable-requires-clause-new_name
add_variable-requires-clause-new_name c =
    let mask = c.args.mask.now in
    ap (column_named c.name.result.now) c.loop-i.invariant ∙ is_new_name (λ x. rows_kept x mask) c.args.t.now c.loop-i.i c.name.result.now c.width-i-end.ensures.table c.name.ensures

pub add_variable-requires-clause-same_height : goal.add_variable-requires-clause-same_height
add_variable-requires-clause-same_height c =
    let mask = c.args.mask.now in
    subst (λ t. FitsHeight (length c.in_ok-x.x.cells) t) (sym c.loop-i.invariant)
    (subst (λ x. FitsHeight (length x.cells) (each_named (λ x. rows_kept x mask) (take c.loop-i.i c.args.t.now))) (sym c.in_ok-x.ensures) (fits_height (λ x. rows_kept x mask) c.args.t.now c.loop-i.i c.at.result.now (kept_rows_keep mask) c.width-i-end.ensures.table c.at.ensures))

pub loop-i-preserved : goal.loop-i-preserved
loop-i-preserved c =
    let mask = c.args.mask.now in
    c.in_ok-add_variable.ensures
    ∙ ap (λ t. t ++ (c.name.result.now, c.in_ok-x.x) ∷ []) c.loop-i.invariant
    ∙ ap (λ x. each_named (λ x. rows_kept x mask) (take c.loop-i.i c.args.t.now) ++ (c.name.result.now, x) ∷ []) c.in_ok-x.ensures
    ∙ one_more (λ x. rows_kept x mask) c.args.t.now c.loop-i.i c.name.result.now c.at.result.now c.name.ensures c.at.ensures
