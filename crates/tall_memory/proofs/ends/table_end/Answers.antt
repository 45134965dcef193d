use Rattle.std.proofs.Common.{◌∙◌, ap, sym, subst, length, take, ◌++◌, ◌∷◌, []}
use Rattle.tall_column.specs.Tables.{FitsHeight, column_named}
use Rattle.tall_local.specs.MemoryFunctions.{with_cells}
use Rattle.tall_local.specs.Names.{each_named}
use Rattle.tall_memory.specs.Ends.{end_rows}
use Rattle.tall_memory.proofs.TableLemmas.{end_rows_keep, fits_height, is_new_name, one_more}
use Rattle.tall_memory.proofs.ends.table_end.Goals as goal

pub add_variable-requires-clause-new_name : goal.add_variable-requires-clause-new_name
add_variable-requires-clause-new_name c =
    let f = with_cells (end_rows c.args.last c.args.k) in
    ap (column_named c.name.result.now) c.loop-i.invariant ∙ is_new_name f c.args.t.now c.loop-i.i c.name.result.now c.width-i-end.ensures.table c.name.ensures

pub add_variable-requires-clause-same_height : goal.add_variable-requires-clause-same_height
add_variable-requires-clause-same_height c =
    let f = with_cells (end_rows c.args.last c.args.k) in
    subst (λ t. FitsHeight (length c.in_ok-x.x.cells) t) (sym c.loop-i.invariant)
    (subst (λ x. FitsHeight (length x.cells) (each_named f (take c.loop-i.i c.args.t.now))) (sym c.in_ok-x.ensures)
    (fits_height f c.args.t.now c.loop-i.i c.at.result.now (end_rows_keep c.args.last c.args.k) c.width-i-end.ensures.table c.at.ensures))

pub loop-i-preserved : goal.loop-i-preserved
loop-i-preserved c =
    let f = with_cells (end_rows c.args.last c.args.k) in
    c.in_ok-add_variable.ensures
    ∙ ap (λ t. t ++ (c.name.result.now, c.in_ok-x.x) ∷ []) c.loop-i.invariant
    ∙ ap (λ x. each_named f (take c.loop-i.i c.args.t.now) ++ (c.name.result.now, x) ∷ []) c.in_ok-x.ensures
    ∙ one_more f c.args.t.now c.loop-i.i c.name.result.now c.at.result.now c.name.ensures c.at.ensures
