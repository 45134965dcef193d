use Rattle.std.specs.Prelude.{Ok}
use Rattle.std.proofs.Common.{rules, ◌≡◌, ◌<◌, ◌∙◌, ap, sym, arith, length}
use Rattle.tall_value.specs.ClassTables.{unary_class}
use Rattle.tall_value.specs.Columns.{numbered}
use Rattle.tall_value.specs.Elementwise.{unary_rows}
use Rattle.tall_column.proofs.FirstCells.{class_of_each, classed_column}
use Rattle.tall_column.proofs.rows.map_unary.Goals as goal

pub returns-clause-class : goal.returns-clause-class
returns-clause-class c =
    let a = c.args.a.now in
    let v = c.of_values.result in
    let table : unary_class c.args.op a.class ≡ Ok c.in-Ok.class = search rules in
    let rows : unary_rows c.args.op (numbered 0 a.cells) ≡ Ok (numbered 0 v.cells) = search rules in
    let some : 0 < length a.cells = omega (arith, c.if-len-eq0.false, c.len.ensures) in
    table ∙ ap Ok (sym (class_of_each c.args.op a v c.in-Ok.class (classed_column _ a c.values.ensures)
    (classed_column c.in_ok-values.values v (sym c.of_values.ensures)) table some rows))
