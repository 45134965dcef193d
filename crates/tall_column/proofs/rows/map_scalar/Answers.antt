use Rattle.std.specs.Prelude.{Ok}
use Rattle.std.proofs.Common.{rules, ◌≡◌, ◌<◌, ◌∙◌, ap, sym, arith, length}
use Rattle.tall_value.specs.Cells.{seen}
use Rattle.tall_value.specs.Columns.{numbered}
use Rattle.tall_value.specs.Elementwise.{scalar_rows}
use Rattle.tall_dense.specs.Columns.{class_of_cell}
use Rattle.tall_column.specs.Mapped.{scalar_class}
use Rattle.tall_column.proofs.FirstCells.{class_of_beside, classed_column}
use Rattle.tall_column.proofs.rows.map_scalar.Goals as goal

pub returns-in-Some-clause-class : goal.returns-in-Some-clause-class
returns-in-Some-clause-class c =
    let a = c.args.a.now in
    let s = seen c.args.b.now in
    let v = c.of_values.result in
    let table : scalar_class c.args.op c.args.scalar_left (class_of_cell s) a.class ≡ Ok c.in-Ok.class = search rules in
    let rows : scalar_rows c.args.op c.args.scalar_left s (numbered 0 a.cells) ≡ Ok (numbered 0 v.cells) = search rules in
    let some : 0 < length a.cells = omega (arith, c.if-len-eq0.false, c.len.ensures) in
    table ∙ ap Ok (sym (class_of_beside c.args.op c.args.scalar_left s a v c.in-Ok.class (classed_column _ a c.values.ensures)
    (classed_column c.in-Some.values v (sym c.of_values.ensures)) table some rows))
