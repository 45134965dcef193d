use Rattle.std.specs.Prelude.{Ok, false}
use Rattle.std.proofs.Common.{rules, ◌≡◌, ◌<◌, ◌∙◌, ap, sym, arith, length}
use Rattle.tall_value.specs.ClassTables.{binary_class}
use Rattle.tall_value.specs.Columns.{numbered}
use Rattle.tall_value.specs.Elementwise.{binary_rows}
use Rattle.tall_column.proofs.FirstCells.{class_of_pairs, classed_column}
use Rattle.tall_column.proofs.rows.map_binary.Goals as goal

pub returns-in-Some-clause-class : goal.returns-in-Some-clause-class
returns-in-Some-clause-class c =
    let a = c.args.a.now in
    let b = c.args.b.now in
    let v = c.of_values.result in
    let table : binary_class c.args.op a.class false b.class false ≡ Ok c.in-Ok.class = search rules in
    let rows : binary_rows c.args.op (numbered 0 a.cells) (numbered 0 b.cells) ≡ Ok (numbered 0 v.cells) = search rules in
    let some : 0 < length a.cells = omega (arith, c.if-len-eq0.false, c.len.ensures) in
    table ∙ ap Ok (sym (class_of_pairs c.args.op a b v c.in-Ok.class (classed_column _ a c.values.ensures) (classed_column _ b c.values-2.ensures)
    (classed_column c.in-Some.values v (sym c.of_values.ensures)) table c.requires.same_length some rows))
