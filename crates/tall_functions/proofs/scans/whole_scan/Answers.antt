use Rattle.std.proofs.Common.{[], subst}
use Rattle.tall_value.specs.declared.class.Kind.{Kind}
use Rattle.tall_value.specs.Classes.{kind_of}
use Rattle.tall_value.specs.Columns.{numbered}
use Rattle.tall_value.specs.FunctionClasses.{scan_class}
use Rattle.tall_dense.specs.Rows.{Answers}
use Rattle.tall_fold.specs.Carries.{scan_rows}
use Rattle.tall_functions.proofs.ScanLemmas.{classed, result_of}
use Rattle.tall_functions.proofs.scans.whole_scan.Goals as goal

pub returns-clause-rows : goal.returns-clause-rows
returns-clause-rows c =
    let x = c.args.x.now in
    subst (λ (a : Kind). Answers (scan_rows c.args.s a [] (numbered 0 x.cells)) (λ y. y.cells) c.scan.result)
    (result_of c.args.s (kind_of x.class) c.nothing_before.result.class c.nothing_before.ensures.class) (c.scan.ensures.rows [] c.nothing_before.ensures.carry)

pub returns-clause-class : goal.returns-clause-class
returns-clause-class c =
    classed (scan_class c.args.s c.args.x.now.class) c.nothing_before.result.class c.scan.result c.nothing_before.ensures.class c.scan.ensures.class
