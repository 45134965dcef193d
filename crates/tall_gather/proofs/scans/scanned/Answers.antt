use Rattle.std.specs.Prelude.{[]}
use Rattle.std.proofs.Common.{subst}
use Rattle.tall_value.specs.declared.class.Kind.{Kind}
use Rattle.tall_value.specs.Classes.{kind_of}
use Rattle.tall_value.specs.Columns.{numbered}
use Rattle.tall_dense.specs.Columns.{SeenColumn}
use Rattle.tall_dense.specs.Rows.{Answers}
use Rattle.tall_fold.specs.Carries.{scan_rows}
use Rattle.tall_block.proofs.Heights.{scan_short}
use Rattle.tall_block.proofs.ScanLaws.{class_again}
use Rattle.tall_gather.proofs.scans.scanned.Goals as goal

pub returns-clause-height : goal.returns-clause-height
returns-clause-height c = scan_short c.args.s (kind_of c.start_of.result.class) [] c.args.x.now.cells c.scan.result (c.scan.ensures.rows [] c.start_of.ensures.carry)

pub returns-clause-rows : goal.returns-clause-rows
returns-clause-rows c =
    subst (λ (k : Kind). Answers (scan_rows c.args.s k [] (numbered 0 c.args.x.now.cells)) (λ (d : SeenColumn). d.cells) c.scan.result) (class_again c.args.s c.args.x.now.class c.start_of.result.class c.start_of.ensures.class).1 (c.scan.ensures.rows [] c.start_of.ensures.carry)
