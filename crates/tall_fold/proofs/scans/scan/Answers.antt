use Rattle.std.proofs.Common.{refl}
use Rattle.tall_value.specs.Classes.{kind_of}
use Rattle.tall_fold.proofs.ScanLemmas.{scan_answers}
use Rattle.tall_fold.proofs.scans.scan.Goals as goal

pub returns-clause-rows : goal.returns-clause-rows
returns-clause-rows c =
    scan_answers c.args.operation (kind_of c.args.carry.class) c.args.carry.class c.args.column.now.class c.args.carry c.kept.result c.args.column.now _ c.of_values.result c.values.ensures refl c.requires.class c.kept.ensures.fold c.of_values.ensures.rows
