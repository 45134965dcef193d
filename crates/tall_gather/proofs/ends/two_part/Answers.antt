use Rattle.std.specs.Prelude.{length}
use Rattle.tall_gather.proofs.EndLaws.{some_part}
use Rattle.tall_gather.proofs.ends.two_part.Goals as goal

pub returns-clause-some : goal.returns-clause-some
returns-clause-some c =
    some_part c.args.e c.in_ok-first.first.class c.in_ok-first.last.class c.args.x.now.column.now.class c.args.y.now.column.now.class (length c.in_ok-first.first.cells) (length c.args.x.now.column.now.cells) c.of_columns.result c.in_ok-first.ensures.classes.0 c.in_ok-first.ensures.classes.1 c.in_ok-first.ensures.short c.requires.few c.of_columns.ensures.some
