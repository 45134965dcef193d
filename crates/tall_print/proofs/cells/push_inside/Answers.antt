use Rattle.std.proofs.Common.{rules}
use Rattle.tall_print.specs.Appended.{Begins}
use Rattle.tall_print.proofs.Appending.{begun_more}
use Rattle.tall_print.proofs.cells.push_inside.Goals as goal

pub returns-in_err-push_doubled : goal.returns-in_err-push_doubled
returns-in_err-push_doubled c =
    let begins : Begins c.args.text.now.items c.push_doubled.new.text.items = begun_more _ _ _ _ c.loop-byte.invariant c.in_err-push_doubled.ensures in
    search (rules, begins)
