-- Each arm is the word's case.
use Rattle.tall_deferred.proofs.functions.table_operation.Goals as goal

pub returns-in-Height-clause-given : goal.returns-in-Height-clause-given
returns-in-Height-clause-given c columns f m = rw c.in-Height.is (c.table_height.ensures.given columns f m)

pub returns-in-Head-clause-given : goal.returns-in-Head-clause-given
returns-in-Head-clause-given c columns f m = rw c.in-Head.is (c.kept_table.ensures.given columns f m)

pub returns-in-Tail-clause-given : goal.returns-in-Tail-clause-given
returns-in-Tail-clause-given c columns f m = rw c.in-Tail.is (c.kept_table-in-Tail.ensures.given columns f m)

pub returns-in-Groups-clause-given : goal.returns-in-Groups-clause-given
returns-in-Groups-clause-given c columns f m = rw c.in-Groups.is (c.groups_value.ensures.given columns f m)
