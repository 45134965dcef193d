-- Each arm is the word's case.
use Rattle.tall_deferred.proofs.operators.tall_and_memory.Goals as goal

pub returns-in-Scalar-clause-given : goal.returns-in-Scalar-clause-given
returns-in-Scalar-clause-given c columns f m = rw c.in-Scalar.is (c.beside_scalar.ensures.given columns f m)

pub returns-in-Column-clause-given : goal.returns-in-Column-clause-given
returns-in-Column-clause-given c columns f m = rw c.in-Column.is (c.beside_column.ensures columns f m)
