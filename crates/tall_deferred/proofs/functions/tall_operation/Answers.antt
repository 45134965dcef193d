-- Each arm is the word's case.
use Rattle.tall_deferred.proofs.functions.tall_operation.Goals as goal

pub returns-in-Reduce-clause-given : goal.returns-in-Reduce-clause-given
returns-in-Reduce-clause-given c columns f m = rw c.in-Reduce.is (c.deferring.ensures.given columns f m)

pub returns-in-Scan-clause-given : goal.returns-in-Scan-clause-given
returns-in-Scan-clause-given c columns f m = rw c.in-Scan.is (c.deferring-in-Scan.ensures.given columns f m)

pub returns-in-Head-clause-given : goal.returns-in-Head-clause-given
returns-in-Head-clause-given c columns f m = rw c.in-Head.is (c.deferring-in-Head.ensures.given columns f m)

pub returns-in-Tail-clause-given : goal.returns-in-Tail-clause-given
returns-in-Tail-clause-given c columns f m = rw c.in-Tail.is (c.deferring-in-Tail.ensures.given columns f m)

pub returns-in-Distinct-clause-given : goal.returns-in-Distinct-clause-given
returns-in-Distinct-clause-given c columns f m = rw c.in-Distinct.is (c.deferring-in-Distinct.ensures.given columns f m)

pub returns-in-Unary-clause-given : goal.returns-in-Unary-clause-given
returns-in-Unary-clause-given c columns f m = rw c.in-Unary.is (c.deferring-in-Unary.ensures.given columns f m)
