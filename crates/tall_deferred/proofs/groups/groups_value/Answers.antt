-- Each method is the word's case.
use Rattle.tall_deferred.proofs.groups.groups_value.Goals as goal

pub returns-in-Count-clause-given : goal.returns-in-Count-clause-given
returns-in-Count-clause-given c columns f m = rw c.in-Count.is (c.groups_of_rows.ensures.given columns f m)

pub returns-in-Sum-clause-given : goal.returns-in-Sum-clause-given
returns-in-Sum-clause-given c columns f m = rw c.in-Sum.is (c.groups_of_data.ensures.given columns f m)

pub returns-in-SumNative-clause-given : goal.returns-in-SumNative-clause-given
returns-in-SumNative-clause-given c columns f m = rw c.in-SumNative.is (c.groups_of_data-in-SumNative.ensures.given columns f m)

pub returns-in-Min-clause-given : goal.returns-in-Min-clause-given
returns-in-Min-clause-given c columns f m = rw c.in-Min.is (c.groups_of_data-in-Min.ensures.given columns f m)

pub returns-in-Max-clause-given : goal.returns-in-Max-clause-given
returns-in-Max-clause-given c columns f m = rw c.in-Max.is (c.groups_of_data-in-Max.ensures.given columns f m)

pub returns-in-Nnz-clause-given : goal.returns-in-Nnz-clause-given
returns-in-Nnz-clause-given c columns f m = rw c.in-Nnz.is (c.groups_of_data-in-Nnz.ensures.given columns f m)

pub returns-in-Nummissing-clause-given : goal.returns-in-Nummissing-clause-given
returns-in-Nummissing-clause-given c columns f m = rw c.in-Nummissing.is (c.groups_of_data-in-Nummissing.ensures.given columns f m)
