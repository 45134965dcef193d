use Rattle.tall_script.proofs.ValuesAdded.{application_is, index_is, application_adds, index_adds}
use Rattle.tall_script.proofs.ValuesComplete.{application_has_form, index_has_form}
use Rattle.tall_script.proofs.laws.values_are_those_of_added_vertices.Goals as goal

pub returns-clause-applications : goal.returns-clause-applications
returns-clause-applications c = application_is

pub returns-clause-indexes : goal.returns-clause-indexes
returns-clause-indexes c = index_is

pub returns-clause-added : goal.returns-clause-added
returns-clause-added c = application_adds

pub returns-clause-added_by_index : goal.returns-clause-added_by_index
returns-clause-added_by_index c = index_adds

pub returns-clause-applications_complete : goal.returns-clause-applications_complete
returns-clause-applications_complete c = application_has_form

pub returns-clause-indexes_complete : goal.returns-clause-indexes_complete
returns-clause-indexes_complete c = index_has_form
