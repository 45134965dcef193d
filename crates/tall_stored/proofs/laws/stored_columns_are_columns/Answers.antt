use Rattle.tall_stored.proofs.StoredLaws.{are_columns, are_readings, have_classes}
use Rattle.tall_stored.proofs.laws.stored_columns_are_columns.Goals as goal

pub returns-clause-readings : goal.returns-clause-readings
returns-clause-readings c = are_readings

pub returns-clause-columns : goal.returns-clause-columns
returns-clause-columns c = are_columns

pub returns-clause-classes : goal.returns-clause-classes
returns-clause-classes c = have_classes
