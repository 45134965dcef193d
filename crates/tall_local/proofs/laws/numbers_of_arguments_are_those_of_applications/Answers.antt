use Rattle.tall_local.proofs.ApplicationOperands.{no_application, some_application}
use Rattle.tall_local.proofs.laws.numbers_of_arguments_are_those_of_applications.Goals as goal

pub returns-clause-refused : goal.returns-clause-refused
returns-clause-refused c = no_application

pub returns-clause-taken : goal.returns-clause-taken
returns-clause-taken c = some_application
