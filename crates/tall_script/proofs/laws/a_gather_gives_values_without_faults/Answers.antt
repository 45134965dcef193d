use Rattle.tall_script.proofs.RunsStand.{gathered_without_fault, value_without_fault}
use Rattle.tall_script.proofs.laws.a_gather_gives_values_without_faults.Goals as goal

pub returns-clause-one : goal.returns-clause-one
returns-clause-one c = value_without_fault

pub returns-clause-all : goal.returns-clause-all
returns-clause-all c = gathered_without_fault
