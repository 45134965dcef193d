use Rattle.std.specs.Prelude.{◌≡◌, drop, option_map}
use Rattle.tall_semantics.specs.Faults.{earlier, fault_seen, least_fault}
use Rattle.tall_pass.specs.Endings.{faults_at_end}
use Rattle.tall_pass.proofs.endings.least_fault.Given as goal

abbrev pub invariant-loop-ended : goal.invariant-loop-ended
invariant-loop-ended l = earlier (option_map fault_seen l.least) (least_fault (faults_at_end (drop l.ended-index l.endings))) ≡ least_fault (faults_at_end l.endings)
