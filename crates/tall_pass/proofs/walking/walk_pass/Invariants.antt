use Rattle.std.proofs.Common.{Some}
use Rattle.tall_pass.specs.Takers.{shared_inputs}
use Rattle.tall_pass.proofs.walking.walk_pass.Given as goal

abbrev pub ghosts-walk_given : goal.ghosts-walk_given
ghosts-walk_given g a = record { inputs = Some (shared_inputs a.shared.now); counts = a.counts }
