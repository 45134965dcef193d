use Rattle.std.proofs.Common.{Some}
use Rattle.tall_mapred.specs.Takers.{shared_given}
use Rattle.tall_mapred.proofs.mapping.map_blocks.Given as goal

abbrev pub ghosts-map_given : goal.ghosts-map_given
ghosts-map_given g a = record { given = Some (shared_given a.shared.now) }
