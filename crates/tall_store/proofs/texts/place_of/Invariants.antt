use Rattle.std.proofs.Common.{◌≡◌}
use Rattle.tall_store.specs.Choices.{place_of}
use Rattle.tall_store.proofs.Finding.{place_from}
use Rattle.tall_store.proofs.texts.place_of.Given as goal

abbrev pub invariant-loop-k : goal.invariant-loop-k
invariant-loop-k l = place_from (λ name. name) l.names l.name l.k ≡ place_of l.names l.name
