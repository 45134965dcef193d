use Rattle.std.proofs.Common.{◌≡◌, drop}
use Rattle.tall_store.specs.Choices.{places_of}
use Rattle.tall_store.proofs.Placing.{found_before}
use Rattle.tall_store.proofs.texts.places_of.Given as goal

-- the places so far, before those of the names that are left
abbrev pub invariant-loop-name : goal.invariant-loop-name
invariant-loop-name l = found_before l.places.items (places_of l.names (drop l.name-index l.wanted)) ≡ places_of l.names l.wanted
