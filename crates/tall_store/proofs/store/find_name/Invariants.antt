use Rattle.std.proofs.Common.{◌≡◌}
use Rattle.tall_store.specs.Choices.{place_of}
use Rattle.tall_store.specs.Stores.{name_at, selected_names}
use Rattle.tall_store.proofs.Finding.{place_from}
use Rattle.tall_store.proofs.store.find_name.Given as goal

-- no selected variable before this one has the name
abbrev pub invariant-loop-k : goal.invariant-loop-k
invariant-loop-k l = place_from (name_at l.store) l.store.selected l.name l.k ≡ place_of (selected_names l.store) l.name
