use Rattle.std.proofs.Common.{◌≡◌, ◌++◌}
use Rattle.std.specs.Prelude.{◌-◌}
use Rattle.std.specs.List.{range_with_len}
use Rattle.tall_store.specs.Choices.{all_places}
use Rattle.tall_store.proofs.choices.all_places.Given as goal

abbrev pub invariant-loop-place : goal.invariant-loop-place
invariant-loop-place l = l.places.items ++ range_with_len l.place (l.n - l.place) ≡ all_places l.n
