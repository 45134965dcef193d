use Rattle.std.specs.Prelude.{◌≡◌, true, take}
use Rattle.std.specs.List.{All}
use Rattle.tall_value.specs.Names.{are_distinct}
use Rattle.tall_store.specs.Stores.{SeenStore}
use Rattle.tall_steps.proofs.stepping.list_no_file_twice.Given as goal

abbrev pub invariant-loop-place : goal.invariant-loop-place
invariant-loop-place l = All (λ (d : SeenStore). are_distinct d.files ≡ true) (take l.place l.fn.stores)
