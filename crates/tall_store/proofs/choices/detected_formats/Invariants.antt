use Rattle.std.proofs.Common.{◌≡◌, ◌++◌, [], get_or, map}
use Rattle.std.specs.Prelude.{◌-◌}
use Rattle.std.specs.List.{range_with_len}
use Rattle.csv.specs.Records.{fields_of}
use Rattle.tall_store.specs.Choices.{detected, detected_formats}
use Rattle.tall_store.proofs.choices.detected_formats.Given as goal

abbrev pub invariant-loop-place : goal.invariant-loop-place
invariant-loop-place l =
    l.formats.items ++ map (λ place. detected l.missing (get_or (fields_of l.fields) place [])) (range_with_len l.place (l.n - l.place))
    ≡ detected_formats l.missing (fields_of l.fields) l.n
