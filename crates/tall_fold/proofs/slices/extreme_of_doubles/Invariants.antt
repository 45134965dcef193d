use Rattle.std.proofs.Common.{◌≡◌, ◌≤◌, take}
use Rattle.std.specs.Prelude.{IfSome}
use Rattle.std.specs.List.{filter_map}
use Rattle.tall_clamp.specs.Outcomes.{picked}
use Rattle.tall_value.specs.declared.class.Kind.TheVariants.{Double}
use Rattle.tall_fold.specs.Summaries.{IsNumber}
use Rattle.tall_fold.proofs.slices.extreme_of_doubles.Given as goal

abbrev pub invariant-loop-v : goal.invariant-loop-v
invariant-loop-v g l =
    (l.best.0 ≡ picked g.C.Choice.pick (filter_map (λ d. d) (take l.v-index l.rows))) × (l.best.1 ≤ l.v-index) × IfSome l.best.0 (IsNumber Double)
