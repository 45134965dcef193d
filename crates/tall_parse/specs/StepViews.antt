-- What definitions see of an arm, and a function value that reads the statements of a block.
use Rattle.std.specs.Prelude.{ℕ, List, map, Result}
use denote.Ref.{MutBor}
use Rattle.tall_grammar.specs.declared.faults.Fault.{Fault}
use Rattle.tall_grammar.specs.declared.faults.TooHigh.{TooHigh}
use Rattle.tall_parse.specs.declared.statements.Reading.{Reading}
use Rattle.tall_grammar.specs.declared.steps.FunctionStep.{FunctionStep}
use Rattle.tall_grammar.specs.declared.steps.Arm.{Arm, fold-Arm}
use Rattle.tall_grammar.specs.Kept.{with_it}
use Rattle.tall_grammar.specs.Readers.{Input}
use Rattle.tall_expr.specs.Gives.{Gives}
use Rattle.tall_grammar.specs.ScriptReader.{steps_within}
use Rattle.tall_grammar.specs.Trees.{Tree, Step, Steps}
use Rattle.tall_grammar.specs.Views.{step_of, step_layer, arm_layer}

abbrev pub arm_of : Arm → Tree × Steps
arm_of = fold-Arm Step (Tree × Steps) step_layer arm_layer

pub record NestsBlocks (reading : Reading) (blocks : ℕ) (pre : Reading → MutBor Input → ℕ → Type 0)
    (post : Reading → MutBor Input → ℕ → Result (Result (List FunctionStep) TooHigh) Fault → MutBor Input → Type 0) : Type 0 where
  pub callable : (old : MutBor Input) → pre reading old blocks
  pub reads : (old new : MutBor Input) (r : Result (Result (List FunctionStep) TooHigh) Fault) → post reading old blocks r new
      → Gives (with_it (map step_of)) (steps_within reading.turns reading.depth blocks old.now) r new.now
