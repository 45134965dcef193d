use Rattle.std.proofs.Common.{◌≡◌, ◌-◌, drop, map}
use Rattle.std.specs.Prelude.{pos, ◌+ℤ◌}
use Rattle.tall_grammar.specs.Views.{arms_of, tree_of}
use Rattle.tall_local.specs.Calls.{Ran, for_turns, local_value, run_arms, run_steps, turn_limit, while_turns}
use Rattle.tall_local.specs.Locals.{Locals}
use Rattle.tall_fun.specs.Frames.{arm_of, body_of, frame_state}
use Rattle.tall_fun.proofs.run.+run.Given as goal

-- what is left, from here, is what all statements do from the start
abbrev pub invariant-run_steps-loop-step : goal.invariant-run_steps-loop-step
invariant-run_steps-loop-step l = run_steps l.values.cells (body_of (drop l.step-index l.steps)) (frame_state l.frame) ≡ run_steps l.values.cells (body_of l.steps) (frame_state l.fn.frame)

abbrev pub invariant-run_arms-loop-arm : goal.invariant-run_arms-loop-arm
invariant-run_arms-loop-arm l = (rest : Locals → Ran)
    → run_arms l.values.cells (arms_of (map arm_of (drop l.arm-index l.arms))) rest (frame_state l.frame) ≡ run_arms l.values.cells (arms_of (map arm_of l.arms)) rest (frame_state l.fn.frame)

abbrev pub invariant-run_range-loop-turn : goal.invariant-run_range-loop-turn
invariant-run_range-loop-turn l =
    for_turns (l.range.turns - l.turn) l.line l.name (l.range.first +ℤ pos l.turn) (λ t. run_steps l.values.cells (body_of l.body) t) (frame_state l.frame)
    ≡ for_turns l.range.turns l.line l.name l.range.first (λ t. run_steps l.values.cells (body_of l.body) t) (frame_state l.fn.frame)

abbrev pub invariant-run_while-loop-turn : goal.invariant-run_while-loop-turn
invariant-run_while-loop-turn l =
    while_turns (turn_limit - l._turn) l.line (tree_of l.condition) (local_value l.values.cells (tree_of l.condition)) (λ t. run_steps l.values.cells (body_of l.body) t) (frame_state l.frame)
    ≡ while_turns turn_limit l.line (tree_of l.condition) (local_value l.values.cells (tree_of l.condition)) (λ t. run_steps l.values.cells (body_of l.body) t) (frame_state l.fn.frame)
