use Rattle.std.proofs.Common.{rules, ◌≡◌, ◌∙◌, sym, ap, subst, map}
use Rattle.std.proofs.lemmas.List.{at_drop_all}
use Rattle.std.specs.Prelude.{ℕ, ℤ, Ok, true, false, option_map}
use Rattle.tall_grammar.specs.Trees.{for_step, while_step}
use Rattle.tall_grammar.specs.Views.{arms_of, tree_of, step_of}
use Rattle.tall_grammar.specs.declared.steps.FunctionStep as f
use Rattle.tall_local.specs.Calls.{Ran, breaks, for_turns, local_value, run_arms, run_step, run_steps, turn_limit, while_turns}
use Rattle.tall_local.specs.Locals.{Locals}
use Rattle.tall_local.specs.Refusals.{stop_at, too_many_turns}
use Rattle.tall_texts.proofs.Lists.{drop_get, get_here}
use Rattle.tall_fun.specs.Frames.{Runs, arm_of, body_of, frame_state}
use Rattle.tall_fun.proofs.ValueLemmas.{some_is}
use Rattle.tall_fun.proofs.RunLemmas.{arm_tested, arm_failed, turn_began, loop_ended, turn_failed, while_at_end, while_not_begun, while_broken, while_next, while_stuck, waits_told, for_not_begun, for_broken, for_next, none_of, all_gone}
use Rattle.tall_fun.proofs.run.+run.Goals as goal

pub run_arms-loop-arm-preserved : goal.run_arms-loop-arm-preserved
run_arms-loop-arm-preserved t c = λ rest.
    let k = c.loop-arm.arm-index in
    let x = c.arm-item.result in
    let is = drop_get c.args.arms.now k x (get_here c.args.arms.now k x c.loop-arm-test.true c.arm-item.is) in
    let kv = c.args.values.now.cells in
    sym (arm_tested kv c.args.arms.now rest k (frame_state c.args.frame.now) (frame_state c.loop-arm.frame) (c.loop-arm.invariant rest) x is c.holds.result (frame_state c.holds.new.frame) false c.holds.ensures (c.in-Ok-false.is ∙ ap Ok c.in-Ok-false.field-0-test))

pub run_arms-returns-in-Err : goal.run_arms-returns-in-Err
run_arms-returns-in-Err t c = λ rest stop named.
    let k = c.loop-arm.arm-index in
    let x = c.arm-item.result in
    let is = drop_get c.args.arms.now k x (get_here c.args.arms.now k x c.loop-arm-test.true c.arm-item.is) in
    let kv = c.args.values.now.cells in
    arm_failed kv c.args.arms.now rest k (frame_state c.args.frame.now) (frame_state c.loop-arm.frame) (c.loop-arm.invariant rest) x is c.holds.result (frame_state c.holds.new.frame) c.in-Err.failure stop c.holds.ensures c.in-Err.is named

pub run_arms-returns-in-Ok : goal.run_arms-returns-in-Ok
run_arms-returns-in-Ok t c = λ rest.
    let k = c.loop-arm.arm-index in
    let x = c.arm-item.result in
    let is = drop_get c.args.arms.now k x (get_here c.args.arms.now k x c.loop-arm-test.true c.arm-item.is) in
    let kv = c.args.values.now.cells in
    arm_tested kv c.args.arms.now rest k (frame_state c.args.frame.now) (frame_state c.loop-arm.frame) (c.loop-arm.invariant rest) x is c.holds.result (frame_state c.holds.new.frame) true c.holds.ensures (c.in-Ok-true.is ∙ ap Ok c.in-Ok-true.field-0-test)
    ∙ ap (λ bs. run_steps kv (body_of bs) (frame_state c.holds.new.frame)) (sym c.as_slice.ensures) ∙ c.in-Ok.ensures

pub run_arms-returns-in-Err-run_steps : goal.run_arms-returns-in-Err-run_steps
run_arms-returns-in-Err-run_steps t c = λ rest stop named.
    let k = c.loop-arm.arm-index in
    let x = c.arm-item.result in
    let is = drop_get c.args.arms.now k x (get_here c.args.arms.now k x c.loop-arm-test.true c.arm-item.is) in
    let kv = c.args.values.now.cells in
    arm_tested kv c.args.arms.now rest k (frame_state c.args.frame.now) (frame_state c.loop-arm.frame) (c.loop-arm.invariant rest) x is c.holds.result (frame_state c.holds.new.frame) true c.holds.ensures (c.in-Ok-true.is ∙ ap Ok c.in-Ok-true.field-0-test)
    ∙ ap (λ bs. run_steps kv (body_of bs) (frame_state c.holds.new.frame)) (sym c.as_slice.ensures) ∙ c.in-Err-run_steps.ensures stop named

pub run_arms-returns : goal.run_arms-returns
run_arms-returns t c = λ rest.
    sym (c.loop-arm.invariant rest)
    ∙ at_drop_all (λ xs. run_arms c.args.values.now.cells (arms_of (map arm_of xs)) rest (frame_state c.loop-arm.frame)) c.args.arms.now c.loop-arm.arm-index c.loop-arm-test.false

pub run_step-returns-in-While : goal.run_step-returns-in-While
run_step-returns-in-While t c =
    let e : step_of c.args.step.now ≡ while_step c.in-While.line (tree_of c.in-While.condition) (body_of c.as_slice-in-While.result.now) = search (rules, f.the_lemmas) in
    subst (λ b. Runs (run_step c.args.values.now.cells b (frame_state c.args.frame.now)) c.run_while.result (frame_state c.run_while.new.frame)) (sym e) c.run_while.ensures

pub run_step-returns-in-For : goal.run_step-returns-in-For
run_step-returns-in-For t c =
    let e : step_of c.args.step.now ≡ for_step c.in-For.line c.in-For.name (tree_of c.in-For.from) (tree_of c.in-For.to) (body_of c.as_slice-in-For.result.now) = search (rules, f.the_lemmas) in
    subst (λ b. Runs (run_step c.args.values.now.cells b (frame_state c.args.frame.now)) c.run_for.result (frame_state c.run_for.new.frame)) (sym e) c.run_for.ensures

pub run_for-returns-in-Ok : goal.run_for-returns-in-Ok
run_for-returns-in-Ok t c =
    let turns : ℤ → ℕ → Locals → Ran = λ a n u. for_turns n c.args.line c.args.name.now a (λ t. run_steps c.args.values.now.cells (body_of c.args.body.now) t) u in
    subst (λ w. Runs w c.run_range.result (frame_state c.run_range.new.frame)) (sym (c.in-Ok.ensures turns)) c.run_range.ensures

pub run_for-returns-in-Err : goal.run_for-returns-in-Err
run_for-returns-in-Err t c = λ stop named.
    let turns : ℤ → ℕ → Locals → Ran = λ a n u. for_turns n c.args.line c.args.name.now a (λ t. run_steps c.args.values.now.cells (body_of c.args.body.now) t) u in
    c.in-Err.ensures turns stop named

pub run_range-returns-in-Err : goal.run_range-returns-in-Err
run_range-returns-in-Err t c = λ stop named.
    for_not_begun c.args.values.now.cells c.args.line c.args.name.now c.args.range.first (body_of c.args.body.now) c.args.range.turns c.loop-turn.turn (frame_state c.args.frame.now) (frame_state c.loop-turn.frame) c.loop-turn-test.true c.loop-turn.invariant stop (frame_state c.begin_number.new.frame) (λ f. c.in-Err.ensures f stop named)

pub run_range-returns-in-Err-run_steps : goal.run_range-returns-in-Err-run_steps
run_range-returns-in-Err-run_steps t c = λ stop named.
    for_broken c.args.values.now.cells c.args.line c.args.name.now c.args.range.first (body_of c.args.body.now) c.args.range.turns c.loop-turn.turn (frame_state c.args.frame.now) (frame_state c.loop-turn.frame) c.loop-turn-test.true c.loop-turn.invariant (frame_state c.begin_number.new.frame) (λ f. c.in-Ok.ensures f) stop (frame_state c.run_steps.new.frame) (c.in-Err-run_steps.ensures stop named)

pub run_range-loop-turn-preserved : goal.run_range-loop-turn-preserved
run_range-loop-turn-preserved t c =
    for_next c.args.values.now.cells c.args.line c.args.name.now c.args.range.first (body_of c.args.body.now) c.args.range.turns c.loop-turn.turn (frame_state c.args.frame.now) (frame_state c.loop-turn.frame) c.loop-turn-test.true c.loop-turn.invariant (frame_state c.begin_number.new.frame) (λ f. c.in-Ok.ensures f) (frame_state c.run_steps.new.frame) c.in-Ok-run_steps.ensures

pub run_while-loop-turn-init : goal.run_while-loop-turn-init
run_while-loop-turn-init t c =
    ap (λ n. while_turns n c.args.line (tree_of c.args.condition.now) (local_value c.args.values.now.cells (tree_of c.args.condition.now)) (λ t. run_steps c.args.values.now.cells (body_of c.args.body.now) t) (frame_state c.args.frame.now))
    (none_of turn_limit)

pub run_while-returns-in-Ok-false : goal.run_while-returns-in-Ok-false
run_while-returns-in-Ok-false t c =
    while_at_end c.args.values.now.cells c.args.line (tree_of c.args.condition.now) (body_of c.args.body.now) c.loop-turn._turn (frame_state c.args.frame.now) (frame_state c.loop-turn.frame) c.loop-turn-test.true c.loop-turn.invariant (frame_state c.begin_where_holds.new.frame) (loop_ended c.args.values.now.cells (tree_of c.args.condition.now) c.args.line (frame_state c.loop-turn.frame) (frame_state c.begin_where_holds.new.frame) c.begin_where_holds.result c.begin_where_holds.ensures (c.in-Ok-false.is ∙ ap Ok c.in-Ok-false.field-0-test))

pub run_while-returns-in-Err : goal.run_while-returns-in-Err
run_while-returns-in-Err t c = λ stop named.
    while_not_begun c.args.values.now.cells c.args.line (tree_of c.args.condition.now) (body_of c.args.body.now) c.loop-turn._turn (frame_state c.args.frame.now) (frame_state c.loop-turn.frame) c.loop-turn-test.true c.loop-turn.invariant stop (frame_state c.begin_where_holds.new.frame) (turn_failed c.args.values.now.cells (tree_of c.args.condition.now) c.args.line (frame_state c.loop-turn.frame) (frame_state c.begin_where_holds.new.frame) c.begin_where_holds.result c.begin_where_holds.ensures c.in-Err.failure stop c.in-Err.is named)

pub run_while-returns-in-Err-run_steps : goal.run_while-returns-in-Err-run_steps
run_while-returns-in-Err-run_steps t c = λ stop named.
    while_broken c.args.values.now.cells c.args.line (tree_of c.args.condition.now) (body_of c.args.body.now) c.loop-turn._turn (frame_state c.args.frame.now) (frame_state c.loop-turn.frame) c.loop-turn-test.true c.loop-turn.invariant (frame_state c.begin_where_holds.new.frame) (turn_began c.args.values.now.cells (tree_of c.args.condition.now) c.args.line (frame_state c.loop-turn.frame) (frame_state c.begin_where_holds.new.frame) c.begin_where_holds.result c.begin_where_holds.ensures (c.in-Ok-true.is ∙ ap Ok c.in-Ok-true.field-0-test)) stop (frame_state c.run_steps.new.frame) (c.in-Err-run_steps.ensures stop named)

pub run_while-returns-in-Err-end_turn : goal.run_while-returns-in-Err-end_turn
run_while-returns-in-Err-end_turn t c = λ stop named.
    while_stuck c.args.values.now.cells c.args.line (tree_of c.args.condition.now) (body_of c.args.body.now) c.loop-turn._turn (frame_state c.args.frame.now) (frame_state c.loop-turn.frame) c.loop-turn-test.true c.loop-turn.invariant (frame_state c.begin_where_holds.new.frame) (turn_began c.args.values.now.cells (tree_of c.args.condition.now) c.args.line (frame_state c.loop-turn.frame) (frame_state c.begin_where_holds.new.frame) c.begin_where_holds.result c.begin_where_holds.ensures (c.in-Ok-true.is ∙ ap Ok c.in-Ok-true.field-0-test)) c.waits-waits.result stop (frame_state c.run_steps.new.frame)
    (waits_told (option_map (λ x. x.now) c.has_next_of-has_next.result) c.waits-waits.result (tree_of c.args.condition.now) (frame_state c.begin_where_holds.new.frame) c.has_next_of-has_next.ensures c.waits-waits.ensures)
    c.in-Ok.ensures (λ f. c.in-Err-end_turn.ensures f stop named)

pub run_while-loop-turn-preserved : goal.run_while-loop-turn-preserved
run_while-loop-turn-preserved t c =
    while_next c.args.values.now.cells c.args.line (tree_of c.args.condition.now) (body_of c.args.body.now) c.loop-turn._turn (frame_state c.args.frame.now) (frame_state c.loop-turn.frame) c.loop-turn-test.true c.loop-turn.invariant (frame_state c.begin_where_holds.new.frame) (turn_began c.args.values.now.cells (tree_of c.args.condition.now) c.args.line (frame_state c.loop-turn.frame) (frame_state c.begin_where_holds.new.frame) c.begin_where_holds.result c.begin_where_holds.ensures (c.in-Ok-true.is ∙ ap Ok c.in-Ok-true.field-0-test)) c.waits-waits.result (frame_state c.run_steps.new.frame)
    (waits_told (option_map (λ x. x.now) c.has_next_of-has_next.result) c.waits-waits.result (tree_of c.args.condition.now) (frame_state c.begin_where_holds.new.frame) c.has_next_of-has_next.ensures c.waits-waits.ensures)
    c.in-Ok.ensures (λ f. c.in-Ok-end_turn.ensures f)

pub run_while-returns : goal.run_while-returns
run_while-returns t c = λ stop named.
    sym c.loop-turn.invariant
    ∙ ap (λ n. while_turns n c.args.line (tree_of c.args.condition.now) (local_value c.args.values.now.cells (tree_of c.args.condition.now)) (λ t. run_steps c.args.values.now.cells (body_of c.args.body.now) t) (frame_state c.loop-turn.frame))
    (all_gone turn_limit c.loop-turn._turn c.loop-turn-test.false)
    ∙ ap (λ z. breaks z (frame_state c.loop-turn.frame)) (some_is (stop_at c.args.line too_many_turns) stop named)

pub run_step-returns-in-Err : goal.run_step-returns-in-Err
run_step-returns-in-Err t c = λ stop named.
    let h = c.in-Err.ensures (λ t. run_steps c.args.values.now.cells (body_of c.in-If.rest) t) stop named in
    search (rules, f.the_lemmas, h)
