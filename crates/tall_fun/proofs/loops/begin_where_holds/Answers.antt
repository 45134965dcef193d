use Rattle.std.proofs.Common.{subst, ap, ◌∙◌}
use Rattle.std.specs.Prelude.{Ok}
use Rattle.tall_grammar.specs.Views.{tree_of}
use Rattle.tall_local.specs.Calls.{Ran, begin_turn, local_value, where_holds}
use Rattle.tall_local.specs.Locals.{Locals}
use Rattle.tall_fun.specs.Frames.{Goes, frame_state}
use Rattle.tall_fun.proofs.LoopLemmas.{chosen, where_goes}
use Rattle.tall_fun.proofs.loops.begin_where_holds.Goals as goal

pub returns-in-Ok : goal.returns-in-Ok
returns-in-Ok c = λ f.
    let begins : Locals → Ran = λ t. begin_turn c.args.line t f in
    subst (λ r. Goes (where_holds c.args.line (local_value c.args.values.now.cells (tree_of c.args.condition.now) (frame_state c.args.frame.now)) begins) (chosen begins) r (frame_state c.holds.new.frame))
    (c.in-Ok-true.is ∙ ap Ok c.in-Ok-true.field-0-test)
    (where_goes c.args.values.now.cells (tree_of c.args.condition.now) c.args.line (frame_state c.args.frame.now) (frame_state c.holds.new.frame) begins c.holds.result (c.holds.ensures (chosen begins)))
    ∙ c.in-Ok.ensures f

pub returns-in-Err-begin_turn : goal.returns-in-Err-begin_turn
returns-in-Err-begin_turn c = λ f stop is.
    let begins : Locals → Ran = λ t. begin_turn c.args.line t f in
    subst (λ r. Goes (where_holds c.args.line (local_value c.args.values.now.cells (tree_of c.args.condition.now) (frame_state c.args.frame.now)) begins) (chosen begins) r (frame_state c.holds.new.frame))
    (c.in-Ok-true.is ∙ ap Ok c.in-Ok-true.field-0-test)
    (where_goes c.args.values.now.cells (tree_of c.args.condition.now) c.args.line (frame_state c.args.frame.now) (frame_state c.holds.new.frame) begins c.holds.result (c.holds.ensures (chosen begins)))
    ∙ c.in-Err-begin_turn.ensures f stop is

pub returns-in-Ok-false : goal.returns-in-Ok-false
returns-in-Ok-false c = λ f.
    let begins : Locals → Ran = λ t. begin_turn c.args.line t f in
    subst (λ r. Goes (where_holds c.args.line (local_value c.args.values.now.cells (tree_of c.args.condition.now) (frame_state c.args.frame.now)) begins) (chosen begins) r (frame_state c.holds.new.frame))
    (c.in-Ok-false.is ∙ ap Ok c.in-Ok-false.field-0-test)
    (where_goes c.args.values.now.cells (tree_of c.args.condition.now) c.args.line (frame_state c.args.frame.now) (frame_state c.holds.new.frame) begins c.holds.result (c.holds.ensures (chosen begins)))

pub returns-in-Err : goal.returns-in-Err
returns-in-Err c = λ f stop is.
    let begins : Locals → Ran = λ t. begin_turn c.args.line t f in
    subst (λ r. Goes (where_holds c.args.line (local_value c.args.values.now.cells (tree_of c.args.condition.now) (frame_state c.args.frame.now)) begins) (chosen begins) r (frame_state c.holds.new.frame))
    c.in-Err.is
    (where_goes c.args.values.now.cells (tree_of c.args.condition.now) c.args.line (frame_state c.args.frame.now) (frame_state c.holds.new.frame) begins c.holds.result (c.holds.ensures (chosen begins)))
    stop is
