use Rattle.std.proofs.Common.{ap}
use Rattle.tall_grammar.specs.Views.{routine_of}
use Rattle.tall_fun.specs.Frames.{body_of, frame_state}
use Rattle.tall_fun.proofs.CallLemmas.{call_ended, call_failed}
use Rattle.tall_fun.proofs.calls.run_call.Goals as goal

pub returns-in-Ok : goal.returns-in-Ok
returns-in-Ok c =
    call_ended c.args.values.now.cells (routine_of c.args.function.now).body (body_of c.as_slice-body.result.now) c.args.names c.new-turns.result c.replace-kept.result c.args.store.now
    c.new-turns.ensures c.replace-kept.ensures.value (ap body_of c.as_slice-body.ensures) (frame_state c.run_steps-ran.new.frame) c.run_steps-ran.result c.run_steps-ran.ensures
    c.in-Ok.field-0 c.in-Ok.is

pub returns : goal.returns
returns c =
    call_failed c.args.values.now.cells (routine_of c.args.function.now).body (body_of c.as_slice-body.result.now) c.args.names c.new-turns.result c.replace-kept.result c.args.store.now
    c.new-turns.ensures c.replace-kept.ensures.value (ap body_of c.as_slice-body.ensures) (frame_state c.run_steps-ran.new.frame) c.run_steps-ran.result c.run_steps-ran.ensures
    c.in-Err.failure c.fault_of.result c.in-Err.is c.fault_of.ensures
