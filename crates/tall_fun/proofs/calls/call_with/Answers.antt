use Rattle.std.proofs.Common.{◌∙◌, ◌∷◌, [], sym, ap, subst}
use Rattle.tall_grammar.specs.Views.{routine_of}
use Rattle.tall_local.specs.Calls.{parameters, result_of, run_steps}
use Rattle.tall_local.specs.Locals as locals
use Rattle.tall_fun.specs.Faults.{CallsTo}
use Rattle.tall_fun.specs.Frames.{call_state}
use Rattle.tall_fun.specs.Values.{held_seen}
use Rattle.tall_fun.proofs.calls.call_with.Goals as goal

pub returns-in-Ok : goal.returns-in-Ok
returns-in-Ok c =
    subst (λ w. CallsTo {A = Unit {0}} w c.run_call.new.store c.run_call.result)
    (sym (ap (λ names. result_of (run_steps c.args.values.now.cells (routine_of c.args.function.now).body (call_state names c.args.store.now)))
    (ap (λ ps. parameters ps (held_seen c.args.first ∷ held_seen c.args.second ∷ locals.store ∷ []) []) (sym c.as_slice.ensures) ∙ c.in-Ok.ensures)))
    c.run_call.ensures
