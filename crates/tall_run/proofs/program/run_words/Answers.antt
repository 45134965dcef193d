use Rattle.std.proofs.Common.{◌≡◌, rules, subst, sym}
use Rattle.std.specs.Prelude.{None, map, string_bytes}
use Rattle.tall_local.specs.FaultLines.{fault_line, usage_text}
use Rattle.tall_outside.specs.Count.{Rose}
use Rattle.tall_words.specs.Commands.{command}
use Rattle.tall_run.specs.Promises.{Promises}
use Rattle.tall_run.proofs.Promising.{memory_promises, usage_as, usage_promises}
use Rattle.tall_run.proofs.program.run_words.Goals as goal

pub returns-in-Ok : goal.returns-in-Ok
returns-in-Ok g c =
    subst (λ o. Promises g.S.Shelf o c.args.shelf.now c.run_command.new.shelf (Rose (g.O.Sink.faults c.args.out.now) (g.O.Sink.faults c.run_command.new.out)) (Rose (g.E.Sink.faults c.args.err.now) (g.E.Sink.faults c.run_command.new.err))
    c.run_command.result (record { text = g.O.Sink.written c.args.out.now; line = g.E.Sink.written c.args.err.now }) (record { text = g.O.Sink.written c.run_command.new.out; line = g.E.Sink.written c.run_command.new.err })) (sym c.in-Ok.ensures.command)
    c.run_command.ensures

pub returns-in-Err-Usage : goal.returns-in-Err-Usage
returns-in-Err-Usage g c =
    let same : c.as_bytes.result.now ≡ fault_line usage_text = search rules in
    let none : command (map string_bytes c.args.words.now) ≡ None = search rules in
    subst (λ o. Promises g.S.Shelf o c.args.shelf.now c.args.shelf.now (Rose (g.O.Sink.faults c.args.out.now) (g.O.Sink.faults c.args.out.now)) (Rose (g.E.Sink.faults c.args.err.now) (g.E.Sink.faults c.end_with.new.err))
    c.end_with.result (record { text = g.O.Sink.written c.args.out.now; line = g.E.Sink.written c.args.err.now }) (record { text = g.O.Sink.written c.args.out.now; line = g.E.Sink.written c.end_with.new.err })) (sym none)
    (usage_promises (Rose (g.O.Sink.faults c.args.out.now) (g.O.Sink.faults c.args.out.now)) (Rose (g.E.Sink.faults c.args.err.now) (g.E.Sink.faults c.end_with.new.err)) c.end_with.result
    (g.O.Sink.written c.args.out.now) (g.E.Sink.written c.args.err.now) (g.E.Sink.written c.end_with.new.err) g.S.Shelf c.args.shelf.now
    (usage_as (Rose (g.E.Sink.faults c.args.err.now) (g.E.Sink.faults c.end_with.new.err)) c.end_with.result (g.E.Sink.written c.args.err.now) (g.E.Sink.written c.end_with.new.err) c.as_bytes.result.now same c.end_with.ensures))

pub returns-in-Err-Memory : goal.returns-in-Err-Memory
returns-in-Err-Memory g c =
    memory_promises (Rose (g.O.Sink.faults c.args.out.now) (g.O.Sink.faults c.args.out.now)) (Rose (g.E.Sink.faults c.args.err.now) (g.E.Sink.faults c.end_without_memory.new.err)) c.end_without_memory.result
    (g.O.Sink.written c.args.out.now) (g.E.Sink.written c.args.err.now) (g.E.Sink.written c.end_without_memory.new.err) g.S.Shelf (command (map string_bytes c.args.words.now)) c.args.shelf.now c.end_without_memory.ensures
