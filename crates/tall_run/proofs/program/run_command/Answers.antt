use Rattle.std.proofs.Common.{◌≡◌, refl, rules, subst, sym}
use Rattle.std.specs.Prelude.{Some, string_bytes}
use Rattle.tall_outside.specs.Count.{Rose}
use Rattle.tall_words.specs.Commands.{run_script}
use Rattle.tall_words.specs.Demo.{demo_files}
use Rattle.tall_words.specs.Seen.{seen}
use Rattle.tall_run.specs.Promises.{Promises}
use Rattle.tall_run.proofs.Promising.{demo_promises, script_promises}
use Rattle.tall_run.proofs.program.run_command.Goals as goal

pub returns-in-Script : goal.returns-in-Script
returns-in-Script g c =
    let named : c.as_str.result.now ≡ string_bytes c.in-Script.name = search rules in
    subst (λ a. Promises g.S.Shelf (Some (seen a)) c.args.shelf.now c.run_script.new.shelf (Rose (g.O.Sink.faults c.args.out.now) (g.O.Sink.faults c.run_script.new.out)) (Rose (g.E.Sink.faults c.args.err.now) (g.E.Sink.faults c.run_script.new.err))
    c.run_script.result (record { text = g.O.Sink.written c.args.out.now; line = g.E.Sink.written c.args.err.now }) (record { text = g.O.Sink.written c.run_script.new.out; line = g.E.Sink.written c.run_script.new.err })) (sym c.in-Script.is)
    (subst (λ n. Promises g.S.Shelf (Some (run_script n c.in-Script.workers)) c.args.shelf.now c.run_script.new.shelf (Rose (g.O.Sink.faults c.args.out.now) (g.O.Sink.faults c.run_script.new.out)) (Rose (g.E.Sink.faults c.args.err.now) (g.E.Sink.faults c.run_script.new.err))
    c.run_script.result (record { text = g.O.Sink.written c.args.out.now; line = g.E.Sink.written c.args.err.now }) (record { text = g.O.Sink.written c.run_script.new.out; line = g.E.Sink.written c.run_script.new.err })) named
    (script_promises g.S.Shelf c.as_str.result.now c.in-Script.workers c.args.shelf.now c.run_script.new.shelf (Rose (g.O.Sink.faults c.args.out.now) (g.O.Sink.faults c.run_script.new.out)) (Rose (g.E.Sink.faults c.args.err.now) (g.E.Sink.faults c.run_script.new.err)) c.run_script.result
    (record { text = g.O.Sink.written c.args.out.now; line = g.E.Sink.written c.args.err.now }) (record { text = g.O.Sink.written c.run_script.new.out; line = g.E.Sink.written c.run_script.new.err })
    c.run_script.ensures.ends c.run_script.ensures.front c.run_script.ensures.held c.run_script.ensures.opens))

pub returns-in-Demo : goal.returns-in-Demo
returns-in-Demo g c =
    subst (λ a. Promises g.S.Shelf (Some (seen a)) c.args.shelf.now c.args.shelf.now (Rose (g.O.Sink.faults c.args.out.now) (g.O.Sink.faults c.run_demo.new.out)) (Rose (g.E.Sink.faults c.args.err.now) (g.E.Sink.faults c.run_demo.new.err))
    c.run_demo.result (record { text = g.O.Sink.written c.args.out.now; line = g.E.Sink.written c.args.err.now }) (record { text = g.O.Sink.written c.run_demo.new.out; line = g.E.Sink.written c.run_demo.new.err })) (sym c.in-Demo.is)
    (demo_promises g.S.Shelf (demo_files c.in-Demo.rows) c.in-Demo.rows c.in-Demo.workers c.args.shelf.now (Rose (g.O.Sink.faults c.args.out.now) (g.O.Sink.faults c.run_demo.new.out)) (Rose (g.E.Sink.faults c.args.err.now) (g.E.Sink.faults c.run_demo.new.err)) c.run_demo.result
    (record { text = g.O.Sink.written c.args.out.now; line = g.E.Sink.written c.args.err.now }) (record { text = g.O.Sink.written c.run_demo.new.out; line = g.E.Sink.written c.run_demo.new.err }) refl
    c.run_demo.ensures.ends c.run_demo.ensures.front)
