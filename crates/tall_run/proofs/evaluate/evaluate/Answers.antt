use Rattle.std.proofs.Common.{◌∙◌}
use Rattle.tall_grammar.specs.Views.{program_of}
use Rattle.tall_outside.specs.Count.{Rose}
use Rattle.tall_script.specs.AllowedOpenings.{script_openings}
use Rattle.tall_steps.proofs.Progressing.{has_end}
use Rattle.tall_run.proofs.Evaluating.{grows_of, run_answered, run_text, script_alone, script_and_files, unwritten_end}
use Rattle.tall_run.proofs.Promising.{no_front}
use Rattle.tall_run.proofs.evaluate.evaluate.Goals as goal

pub returns-in-Ok-clause-answered : goal.returns-in-Ok-clause-answered
returns-in-Ok-clause-answered g c =
    run_answered g.S.Shelf c.args.name.now c.args.shelf.now (g.O.Sink.written c.args.out.now) (program_of c.in-Ok.script) c.read_script.new.shelf c.run_all.new.shelf (g.O.Sink.written c.run_all.new.out)
    (Rose (g.O.Sink.faults c.args.out.now) (g.O.Sink.faults c.run_all.new.out)) c.in-Ok.ensures.later
    (grows_of (script_openings c.args.name.now) (g.S.Shelf.opened c.args.shelf.now) (g.S.Shelf.opened c.read_script.new.shelf) c.in-Ok.ensures.opens) c.in-Ok.ensures.held c.in-Ok.ensures.told
    c.in-Ok.ensures.script c.run_all.ensures.quiet c.run_all.result c.run_all.ensures.ended

pub returns-in-Ok-clause-front : goal.returns-in-Ok-clause-front
returns-in-Ok-clause-front g c = λ files tells.
    run_text files c.args.name.now (program_of c.in-Ok.script) (g.O.Sink.written c.args.out.now) (g.O.Sink.written c.run_all.new.out) (c.in-Ok.ensures.told files tells)
    (c.run_all.ensures.front files (c.in-Ok.ensures.held ∙ tells))

pub returns-in-Ok-clause-opens : goal.returns-in-Ok-clause-opens
returns-in-Ok-clause-opens g c = λ files tells.
    script_and_files files c.args.name.now (program_of c.in-Ok.script) (g.S.Shelf.opened c.args.shelf.now) (g.S.Shelf.opened c.read_script.new.shelf) (g.S.Shelf.opened c.run_all.new.shelf)
    (c.in-Ok.ensures.told files tells) c.in-Ok.ensures.opens (c.run_all.ensures.opens files (c.in-Ok.ensures.held ∙ tells))

pub returns-in-Err-clause-answered : goal.returns-in-Err-clause-answered
returns-in-Err-clause-answered g c =
    has_end c.in-Err.ending (unwritten_end g.S.Shelf c.args.name.now c.args.shelf.now (g.O.Sink.written c.args.out.now) c.read_script.new.shelf) c.in-Err.ensures.ends

pub returns-in-Err-clause-front : goal.returns-in-Err-clause-front
returns-in-Err-clause-front g c = λ files tells a answers. no_front a.text (g.O.Sink.written c.args.out.now)

pub returns-in-Err-clause-opens : goal.returns-in-Err-clause-opens
returns-in-Err-clause-opens g c = λ files tells.
    script_alone files c.args.name.now (g.S.Shelf.opened c.args.shelf.now) (g.S.Shelf.opened c.read_script.new.shelf) c.in-Err.ensures.opens
