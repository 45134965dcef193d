use Rattle.std.proofs.Common.{subst, sym}
use Rattle.tall_grammar.specs.Views.{tree_of}
use Rattle.tall_local.specs.Calls.{assigned}
use Rattle.tall_fun.specs.Frames.{Runs, frame_state}
use Rattle.tall_fun.specs.Values.{held_seen}
use Rattle.tall_fun.proofs.FrameLemmas.{with_given, with_stopped}
use Rattle.tall_fun.proofs.statements.assign.Goals as goal

pub returns-in-Ok : goal.returns-in-Ok
returns-in-Ok c =
    subst (λ w. Runs w c.put_value.result (frame_state c.put_value.new.frame))
    (sym (with_given c.args.values.now.cells (tree_of c.args.e.now) (frame_state c.args.frame.now) (assigned c.args.line c.args.name.now) (held_seen c.in-Ok.value) (frame_state c.value_of.new.frame) c.in-Ok.ensures))
    c.put_value.ensures

pub returns-in-Err : goal.returns-in-Err
returns-in-Err c = λ stop is.
    with_stopped c.args.values.now.cells (tree_of c.args.e.now) (frame_state c.args.frame.now) (assigned c.args.line c.args.name.now) stop (frame_state c.value_of.new.frame) (c.in-Err.ensures stop is)
