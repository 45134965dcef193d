use Rattle.std.proofs.Common.{refl, ap}
use Rattle.tall_grammar.specs.Views.{tree_of}
use Rattle.tall_local.specs.Calls.{local_value}
use Rattle.tall_local.specs.Locals.{Locals}
use Rattle.tall_fun.specs.Frames.{frame_state}
use Rattle.tall_fun.proofs.FrameLemmas.{evaluated_by}
use Rattle.tall_fun.proofs.frame.walked.Goals as goal

pub returns : goal.returns
returns c =
    let s : Locals = frame_state c.args.frame.now in
    c.owned_answer-answer.ensures (local_value c.args.values.now.cells (tree_of c.args.e.now) s) (record s { given = c.evaluated.new.scope.given })
    (evaluated_by c.args.values.now.cells (tree_of c.args.e.now) s _ c.evaluated.new.scope c.evaluated.result
    (ap (λ n. record s { turns = n }) c.count.ensures) refl c.evaluated.ensures)
