use Rattle.std.proofs.Common.{sym, subst}
use Rattle.tall_local.specs.Locals.{Locals}
use Rattle.tall_evaluate.specs.Senses.{Agrees}
use Rattle.tall_fun.specs.Failures.{stop_of}
use Rattle.tall_fun.specs.Frames.{frame_state}
use Rattle.tall_fun.specs.Values.{held_seen}
use Rattle.tall_fun.proofs.frame.value_of.Goals as goal

pub returns-in-Some : goal.returns-in-Some
returns-in-Some c =
    let s : Locals = frame_state c.args.frame.now in
    let t : Locals = record s { given = c.plain_value.new.given } in
    subst (λ w. Agrees held_seen stop_of w c.kept_answer-answer.result t) (sym (c.in-Some.ensures.comes s.turns s.pairs)) (c.kept_answer-answer.ensures t)
