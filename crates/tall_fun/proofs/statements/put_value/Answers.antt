use Rattle.std.proofs.Common.{rules, ◌∙◌, sym}
use Rattle.tall_fun.specs.Frames.{frame_state}
use Rattle.tall_fun.specs.Values.{held_seen}
use Rattle.tall_fun.proofs.FrameLemmas.{memory_assigned, other_assigned}
use Rattle.tall_fun.proofs.statements.put_value.Goals as goal

pub returns-then-not-is_memory : goal.returns-then-not-is_memory
returns-then-not-is_memory c = λ stop is.
    other_assigned c.args.line c.args.name.now (held_seen c.args.value) (frame_state c.args.frame.now) stop (sym c.is_memory.ensures ∙ c.if-not-is_memory.true) (sym c.failed.ensures ∙ is)

pub returns-in-Ok : goal.returns-in-Ok
returns-in-Ok c =
    let m = memory_assigned c.args.line c.args.name.now (held_seen c.args.value) (frame_state c.args.frame.now) (sym c.is_memory.ensures ∙ c.if-not-is_memory.false) in
    search (rules, m)
