use Rattle.std.proofs.Common.{sym, subst, ap}
use Rattle.std.specs.Prelude.{Ok, Err}
use Rattle.tall_local.specs.Locals.{held}
use Rattle.tall_local.specs.MemoryIndexing.{memory_member}
use Rattle.tall_memory.specs.Values.{Lends, ref_seen, value_seen}
use Rattle.tall_fun.specs.Values.{GivesHeld}
use Rattle.tall_fun.proofs.ValueLemmas.{lends_refused}
use Rattle.tall_fun.proofs.applications.kept_variable.Goals as goal

pub returns-in-Ok : goal.returns-in-Ok
returns-in-Ok c =
    let l : Lends (memory_member (value_seen c.args.whole.now) c.args.name.now) (Ok c.in-Ok.x)
    = subst (λ m. Lends (memory_member m c.args.name.now) (Ok c.in-Ok.x)) c.lend-whole.ensures
    (subst (λ r. Lends (memory_member (ref_seen c.lend-whole.result) c.args.name.now) r) c.in-Ok.is c.memory_member.ensures) in
    subst (λ w. GivesHeld (held w) c.kept.result) (sym l) (c.kept.ensures (Ok (ref_seen c.in-Ok.x)) c.copied.ensures)

pub returns-in-Err : goal.returns-in-Err
returns-in-Err c =
    let l : Lends (memory_member (value_seen c.args.whole.now) c.args.name.now) (Err c.in-Err.fault)
    = subst (λ m. Lends (memory_member m c.args.name.now) (Err c.in-Err.fault)) c.lend-whole.ensures
    (subst (λ r. Lends (memory_member (ref_seen c.lend-whole.result) c.args.name.now) r) c.in-Err.is c.memory_member.ensures) in
    λ r e. ap held (lends_refused (memory_member (value_seen c.args.whole.now) c.args.name.now) c.in-Err.fault r l e)
