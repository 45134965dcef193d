-- A variable in memory is that of the script.
use Rattle.std.specs.Prelude.{refl}
use Rattle.std.proofs.Common.{ap}
use Rattle.tall_local.specs.MemoryIndexing.{memory_member}
use Rattle.tall_local.specs.Values.{memory_answer}
use Rattle.tall_memory.specs.Values.{ref_seen}
use Rattle.tall_script.specs.ScriptValues.{member_value}
use Rattle.tall_deferred.proofs.Grown.{due_through}
use Rattle.tall_deferred.proofs.members.variable_in_memory.Goals as goal

pub returns-in-Ok-clause-given : goal.returns-in-Ok-clause-given
unfolding member_value
returns-in-Ok-clause-given c f = ap memory_answer c.in-Ok.ensures

pub returns-in-Err-clause-given : goal.returns-in-Err-clause-given
unfolding member_value
returns-in-Err-clause-given c f =
    let want = memory_member (ref_seen c.args.v.now) c.args.name.now in
    due_through memory_answer (λ r. refl) want c.of_memory.result (c.of_memory.ensures.lends want c.in-Err.ensures)
