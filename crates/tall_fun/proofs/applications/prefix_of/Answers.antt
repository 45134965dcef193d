use Rattle.std.proofs.Common.{◌∙◌, sym, ap}
use Rattle.std.specs.Prelude.{option_map}
use Rattle.tall_local.specs.MemoryOperators.{memory_prefix}
use Rattle.tall_memory.specs.Values.{ref_seen}
use Rattle.tall_fun.specs.Values.{held_seen}
use Rattle.tall_fun.proofs.HeldLemmas.{computed}
use Rattle.tall_fun.proofs.applications.prefix_of.Goals as goal

pub returns-in-Some : goal.returns-in-Some
returns-in-Some c =
    computed (held_seen c.args.operand.now) (memory_prefix c.args.op) (ref_seen c.in-Some.v) c.memory_prefix.result c.kept.result
    (sym c.memory.ensures ∙ ap (λ o. option_map ref_seen o) c.in-Some.is) c.memory_prefix.ensures c.kept.ensures
