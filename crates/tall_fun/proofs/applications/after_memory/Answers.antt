use Rattle.std.proofs.Common.{◌∙◌, sym, ap, subst}
use Rattle.std.specs.Prelude.{option_map}
use Rattle.tall_local.specs.MemoryOperators.{memory_binary}
use Rattle.tall_memory.specs.Values.{Gives, ref_seen}
use Rattle.tall_fun.specs.Values.{held_seen}
use Rattle.tall_fun.proofs.HeldLemmas.{computed_right}
use Rattle.tall_fun.proofs.applications.after_memory.Goals as goal

pub returns-in-Some : goal.returns-in-Some
returns-in-Some c =
    computed_right c.args.op (ref_seen c.args.v.now) (ref_seen c.in-Some.w) (held_seen c.args.right.now) c.memory_binary.result c.kept.result
    (sym c.memory.ensures ∙ ap (λ o. option_map ref_seen o) c.in-Some.is)
    (subst (λ o. Gives (memory_binary o (ref_seen c.args.v.now) (ref_seen c.in-Some.w)) c.memory_binary.result) c.binary_of.ensures c.memory_binary.ensures) c.kept.ensures
