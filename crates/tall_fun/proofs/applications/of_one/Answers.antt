use Rattle.std.proofs.Common.{subst, []}
use Rattle.tall_local.specs.Applications.{application}
use Rattle.tall_local.specs.Memory.{scalar_in}
use Rattle.tall_local.specs.MemoryFunctions.{memory_application}
use Rattle.tall_local.specs.Refusals.{and_then, bad_argument, or_refuse}
use Rattle.tall_memory.specs.Values.{Gives, ref_seen}
use Rattle.tall_evaluate.specs.Senses.{argument_seen}
use Rattle.tall_fun.specs.Values.{held_seen}
use Rattle.tall_fun.proofs.HeldLemmas.{listed_none, listed_one}
use Rattle.tall_fun.proofs.applications.of_one.Goals as goal

pub returns : goal.returns
returns c vs e =
    subst (λ ms. Gives (and_then (or_refuse bad_argument (application scalar_in c.args.f ms)) memory_application) c.function_in_memory.result)
    (listed_one (argument_seen held_seen c.args.a.now) ([]) (ref_seen c.memory_in.result) ([]) c.memory_in.ensures (listed_none) vs e) c.function_in_memory.ensures
