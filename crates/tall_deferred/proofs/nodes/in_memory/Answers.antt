-- A value and a refusal in memory are those of the script.
use Rattle.std.specs.Prelude.{refl}
use Rattle.std.proofs.Common.{sym, subst}
use Rattle.tall_local.specs.Values.{memory_answer}
use Rattle.tall_memory.specs.Values.{Gives}
use Rattle.tall_deferred.specs.Answers.{Comes}
use Rattle.tall_deferred.specs.Values.{value_at}
use Rattle.tall_deferred.proofs.Grown.{due_through}
use Rattle.tall_deferred.proofs.nodes.in_memory.Goals as goal

pub returns-in-Ok-clause-given : goal.returns-in-Ok-clause-given
returns-in-Ok-clause-given c f want h = subst (λ w. Comes (value_at f) (memory_answer w) c.shared.result) (sym (subst (Gives want) c.in-Ok.is h)) (c.shared.ensures.given f)

pub returns-in-Err-clause-given : goal.returns-in-Err-clause-given
returns-in-Err-clause-given c f want h = due_through memory_answer (λ r. refl) want c.of_memory.result (c.of_memory.ensures.gives want (subst (Gives want) c.in-Err.is h))
