use Rattle.std.proofs.Common.{◌∙◌, sym, ap}
use Rattle.std.specs.Prelude.{option_map}
use Rattle.tall_memory.specs.Values.{ref_seen}
use Rattle.tall_fun.specs.Values.{held_seen}
use Rattle.tall_fun.proofs.HeldLemmas.{computed_left}
use Rattle.tall_fun.proofs.applications.both_of.Goals as goal

pub returns-in-Some : goal.returns-in-Some
returns-in-Some c =
    computed_left c.args.op (held_seen c.args.left.now) (held_seen c.args.right.now) (ref_seen c.in-Some.v) c.after_memory.result
    (sym c.memory.ensures ∙ ap (λ o. option_map ref_seen o) c.in-Some.is) c.after_memory.ensures
