use Rattle.std.proofs.Common.{◌∙◌, sym, ap, map}
use Rattle.std.specs.Prelude.{option_map}
use Rattle.tall_memory.specs.Values.{ref_seen}
use Rattle.tall_evaluate.specs.Senses.{argument_seen}
use Rattle.tall_fun.specs.Values.{held_seen}
use Rattle.tall_fun.proofs.HeldLemmas.{indexed_held, indexed_none}
use Rattle.tall_fun.proofs.applications.indexed.Goals as goal

pub returns-in-Some : goal.returns-in-Some
returns-in-Some c =
    indexed_held (held_seen c.args.whole.now) (map (argument_seen held_seen) c.args.args.now) (ref_seen c.in-Some.v) c.index_in_memory.result
    (sym c.memory.ensures ∙ ap (λ o. option_map ref_seen o) c.in-Some.is) c.index_in_memory.ensures

pub returns-in-None : goal.returns-in-None
returns-in-None c =
    indexed_none (held_seen c.args.whole.now) (map (argument_seen held_seen) c.args.args.now) (sym c.memory.ensures ∙ ap (λ o. option_map ref_seen o) c.in-None.is)
