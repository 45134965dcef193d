use Rattle.std.proofs.Common.{◌∙◌, sym, ap, subst}
use Rattle.std.specs.Prelude.{Ok, option_map}
use Rattle.tall_memory.specs.Values.{ref_seen}
use Rattle.tall_fun.specs.Values.{GivesHeld, held_seen}
use Rattle.tall_fun.proofs.FrameLemmas.{value_is}
use Rattle.tall_fun.proofs.frame.copy_of.Goals as goal

pub returns-in-Some : goal.returns-in-Some
returns-in-Some c =
    subst (λ h. GivesHeld (Ok h) c.kept.result) (sym (value_is (held_seen c.args.v.now) (ref_seen c.in-Some.r) (sym c.memory.ensures ∙ ap (λ o. option_map ref_seen o) c.in-Some.is)))
    (c.kept.ensures (Ok (ref_seen c.in-Some.r)) c.copied.ensures)
