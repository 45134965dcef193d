-- Format by format.
use Rattle.std.specs.Prelude.{◌≡◌, ◌+◌, drop}
use Rattle.std.proofs.Common.{subst, sym, ◌∙◌}
use Rattle.tall_local.specs.Lists.{all_of}
use Rattle.tall_local.specs.Names.{named}
use Rattle.tall_script.specs.StoreArguments.{formats}
use Rattle.tall_sources.proofs.ValueLemmas.{followed, all_of_turn, all_of_stop}
use Rattle.tall_sources.proofs.values.formats_in.Goals as goal

pub returns-in-None : goal.returns-in-None
returns-in-None c =
    all_of_stop (named formats) c.args.texts.now c.loop-place.place c.get.result.now c.loop-place.found.items (all_of (named formats) c.args.texts.now) c.get.ensures
    (sym c.in-None.is ∙ c.format_named.ensures) c.loop-place.invariant

pub loop-place-preserved : goal.loop-place-preserved
loop-place-preserved c =
    let all = all_of (named formats) c.args.texts.now in
    subst (λ xs. followed xs (all_of (named formats) (drop (c.loop-place.place + 1) c.args.texts.now)) ≡ all) (sym c.in_ok-push-in-Some.ensures.items)
    (all_of_turn (named formats) c.args.texts.now c.loop-place.place c.get.result.now c.loop-place.found.items c.in-Some.format all c.get.ensures
    (sym c.in-Some.is ∙ c.format_named.ensures) c.loop-place.invariant)
