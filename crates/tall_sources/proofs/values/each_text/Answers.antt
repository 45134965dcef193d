-- Text by text.
use Rattle.tall_sources.proofs.ValueLemmas.{kept_more}
use Rattle.tall_sources.proofs.values.each_text.Goals as goal

pub loop-place-preserved : goal.loop-place-preserved
loop-place-preserved c =
    kept_more c.loop-place.kept.items c.in_ok-from_str.field-0 c.push.new.self.items c.args.texts.now c.loop-place.place c.get.result.now
    c.in_ok-push.ensures.items c.in_ok-from_str.ensures.ok c.get.ensures c.loop-place.invariant
