use Rattle.std.proofs.Common.{rules, ◌≡◌, ◌∙◌, ◌+◌, ◌++◌, [], ◌∷◌, ap}
use Rattle.std.specs.Prelude.{◌-◌}
use Rattle.std.specs.List.{range_with_len}
use Rattle.tall_store.specs.Choices.{all_places}
use Rattle.tall_store.proofs.HeaderNames.{places_more}
use Rattle.tall_store.proofs.choices.all_places.Goals as goal

pub loop-place-preserved : goal.loop-place-preserved
loop-place-preserved c =
    let pushed : c.push.new.self.items ≡ c.loop-place.places.items ++ c.loop-place.place ∷ [] = search rules in
    ap (λ places. places ++ range_with_len (c.loop-place.place + 1) (c.args.n - (c.loop-place.place + 1))) pushed
    ∙ places_more c.loop-place.places.items (c.args.n - c.loop-place.place) (c.args.n - (c.loop-place.place + 1)) c.loop-place.place (all_places c.args.n) (search rules) c.loop-place.invariant
