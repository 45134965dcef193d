use Rattle.std.proofs.Common.{rules, ◌≡◌, ◌∙◌, ◌+◌, ◌++◌, [], ◌∷◌, ap, get_or, map, ℕ}
use Rattle.std.specs.Prelude.{◌-◌}
use Rattle.std.specs.List.{range_with_len}
use Rattle.csv.specs.Records.{fields_of}
use Rattle.tall_store.specs.declared.format.Format.{Format}
use Rattle.tall_store.specs.Choices.{detected, detected_formats}
use Rattle.tall_store.proofs.HeaderNames.{range_more}
use Rattle.tall_store.proofs.choices.detected_formats.Goals as goal

pub loop-place-preserved : goal.loop-place-preserved
loop-place-preserved c =
    let f : ℕ → Format = λ place. detected c.args.missing.now (get_or (fields_of c.args.fields.now) place []) in
    let pushed : c.push.new.self.items ≡ c.loop-place.formats.items ++ c.detected.result ∷ [] = search rules in
    let is : c.detected.result ≡ f c.loop-place.place = c.detected.ensures ∙ ap (detected c.args.missing.now) c.field_or_empty.ensures in
    ap (λ formats. formats ++ map f (range_with_len (c.loop-place.place + 1) (c.args.n - (c.loop-place.place + 1)))) pushed
    ∙ range_more f c.loop-place.formats.items (c.args.n - c.loop-place.place) (c.args.n - (c.loop-place.place + 1)) c.loop-place.place c.detected.result
    (detected_formats c.args.missing.now (fields_of c.args.fields.now) c.args.n) (search rules) is c.loop-place.invariant
