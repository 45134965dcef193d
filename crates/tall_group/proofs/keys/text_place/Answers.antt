use Rattle.std.proofs.Common.{◌≡◌, string_bytes}
use Rattle.tall_group.proofs.PlaceLemmas.{text_there, text_new, text_places}
use Rattle.tall_group.proofs.keys.text_place.Goals as goal

pub returns-in-Some-clause-key : goal.returns-in-Some-clause-key
returns-in-Some-clause-key c = text_there string_bytes c.args.key.now _ _ c.in-Some.ensures.index

pub returns-clause-key : goal.returns-clause-key
returns-clause-key c = text_new string_bytes c.args.key.now c.in_ok-kept.kept c.in_ok-kept.ensures.ok _ _ _ c.in_default.ensures.index c.in_ok-insert.ensures.entries c.len-place.ensures.len

pub returns-clause-places : goal.returns-clause-places
returns-clause-places c = text_places string_bytes c.args.key.now c.in_ok-kept.kept c.in_ok-kept.ensures.ok _ _ _ c.requires.places c.in_default.ensures.index c.in_ok-insert.ensures.entries c.len-place.ensures.len
