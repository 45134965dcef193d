use Rattle.tall_group.proofs.PlaceLemmas.{number_there, number_new, number_exact, number_places}
use Rattle.tall_group.proofs.keys.number_place.Goals as goal

pub returns-in-Some-clause-key : goal.returns-in-Some-clause-key
returns-in-Some-clause-key c =
    let n = c.number_of-number in
    number_there _ c.requires.numeric n.result _ (n.ensures.exact c.requires.numeric) n.ensures.number _ _ c.requires.exact c.in-Some.ensures.index

pub returns-in-Ok-clause-key : goal.returns-in-Ok-clause-key
returns-in-Ok-clause-key c =
    let n = c.number_of-number in
    number_new _ c.requires.numeric n.result _ (n.ensures.exact c.requires.numeric) n.ensures.number _ _ _ c.requires.exact c.in_default.ensures.index c.in-Ok.ensures.entries c.len-place.ensures.len

pub returns-in-Ok-clause-exact : goal.returns-in-Ok-clause-exact
returns-in-Ok-clause-exact c =
    let n = c.number_of-number in
    number_exact _ c.requires.numeric n.result _ (n.ensures.exact c.requires.numeric) n.ensures.number _ _ _ c.requires.exact c.in_default.ensures.index c.in-Ok.ensures.entries

pub returns-in-Ok-clause-places : goal.returns-in-Ok-clause-places
returns-in-Ok-clause-places c =
    let n = c.number_of-number in
    number_places _ c.requires.numeric n.result _ (n.ensures.exact c.requires.numeric) n.ensures.number _ _ _ c.requires.places c.in_default.ensures.index c.in-Ok.ensures.entries c.len-place.ensures.len
