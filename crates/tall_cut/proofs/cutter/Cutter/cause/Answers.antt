use Rattle.std.proofs.Common.{◌≡◌, ◌∙◌, sym, true}
use Rattle.tall_cut.proofs.Limits.{is_longer}
use Rattle.tall_cut.proofs.cutter.Cutter.cause.Goals as goal

pub returns-then-too_large-clause-longer : goal.returns-then-too_large-clause-longer
returns-then-too_large-clause-longer g c =
    let feed = c.reader-feed.result.now in
    let large : feed.too_large ≡ true = sym c.too_large.ensures ∙ c.if-too_large.true in
    λ _. is_longer _ (g.S.Shelf.came feed.shelf.now) _ _ feed.inside feed.small (rw feed.bound at (feed.large large))
