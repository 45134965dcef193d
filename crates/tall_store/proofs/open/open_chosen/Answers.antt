use Rattle.tall_store.specs.Chosen.{chosen_seen}
use Rattle.tall_store.proofs.Told.{told_accepted}
use Rattle.tall_store.proofs.open.open_chosen.Goals as goal

pub returns-clause-told : goal.returns-clause-told
returns-clause-told g c =
    told_accepted (g.S.Shelf.held c.args.shelf.now) (chosen_seen c.args.chosen) c.open_file-lent.new.opened c.requires.accepted c.open_file-lent.ensures.told
