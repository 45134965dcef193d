use Rattle.std.specs.Prelude.{Some, ◌^◌}
use Rattle.tall_cut.specs.Asked.{and_name, size_in}
use Rattle.tall_store.specs.Opening.{first_name}
use Rattle.tall_store.proofs.open.open_chosen.Given as goal

-- the opening of the first file, as the shelf and the call tell it
abbrev pub ghosts-open_file : goal.ghosts-open_file
ghosts-open_file g a = record {
  lender = Some a.lent.shelf.ghost_name;
  held = g.S.Shelf.held a.lent.shelf.now;
  opened = and_name (g.S.Shelf.opened a.lent.shelf.now) (first_name a.chosen.files.items);
  misses = g.S.Shelf.misses a.lent.shelf.now;
  faults = g.S.Shelf.faults a.lent.shelf.now;
  limit = 2 ^ 50;
  size = size_in (g.S.Shelf.held a.lent.shelf.now) (first_name a.chosen.files.items);
}
