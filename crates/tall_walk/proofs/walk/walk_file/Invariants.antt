use Rattle.std.proofs.Common.{Some, ◌^◌}
use Rattle.tall_cut.specs.Asked.{and_name, size_in}
use Rattle.tall_store.specs.FileEnds.{name_of_file}
use Rattle.tall_walk.proofs.walk.walk_file.Given as goal

abbrev pub ghosts-walk_lent : goal.ghosts-walk_lent
ghosts-walk_lent g a = record {
  lender = Some a.lent.shelf.ghost_name;
  held = g.S.Shelf.held a.lent.shelf.now;
  opened = and_name (g.S.Shelf.opened a.lent.shelf.now) (name_of_file a.store.now a.file);
  misses = g.S.Shelf.misses a.lent.shelf.now;
  faults = g.S.Shelf.faults a.lent.shelf.now;
  limit = 2 ^ 50;
  size = size_in (g.S.Shelf.held a.lent.shelf.now) (name_of_file a.store.now a.file);
}
