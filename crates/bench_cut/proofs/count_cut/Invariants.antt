use Rattle.std.specs.Prelude.{Some, ◌^◌}
use Rattle.std.specs.String.{string_bytes}
use Rattle.tall_cut.specs.Asked.{and_name, size_in}
use Rattle.bench_cut.proofs.count_cut.Given as goal

-- the opening of the file, as the shelf and the call tell it
abbrev pub ghosts-count_lent : goal.ghosts-count_lent
ghosts-count_lent g a = record {
  lender = Some a.lent.shelf.ghost_name;
  held = g.S.Shelf.held a.lent.shelf.now;
  opened = and_name (g.S.Shelf.opened a.lent.shelf.now) (string_bytes a.name.now);
  misses = g.S.Shelf.misses a.lent.shelf.now;
  faults = g.S.Shelf.faults a.lent.shelf.now;
  limit = 2 ^ 50;
  size = size_in (g.S.Shelf.held a.lent.shelf.now) (string_bytes a.name.now);
}
