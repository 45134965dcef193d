use Rattle.std.proofs.Common.{◌≡◌, ◌≤◌, ◌^◌, length, take}
use Rattle.tall_outside.specs.OpenedNames.{Adds}
use Rattle.tall_outside.specs.ShelfCounts.{IsLater, shelf_counts}
use Rattle.tall_walk.specs.Walked.{WalkedTo}
use Rattle.tall_walk.proofs.walk.walk_files.Given as goal

abbrev pub invariant-loop-file : goal.invariant-loop-file
invariant-loop-file g l = record {
  walked : WalkedTo (g.T.TakesBlocks.has_taken l.taker) l.store (g.S.Shelf.held l.initial.shelf) l.file l.row;
  opens : Adds (take l.file l.store.files) (g.S.Shelf.opened l.initial.shelf) (g.S.Shelf.opened l.shelf);
  files : g.T.TakesBlocks.files l.taker ≡ length l.store.files;
  kept : g.T.TakesBlocks.files l.taker ≡ g.T.TakesBlocks.files l.initial.taker;
  held : g.S.Shelf.held l.shelf ≡ g.S.Shelf.held l.initial.shelf;
  later : IsLater (shelf_counts g.S.Shelf l.initial.shelf) (shelf_counts g.S.Shelf l.shelf);
  first : 1 ≤ l.row;
  last : l.row ≤ 2 ^ 40;
}
