use Rattle.std.proofs.Common.{◌≡◌, ◌≤◌, ◌-◌, length}
use Rattle.std.specs.Io.KnownBytes.{Consumes}
use Rattle.tall_run.proofs.text.read_text.Given as goal

-- the text has what the file has lost, and as many bytes as came
abbrev pub invariant-loop-chunk : goal.invariant-loop-chunk
invariant-loop-chunk g l = record {
  room : length l.chunk ≡ 4096;
  within : length l.text.items ≤ 1048577;
  held : g.S.Shelf.held l.shelf ≡ g.S.Shelf.held l.initial.shelf;
  opened : g.S.Shelf.opened l.shelf ≡ g.S.Shelf.opened l.initial.shelf;
  faults : g.S.Shelf.faults l.shelf ≡ g.S.Shelf.faults l.initial.shelf;
  misses : g.S.Shelf.misses l.shelf ≡ g.S.Shelf.misses l.initial.shelf;
  bytes : Consumes (g.S.Shelf.left l.initial.shelf) (g.S.Shelf.left l.shelf) l.text.items;
  came : g.S.Shelf.came l.initial.shelf ≡ 0 → length l.text.items ≡ g.S.Shelf.came l.shelf;
}

abbrev pub decreases-loop-chunk : goal.decreases-loop-chunk
decreases-loop-chunk g l = 1048577 - length l.text.items
