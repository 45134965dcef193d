use Rattle.std.proofs.Common.{◌≡◌, length, take}
use Rattle.std.specs.Io.KnownBytes.{Consumes}
use Rattle.tall_scan.proofs.front.read_front.Given as goal

abbrev pub invariant-loop-i : goal.invariant-loop-i
invariant-loop-i g l = record {
  room : length l.buffer.items ≡ length l.initial.buffer.items;
  front : Consumes (g.R.Read.remaining l.initial.reader) (g.R.Read.remaining l.reader) (take l.i l.buffer.items);
}
