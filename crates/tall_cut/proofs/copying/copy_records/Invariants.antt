use Rattle.std.proofs.Common.{◌≡◌, ◌-◌, drop, take}
use Rattle.tall_cut.specs.Blocks.{IsClosed, block_records}
use Rattle.tall_cut.proofs.copying.copy_records.Given as goal

abbrev pub invariant-loop-i : goal.invariant-loop-i
invariant-loop-i l = record {
  closed : IsClosed l.block;
  records : block_records l.block ≡ take (l.i - l.start) (drop l.start l.from);
}
