use Rattle.std.proofs.Common.{◌≡◌, Some, length}
use Rattle.tall_scan.specs.Rows.{IsCutting, TakesMany, records_left}
use Rattle.tall_scan.specs.Finding.{raw_records}
use Rattle.tall_scan.specs.Texts.{text_left}
use Rattle.tall_cut.specs.Blocks.{IsClosed, block_records}
use Rattle.tall_cut.proofs.reading.read_records.Given as goal

abbrev pub invariant-loop-taken : goal.invariant-loop-taken
invariant-loop-taken l = record {
  cutting : IsCutting l.reader;
  closed : IsClosed l.block;
  count : length l.block.ends.items ≡ l._taken;
  taken : TakesMany (Some (raw_records l.raw)) (block_records l.block) (records_left text_left l.reader);
}
