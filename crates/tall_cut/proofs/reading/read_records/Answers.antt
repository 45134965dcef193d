use Rattle.std.proofs.Common.{Some, arith}
use Rattle.csv.specs.Records.{fields_of}
use Rattle.tall_scan.specs.Finding.{raw_records}
use Rattle.tall_scan.specs.Texts.{text_left}
use Rattle.tall_scan.specs.Rows.{records_left}
use Rattle.tall_scan.proofs.Rows.{many_rows}
use Rattle.tall_cut.specs.Blocks.{block_records}
use Rattle.tall_cut.proofs.reading.read_records.Goals as goal

pub loop-taken-preserved : goal.loop-taken-preserved
loop-taken-preserved c =
    let more = c.in_ok-add.ensures.count in
    let before = c.loop-taken.invariant.count in
    record {
      cutting = c.in_ok-some.ensures.cutting c.if-some.true;
      closed = c.in_ok-add.ensures.closed;
      count = omega arith;
      taken = rw c.in_ok-add.ensures.records (many_rows (Some (raw_records c.args.raw.now)) (records_left text_left c.loop-taken.reader) (records_left text_left c.read_row.new.reader)
          (block_records c.loop-taken.block) (fields_of c.read_row.new.row) c.loop-taken.invariant.taken (rw c.if-some.true at c.in_ok-some.ensures.takes));
    }
