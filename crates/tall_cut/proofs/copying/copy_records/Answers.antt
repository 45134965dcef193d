use Rattle.std.proofs.Common.{◌≡◌, ◌<◌, ◌≤◌, length, arith, rules}
use Rattle.tall_cut.proofs.Blocks.{part_next}
use Rattle.tall_cut.proofs.copying.copy_records.Goals as goal

pub loop-i-preserved : goal.loop-i-preserved
loop-i-preserved c =
    let low : c.args.start ≤ c.loop-i.i = search rules in
    let here : c.loop-i.i < length c.args.from.now = search rules in
    record {
      closed = c.in_ok-add_record.ensures.closed;
      records = part_next _ _ _ _ _ low here c.loop-i.invariant.records c.in_ok-add_record.ensures.records;
    }

pub returns-clause-records : goal.returns-clause-records
returns-clause-records c =
    let all : c.loop-i.i ≡ c.args.end = omega (arith, c.loop-i-test.false, c.loop-i.auto.i-end c.requires.start) in
    rw all at c.loop-i.invariant.records
