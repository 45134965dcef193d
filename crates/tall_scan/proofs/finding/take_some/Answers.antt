use Rattle.std.proofs.Common.{◌≤◌, length, take}
use Rattle.std.specs.Prelude.{slice_range}
use Rattle.tall_scan.proofs.Fills.{taken_left}
use Rattle.tall_scan.proofs.finding.take_some.Goals as goal

pub returns-clause-adds : goal.returns-clause-adds
returns-clause-adds g c =
    let s = c.args.source.now in
    let n = c.scan_records-scan.result.taken in
    let fits : n ≤ length (slice_range s.buffer.items s.at s.filled) = rw c.waiting-waiting.ensures at c.scan_records-scan.ensures.taken in
    record {
      piece = take n (slice_range s.buffer.items s.at s.filled);
      joins = rw (← c.waiting-waiting.ensures) c.in_ok-extend_from_slice.ensures.items;
      took = rw c.requires.begun (taken_left (g.R.Read.remaining s.reader) s.buffer.items s.at s.filled n fits s.taken);
      stands = rw c.waiting-waiting.ensures at c.scan_records-scan.ensures.state;
      counts = rw c.waiting-waiting.ensures at c.scan_records-scan.ensures.ended;
    }
