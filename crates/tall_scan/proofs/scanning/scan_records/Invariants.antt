use Rattle.std.proofs.Common.{◌≡◌, ◌≤◌, ◌<◌, ◌-◌, length, take}
use Rattle.tall_scan.specs.Scanning.{scan_after, scan_ended}
use Rattle.tall_scan.proofs.scanning.scan_records.Given as goal

abbrev pub invariant-loop-taken : goal.invariant-loop-taken
invariant-loop-taken l = record {
  state : l.state ≡ scan_after l.delimiter l.fn.start (take l.taken l.bytes);
  ended : l.ended ≡ scan_ended l.delimiter l.fn.start (take l.taken l.bytes);
  fewer : l.ended < l.most;
  inside : l.taken ≤ length l.bytes;
}

abbrev pub decreases-loop-taken : goal.decreases-loop-taken
decreases-loop-taken l = length l.bytes - l.taken
