use Rattle.std.proofs.Common.{◌≡◌, ◌<◌, take}
use Rattle.tall_scan.specs.Scanning.{scan_after, scan_ended}
use Rattle.tall_scan.proofs.scanning.scan_bytes.Given as goal

abbrev pub invariant-loop-i : goal.invariant-loop-i
invariant-loop-i l = record {
  state : l.state ≡ scan_after l.delimiter l.fn.start (take l.i l.bytes);
  ended : l.ended ≡ scan_ended l.delimiter l.fn.start (take l.i l.bytes);
  fewer : l.ended < l.most;
}
