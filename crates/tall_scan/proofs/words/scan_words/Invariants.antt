use Rattle.std.proofs.Common.{◌≡◌, ◌≤◌, ◌<◌, ◌-◌, length, take}
use Rattle.tall_scan.specs.declared.state.ScanState.{ScanState}
use Rattle.tall_scan.specs.Scanning.{scan_after, scan_ended}
use Rattle.tall_scan.specs.Words.{Carries}
use Rattle.tall_scan.proofs.words.scan_words.Given as goal

abbrev pub invariant-loop-taken : goal.invariant-loop-taken
invariant-loop-taken l = record {
  inside : l.taken ≤ length l.bytes;
  fewer : l.ended < l.most;
  scanned : (a : ScanState) → Carries a l.fn.start
      → Carries (scan_after l.delimiter a (take l.taken l.bytes)) l.carry × (scan_ended l.delimiter a (take l.taken l.bytes) ≡ l.ended);
}

abbrev pub decreases-loop-taken : goal.decreases-loop-taken
decreases-loop-taken l = length l.bytes - l.taken
