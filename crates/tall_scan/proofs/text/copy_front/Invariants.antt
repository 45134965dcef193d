use Rattle.std.proofs.Common.{◌≡◌, ◌≤◌, ◌-◌, length, take}
use Rattle.tall_scan.proofs.text.copy_front.Given as goal

abbrev pub invariant-loop-done : goal.invariant-loop-done
invariant-loop-done l = record {
  inside : l.done ≤ l.count;
  room : length l.to ≡ length l.initial.to;
  copied : take l.done l.to ≡ take l.done l.from;
}

abbrev pub decreases-loop-done : goal.decreases-loop-done
decreases-loop-done l = l.count - l.done

abbrev pub invariant-loop-done-2 : goal.invariant-loop-done-2
invariant-loop-done-2 l = record {
  inside : l.done ≤ l.count;
  room : length l.to ≡ length l.initial.to;
  copied : take l.done l.to ≡ take l.done l.from;
}

abbrev pub decreases-loop-done-2 : goal.decreases-loop-done-2
decreases-loop-done-2 l = l.count - l.done
