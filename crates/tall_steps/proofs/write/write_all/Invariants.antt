use Rattle.std.proofs.Common.{◌≤◌, ◌-◌, length, take}
use Rattle.std.specs.Io.KnownBytes.{Appends}
use Rattle.tall_steps.proofs.write.write_all.Given as goal

-- the sink took the text up to a place
abbrev pub invariant-loop-at : goal.invariant-loop-at
invariant-loop-at g l = record {
  within : l.at ≤ length l.text;
  later : g.O.Sink.faults l.initial.out ≤ g.O.Sink.faults l.out;
  taken : Appends (g.O.Sink.written l.initial.out) (g.O.Sink.written l.out) (take l.at l.text);
}

abbrev pub decreases-loop-at : goal.decreases-loop-at
decreases-loop-at g l = length l.text - l.at
