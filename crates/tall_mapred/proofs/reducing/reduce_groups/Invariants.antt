use Rattle.std.proofs.Common.{◌-◌, ◌≤◌, length, take}
use Rattle.tall_grammar.specs.Views.{routine_of}
use Rattle.tall_mapred.proofs.PhaseLaws.{HasReduced}
use Rattle.tall_mapred.proofs.reducing.reduce_groups.Given as goal

abbrev pub invariant-loop-first : goal.invariant-loop-first
invariant-loop-first g l = (l.first ≤ length l.groups) × HasReduced (routine_of l.function) (take l.first l.groups) l.out

abbrev pub decreases-loop-first : goal.decreases-loop-first
decreases-loop-first g l = length l.groups - l.first
