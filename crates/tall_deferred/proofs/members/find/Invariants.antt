use Rattle.std.proofs.Common.{◌≡◌, drop}
use Rattle.tall_deferred.specs.Values.{node_named}
use Rattle.tall_deferred.proofs.members.find.Given as goal

-- no variable before this one has the name
abbrev pub invariant-loop-i : goal.invariant-loop-i
invariant-loop-i l = node_named (drop l.i l.variables) l.name ≡ node_named l.variables l.name
