use Rattle.std.proofs.Common.{◌≡◌, drop, map}
use Rattle.std.specs.Option.{is_some}
use Rattle.tall_local.specs.Lists.{all_of}
use Rattle.tall_local.specs.Locals.{argument_by, memory_of}
use Rattle.tall_evaluate.specs.Senses.{argument_seen}
use Rattle.tall_fun.specs.Values.{held_seen}
use Rattle.tall_fun.proofs.applications.are_in_memory.Given as goal

abbrev pub invariant-loop-arg : goal.invariant-loop-arg
invariant-loop-arg l = is_some (all_of (argument_by memory_of) (map (argument_seen held_seen) (drop l.arg-index l.args))) ≡ is_some (all_of (argument_by memory_of) (map (argument_seen held_seen) l.args))
