use Rattle.std.proofs.Common.{◌≡◌, drop, option_copied, option_map}
use Rattle.tall_fuse.specs.Results.{or_else}
use Rattle.tall_fuse.specs.Kept.{found_here, found_of, last_in}
use Rattle.tall_fuse.proofs.known.last_result.Given as goal

-- what the parts from here on have, before what was met so far
abbrev pub invariant-loop-part : goal.invariant-loop-part
invariant-loop-part l = or_else (last_in (λ p. found_here p l.fn.node) (drop l.part-index l.fn.earlier)) (option_map found_of (option_copied l.last)) ≡ last_in (λ p. found_here p l.fn.node) l.fn.earlier
