use Rattle.std.proofs.Common.{◌≡◌, drop, option_map}
use Rattle.tall_value.specs.Cells.{seen}
use Rattle.tall_fuse.specs.Results.{or_else}
use Rattle.tall_fuse.specs.Kept.{carry_here, last_in}
use Rattle.tall_fuse.proofs.known.last_carry.Given as goal

-- what the parts from here on have, before what was met so far
abbrev pub invariant-loop-part : goal.invariant-loop-part
invariant-loop-part l = or_else (last_in (λ p. carry_here p l.fn.node l.fn.block) (drop l.part-index l.fn.earlier)) (option_map seen l.last) ≡ last_in (λ p. carry_here p l.fn.node l.fn.block) l.fn.earlier
