use Rattle.std.specs.Prelude.{◌≡◌, ◌&&◌, ℕ, drop}
use Rattle.tall_blocks.specs.Pieces.{is_below_missing}
use Rattle.tall_fuse.specs.Kept.{carry}
use Rattle.tall_block.specs.Steps.{is_under}
use Rattle.tall_block.proofs.block.first_missing.Given as goal

abbrev pub invariant-loop-place : goal.invariant-loop-place
invariant-loop-place l = (m : ℕ) → (is_under l.limit m && is_below_missing l.fn.graph (λ i. carry l.fn.known i l.fn.block) (drop l.place l.fn.work) m) ≡ is_below_missing l.fn.graph (λ i. carry l.fn.known i l.fn.block) l.fn.work m
