use Rattle.std.specs.Prelude.{◌≡◌, ◌+◌, drop, map, option_map}
use Rattle.tall_value.specs.Cells.{logical}
use Rattle.tall_block.specs.RowSteps.{found_kept}
use Rattle.tall_block.proofs.numbers.kept_in.Given as goal

abbrev pub invariant-loop-place : goal.invariant-loop-place
invariant-loop-place l = found_kept (map (λ b. logical b) l.fn.marks) l.fn.k ≡ option_map (λ n. l.place + n) (found_kept (map (λ b. logical b) (drop l.place l.fn.marks)) l.left)
