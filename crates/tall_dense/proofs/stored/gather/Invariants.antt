use Rattle.std.proofs.Common.{◌≡◌, ◌≤◌, ◌++◌, length, map, drop, take}
use Rattle.tall_value.specs.Cells.{logical}
use Rattle.tall_value.specs.Filters.{kept}
use Rattle.tall_dense.proofs.stored.gather.Given as goal

abbrev pub invariant-loop-row : goal.invariant-loop-row
invariant-loop-row g l =
    (l.count ≤ l.row) × (length l.slots ≡ length l.items)
    × (map g.T.Operand.shown (take l.count l.slots) ++ kept (map g.T.Operand.shown (drop l.row l.items)) (map (λ b. logical b) (drop l.row l.mask))
    ≡ kept (map g.T.Operand.shown l.items) (map (λ b. logical b) l.mask))
