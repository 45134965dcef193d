use Rattle.std.specs.Prelude.{map, take}
use Rattle.tall_value.specs.declared.class.Kind.TheVariants.{Integer}
use Rattle.tall_value.specs.Cells.{whole}
use Rattle.tall_blocks.specs.Carries.{AllCells, IsInClass}
use Rattle.tall_block.proofs.scans.integers_are_within.Given as goal

abbrev pub invariant-loop-row : goal.invariant-loop-row
invariant-loop-row g l = AllCells (IsInClass (Integer g.I.Integer.KIND)) (map (λ x. whole g.I.Integer.KIND (g.I.IntClass.number x)) (take l.row l.fn.rows))
