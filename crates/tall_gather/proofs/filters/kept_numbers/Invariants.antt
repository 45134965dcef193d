use Rattle.std.specs.Prelude.{◌≡◌, ◌++◌, drop}
use Rattle.tall_value.specs.Filters.{kept}
use Rattle.tall_gather.proofs.filters.kept_numbers.Given as goal

abbrev pub invariant-loop-row : goal.invariant-loop-row
invariant-loop-row l = l.rows.items ++ kept (drop l.row l.fn.numbers) (drop l.row l.fn.mask.cells) ≡ kept l.fn.numbers l.fn.mask.cells
