-- A list of vertices over two blocks of one row each, for worked values: x, l = logical(x), y = 1 ./ l, s = cumsum(x) over
-- the rows 0 and NaN.
use Rattle.std.specs.Prelude.{ℕ, pos, ◌==◌, not, Bool, None, Some, List, [], ◌∷◌}
use Rattle.tall_value.specs.declared.class.Class.TheVariants as class
use Rattle.tall_value.specs.declared.functions.Scan.TheVariants.{CumSum}
use Rattle.tall_value.specs.declared.operators.Binary.TheVariants.{Div}
use Rattle.tall_value.specs.declared.operators.Unary.TheVariants.{ToLogical}
use Rattle.tall_value.specs.Cells.{Seen}
use Rattle.tall_value.specs.Columns.{numbered}
use Rattle.tall_semantics.specs.Operations.{constant, unary, binary, scan, stored, operation}
use Rattle.tall_semantics.specs.Outcomes.{Outcome}
use Rattle.tall_semantics.specs.Talls.{Tall, Columns}
use Rattle.tall_semantics.specs.Deferred.{Vertex}
use Rattle.tall_semantics.specs.InOrder.{tall_in, talls}
use Rattle.tall_semantics.specs.Samples.{at, doubles, number}
use Rattle.tall_blocks.specs.Blocks.{Block, block_columns, all_rows}
use Rattle.tall_blocks.specs.ValuesOver.{next_cells, no_cells, outcomes_over}

abbrev pub vertices : List Vertex
vertices =
    record { at = at 1 1; made = stored 0 0 class.Double; args = [] }
    ∷ record { at = at 2 2; made = operation (unary ToLogical); args = 0 ∷ [] }
    ∷ record { at = at 3 3; made = operation (constant (number (pos 1))); args = [] }
    ∷ record { at = at 4 3; made = operation (binary Div); args = 2 ∷ 1 ∷ [] }
    ∷ record { at = at 5 4; made = operation (scan CumSum); args = 0 ∷ [] }
    ∷ []

abbrev pub first_block : Block
first_block s v = numbered 1 (doubles (Some (pos 0) ∷ []))

abbrev pub second_block : Block
second_block s v = numbered 2 (doubles (None ∷ []))

abbrev pub blocks : List Block
blocks = first_block ∷ second_block ∷ []

abbrev pub whole_columns : Columns
whole_columns = block_columns (all_rows blocks)

abbrev pub value : ℕ → Tall
value = tall_in (talls whole_columns vertices)

-- all but the constant
abbrev pub cut : ℕ → Bool
cut i = not (i == 2)

abbrev pub over_first : ℕ → Outcome
over_first = outcomes_over (block_columns first_block) no_cells vertices value cut

abbrev pub behind_first : ℕ → List Seen
behind_first = next_cells vertices over_first no_cells

abbrev pub over_second : ℕ → Outcome
over_second = outcomes_over (block_columns second_block) behind_first vertices value cut
