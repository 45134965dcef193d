-- What a pass keeps of the blocks so far for a value that needs all rows of its operands: a reduction, the first or last rows,
-- distinct cells, a column of `groupsummary`; and the value's outcome at the end. A block's rows are looked at once.
use Rattle.std.specs.Prelude.{ℕ, pos, false, Some, Result, Ok, Err, List, [], ◌∷◌, ◌++◌, map}
use Rattle.tall_value.specs.declared.class.Kind.{Kind}
use Rattle.tall_value.specs.declared.faults.FaultKind.{FaultKind}
use Rattle.tall_value.specs.declared.functions.Method.{Method}
use Rattle.tall_value.specs.declared.functions.Method.TheVariants.{Count}
use Rattle.tall_value.specs.Cells.{Seen, double}
use Rattle.tall_value.specs.Classes.{kind_of}
use Rattle.tall_value.specs.Columns.{numbered}
use Rattle.tall_value.specs.Distinct.{distinct}
use Rattle.tall_value.specs.Elementwise.{in_front}
use Rattle.tall_value.specs.Ends.{first_rows, last_rows}
use Rattle.tall_value.specs.Groups.{all_values}
use Rattle.tall_value.specs.GroupSummary.{of_groups}
use Rattle.tall_semantics.specs.Operations.{Op, reduce, head, tail, group}
use Rattle.tall_semantics.specs.Operations as operations
use Rattle.tall_semantics.specs.Faults.{At}
use Rattle.tall_semantics.specs.Outcomes.{Outcome, rows, rows_in, cells_in, alone, part_of_group}
use Rattle.tall_semantics.specs.Talls.{Tall}
use Rattle.tall_blocks.specs.Carries.{Rows}
use Rattle.tall_blocks.specs.Folds.{Kept, Part, start, more, part_of, with_part, by_parts, number_of, reduction_fold, omits, reduction_result, method_fold, method_omits, method_result}
use Rattle.tall_value.specs.Reductions.{used, every_cell}
use Rattle.tall_blocks.specs.GroupsOver.{GroupParts, Groups, group_parts, groups_more, groups_with, keys_of}

-- ---- by the operation, over an operand of a kind, or for a group over data of a kind

-- of a group with the number of its rows
abbrev pub Gathered : Op → Kind → Type 0
Gathered (reduce r) a = Kept (reduction_fold r a)
Gathered (head k) a = Rows
Gathered (tail k) a = Rows
Gathered operations.distinct a = List Seen
Gathered (group m part) a = Groups (by_parts (number_of every_cell)) × Groups (method_fold m a)
Gathered op a = Unit {0}

-- before the first block
abbrev pub gathered_start : (op : Op) (a : Kind) → Gathered op a
gathered_start (reduce r) a = start (reduction_fold r a)
gathered_start (head k) a = []
gathered_start (tail k) a = []
gathered_start operations.distinct a = []
gathered_start (group m part) a = ([], [])
gathered_start (operations.constant c) a = record {}
gathered_start (operations.unary op) a = record {}
gathered_start (operations.binary op) a = record {}
gathered_start operations.filter a = record {}
gathered_start (operations.scan s) a = record {}

-- with a block more, over which the operand is x; of a group x is the key and y the data
abbrev pub gathered_more : (op : Op) (a : Kind) → Gathered op a → (x y : Outcome) → Gathered op a
gathered_more (reduce r) a s x y = more (reduction_fold r a) s (used (omits r) (cells_in x))
gathered_more (head k) a s x y = first_rows k (s ++ rows_in x)
gathered_more (tail k) a s x y = last_rows k (s ++ rows_in x)
gathered_more operations.distinct a s x y = distinct (s ++ cells_in x)
gathered_more (group m part) a s x y = (groups_more (by_parts (number_of every_cell)) false s.0 (cells_in x) (cells_in x), groups_more (method_fold m a) (method_omits m) s.1 (cells_in x) (cells_in y))
gathered_more (operations.constant c) a s x y = s
gathered_more (operations.unary op) a s x y = s
gathered_more (operations.binary op) a s x y = s
gathered_more operations.filter a s x y = s
gathered_more (operations.scan r) a s x y = s

-- ---- the part of a block, made without what is kept so far

abbrev pub BlockPart : Op → Kind → Type 0
BlockPart (reduce r) a = Part (reduction_fold r a)
BlockPart (head k) a = Rows
BlockPart (tail k) a = Rows
BlockPart operations.distinct a = List Seen
BlockPart (group m part) a = GroupParts (by_parts (number_of every_cell)) × GroupParts (method_fold m a)
BlockPart op a = Unit {0}

abbrev pub block_part : (op : Op) (a : Kind) → (x y : Outcome) → BlockPart op a
block_part (reduce r) a x y = part_of (reduction_fold r a) (used (omits r) (cells_in x))
block_part (head k) a x y = first_rows k (rows_in x)
block_part (tail k) a x y = last_rows k (rows_in x)
block_part operations.distinct a x y = distinct (cells_in x)
block_part (group m part) a x y = (group_parts (by_parts (number_of every_cell)) false (cells_in x) (cells_in x), group_parts (method_fold m a) (method_omits m) (cells_in x) (cells_in y))
block_part (operations.constant c) a x y = record {}
block_part (operations.unary op) a x y = record {}
block_part (operations.binary op) a x y = record {}
block_part operations.filter a x y = record {}
block_part (operations.scan s) a x y = record {}

abbrev pub gathered_with : (op : Op) (a : Kind) → Gathered op a → BlockPart op a → Gathered op a
gathered_with (reduce r) a s t = with_part (reduction_fold r a) s t
gathered_with (head k) a s t = first_rows k (s ++ t)
gathered_with (tail k) a s t = last_rows k (s ++ t)
gathered_with operations.distinct a s t = distinct (s ++ t)
gathered_with (group m part) a s t = (groups_with (by_parts (number_of every_cell)) s.0 t.0, groups_with (method_fold m a) s.1 t.1)
gathered_with (operations.constant c) a s t = s
gathered_with (operations.unary op) a s t = s
gathered_with (operations.binary op) a s t = s
gathered_with operations.filter a s t = s
gathered_with (operations.scan r) a s t = s

-- ---- at the end

abbrev pub or_one : Result (List Seen) FaultKind → Result (List (List Seen)) FaultKind
or_one (Ok values) = Ok (values ∷ [])
or_one (Err e) = Err e

-- the values of a method, and no column where there is no method
abbrev pub group_column : (m : Method) (a : Kind) → Groups (method_fold m a) → Result (List (List Seen)) FaultKind
group_column Count a es = Ok []
group_column m a es = or_one (all_values (map (λ (e : Seen × Kept (method_fold m a)). method_result m a e.1) es))

abbrev pub gathered_columns : (m : Method) (a : Kind) → Groups (by_parts (number_of every_cell)) → Groups (method_fold m a) → Result (List (List Seen)) FaultKind
gathered_columns m a counts values = in_front (keys_of counts) (in_front (map (λ (e : Seen × ℕ). double (Some (pos e.1))) counts) (group_column m a values))

abbrev pub gathered_outcome : At → (op : Op) (a : Kind) → Gathered op a → Outcome
gathered_outcome at (reduce r) a s = alone at (reduction_result r a s)
gathered_outcome at (head k) a s = rows s
gathered_outcome at (tail k) a s = rows s
gathered_outcome at operations.distinct a s = rows (numbered 1 s)
gathered_outcome at (group m part) a s = part_of_group at part (of_groups (gathered_columns m a s.0 s.1))
gathered_outcome at op a s = rows []

-- ---- over the outcomes of blocks, of operands at i and j

abbrev pub gathered_from : (op : Op) (a : Kind) → Gathered op a → List (ℕ → Outcome) → (i j : ℕ) → Gathered op a
gathered_from op a s [] i j = s
gathered_from op a s (h ∷ hs) i j = gathered_from op a (gathered_more op a s (h i) (h j)) hs i j

-- what the blocks give of the operands at i and j
abbrev pub gathered_all : At → (op : Op) (a : Kind) → List (ℕ → Outcome) → (i j : ℕ) → Outcome
gathered_all at op a hs i j = gathered_outcome at op a (gathered_from op a (gathered_start op a) hs i j)

-- of an operation over its operands; no other number of them is accepted
abbrev pub end_outcome : At → (ℕ → Tall) → List (ℕ → Outcome) → Op → (args : List ℕ) → Outcome
end_outcome at f hs (reduce r) (i ∷ []) = gathered_all at (reduce r) (kind_of (f i).shape.class) hs i i
end_outcome at f hs (head k) (i ∷ []) = gathered_all at (head k) (kind_of (f i).shape.class) hs i i
end_outcome at f hs (tail k) (i ∷ []) = gathered_all at (tail k) (kind_of (f i).shape.class) hs i i
end_outcome at f hs operations.distinct (i ∷ []) = gathered_all at operations.distinct (kind_of (f i).shape.class) hs i i
end_outcome at f hs (group m part) (i ∷ []) = gathered_all at (group m part) (kind_of (f i).shape.class) hs i i
end_outcome at f hs (group m part) (i ∷ j ∷ []) = gathered_all at (group m part) (kind_of (f j).shape.class) hs i j
end_outcome at f hs op args = rows []
