-- Which rows of a column stay, as operations.
use Rattle.std.specs.Prelude.{ℕ, ◌<◌, List, [], ◌∷◌, map}
use Rattle.tall_semantics.specs.Operations.{Op, head, tail, filter}
use Rattle.tall_semantics.specs.Talls.{Tall}
use Rattle.tall_deferred.specs.declared.rows.RowsKept.{RowsKept}
use Rattle.tall_deferred.specs.declared.rows.RowsKept.TheVariants.{First, Last, Masked}
use Rattle.tall_deferred.specs.declared.values.Variable.{Variable}

abbrev pub rows_op : RowsKept → Op
rows_op (First k) = head k
rows_op (Last k) = tail k
rows_op (Masked mask) = filter

-- the operands, by their places in the graph and as values
abbrev pub rows_args : RowsKept → ℕ → List ℕ
rows_args (First k) x = x ∷ []
rows_args (Last k) x = x ∷ []
rows_args (Masked mask) x = x ∷ mask ∷ []

abbrev pub rows_talls : (ℕ → Tall) → RowsKept → Tall → List Tall
rows_talls f (First k) x = x ∷ []
rows_talls f (Last k) x = x ∷ []
rows_talls f (Masked mask) x = x ∷ f mask ∷ []

abbrev pub each_args : RowsKept → List Variable → List (List ℕ)
each_args rows xs = map (λ (x : Variable). rows_args rows x.node) xs

-- of a graph of n nodes
abbrev pub IsMask : ℕ → RowsKept → Type 0
IsMask n (First k) = Unit {0}
IsMask n (Last k) = Unit {0}
IsMask n (Masked mask) = mask < n
