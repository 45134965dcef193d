-- The cells of values that a gather gives have the classes of their columns.
use Rattle.std.proofs.Common.{◌≡◌, ℕ, zero, suc, ◌<◌, List, [], ◌∷◌, refl, subst, arith}
use Rattle.std.proofs.lemmas.List.Elements.{All-nil, All-head, All-tail}
use Rattle.std.specs.List.{All}
use Rattle.std.specs.Prelude.{length, slice_get, Option, Some, Result, Ok, Err}
use Rattle.tall_value.specs.declared.class.Class.{Class}
use Rattle.tall_value.specs.Classes.{kind_of}
use Rattle.tall_value.specs.Columns.{HasKind}
use Rattle.tall_semantics.specs.Deferred.{Vertex, IsMeaning, IsOrdered}
use Rattle.tall_semantics.specs.Outcomes.{Outcome, rows, scalar, fault, cells_in}
use Rattle.tall_semantics.specs.RowsOfSpaces.{AreColumns}
use Rattle.tall_semantics.specs.Talls.{Tall, Columns}
use Rattle.tall_semantics.proofs.ClassLaws.{from_class, value_class}
use Rattle.tall_local.specs.Memory.{Memory}
use Rattle.tall_local.specs.Memory as memory
use Rattle.tall_local.specs.MemoryLaws.{HaveTheirClasses}
use Rattle.tall_local.specs.Names.{each_named}
use Rattle.tall_local.specs.Refusals.{Refusal}
use Rattle.tall_local.specs.Values.{datastore, tall_table, deferred, in_memory}
use Rattle.tall_script.specs.Gathers.{column_of_tall, gathered_value, memory_of_outcome}
use Rattle.tall_script.specs.AddedValues.{PlacedValue, value_by, IsPlace, IsInGraph, CellsHaveClass, HeldCellsHaveClass}

vertex_at : (vs : List Vertex) (i : ℕ) → i < length vs → (v : Vertex) × (slice_get vs i ≡ Some v)
vertex_at [] i l = absurd (omega (arith, l))
vertex_at (v ∷ vs) zero l = (v, refl)
vertex_at (v ∷ vs) (suc i) l = vertex_at vs i (omega (arith, l))

inside : (w m : Memory) → ◌≡◌ {A = Result Memory Refusal} (Ok w) (Ok m) → w ≡ m
inside w m e = cc

of_outcome : (k : Class) (x : Outcome) → All (HasKind (kind_of k)) (cells_in x) → CellsHaveClass (memory_of_outcome k x)
of_outcome k (rows rs) h = h
of_outcome k (scalar c) h = tt
of_outcome k (fault f) h = h

module _ (columns : Columns) (of_stores : ℕ → List ℕ) (vs : List Vertex) (f : ℕ → Tall) (meaning : IsMeaning columns vs f) (ordered : IsOrdered vs) (readings : AreColumns columns of_stores vs) where
  of_place : (i : ℕ) → i < length vs → All (HasKind (kind_of (f i).shape.class)) (cells_in (f i).outcome)
  of_place i l = (let v = vertex_at vs i l in from_class (f i).shape.class (cells_in (f i).outcome) (value_class columns of_stores vs f meaning ordered readings i v.0 v.1))

  of_table : (t : List (List ℕ × ℕ)) → All (IsPlace (length vs)) t → HaveTheirClasses (each_named column_of_tall (each_named f t))
  of_table [] h = tt
  of_table (x ∷ t) h = (of_place x.1 (All-head (IsPlace (length vs)) x t h), of_table t (All-tail (IsPlace (length vs)) x t h))

  pub gathered_class : (v : PlacedValue) (m : Memory) → IsInGraph (length vs) v → HeldCellsHaveClass v → gathered_value (value_by f v) ≡ Ok m → CellsHaveClass m
  gathered_class (datastore place) m there held e = absurd cc
  gathered_class (tall_table t) m there held e = subst CellsHaveClass (inside (memory.table (each_named column_of_tall (each_named f t))) m e) (of_table t there)
  gathered_class (deferred i) m there held e =
      subst CellsHaveClass (inside (memory_of_outcome (f i).shape.class (f i).outcome) m e) (of_outcome (f i).shape.class (f i).outcome (of_place i there))
  gathered_class (in_memory (memory.scalar c)) m there held e = subst CellsHaveClass (inside (memory.scalar c) m e) held
  gathered_class (in_memory (memory.column x)) m there held e = subst CellsHaveClass (inside (memory.column x) m e) held
  gathered_class (in_memory (memory.table t)) m there held e = subst CellsHaveClass (inside (memory.table t) m e) held
  gathered_class (in_memory (memory.texts ts)) m there held e = absurd cc
