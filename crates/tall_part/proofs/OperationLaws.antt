-- The outcome of an operation that needs all rows of its operands is told by their rows.
use Rattle.std.proofs.Common.{ap, arith, sym}
use Rattle.std.specs.Prelude.{◌≡◌, ◌<◌, refl, ℕ, true, false, [], ◌∷◌}
use Rattle.tall_value.specs.declared.functions.Method.{Method}
use Rattle.tall_graph.specs.Vertices.{part_of}
use Rattle.tall_semantics.specs.Equality.{part_place}
use Rattle.tall_semantics.specs.Faults.{At}
use Rattle.tall_semantics.specs.Operations.{Op, constant, binary, unary, filter, reduce, scan, head, tail, distinct, group, Part, keys, counts, values, operation}
use Rattle.tall_semantics.specs.Outcomes.{rows_in}
use Rattle.tall_semantics.specs.Talls.{Tall, own_outcome}
use Rattle.tall_part.specs.declared.operation.EndOperation.{EndOperation}
use Rattle.tall_part.specs.declared.operation.EndOperation.TheVariants as end
use Rattle.tall_part.specs.Operations.{is_end, op_of, outcome_of_rows}

pub one_told : (at : At) (e : EndOperation) (n : ℕ) (x : Tall) → own_outcome at (op_of e n) (x ∷ []) ≡ outcome_of_rows at e n x.shape.class x.shape.class (rows_in x.outcome) (rows_in x.outcome)
one_told at (end.Reduce r) n x = refl
one_told at (end.Head k) n x = refl
one_told at (end.Tail k) n x = refl
one_told at end.Distinct n x = refl
one_told at (end.Group m) n x = refl

no_end : false ≡ true → ⊥
no_end h = absurd (cc)

pub end_found : (op : Op) → is_end (operation op) ≡ true → (e : EndOperation) × (n : ℕ) × (op ≡ op_of e n)
end_found (reduce r) h = (end.Reduce r, 0, refl)
end_found (head k) h = (end.Head k, 0, refl)
end_found (tail k) h = (end.Tail k, 0, refl)
end_found distinct h = (end.Distinct, 0, refl)
end_found (group m keys) h = (end.Group m, 0, refl)
end_found (group m counts) h = (end.Group m, 1, refl)
end_found (group m values) h = (end.Group m, 2, refl)
end_found (constant c) h = absurd (no_end h)
end_found (binary f) h = absurd (no_end h)
end_found (unary f) h = absurd (no_end h)
end_found filter h = absurd (no_end h)
end_found (scan s) h = absurd (no_end h)

-- the number of a groupsummary's column tells the column
place_again : (p : Part) → part_of (part_place p) ≡ p
place_again keys = refl
place_again counts = refl
place_again values = refl

pub column_again : (m : Method) (n : ℕ) → operation (group m (part_of n)) ≡ operation (group m (part_of (part_place (part_of n))))
column_again m n = ap (λ (p : Part). operation (group m p)) (sym (place_again (part_of n)))

below_three : (p : Part) → part_place p < 3
below_three keys = omega arith
below_three counts = omega arith
below_three values = omega arith

pub a_column : (n : ℕ) → part_place (part_of n) < 3
a_column n = below_three (part_of n)
