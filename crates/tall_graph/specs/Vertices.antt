-- What a clause sees of operations, of nodes as vertices, and of refusals.
use Rattle.std.specs.Prelude.{ℕ, ◌<◌, Bool, true, false, ◌==◌, if◌then◌else◌, Result, Ok, Err, List}
use Rattle.tall_value.specs.declared.class.Class.{Class}
use Rattle.tall_value.specs.OwnedCells.{owned_seen}
use Rattle.tall_semantics.specs.Operations.{constant, unary, binary, filter, reduce, scan, head, tail, distinct, group, Part, keys, counts, values, Made, stored, operation}
use Rattle.tall_semantics.specs.Shapes.{ShapeRefusal, mixed_class, bad_class, incompatible, bad_argument}
use Rattle.tall_semantics.specs.Deferred.{Vertex}
use Rattle.tall_graph.specs.declared.classes.Part.{Part as CodePart}
use Rattle.tall_graph.specs.declared.classes.Part.TheVariants as part
use Rattle.tall_graph.specs.declared.operations.NodeOp.{NodeOp}
use Rattle.tall_graph.specs.declared.operations.NodeOp.TheVariants as op
use Rattle.tall_graph.specs.declared.operations.GraphFault.{GraphFault}
use Rattle.tall_graph.specs.declared.operations.GraphFault.TheVariants as fault

-- the columns of `groupsummary` by their numbers
abbrev pub part_of : ℕ → Part
part_of n = if n == 0 then keys else if n == 1 then counts else values

abbrev pub part_seen : CodePart → Part
part_seen part.Keys = keys
part_seen part.Counts = counts
part_seen part.Values = values

-- there are three of them
abbrev pub HasPart : NodeOp → Type 0
HasPart (op.Group m n) = n < 3
HasPart f = Unit {0}

abbrev pub made_of : NodeOp → Made
made_of (op.Stored s v c) = stored s v c
made_of (op.Constant c) = operation (constant (owned_seen c))
made_of (op.Unary f) = operation (unary f)
made_of (op.Binary f) = operation (binary f)
made_of op.Filter = operation filter
made_of (op.Reduce r) = operation (reduce r)
made_of (op.Scan s) = operation (scan s)
made_of (op.Head k) = operation (head k)
made_of (op.Tail k) = operation (tail k)
made_of op.Distinct = operation distinct
made_of (op.Group m n) = operation (group m (part_of n))

abbrev pub vertex : (number line : ℕ) → NodeOp → List ℕ → Vertex
vertex number line f args = record { at = record { number = number; line = line }; made = made_of f; args = args }

-- ---- refusals

-- want of memory is no refusal, so any will do for it
abbrev pub refusal_of : GraphFault → ShapeRefusal
refusal_of fault.MixedClass = mixed_class
refusal_of fault.BadClass = bad_class
refusal_of fault.Incompatible = incompatible
refusal_of fault.BadArgument = bad_argument
refusal_of fault.Memory = bad_argument

abbrev pub is_memory : GraphFault → Bool
is_memory fault.Memory = true
is_memory e = false

abbrev pub class_seen : Result Class GraphFault → Result Class ShapeRefusal
class_seen (Ok c) = Ok c
class_seen (Err e) = Err (refusal_of e)
