-- How a node's value is computed over a block, and what the computing answers.
use Rattle.std.specs.Prelude.{◌≡◌, ◌<◌, ℕ, Bool, true, Option, None, Some, Result, Ok, Err, List, [], ◌∷◌, length, slice_get, IfOk}
use Rattle.std.specs.HashMap.{HashMap}
use Rattle.std.specs.declared.alloc.AllocError.{AllocError}
use Rattle.tall_value.specs.declared.class.Class.{Class}
use Rattle.tall_value.specs.Cells.{Seen}
use Rattle.tall_value.specs.Reductions.{data_fault}
use Rattle.tall_dense.specs.Columns.{SeenColumn}
use Rattle.tall_dense.specs.declared.faults.OpFault.{OpFault}
use Rattle.tall_dense.specs.declared.faults.OpFault.TheVariants as op_fault
use Rattle.tall_semantics.specs.Faults.{At, fault_at}
use Rattle.tall_semantics.specs.Operations.{Op, unary, binary, filter, scan, Made, stored, operation}
use Rattle.tall_semantics.specs.Outcomes.{Outcome, fault, fault_of, rows_in}
use Rattle.tall_semantics.specs.Plans.{is_scan_at}
use Rattle.tall_semantics.specs.Talls.{Tall, Columns}
use Rattle.tall_semantics.specs.Deferred.{Vertex, IsAmong}
use Rattle.tall_blocks.specs.Cut.{CanBeCut}
use Rattle.tall_blocks.specs.RowPlaces.{row_number_at}
use Rattle.tall_block.specs.declared.forms.Form.{Form}
use Rattle.tall_block.specs.declared.forms.Form.TheVariants as form
use Rattle.tall_block.specs.declared.values.Value.{Value}
use Rattle.tall_block.specs.declared.values.Value.TheVariants as value
use Rattle.tall_block.specs.OfBlocks.{AreShown, IsThere}
use Rattle.tall_block.specs.BlockWork.{IsBlock}
use Rattle.tall_block.specs.Shown.{Shows}

abbrev pub IsFormOf : Made → List ℕ → Form → Type 0
IsFormOf made args form.Stored = (s : ℕ) × (x : ℕ) × (k : Class) × (made ≡ stored s x k)
IsFormOf made args (form.Unary op a) = (made ≡ operation (unary op)) × (args ≡ a ∷ [])
IsFormOf made args (form.Binary op a b) = (made ≡ operation (binary op)) × (args ≡ a ∷ b ∷ [])
IsFormOf made args (form.Filter a m) = (made ≡ operation filter) × (args ≡ a ∷ m ∷ [])
IsFormOf made args (form.Scan s a) = (made ≡ operation (scan s)) × (args ≡ a ∷ [])
IsFormOf made args form.Other = (f : ℕ → Tall) (cut : ℕ → Bool) → CanBeCut f cut made args → ⊥

-- an operation makes the node
abbrev pub IsOperationAt : List Vertex → (place : ℕ) → Type 0
IsOperationAt vs i = (v : Vertex) × (op : Op) × (slice_get vs i ≡ Some v) × (v.made ≡ operation op)

-- ---- answers

-- the answer of an operator whose first operand with rows is `lead`
abbrev pub IsValueOf : Result SeenColumn OpFault → (lead : ℕ) → Result Value AllocError → Type 0
IsValueOf (Ok c) lead result = result ≡ Ok (value.Made c)
IsValueOf (Err (op_fault.At row e)) lead result = result ≡ Ok (value.Failed lead row e)
IsValueOf (Err op_fault.Memory) lead result = IfOk result (λ v. ⊥)

abbrev pub IfMade : Result Value AllocError → (SeenColumn → Type 0) → Type 0
IfMade (Ok (value.Made c)) P = P c
IfMade result P = Unit {0}

module _ {S : Type 0} where
  -- a fault is told by a row of an operand whose column is there
  abbrev pub IsLed : List Vertex → List (List ℕ × SeenColumn) → HashMap ℕ SeenColumn S → (i : ℕ) → Result Value AllocError → Type 0
  IsLed vs table made i (Ok (value.Failed lead row e)) = IsThere vs table made lead × ((v : Vertex) × (slice_get vs i ≡ Some v) × IsAmong v.args lead)
  IsLed vs table made i result = Unit {0}

  -- what the answer tells of the outcome of the expression `at`; want of memory tells nothing
  abbrev pub TellsOf : List Vertex → List (List ℕ × SeenColumn) → HashMap ℕ SeenColumn S → At → (ℕ → Outcome) → (i : ℕ) → Result Value AllocError → Type 0
  TellsOf vs table made at h i (Ok value.Stored) = IsThere vs table made i × (fault_of (h i) ≡ None)
  TellsOf vs table made at h i (Ok (value.Made c)) = Shows (h i) c.cells
  TellsOf vs table made at h i (Ok (value.Failed lead row e)) = (row < length (rows_in (h lead))) × (h i ≡ fault (fault_at at (Some (row_number_at (rows_in (h lead)) row)) (data_fault e)))
  TellsOf vs table made at h i (Ok value.Missing) = ⊥
  TellsOf vs table made at h i (Err e) = Unit {0}

  -- what the value at i is computed from is there
  pub record IsReady (vs : List Vertex) (table : List (List ℕ × SeenColumn)) (made : HashMap ℕ SeenColumn S) (scalars carries : ℕ → Option Seen) (first : ℕ) (work : List ℕ) (columns : Columns) (so_far : ℕ → List Seen) (f : ℕ → Tall) (cut : ℕ → Bool) (h : ℕ → Outcome) (i : ℕ) : Type 0 where
    pub block : IsBlock vs table scalars carries first work columns so_far f cut h
    pub among : IsAmong work i
    pub shown : AreShown vs cut table made h
    pub there : (a : ℕ) (v : Vertex) → slice_get vs i ≡ Some v → IsAmong v.args a → cut a ≡ true → IsThere vs table made a
    pub carried : is_scan_at (slice_get vs i) ≡ true → (c : Seen) × (carries i ≡ Some c)
