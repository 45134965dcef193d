-- Why a statement ends a run. The cases stand in the order of docs/LANGUAGE.md, fault lines.
use Rattle.std.specs.Prelude.{ℕ, List, Option, None, Some, Result, Ok, Err}
use Rattle.tall_value.specs.declared.faults.CellFault.{CellFault}
use Rattle.tall_value.specs.declared.faults.ClassFault.{ClassFault}
use Rattle.tall_value.specs.declared.faults.ClassFault.TheVariants.{MixedClass, BadClass}
use Rattle.tall_value.specs.declared.faults.FaultKind.{FaultKind}
use Rattle.tall_value.specs.Reductions.{data_fault}

pub data Refusal : Type 0 where
  undefined : (name : List ℕ) → Refusal
  mixed_class : Refusal
  bad_class : Refusal
  incompatible : Refusal
  bad_size : Refusal
  bad_argument : Refusal
  bad_index : Refusal
  -- a result above 2^53, a quotient that isn't whole, a NaN as a logical, no rows; at a row, or at none
  failed : (row : Option ℕ) → FaultKind → Refusal
  no_file : (name : List ℕ) → Refusal
  no_header : (name : List ℕ) → Refusal
  header_differs : (name : List ℕ) → Refusal
  too_many_rows : Refusal
  too_many_fields : (row : ℕ) → Refusal
  -- of a field, with its row and its variable
  bad_field : (row : ℕ) (variable : List ℕ) → Refusal
  bad_text : (row : ℕ) (variable : List ℕ) → Refusal
  field_not_whole : (row : ℕ) (variable : List ℕ) → Refusal
  field_inexact : (row : ℕ) (variable : List ℕ) → Refusal
  -- in functions
  no_value_left : Refusal
  no_progress : Refusal
  too_many_turns : Refusal
  bad_key : Refusal
  bad_value : Refusal

-- a refusal, with the line that it names
pub record Stop : Type 0 where
  pub line : ℕ
  pub refusal : Refusal

abbrev pub stop_at : ℕ → Refusal → Stop
stop_at line refusal = record { line = line; refusal = refusal }

-- ---- of refused classes and of cells that there are not

abbrev pub refused_class : ClassFault → Refusal
refused_class MixedClass = mixed_class
refused_class BadClass = bad_class

abbrev pub refused_cell : Option ℕ → CellFault → Refusal
refused_cell row fault = failed row (data_fault fault)

-- what is done with an answer; a refusal goes first
abbrev pub and_then : {A B : Type 0} → Result A Refusal → (A → Result B Refusal) → Result B Refusal
and_then (Ok a) f = f a
and_then (Err e) f = Err e

-- the same of an answer that may be missing
abbrev pub or_refuse : {A : Type 0} → Refusal → Option A → Result A Refusal
or_refuse refusal (Some a) = Ok a
or_refuse refusal None = Err refusal
