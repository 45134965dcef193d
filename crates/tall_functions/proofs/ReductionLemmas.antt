-- Results of reductions as scalars.
use Rattle.std.proofs.Common.{◌≡◌, ◌∙◌, sym, ap, subst}
use Rattle.std.specs.Prelude.{List, [], ◌∷◌, None, Some, Result, Ok, Err, IfOk, IsOk, length, slice_get}
use Rattle.tall_clamp.specs.declared.faults.FinishFault.{FinishFault}
use Rattle.tall_clamp.specs.declared.faults.FinishFault.TheVariants as finish
use Rattle.tall_value.specs.declared.class.Class.{Class}
use Rattle.tall_value.specs.declared.class.Kind.{Kind}
use Rattle.tall_value.specs.declared.faults.ClassFault.{ClassFault}
use Rattle.tall_value.specs.declared.faults.FaultKind.{FaultKind}
use Rattle.tall_value.specs.declared.functions.Reduction.{Reduction}
use Rattle.tall_value.specs.Cells.{Seen, seen_kind}
use Rattle.tall_value.specs.Classes.{class_of, kind_of}
use Rattle.tall_value.specs.ClassTables.{class_result}
use Rattle.tall_value.specs.FunctionClasses.{reduction_kind}
use Rattle.tall_value.specs.Reductions.{reduced}
use Rattle.tall_dense.specs.Columns.{SeenColumn}
use Rattle.tall_fold.specs.Summaries.{Finishes}
use Rattle.tall_local.specs.Memory.{Memory, scalar}
use Rattle.tall_local.specs.MemoryFunctions.{total_result}
use Rattle.tall_local.specs.MemoryOperators.{with_kind}
use Rattle.tall_local.specs.Refusals.{Refusal}
use Rattle.tall_memory.specs.declared.faults.MemoryFault.{MemoryFault}
use Rattle.tall_memory.specs.declared.values.MemoryValue.{MemoryValue}
use Rattle.tall_memory.specs.Values.{Gives}
use Rattle.tall_value.proofs.KindLaws.{kind_again}

-- the first of one row is that row
pub only_cell : (cells : List Seen) (c d : Seen) (r : Result MemoryValue MemoryFault) → slice_get cells 0 ≡ Some d → cells ≡ c ∷ [] → Gives (Ok (scalar d)) r → Gives (Ok (scalar c)) r
only_cell cells c d r at are given =
    let told : Some c ≡ Some d = sym (ap (λ (l : List Seen). slice_get l 0) are) ∙ at in
    let same : d ≡ c = cc in
    subst (λ (e : Seen). Gives (Ok (scalar e)) r) same given

total_here : (found : Result Seen FaultKind) (f : Reduction) (class : Class) (column : SeenColumn) (r : Result MemoryValue MemoryFault)
    → ((c : Seen) → column.cells ≡ c ∷ [] → Gives (Ok (scalar c)) r) → Finishes found f class (Ok column) → Gives (total_result found) r
total_here found f class column r given is = subst (λ (f : Result Seen FaultKind). Gives (total_result f) r) (sym is.1) (given is.0 is.2)

pub is_total : (found : Result Seen FaultKind) (f : Reduction) (class : Class) (finished : Result SeenColumn FinishFault) (column : SeenColumn) (r : Result MemoryValue MemoryFault)
    → finished ≡ Ok column → ((c : Seen) → column.cells ≡ c ∷ [] → Gives (Ok (scalar c)) r) → Finishes found f class finished → Gives (total_result found) r
is_total found f class finished column r ok given is = total_here found f class column r given (subst (Finishes found f class) ok is)

pub one_row : (found : Result Seen FaultKind) (r : Reduction) (class : Class) (finished : Result SeenColumn FinishFault) → Finishes found r class finished → IfOk finished (λ c. length c.cells ≡ 1)
one_row found r class (Ok column) is = ap (λ (l : List Seen). length l) is.2
one_row found r class (Err finish.Inexact) is = tt
one_row found r class (Err finish.NoRows) is = tt
one_row found r class (Err finish.Memory) is = tt

refused_kinds : {A : Type 0} (e : ClassFault) (class : Class) → class_result (Err e) ≡ Ok class → A
refused_kinds e class h = absurd cc

-- classes that a table takes
pub with_taken : (kinds : Result Kind ClassFault) (class : Class) (answer : Result Memory Refusal) (r : Result MemoryValue MemoryFault) → class_result kinds ≡ Ok class → Gives answer r → Gives (with_kind kinds (λ k. answer)) r
with_taken (Ok k) class answer r accepted given = given
with_taken (Err e) class answer r accepted given = refused_kinds e class accepted

-- a scalar as a row of its class
of_class : (f : Reduction) (c : Seen) (r : Result MemoryValue MemoryFault)
    → Gives (with_kind (reduction_kind f (kind_of (class_of (seen_kind c)))) (λ k. total_result (reduced f (kind_of (class_of (seen_kind c))) (c ∷ [])))) r
    → Gives (with_kind (reduction_kind f (seen_kind c)) (λ k. total_result (reduced f (seen_kind c) (c ∷ [])))) r
of_class f c r given = subst (λ (a : Kind). Gives (with_kind (reduction_kind f a) (λ k. total_result (reduced f a (c ∷ [])))) r) (kind_again (seen_kind c)) given

pub as_one_row : (f : Reduction) (c : Seen) (x : SeenColumn) (r : Result MemoryValue MemoryFault) → x ≡ record { class = class_of (seen_kind c); cells = c ∷ [] }
    → Gives (with_kind (reduction_kind f (kind_of x.class)) (λ k. total_result (reduced f (kind_of x.class) x.cells))) r
    → Gives (with_kind (reduction_kind f (seen_kind c)) (λ k. total_result (reduced f (seen_kind c) (c ∷ [])))) r
as_one_row f c x r is given = of_class f c r (subst (λ (x : SeenColumn). Gives (with_kind (reduction_kind f (kind_of x.class)) (λ k. total_result (reduced f (kind_of x.class) x.cells))) r) is given)
