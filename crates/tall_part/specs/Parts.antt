-- Of which rows a part of an end's value is one, over any cut of the rows into blocks.
use Rattle.std.specs.Prelude.{◌≡◌, ◌≤◌, ◌-◌, min, ℕ, Bool, true, false, List, length, map}
use Rattle.std.specs.List.{slice_range}
use Rattle.tall_value.specs.declared.class.Class.{Class}
use Rattle.tall_value.specs.declared.functions.Method.{Method}
use Rattle.tall_value.specs.declared.functions.Reduction.{Reduction}
use Rattle.tall_value.specs.Cells.{Seen}
use Rattle.tall_value.specs.Columns.{cells}
use Rattle.tall_fold.specs.FirstAndLast.{ends_of}
use Rattle.tall_fold.specs.Summaries.{IsSummary}
use Rattle.tall_group.specs.Folds.{IsGroupFoldOf, class_of_data, class_of_keys, method_of_groups}
use Rattle.tall_group.specs.UniqueFolds.{IsUniqueOf, class_of_unique}
use Rattle.tall_blocks.specs.Carries.{Rows}
use Rattle.tall_part.specs.declared.operation.EndOperation.{EndOperation}
use Rattle.tall_part.specs.declared.operation.EndOperation.TheVariants as end
use Rattle.tall_part.specs.declared.part.EndPart.{EndPart}
use Rattle.tall_part.specs.declared.part.EndPart.TheVariants as part

abbrev pub numbers : Rows → List ℕ
numbers rs = map (λ (r : ℕ × Seen). r.0) rs

-- ---- by what is kept

abbrev pub IsReductionOf : Reduction → Class → List Seen → EndPart → Type 0
IsReductionOf r a cs (part.Summary s) = IsSummary r a cs s
IsReductionOf r a cs (part.Rows e) = ⊥
IsReductionOf r a cs (part.Distinct u) = ⊥
IsReductionOf r a cs (part.Groups g) = ⊥

abbrev pub AreEndsOf : (last : Bool) (most : ℕ) → Class → Rows → EndPart → Type 0
AreEndsOf last most a rs (part.Rows e) = e ≡ record { last = last; most = most; class = a; rows = ends_of last most rs }
AreEndsOf last most a rs (part.Summary s) = ⊥
AreEndsOf last most a rs (part.Distinct u) = ⊥
AreEndsOf last most a rs (part.Groups g) = ⊥

abbrev pub IsDistinctOf : Class → List Seen → EndPart → Type 0
IsDistinctOf a cs (part.Distinct u) = (class_of_unique u ≡ a) × IsUniqueOf u cs
IsDistinctOf a cs (part.Summary s) = ⊥
IsDistinctOf a cs (part.Rows e) = ⊥
IsDistinctOf a cs (part.Groups g) = ⊥

abbrev pub IsGroupsOf : Method → (keys data' : Class) → List Seen → List Seen → EndPart → Type 0
IsGroupsOf m a b ks ds (part.Groups g) = (method_of_groups g ≡ m) × (class_of_keys g ≡ a) × (class_of_data g ≡ b) × IsGroupFoldOf g ks ds
IsGroupsOf m a b ks ds (part.Summary s) = ⊥
IsGroupsOf m a b ks ds (part.Rows e) = ⊥
IsGroupsOf m a b ks ds (part.Distinct u) = ⊥

-- ---- by the operation

-- the part is one of the rows rs of the first operand and ss of the last one, of these classes
abbrev pub IsPartOf : EndOperation → (first last : Class) → (rs ss : Rows) → EndPart → Type 0
IsPartOf (end.Reduce r) a b rs ss p = IsReductionOf r a (cells rs) p
IsPartOf (end.Head k) a b rs ss p = AreEndsOf false k a rs p
IsPartOf (end.Tail k) a b rs ss p = AreEndsOf true k a rs p
IsPartOf end.Distinct a b rs ss p = IsDistinctOf a (cells rs) p
IsPartOf (end.Group m) a b rs ss p = IsGroupsOf m a b (cells rs) (cells ss) p

-- of some rows, at most so many
abbrev pub IsPart : EndOperation → (first last : Class) → (most : ℕ) → EndPart → Type 0
IsPart op a b most p = (rs ss : Rows) × IsPartOf op a b rs ss p × (length rs ≤ most)

-- ---- the rows that are kept with their numbers

-- of n rows, those from here to before there
abbrev pub kept_from : EndOperation → (n : ℕ) → ℕ
kept_from (end.Tail k) n = n - k
kept_from (end.Reduce r) n = 0
kept_from (end.Head k) n = 0
kept_from end.Distinct n = 0
kept_from (end.Group m) n = 0

abbrev pub kept_to : EndOperation → (n : ℕ) → ℕ
kept_to (end.Head k) n = min k n
kept_to (end.Tail k) n = n
kept_to (end.Reduce r) n = 0
kept_to end.Distinct n = 0
kept_to (end.Group m) n = 0

-- the numbers of these rows
abbrev pub HasNumbers : EndOperation → Rows → List ℕ → Type 0
HasNumbers op rs ns = ns ≡ numbers (slice_range rs (kept_from op (length rs)) (kept_to op (length rs)))
