-- The table of a summary of groups.
use Rattle.std.specs.Prelude.{◌≡◌, refl, ℕ, ◌+◌, ◌||◌, ◌&&◌, Bool, true, false, not, if◌then◌else◌, codes, IsOk, IfSome, Option, None, Some, Result, Ok, Err, List, [], ◌∷◌, ◌++◌, length, map, option_map}
use Rattle.std.proofs.Common.{ap, sym, subst, ◌∙◌}
use Rattle.std.proofs.lemmas.Bool.{and_parts}
use Rattle.std.specs.List.{list_any}
use Rattle.std.specs.Str.{bytes_eq}
use Rattle.tall_value.specs.declared.class.Class.{Class}
use Rattle.tall_value.specs.declared.class.Kind.{Kind}
use Rattle.tall_value.specs.declared.faults.ClassFault.{ClassFault}
use Rattle.tall_value.specs.declared.faults.FaultKind.{FaultKind}
use Rattle.tall_value.specs.declared.functions.Method.{Method}
use Rattle.tall_value.specs.declared.functions.Method.TheVariants.{Count, Sum, SumNative, Min, Max, Nnz, Nummissing}
use Rattle.tall_value.specs.Cells.{Seen}
use Rattle.tall_value.specs.Classes.{class_of, kind_of}
use Rattle.tall_value.specs.ClassTables.{class_result}
use Rattle.tall_value.specs.FunctionClasses.{class_results, method_kind, summary_classes, summary_kinds}
use Rattle.tall_value.specs.GroupSummary.{summary_columns}
use Rattle.tall_value.specs.SummaryNames.{summary_names}
use Rattle.tall_column.specs.Columns.{SeenColumn}
use Rattle.tall_column.specs.Tables.{HasHeight, IsTable, column_named, height_of}
use Rattle.tall_value.specs.Names.{are_distinct}
use Rattle.tall_grammar.specs.Lexemes.{is_text}
use Rattle.tall_group.specs.Summaries.{all_columns, cells_of, if_some}
use Rattle.tall_group.specs.declared.group_columns.GroupColumns.{GroupColumns}
use Rattle.tall_local.specs.MemoryFunctions.{columns_of, if_distinct, memory_summary, paired, summary_result, with_classes}
use Rattle.tall_local.specs.Memory.{Memory, kind_of_column, table}
use Rattle.tall_local.specs.Refusals.{Refusal, bad_argument}
use Rattle.tall_memory.specs.Values.{Gives}
use Rattle.tall_memory.specs.declared.faults.MemoryFault.{MemoryFault}
use Rattle.tall_memory.specs.declared.values.MemoryValue.{MemoryValue}
use Rattle.tall_functions.specs.Summaries.{names_with, with_values}

abbrev Entries : Type 0
Entries = List (List ℕ × SeenColumn)

-- ---- columns of one table

named_height : (h : ℕ) (t : Entries) (name : List ℕ) (x : SeenColumn) → HasHeight h t → column_named name t ≡ Some x → length x.cells ≡ h
named_height h [] name x all at = absurd cc
named_height h (e ∷ t) name x all at = by (bytes_eq e.0 name) at (λ r. named_height h t name x all.1 r)
  where
    by : (b : Bool) → (if b then Some e.1 else column_named name t) ≡ Some x → (column_named name t ≡ Some x → length x.cells ≡ h) → length x.cells ≡ h
    by true k go = (let same : e.1 ≡ x = cc in ap (λ (x : SeenColumn). length x.cells) (sym same) ∙ all.0)
    by false k go = go k

pub same_height : (t : Entries) (a b : List ℕ) (x y : SeenColumn) → IsTable t → column_named a t ≡ Some x → column_named b t ≡ Some y → length x.cells ≡ length y.cells
same_height t a b x y is p q = named_height (height_of t) t a x is.one_height p ∙ sym (named_height (height_of t) t b y is.one_height q)

-- ---- classes

pub class_ok : (r : Result Kind ClassFault) (c : Class) → class_result r ≡ Ok c → IsOk r
class_ok (Ok k) c h = refl
class_ok (Err e) c h = absurd cc

-- ---- names

neither : (a b : Bool) → not (a || b) ≡ true → (a ≡ false) × (not b ≡ true)
neither true b h = absurd cc
neither false b h = (refl, h)

first_parts : (a b : Bool) → (a && b) ≡ true → (a ≡ true) × (b ≡ true)
first_parts a b h = let p = and_parts a b h in (p.0, p.1)

-- a name that differs from the first is looked for behind it
behind : (name first : List ℕ) (x : SeenColumn) (t : Entries) → is_text first name ≡ false → column_named name t ≡ None → column_named name ((first, x) ∷ t) ≡ None
behind name first x t h g = ap (λ b. if b then Some x else column_named name t) h ∙ g

pub second_new : (key : List ℕ) (o : Option (List ℕ)) (x : SeenColumn) → are_distinct (names_with key o) ≡ true → column_named (codes "GroupCount") ((key, x) ∷ []) ≡ None
second_new key None x h =
    let p = first_parts (not (is_text key (codes "GroupCount") || false)) (are_distinct (codes "GroupCount" ∷ [])) h in
    behind (codes "GroupCount") key x [] (neither (is_text key (codes "GroupCount")) false p.0).0 refl
second_new key (Some name) x h =
    let p = first_parts (not (is_text key (codes "GroupCount") || (is_text key name || false))) (are_distinct (codes "GroupCount" ∷ name ∷ [])) h in
    behind (codes "GroupCount") key x [] (neither (is_text key (codes "GroupCount")) (is_text key name || false) p.0).0 refl

pub third_new : (key name : List ℕ) (x y : SeenColumn) → are_distinct (names_with key (Some name)) ≡ true → column_named name ((key, x) ∷ (codes "GroupCount", y) ∷ []) ≡ None
third_new key name x y h =
    let p = first_parts (not (is_text key (codes "GroupCount") || (is_text key name || false))) (are_distinct (codes "GroupCount" ∷ name ∷ [])) h in
    let q = first_parts (not (is_text (codes "GroupCount") name || false)) (are_distinct (name ∷ [])) p.1 in
    let r = neither (is_text key (codes "GroupCount")) (is_text key name || false) p.0 in
    behind name key x ((codes "GroupCount", y) ∷ []) (neither (is_text key name) false r.1).0 (behind name (codes "GroupCount") y [] (neither (is_text (codes "GroupCount") name) false q.0).0 refl)

-- ---- the columns under their names

pub values_named : (key : List ℕ) (o : Option (List ℕ)) (x y v : SeenColumn) → paired (names_with key o) (x ∷ y ∷ v ∷ []) ≡ with_values ((key, x) ∷ (codes "GroupCount", y) ∷ []) o v
values_named key (Some name) x y v = refl
values_named key None x y v = refl

pub counts_named : (key : List ℕ) (o : Option (List ℕ)) (x y : SeenColumn) → paired (names_with key o) (x ∷ y ∷ []) ≡ (key, x) ∷ (codes "GroupCount", y) ∷ []
counts_named key (Some name) x y = refl
counts_named key None x y = refl

pub columns_are : (cs : List SeenColumn) → columns_of (map (λ c. c.class) cs) (map (λ c. c.cells) cs) ≡ cs
columns_are [] = refl
columns_are (c ∷ cs) = ap (λ ds. c ∷ ds) (columns_are cs)

pub summary_answer : (names : List (List ℕ)) (classes : List Class) (g : GroupColumns) (found : Result (List (List Seen)) FaultKind) → are_distinct names ≡ true → classes ≡ map (λ c. c.class) (all_columns g) → found ≡ Ok (cells_of g)
    → if_distinct names (summary_result names classes found) ≡ Ok (table (paired names (all_columns g)))
summary_answer names classes g found d k s =
    ap (λ b. if b then summary_result names classes found else Err bad_argument) d
    ∙ (ap (summary_result names classes) s
    ∙ (ap (λ cs. Ok (table (paired names (columns_of cs (cells_of g))))) k ∙ ap (λ cs. Ok (table (paired names cs))) (columns_are (all_columns g))))

pub summary_from : (m : Method) (key value : List ℕ) (g v : SeenColumn) (names : List (List ℕ)) (classes : List Class) (result : Result MemoryValue MemoryFault) → summary_classes m g.class v.class ≡ Ok classes → summary_names m key value ≡ names
    → Gives (if_distinct names (summary_result names classes (summary_columns m (kind_of_column v) g.cells v.cells))) result → Gives (memory_summary m (summary_names m key value) g v) result
summary_from m key value g v names classes result k n h =
    let found = summary_columns m (kind_of_column v) g.cells v.cells in
    subst (λ ns. Gives (memory_summary m ns g v) result) (sym n) (subst (λ r. Gives (with_classes r (λ cs. if_distinct names (summary_result names cs found))) result) (sym k) h)
