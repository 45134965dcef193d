-- The variables of some records, column by column.
use Rattle.std.proofs.Common.{ℕ, zero, suc, ◌≡◌, ◌∙◌, ◌<◌, ◌+◌, List, [], ◌∷◌, ◌++◌, false, Option, Some, None, Ok, Err, Result, sym, ap, refl, arith, length, get_or, map, take, drop}
use Rattle.std.specs.Prelude.{if◌then◌else◌}
use Rattle.std.specs.List.{AllByRecursion, IsDistinct, cons_option}
use Rattle.std.specs.Result.{result_err, result_ok}
use Rattle.std.specs.Str.{bytes_eq}
use Rattle.std.proofs.lemmas.List.{drop_more, take_more}
use Rattle.std.proofs.Math.Seq.{drop-length, take-length}
use Rattle.std.proofs.lemmas.Map.Keys.{IsDistinct-head, IsDistinct-tail}
use Rattle.tall_column.specs.Columns.{SeenColumn}
use Rattle.tall_column.specs.Tables.{FitsHeight, HasHeight, column_named}
use Rattle.tall_value.specs.Cells.{Seen}
use Rattle.tall_store.specs.declared.faults.ReadingFault.{ReadingFault}
use Rattle.tall_store.specs.Stores.{SeenStore, name_at}
use Rattle.tall_store.specs.Records.{DataRecord}
use Rattle.tall_store.specs.ReadingOrder.{earlier_of, first_reading_fault}
use Rattle.tall_store.specs.Stored.{cells_at, value_at, variable_of, variables_of}
use Rattle.tall_store.specs.Reads.{ReadsColumn, column_at, column_faults, first_of_columns}

-- ---- names

at_place : {X Y : Type 0} (P : Y → Type 0) (f : X → Y) (xs : List X) (i : ℕ) (d : X) → i < length xs → AllByRecursion P (map f xs) → P (f (get_or xs i d))
at_place P f [] i d l a = absurd (omega arith)
at_place P f (x ∷ xs) zero d l a = a.0
at_place P f (x ∷ xs) (suc i) d l a = at_place P f xs i d (omega arith) a.1

-- no variable before this one has its name
pub none_before : (store : SeenStore) (records : List DataRecord) (places : List ℕ) (i : ℕ) → i < length places → IsDistinct bytes_eq (map (name_at store) places)
    → column_named (name_at store (get_or places i 0)) (map (variable_of store records) (take i places)) ≡ None
none_before store records [] i l d = absurd (omega arith)
none_before store records (place ∷ places) zero l d = refl
none_before store records (place ∷ places) (suc i) l d =
    ap (λ b. if b then Some (column_at store records place) else column_named (name_at store (get_or places i 0)) (map (variable_of store records) (take i places)))
    (at_place (λ y. bytes_eq (name_at store place) y ≡ false) (name_at store) places i 0 (omega arith) (IsDistinct-head bytes_eq (name_at store place) (map (name_at store) places) d))
    ∙ none_before store records places i (omega arith) (IsDistinct-tail bytes_eq (name_at store place) (map (name_at store) places) d)

-- ---- heights

value_height : (a : ℕ) (v : Result Seen ReadingFault) (cells : List Seen) (faults : List ReadingFault)
    → length cells + length faults ≡ a → length (cons_option (result_ok v) cells) + length (cons_option (result_err v) faults) ≡ a + 1
value_height a (Ok cell) cells faults e = omega arith
value_height a (Err fault) cells faults e = omega arith

cells_and_faults : (store : SeenStore) (records : List DataRecord) (place : ℕ)
    → length (cells_at store records place) + length (column_faults store records place) ≡ length records
cells_and_faults store [] place = refl
cells_and_faults store (r ∷ records) place =
    value_height (length records) (value_at store place r) (cells_at store records place) (column_faults store records place) (cells_and_faults store records place)
    ∙ omega arith

-- a column without a fault has a cell for each record
pub whole_height : (store : SeenStore) (records : List DataRecord) (place : ℕ) → column_faults store records place ≡ []
    → length (cells_at store records place) ≡ length records
whole_height store records place e =
    sym (plus_none (length (cells_at store records place)) (length (column_faults store records place)) (ap length e)) ∙ cells_and_faults store records place
  where
    plus_none : (m n : ℕ) → n ≡ 0 → m + n ≡ m
    plus_none m n e = omega arith

pub read_height : (store : SeenStore) (records : List DataRecord) (place : ℕ) (column : SeenColumn) → ReadsColumn store records place (Ok column)
    → length column.cells ≡ length records
read_height store records place column r = ap (λ (c : SeenColumn). length c.cells) r.0 ∙ whole_height store records place r.1

pub fits : (n : ℕ) (column : SeenColumn) (entries : List (List ℕ × SeenColumn)) → length column.cells ≡ n → HasHeight n entries → FitsHeight (length column.cells) entries
fits n column [] e h = tt
fits n column (entry ∷ entries) e h = e ∙ sym h.0

pub height_more : (n : ℕ) (name : List ℕ) (column : SeenColumn) (entries : List (List ℕ × SeenColumn)) → length column.cells ≡ n → HasHeight n entries
    → HasHeight n (entries ++ (name, column) ∷ [])
height_more n name column [] e h = (e, tt)
height_more n name column (entry ∷ entries) e h = (h.0, height_more n name column entries e h.1)

map_append : {X Y : Type 0} (f : X → Y) (xs ys : List X) → map f (xs ++ ys) ≡ map f xs ++ map f ys
map_append f [] ys = refl
map_append f (x ∷ xs) ys = ap (λ zs. f x ∷ zs) (map_append f xs ys)

-- the variables up to one more
pub variables_more : (store : SeenStore) (records : List DataRecord) (i place : ℕ) (table : List (List ℕ × SeenColumn)) → i < length store.selected → place ≡ get_or store.selected i 0
    → table ≡ map (variable_of store records) (take i store.selected)
    → table ++ (name_at store place, column_at store records place) ∷ [] ≡ map (variable_of store records) (take (i + 1) store.selected)
variables_more store records i place table l p e =
    ap (λ t. t ++ variable_of store records place ∷ []) e
    ∙ ap (λ q. map (variable_of store records) (take i store.selected) ++ variable_of store records q ∷ []) p
    ∙ sym (map_append (variable_of store records) (take i store.selected) (get_or store.selected i 0 ∷ []))
    ∙ ap (map (variable_of store records)) (sym (take_more store.selected i 0 l))

-- ---- the first fault

pub columns_more : (store : SeenStore) (records : List DataRecord) (fault first : Option ReadingFault) (i place : ℕ) → i < length store.selected → place ≡ get_or store.selected i 0
    → first_of_columns store records fault (drop i store.selected) ≡ first
    → first_of_columns store records (earlier_of fault (first_reading_fault (column_faults store records place))) (drop (i + 1) store.selected) ≡ first
columns_more store records fault first i place l p e =
    ap (λ q. first_of_columns store records (earlier_of fault (first_reading_fault (column_faults store records q))) (drop (i + 1) store.selected)) p
    ∙ ap (first_of_columns store records fault) (sym (drop_more store.selected i 0 l)) ∙ e

pub columns_end : (store : SeenStore) (records : List DataRecord) (fault : Option ReadingFault)
    → first_of_columns store records fault (drop (length store.selected) store.selected) ≡ fault
columns_end store records fault = ap (first_of_columns store records fault) (drop-length store.selected)

pub variables_end : (store : SeenStore) (records : List DataRecord)
    → map (variable_of store records) (take (length store.selected) store.selected) ≡ variables_of store records
variables_end store records = ap (map (variable_of store records)) (take-length store.selected)
