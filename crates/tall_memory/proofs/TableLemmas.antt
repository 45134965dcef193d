-- Tables made variable by variable.
use Rattle.std.proofs.Common.{◌≡◌, ◌<◌, ◌+◌, ◌∙◌, ℕ, zero, suc, refl, sym, ap, arith, length, take, get_or}
use Rattle.std.specs.Prelude.{◌-◌, min, Bool, true, false, if◌then◌else◌, List, [], ◌∷◌, ◌++◌, None, Some, option_map, slice_get}
use Rattle.std.specs.Str.{bytes_eq}
use Rattle.std.proofs.lemmas.List.{get_or-take, length-drop, length-take, length-take-le}
use Rattle.std.proofs.lemmas.Option.{none-some}
use Rattle.tall_value.specs.Cells.{Seen}
use Rattle.tall_value.specs.Filters.{is_true, kept}
use Rattle.tall_column.specs.Columns.{SeenColumn, rows_kept}
use Rattle.tall_column.specs.Tables.{FitsHeight, HasHeight, IsTable, column_named, height_of}
use Rattle.tall_local.specs.MemoryFunctions.{with_cells}
use Rattle.tall_local.specs.Names.{each_named}
use Rattle.tall_memory.specs.Ends.{end_rows}

abbrev Entries : Type 0
Entries = List (List ℕ × SeenColumn)

has_height : (h : ℕ) (t : Entries) (i : ℕ) (x : SeenColumn) → HasHeight h t → option_map (λ e. e.1) (slice_get t i) ≡ Some x → length x.cells ≡ h
has_height h [] i x all at = absurd (none-some x at)
has_height h (e ∷ t) zero x all at = let same : e.1 ≡ x = cc in ap (λ x. length x.cells) (sym same) ∙ all.0
has_height h (e ∷ t) (suc i) x all at = has_height h t i x all.1 at

pub variable_height : (t : Entries) (i : ℕ) (x : SeenColumn) → IsTable t → option_map (λ e. e.1) (slice_get t i) ≡ Some x → length x.cells ≡ height_of t
variable_height t i x is at = has_height (height_of t) t i x is.one_height at

-- ---- a new name

not_named : (f : SeenColumn → SeenColumn) (name : List ℕ) (es : Entries) → ((j : ℕ) (d : List ℕ × SeenColumn) → j < length es → bytes_eq (get_or es j d).0 name ≡ false) → column_named name (each_named f es) ≡ None
not_named f name [] h = refl
not_named f name (e ∷ es) h =
    ap (λ b. if b then Some (f e.1) else column_named name (each_named f es)) (h 0 e (omega arith))
    ∙ not_named f name es (λ j d l. h (suc j) d (omega (arith, l)))

name_at : (t : Entries) (i : ℕ) (name : List ℕ) (d : List ℕ × SeenColumn) → option_map (λ e. e.0) (slice_get t i) ≡ Some name → (i < length t) × ((get_or t i d).0 ≡ name)
name_at [] i name d at = absurd (none-some name at)
name_at (e ∷ t) zero name d at = (omega arith, cc)
name_at (e ∷ t) (suc i) name d at = let h = name_at t i name d at in (let l = h.0 in omega (arith, l), h.1)

pub is_new_name : (f : SeenColumn → SeenColumn) (t : Entries) (i : ℕ) (name : List ℕ) → IsTable t → option_map (λ e. e.0) (slice_get t i) ≡ Some name → column_named name (each_named f (take i t)) ≡ None
is_new_name f t i name is at =
    not_named f name (take i t)
    (λ j d l.
    let h = name_at t i name d at in
    let within : i < length t = h.0 in
    let short : length (take i t) ≡ i = length-take-le i t (omega (arith, within)) in
    let before : j < i = omega (arith, l, short) in
    ap (λ e. bytes_eq e.0 name) (get_or-take i t j d before) ∙ ap (λ n. bytes_eq (get_or t j d).0 n) (sym h.1) ∙ is.distinct j i d before within)

-- ---- the same height

abbrev pub KeepsLengths : (SeenColumn → SeenColumn) → Type 0
KeepsLengths f = (x y : SeenColumn) → length x.cells ≡ length y.cells → length (f x).cells ≡ length (f y).cells

pub fits_height : (f : SeenColumn → SeenColumn) (t : Entries) (i : ℕ) (x : SeenColumn) → KeepsLengths f → IsTable t → option_map (λ e. e.1) (slice_get t i) ≡ Some x → FitsHeight (length (f x).cells) (each_named f (take i t))
fits_height f [] i x keeps is at = absurd (none-some x at)
fits_height f (e ∷ t) zero x keeps is at = tt
fits_height f (e ∷ t) (suc i) x keeps is at = keeps x e.1 (variable_height (e ∷ t) (suc i) x is at)

kept_lengths : (cs ds mask : List Seen) → length cs ≡ length ds → length (kept cs mask) ≡ length (kept ds mask)
kept_lengths [] [] mask h = refl
kept_lengths [] (d ∷ ds) mask h = absurd (omega (arith, h))
kept_lengths (c ∷ cs) [] mask h = absurd (omega (arith, h))
kept_lengths (c ∷ cs) (d ∷ ds) [] h = refl
kept_lengths (c ∷ cs) (d ∷ ds) (m ∷ mask) h = by (is_true m) (kept_lengths cs ds mask (omega (arith, h))) where
  by : (b : Bool) → length (kept cs mask) ≡ length (kept ds mask) → length (if b then c ∷ kept cs mask else kept cs mask) ≡ length (if b then d ∷ kept ds mask else kept ds mask)
  by true same = ap suc same
  by false same = same

pub kept_rows_keep : (mask : SeenColumn) → KeepsLengths (λ x. rows_kept x mask)
kept_rows_keep mask x y h = kept_lengths x.cells y.cells mask.cells h

-- ---- one variable more

pub one_more : (f : SeenColumn → SeenColumn) (t : Entries) (i : ℕ) (name : List ℕ) (x : SeenColumn) → option_map (λ e. e.0) (slice_get t i) ≡ Some name → option_map (λ e. e.1) (slice_get t i) ≡ Some x
    → each_named f (take i t) ++ (name, f x) ∷ [] ≡ each_named f (take (i + 1) t)
one_more f [] i name x named at = absurd (none-some x at)
one_more f (e ∷ t) zero name x named at =
    let n : e.0 ≡ name = cc in let c : e.1 ≡ x = cc in
    ap (λ n. (n, f x) ∷ []) (sym n) ∙ ap (λ x. (e.0, f x) ∷ []) (sym c)
one_more f (e ∷ t) (suc i) name x named at =
    let more : suc i + 1 ≡ suc (i + 1) = omega arith in
    ap (λ es. (e.0, f e.1) ∷ es) (one_more f t i name x named at) ∙ ap (λ n. each_named f (take n (e ∷ t))) (sym more)

end_lengths : (last : Bool) (k : ℕ) (cs ds : List Seen) → length cs ≡ length ds → length (end_rows last k cs) ≡ length (end_rows last k ds)
end_lengths false k cs ds h = length-take k cs ∙ ap (min k) h ∙ sym (length-take k ds)
end_lengths true k cs ds h = length-drop (length cs - k) cs ∙ ap (λ n. n - (n - k)) h ∙ sym (length-drop (length ds - k) ds)

pub end_rows_keep : (last : Bool) (k : ℕ) → KeepsLengths (with_cells (end_rows last k))
end_rows_keep last k x y h = end_lengths last k x.cells y.cells h
