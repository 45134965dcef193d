-- Tables: a column found, and one more column.
use Rattle.std.specs.Prelude.{Option, None, Some, if◌then◌else◌}
use Rattle.std.specs.Str.{bytes_eq}
use Rattle.std.proofs.Common.{ℕ, zero, suc, ◌≡◌, ◌<◌, ◌+◌, List, [], ◌∷◌, ◌++◌, length, drop, get_or, Bool, true, false, refl, sym, ◌∙◌, ap, subst, arith}
use Rattle.std.proofs.lemmas.List.{drop_more}
use Rattle.std.proofs.lemmas.List.Quantifiers.{all_pairs_push}
use Rattle.tall_dense.specs.Columns.{SeenColumn}
use Rattle.tall_column.specs.Tables.{column_named, height_of, HasHeight, FitsHeight, AreApart, IsTable}

-- where no column before this one has the name, and this one has, it is the column of the name
pub found : (entries : List (List ℕ × SeenColumn)) (i : ℕ) (name : List ℕ) (entry : List ℕ × SeenColumn)
    → column_named name (drop i entries) ≡ column_named name entries → i < length entries → entry ≡ get_or entries i entry
    → bytes_eq entry.0 name ≡ true → Some entry.1 ≡ column_named name entries
found entries i name entry before within is named =
    let here : drop i entries ≡ entry ∷ drop (i + 1) entries = drop_more entries i entry within ∙ ap (λ e. e ∷ drop (i + 1) entries) (sym is) in
    ap (λ b. if b then Some entry.1 else column_named name (drop (i + 1) entries)) (sym named)
    ∙ ap (λ es. column_named name es) (sym here) ∙ before

pub passed : (entries : List (List ℕ × SeenColumn)) (i : ℕ) (name : List ℕ) (entry : List ℕ × SeenColumn)
    → column_named name (drop i entries) ≡ column_named name entries → i < length entries → entry ≡ get_or entries i entry
    → bytes_eq entry.0 name ≡ false → column_named name (drop (i + 1) entries) ≡ column_named name entries
passed entries i name entry before within is named =
    let here : drop i entries ≡ entry ∷ drop (i + 1) entries = drop_more entries i entry within ∙ ap (λ e. e ∷ drop (i + 1) entries) (sym is) in
    ap (λ b. if b then Some entry.1 else column_named name (drop (i + 1) entries)) (sym named)
    ∙ ap (λ es. column_named name es) (sym here) ∙ before

apart_or : (b : Bool) (x : SeenColumn) (rest : Option SeenColumn) → (if b then Some x else rest) ≡ None → (b ≡ false) × (rest ≡ None)
apart_or true x rest h = cc
apart_or false x rest h = (refl, h)

all_apart : (entries : List (List ℕ × SeenColumn)) (name : List ℕ) (column : SeenColumn) → column_named name entries ≡ None
    → (k : ℕ) (d : List ℕ × SeenColumn) → k < length entries → AreApart (get_or entries k d) (name, column)
all_apart [] name column h k d l = absurd (omega arith)
all_apart (entry ∷ entries) name column h zero d l = (apart_or (bytes_eq entry.0 name) entry.1 (column_named name entries) h).0
all_apart (entry ∷ entries) name column h (suc k) d l =
    all_apart entries name column (apart_or (bytes_eq entry.0 name) entry.1 (column_named name entries) h).1 k d (omega arith)

height_more : (height : ℕ) (entries : List (List ℕ × SeenColumn)) (entry : List ℕ × SeenColumn) → HasHeight height entries
    → length entry.1.cells ≡ height → HasHeight height (entries ++ entry ∷ [])
height_more height [] entry h e = (e, tt)
height_more height (x ∷ entries) entry h e = (h.0, height_more height entries entry h.1 e)

one_height_more : (entries : List (List ℕ × SeenColumn)) (entry : List ℕ × SeenColumn) → HasHeight (height_of entries) entries
    → FitsHeight (length entry.1.cells) entries → HasHeight (height_of (entries ++ entry ∷ [])) (entries ++ entry ∷ [])
one_height_more [] entry h f = (refl, tt)
one_height_more (x ∷ entries) entry h f = height_more (length x.1.cells) (x ∷ entries) entry h f

pub none_table : IsTable []
none_table = record { distinct = λ i j d p q. absurd (omega arith); one_height = tt }

pub table_more : (entries : List (List ℕ × SeenColumn)) (name : List ℕ) (column : SeenColumn) → IsTable entries → column_named name entries ≡ None
    → FitsHeight (length column.cells) entries → IsTable (entries ++ (name, column) ∷ [])
table_more entries name column t new fits = record {
  distinct = all_pairs_push AreApart entries (name, column) t.distinct (all_apart entries name column new);
  one_height = one_height_more entries (name, column) t.one_height fits;
}

pub table_after : (ok : Bool) (entries later : List (List ℕ × SeenColumn)) (name same : List ℕ) (column : SeenColumn) → IsTable entries
    → column_named name entries ≡ None → FitsHeight (length column.cells) entries → same ≡ name
    → later ≡ (if ok then entries ++ (same, column) ∷ [] else entries) → IsTable later
table_after true entries later name same column t new fits e l =
    subst IsTable (sym (l ∙ ap (λ n. entries ++ (n, column) ∷ []) e)) (table_more entries name column t new fits)
table_after false entries later name same column t new fits e l = subst IsTable (sym l) t
