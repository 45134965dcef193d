-- Copies of tables and of texts.
use Rattle.std.proofs.Common.{◌≡◌, refl, ap, ◌∙◌, ℕ, List, [], ◌∷◌, map, arith}
use Rattle.std.specs.Prelude.{false, Ok}
use Rattle.std.proofs.lemmas.List.{take_all}
use Rattle.tall_value.specs.Cells.{Seen, text}
use Rattle.tall_column.specs.Columns.{SeenColumn}
use Rattle.tall_column.specs.Tables.{HasHeight, IsTable, height_of}
use Rattle.tall_local.specs.Memory.{table}
use Rattle.tall_local.specs.MemoryFunctions.{memory_rows, with_cells}
use Rattle.tall_local.specs.Names.{each_named}
use Rattle.tall_memory.specs.Ends.{end_rows}

-- ---- all rows of a table

first_all : (h : ℕ) (t : List (List ℕ × SeenColumn)) → HasHeight h t → each_named (with_cells (end_rows false h)) t ≡ t
first_all h [] a = refl
first_all h (entry ∷ t) a =
    ap (λ cells. (entry.0, record { class = entry.1.class; cells = cells }) ∷ each_named (with_cells (end_rows false h)) t) (take_all h entry.1.cells (omega arith))
    ∙ ap (λ u. entry ∷ u) (first_all h t a.1)

pub all_rows : (t : List (List ℕ × SeenColumn)) → IsTable t → memory_rows (end_rows false (height_of t)) (table t) ≡ Ok (table t)
all_rows t is = ap (λ u. Ok (table u)) (first_all (height_of t) t is.one_height)

-- ---- texts

pub same_texts : (xs ys : List (List ℕ)) → map (λ s. text s) xs ≡ map (λ s. text s) ys → xs ≡ ys
same_texts [] [] h = refl
same_texts (x ∷ xs) (y ∷ ys) h = ap (λ z. z ∷ xs) (head_same h) ∙ ap (λ zs. y ∷ zs) (same_texts xs ys (tail_same h))
  where
    head_same : {cs ds : List Seen} → text x ∷ cs ≡ text y ∷ ds → x ≡ y
    head_same h = cc

    tail_same : {cs ds : List Seen} → text x ∷ cs ≡ text y ∷ ds → cs ≡ ds
    tail_same h = cc
same_texts [] (y ∷ ys) h = absurd (cc)
same_texts (x ∷ xs) [] h = absurd (cc)
