-- Reading as many records as a text has.
use Rattle.std.proofs.Common.{◌≡◌, ◌<◌, ◌∙◌, List, [], ◌∷◌, Option, Some, None, length, ap, arith, refl, sym}
use Rattle.std.proofs.lemmas.List.{append-nil, length-append}
use Rattle.tall_scan.specs.Rows.{Fields, NoneLeft, TakesMany}

no_rows : (rows : List Fields) → length rows ≡ 0 → rows ≡ []
no_rows [] e = refl
no_rows (row ∷ rows) e = absurd (omega (arith, e))

-- as many as there are is all
pub all_taken : (rows taken : List Fields) (new : Option (List Fields)) → TakesMany (Some rows) taken new → length taken ≡ length rows → taken ≡ rows
all_taken rows taken None m e = absurd m
all_taken rows taken (Some rest) m e =
    let size = ap length m ∙ length-append taken rest in
    let none : rest ≡ [] = no_rows rest (omega arith) in
    sym (m ∙ rw none (append-nil taken))

-- fewer than there are leave one
pub one_is_left : (rows taken : List Fields) (new : Option (List Fields)) → TakesMany (Some rows) taken new → NoneLeft new → length taken < length rows → ⊥
one_is_left rows taken None m n h = m
one_is_left rows taken (Some rest) m n h =
    let size = ap length m ∙ length-append taken rest in
    let none = ap length n in
    omega arith
