-- The demo's table, row by row: what is written, and then the rows from a state on, are the table.
use Rattle.std.proofs.Common.{◌∙◌, ◌≡◌, ◌<◌, ◌≤◌, ◌+◌, ◌-◌, ◌++◌, ◌/◌, ap, ℕ, suc, List, [], refl, sym, arith}
use Rattle.std.proofs.lemmas.List.{append-nil, append_assoc}
use Rattle.tall_words.specs.Demo.{next_state, row_text, rows_text}

step : (n : ℕ) (s : ℕ) → rows_text (suc n) s ≡ row_text (next_state s / 65536) ++ rows_text n (next_state s)
unfolding rows_text
step n s = refl

none : (s : ℕ) → rows_text 0 s ≡ []
unfolding rows_text
none s = refl

pub next_row : (written now : List ℕ) (n turn s : ℕ) (whole : List ℕ) → turn < n → written ++ rows_text (n - turn) s ≡ whole
    → now ≡ written ++ row_text (next_state s / 65536) → now ++ rows_text (n - (turn + 1)) (next_state s) ≡ whole
next_row written now n turn s whole lt so_far pushed =
    let left : n - turn ≡ suc (n - (turn + 1)) = omega (arith, lt) in
    rw pushed (append_assoc written (row_text (next_state s / 65536)) (rows_text (n - (turn + 1)) (next_state s))
    ∙ (ap (λ (rows : List ℕ). written ++ rows) (sym (step (n - (turn + 1)) s)) ∙ (ap (λ m. written ++ rows_text m s) (sym left) ∙ so_far)))

pub all_rows : (written : List ℕ) (n turn s : ℕ) (whole : List ℕ) → n ≤ turn → written ++ rows_text (n - turn) s ≡ whole → written ≡ whole
all_rows written n turn s whole le so_far =
    let left : n - turn ≡ 0 = omega (arith, le) in
    sym (append-nil written) ∙ (ap (λ (rows : List ℕ). written ++ rows) (sym (none s)) ∙ (ap (λ m. written ++ rows_text m s) (sym left) ∙ so_far))
