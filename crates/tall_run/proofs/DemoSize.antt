-- The demo's files are short, and have two names.
use Rattle.std.proofs.Common.{ℕ, zero, suc, ◌≡◌, ◌≤◌, ◌<◌, ◌+◌, ◌*◌, ◌%◌, ◌/◌, ◌^◌, List, [], ◌∷◌, ◌++◌, length, refl, subst, sym, arith}
use Rattle.std.specs.Prelude.{Bool, true, false, IsTrue, Some, None, IfSome, ℤ, codes, pos, negsuc, ◌-ℤ◌, ◌+ℤ◌, if◌then◌else◌}
use Rattle.std.specs.Fmt.{decimal, signed_decimal}
use Rattle.std.specs.Str.{bytes_eq}
use Rattle.std.specs.Int.Signed.{mag}
use Rattle.std.proofs.lemmas.Int.{ints}
use Rattle.std.proofs.Math.Nat.{mod-lt}
use Rattle.std.proofs.Math.IntN.{ -ℤ-+ℤ_cancel}
use Rattle.std.proofs.lemmas.Fmt.{length-decimal-le, length_signed_le}
use Rattle.std.proofs.lemmas.List.{length-append}
use Rattle.tall_outside.specs.Shelf.{Files}
use Rattle.tall_outside.specs.MemShelf.{have_distinct_names}
use Rattle.tall_words.specs.Demo.{demo_files, next_state, row_text, rows_text, script_text, table_text}
use Rattle.tall_run.specs.Shelves.{WithinLimit}

mag_small : (z : ℤ) (r : ℕ) → z +ℤ pos 128 ≡ pos r → r < 256 → mag z + 1 < 1000
mag_small (pos n) r e l = omega (arith, ints, e, l)
mag_small (negsuc n) r e l = omega (arith, ints, e, l)

signed_short : (r : ℕ) → length (signed_decimal (pos (r % 256) -ℤ pos 128)) ≤ 4
signed_short r =
    let m = mag_small (pos (r % 256) -ℤ pos 128) (r % 256) (-ℤ-+ℤ_cancel (pos (r % 256)) (pos 128)) (mod-lt r {m = 256} (omega arith)) in
    length_signed_le 3 (pos (r % 256) -ℤ pos 128) m (omega (arith, m))

digit_short : (r : ℕ) → length (decimal (r % 5)) ≤ 1
digit_short r = let l : r % 5 < 5 = mod-lt r {m = 5} (omega arith) in length-decimal-le 1 (r % 5) (omega arith) (omega (arith, l)) (omega (arith, l))

parts_short : (a b : List ℕ) → length a ≤ 1 → length b ≤ 4 → length (codes "g" ++ (a ++ (codes "," ++ (b ++ codes "\n")))) ≤ 10
parts_short a b h l =
    let whole : length (a ++ (44 ∷ (b ++ 10 ∷ []))) ≡ length a + length (44 ∷ (b ++ 10 ∷ [])) = length-append a (44 ∷ (b ++ 10 ∷ [])) in
    let end : length (b ++ 10 ∷ []) ≡ length b + length {A = ℕ} (10 ∷ []) = length-append b (10 ∷ []) in
    let next : length (44 ∷ (b ++ 10 ∷ [])) ≡ suc (length (b ++ 10 ∷ [])) = refl in
    let last : length {A = ℕ} (10 ∷ []) ≡ 1 = refl in
    let all : suc (length (a ++ (44 ∷ (b ++ 10 ∷ [])))) ≤ 10 = omega (arith, whole, end, next, last, h, l) in
    all

row_short : (r : ℕ) → length (row_text r) ≤ 10
row_short r = parts_short (decimal (r % 5)) (signed_decimal (pos (r % 256) -ℤ pos 128)) (digit_short r) (signed_short r)

rows_short : (n s : ℕ) → length (rows_text n s) ≤ 10 * n
unfolding rows_text
rows_short zero s = omega arith
rows_short (suc n) s =
    let h = row_short (next_state s / 65536) in
    let t = rows_short n (next_state s) in
    let l = length-append (row_text (next_state s / 65536)) (rows_text n (next_state s)) in
    omega (arith, h, t, l)

table_short : (rows : ℕ) → rows ≤ 1000000 → length (table_text rows) ≤ 2 ^ 50
table_short rows within =
    let t : length (rows_text rows 1) ≤ 10 * rows = rows_short rows 1 in
    let all : length (table_text rows) ≡ 4 + length (rows_text rows 1) = length-append (codes "g,v\n") (rows_text rows 1) in
    omega (arith, within, t, all)

found_short : (a b : Bool) (x y : List ℕ) → length x ≤ 2 ^ 50 → length y ≤ 2 ^ 50
    → IfSome (if a then Some x else if b then Some y else None) (λ bytes. length bytes ≤ 2 ^ 50)
found_short true b x y l m = l
found_short false true x y l m = m
found_short false false x y l m = tt

pub demo_within : (rows : ℕ) → rows ≤ 1000000 → WithinLimit (demo_files rows)
demo_within rows within = λ name. found_short (bytes_eq (codes "demo.csv") name) (bytes_eq (codes "demo.m") name) (table_text rows) script_text (table_short rows within) (omega arith)

pub demo_distinct : (rows : ℕ) → have_distinct_names (demo_files rows) ≡ true
demo_distinct rows = refl

pub distinct_at : (files : Files) (rows : ℕ) → files ≡ demo_files rows → IsTrue (have_distinct_names files)
distinct_at files rows e = subst (λ fs. IsTrue (have_distinct_names fs)) (sym e) (demo_distinct rows)
