-- Logicals beside an integer class: as the numbers 0 and 1 of the class.
use Rattle.std.specs.Prelude.{ℤ, Bool, true, false, Option, Some, Result, Ok}
use Rattle.std.proofs.Common.{ℕ, ◌+◌, ◌≡◌, List, [], ◌∷◌, map, refl, sym, ◌∙◌, ap}
use Rattle.tall_value.specs.declared.class.IntKind.{IntKind}
use Rattle.tall_value.specs.declared.class.IntKind.TheVariants.{Int8, Int16, Int32, Int64, Uint8, Uint16, Uint32, Uint64}
use Rattle.tall_value.specs.declared.faults.CellFault.{CellFault}
use Rattle.tall_value.specs.declared.operators.Binary.{Binary}
use Rattle.tall_value.specs.Cells.{Seen, whole, logical, bit}
use Rattle.tall_value.specs.CellOperators.{converted, to_integer, binary_cell}
use Rattle.tall_value.specs.Columns.{numbered}
use Rattle.tall_value.specs.Elementwise.{in_front, at_row, each_row, each_pair, beside, binary_rows, scalar_rows}
use Rattle.tall_column.proofs.ScalarLemmas.{StandsFor, same_cell, before_alike, behind_alike, each_alike}

-- ---- what the conversion of a logical column gives

bit-kept : (k : IntKind) (b : Bool) → converted k (Some (bit b)) ≡ bit b
bit-kept Int8 true = refl
bit-kept Int8 false = refl
bit-kept Int16 true = refl
bit-kept Int16 false = refl
bit-kept Int32 true = refl
bit-kept Int32 false = refl
bit-kept Int64 true = refl
bit-kept Int64 false = refl
bit-kept Uint8 true = refl
bit-kept Uint8 false = refl
bit-kept Uint16 true = refl
bit-kept Uint16 false = refl
bit-kept Uint32 true = refl
bit-kept Uint32 false = refl
bit-kept Uint64 true = refl
bit-kept Uint64 false = refl

converted-rows : (k : IntKind) (i : ℕ) (marks : List Bool) → each_row (to_integer k) (numbered i (map (λ b. logical b) marks)) ≡ Ok (numbered i (map (λ b. whole k (bit b)) marks))
converted-rows k i [] = refl
converted-rows k i (b ∷ marks) =
    ap (λ n. in_front (i, whole k n) (each_row (to_integer k) (numbered (i + 1) (map (λ b. logical b) marks)))) (bit-kept k b)
    ∙ ap (λ rest. in_front (i, whole k (bit b)) rest) (converted-rows k (i + 1) marks)

unnumbered : (i : ℕ) (cells : List Seen) → map (λ (r : ℕ × Seen). r.1) (numbered i cells) ≡ cells
unnumbered i [] = refl
unnumbered i (c ∷ cells) = ap (λ rest. c ∷ rest) (unnumbered (i + 1) cells)

same_rows : {E : Type 0} (xs ys : List (ℕ × Seen)) → ◌≡◌ {A = Result (List (ℕ × Seen)) E} (Ok xs) (Ok ys) → xs ≡ ys
same_rows xs ys h = cc

pub counted-is : (k : IntKind) (marks : List Bool) (cells : List Seen) → each_row (to_integer k) (numbered 0 (map (λ b. logical b) marks)) ≡ Ok (numbered 0 cells)
    → cells ≡ map (λ b. whole k (bit b)) marks
counted-is k marks cells h =
    sym (unnumbered 0 cells)
    ∙ ap (map (λ (r : ℕ × Seen). r.1)) (same_rows (numbered 0 cells) (numbered 0 (map (λ b. whole k (bit b)) marks)) (sym h ∙ converted-rows k 0 marks))
    ∙ unnumbered 0 (map (λ b. whole k (bit b)) marks)

-- ---- operators beside them

stands-bit : (k : IntKind) (b : Bool) → StandsFor k (bit b) (logical b)
stands-bit k b = record { beside = tt; counts = refl }

bit_before : (op : Binary) (k : IntKind) (b : Bool) (m : ℤ) → binary_cell op (logical b) (whole k m) ≡ binary_cell op (whole k (bit b)) (whole k m)
bit_before op k b m = same_cell op k (logical b) (whole k m) (whole k (bit b)) (whole k m) (before_alike k (bit b) m (logical b) (stands-bit k b))

bit_behind : (op : Binary) (k : IntKind) (b : Bool) (m : ℤ) → binary_cell op (whole k m) (logical b) ≡ binary_cell op (whole k m) (whole k (bit b))
bit_behind op k b m = same_cell op k (whole k m) (logical b) (whole k m) (whole k (bit b)) (behind_alike k (bit b) m (logical b) (stands-bit k b))

bit_beside : (op : Binary) (left : Bool) (k : IntKind) (n : ℤ) (b : Bool) → beside op left (whole k n) (logical b) ≡ beside op left (whole k n) (whole k (bit b))
bit_beside op true k n b = bit_behind op k b n
bit_beside op false k n b = bit_before op k b n

pairs_alike : {A B : Type 0} (s t : A → Seen) (u v : B → Seen) (f : Seen → Seen → Result Seen CellFault) → ((a : A) (b : B) → f (s a) (u b) ≡ f (t a) (v b))
    → (i : ℕ) (xs : List A) (ys : List B) → each_pair f (numbered i (map s xs)) (numbered i (map u ys)) ≡ each_pair f (numbered i (map t xs)) (numbered i (map v ys))
pairs_alike s t u v f same i [] ys = refl
pairs_alike s t u v f same i (x ∷ xs) [] = refl
pairs_alike s t u v f same i (x ∷ xs) (y ∷ ys) =
    ap (λ r. at_row i r (each_pair f (numbered (i + 1) (map s xs)) (numbered (i + 1) (map u ys)))) (same x y)
    ∙ ap (λ rest. at_row i (f (t x) (v y)) rest) (pairs_alike s t u v f same (i + 1) xs ys)

pub counted-before : {I : Type 0} (number : I → ℤ) (op : Binary) (k : IntKind) (marks : List Bool) (items : List I)
    → binary_rows op (numbered 0 (map (λ b. whole k (bit b)) marks)) (numbered 0 (map (λ x. whole k (number x)) items))
    ≡ binary_rows op (numbered 0 (map (λ b. logical b) marks)) (numbered 0 (map (λ x. whole k (number x)) items))
counted-before number op k marks items =
    pairs_alike (λ b. whole k (bit b)) (λ b. logical b) (λ x. whole k (number x)) (λ x. whole k (number x)) (binary_cell op) (λ b x. sym (bit_before op k b (number x))) 0 marks items

pub counted-behind : {I : Type 0} (number : I → ℤ) (op : Binary) (k : IntKind) (items : List I) (marks : List Bool)
    → binary_rows op (numbered 0 (map (λ x. whole k (number x)) items)) (numbered 0 (map (λ b. whole k (bit b)) marks))
    ≡ binary_rows op (numbered 0 (map (λ x. whole k (number x)) items)) (numbered 0 (map (λ b. logical b) marks))
counted-behind number op k items marks =
    pairs_alike (λ x. whole k (number x)) (λ x. whole k (number x)) (λ b. whole k (bit b)) (λ b. logical b) (binary_cell op) (λ x b. sym (bit_behind op k b (number x))) 0 items marks

pub counted-beside : (op : Binary) (left : Bool) (k : IntKind) (n : ℤ) (marks : List Bool)
    → scalar_rows op left (whole k n) (numbered 0 (map (λ b. whole k (bit b)) marks)) ≡ scalar_rows op left (whole k n) (numbered 0 (map (λ b. logical b) marks))
counted-beside op left k n marks =
    each_alike (λ b. whole k (bit b)) (λ b. logical b) (beside op left (whole k n)) (beside op left (whole k n)) (λ b. sym (bit_beside op left k n b)) 0 marks
