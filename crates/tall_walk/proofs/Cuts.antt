-- What is left of a file, cut into blocks: the first of them, and those behind it.
use Rattle.std.proofs.Common.{ℕ, zero, suc, ◌≡◌, ◌∙◌, ◌<◌, ◌≤◌, ◌+◌, ◌^◌, List, [], ◌∷◌, ◌++◌, sym, ap, subst, refl, arith, length, take, drop}
use Rattle.std.specs.Prelude.{◌-◌, Option, Some, None, IfSome}
use Rattle.std.proofs.lemmas.List.{append_assoc, append-nil, length-append, length-drop}
use Rattle.tall_cut.specs.declared.cutter.ReadSize.{ReadSize}
use Rattle.tall_cut.specs.declared.cutter.ReadSize.TheVariants.{Rows, File}
use Rattle.tall_cut.specs.Cuts.{rows_of}
use Rattle.tall_cut.specs.Rows.{Fields, NoneLeft, TakesMany}
use Rattle.tall_store.specs.Blocks.{Block, blocks_up_to, in_blocks, numbered_blocks}
use Rattle.tall_walk.specs.OneFile.{GoesOn, cut_from}

-- ---- one block

take_front : (size : ℕ) (block rest : List Fields) → length block ≤ size → (length block < size → rest ≡ []) → (take size (block ++ rest) ≡ block) × (drop size (block ++ rest) ≡ rest)
take_front zero [] rest l e = (refl, refl)
take_front zero (x ∷ block) rest l e = absurd (omega (arith, l))
take_front (suc n) [] rest l e =
    let none : rest ≡ [] = e (omega arith) in (ap (take (suc n)) none, ap (drop (suc n)) none ∙ sym none)
take_front (suc n) (x ∷ block) rest l e =
    let front : (take n (block ++ rest) ≡ block) × (drop n (block ++ rest) ≡ rest) = take_front n block rest (less (length block) n l) (λ lt. e (more (length block) n lt)) in
    (ap (λ xs. x ∷ xs) front.0, front.1)
  where
    less : (m n : ℕ) → suc m ≤ suc n → m ≤ n
    less m n l = omega arith

    more : (m n : ℕ) → m < n → suc m < suc n
    more m n l = omega arith

none_up_to : (n size : ℕ) → [] ≡ blocks_up_to n size []
unfolding blocks_up_to
none_up_to zero size = refl
none_up_to (suc n) size = refl

-- any number of blocks that suffices
same_up_to : (n m size : ℕ) (records : List Fields) → 0 < size → length records ≤ n → length records ≤ m → blocks_up_to n size records ≡ blocks_up_to m size records
unfolding blocks_up_to
same_up_to zero m size [] l a b = none_up_to m size
same_up_to zero m size (x ∷ records) l a b = absurd (omega (arith, a))
same_up_to (suc n) m size [] l a b = none_up_to m size
same_up_to (suc n) zero size (x ∷ records) l a b = absurd (omega (arith, b))
same_up_to (suc n) (suc m) size (x ∷ records) l a b =
    ap (λ bs. take size (x ∷ records) ∷ bs)
    (same_up_to n m size (drop size (x ∷ records)) l
    (subst (λ k. k ≤ n) (sym (length-drop size (x ∷ records))) (shorter (length records) (length (x ∷ records)) size n refl l a))
    (subst (λ k. k ≤ m) (sym (length-drop size (x ∷ records))) (shorter (length records) (length (x ∷ records)) size m refl l b)))
  where
    shorter : (k j size n : ℕ) → j ≡ suc k → 0 < size → j ≤ suc n → j - size ≤ n
    shorter k j size n e l m = omega arith

cut_front : (size : ℕ) (block rest : List Fields) → 0 < length block → length block ≤ size → (length block < size → rest ≡ []) → in_blocks (Rows size) (block ++ rest) ≡ block ∷ in_blocks (Rows size) rest
unfolding blocks_up_to
cut_front size [] rest some l e = absurd (omega (arith, some))
cut_front size (x ∷ block) rest some l e =
    let front : (take size ((x ∷ block) ++ rest) ≡ x ∷ block) × (drop size ((x ∷ block) ++ rest) ≡ rest) = take_front size (x ∷ block) rest l e in
    ap (λ b. b ∷ blocks_up_to (length (block ++ rest)) size (drop size ((x ∷ block) ++ rest))) front.0
    ∙ ap (λ r. (x ∷ block) ∷ blocks_up_to (length (block ++ rest)) size r) front.1
    ∙ ap (λ bs. (x ∷ block) ∷ bs) (same_up_to (length (block ++ rest)) (length rest) size rest (positive (length block) size l) (long (length block) (length rest) (length (block ++ rest)) (length-append block rest)) (omega arith))
  where
    positive : (m size : ℕ) → suc m ≤ size → 0 < size
    positive m size l = omega arith

    long : (m n k : ℕ) → k ≡ m + n → n ≤ k
    long m n k e = omega arith

-- a file of at most as many records is one block
one_block : (size : ℕ) (records : List Fields) → length records ≤ size → in_blocks (Rows size) records ≡ in_blocks File records
unfolding blocks_up_to
one_block size [] l = refl
one_block size (x ∷ records) l =
    ap (in_blocks (Rows size)) (sym (append-nil (x ∷ records)))
    ∙ cut_front size (x ∷ records) [] (omega arith) l (λ lt. refl)

pub same_cut : (size : ReadSize) (records : List Fields) → length records ≤ 2 ^ 40 → in_blocks (Rows (rows_of size)) records ≡ in_blocks size records
same_cut (Rows rows) records l = refl
same_cut File records l = one_block (2 ^ 40) records l

-- ---- from what was left to what is left

pub goes_first : (size file first : ℕ) (left : Option (List Fields)) → GoesOn size file first [] first left left
goes_first size file first None = tt
goes_first size file first (Some all) = (refl, refl)

abbrev of_records : (file row : ℕ) → List Fields → Block
of_records file row records = record { file = file; row = row; records = records }

next_cut : (size file first row : ℕ) (blocks : List Block) (all block rest : List Fields) → cut_from size file first all ≡ blocks ++ cut_from size file row (block ++ rest)
    → 0 < length block → length block ≤ size → (length block < size → rest ≡ []) → cut_from size file first all ≡ blocks ++ of_records file row block ∷ cut_from size file (row + length block) rest
next_cut size file first row blocks all block rest e some l last = e ∙ ap (λ bs. blocks ++ numbered_blocks file row bs) (cut_front size block rest some l last)

pub goes_block : (size file first row : ℕ) (blocks : List Block) (block : List Fields) (left now rest : Option (List Fields)) → GoesOn size file first blocks row left now → TakesMany now block rest
    → 0 < length block → length block ≤ size → (length block < size → rest ≡ Some [])
    → GoesOn size file first (blocks ++ of_records file row block ∷ []) (row + length block) left rest
goes_block size file first row blocks block None now rest g t some l last = tt
goes_block size file first row blocks block (Some all) None rest g t some l last = absurd g
goes_block size file first row blocks block (Some all) (Some ls) None g t some l last = absurd t
goes_block size file first row blocks block (Some all) (Some ls) (Some rs) g t some l last = (
  next_cut size file first row blocks all block rs (g.0 ∙ ap (λ xs. blocks ++ cut_from size file row xs) t) some l (λ lt. none rs (last lt))
      ∙ sym (append_assoc blocks (of_records file row block ∷ []) (cut_from size file (row + length block) rs)),
  counts (length all) (length ls) (length block) (length rs) g.1 (ap length t ∙ length-append block rs),
)
  where
    none : (rs : List Fields) → Some rs ≡ Some [] → rs ≡ []
    none [] e = refl
    none (x ∷ rs) e = absurd cc

    counts : (a l b r : ℕ) → first + a ≡ row + l → l ≡ b + r → first + a ≡ (row + b) + r
    counts a l b r e f = omega arith

-- the next block is one of the file's
pub goes_next : (size file first row : ℕ) (blocks : List Block) (block : List Fields) (left now rest : Option (List Fields)) → GoesOn size file first blocks row left now → TakesMany now block rest
    → 0 < length block → length block ≤ size → (length block < size → rest ≡ Some [])
    → IfSome left (λ all. (more : List Block) × (cut_from size file first all ≡ blocks ++ of_records file row block ∷ more))
goes_next size file first row blocks block None now rest g t some l last = tt
goes_next size file first row blocks block (Some all) None rest g t some l last = absurd g
goes_next size file first row blocks block (Some all) (Some ls) None g t some l last = absurd t
goes_next size file first row blocks block (Some all) (Some ls) (Some rs) g t some l last = (
  cut_from size file (row + length block) rs,
  next_cut size file first row blocks all block rs (g.0 ∙ ap (λ xs. blocks ++ cut_from size file row xs) t) some l (λ lt. none rs (last lt)),
)
  where
    none : (rs : List Fields) → Some rs ≡ Some [] → rs ≡ []
    none [] e = refl
    none (x ∷ rs) e = absurd cc

-- none is left
pub goes_all : (size file first row : ℕ) (blocks : List Block) (left now : Option (List Fields)) → GoesOn size file first blocks row left now → NoneLeft now
    → IfSome left (λ all. cut_from size file first all ≡ blocks)
unfolding blocks_up_to
goes_all size file first row blocks None now g n = tt
goes_all size file first row blocks (Some all) None g n = absurd g
goes_all size file first row blocks (Some all) (Some ls) g n = g.0 ∙ ap (λ xs. blocks ++ cut_from size file row xs) n ∙ append-nil blocks

pub goes_count : (size file first row n : ℕ) (blocks : List Block) (left now : Option (List Fields)) → GoesOn size file first blocks row left now → NoneLeft now → first + n ≡ row
    → IfSome left (λ all. n ≡ length all)
goes_count size file first row n blocks None now g none e = tt
goes_count size file first row n blocks (Some all) None g none e = absurd g
goes_count size file first row n blocks (Some all) (Some ls) g none e = counts (length all) (length ls) g.1 (ap length none) e
  where
    counts : (a l : ℕ) → first + a ≡ row + l → l ≡ 0 → first + n ≡ row → n ≡ a
    counts a l f z e = omega arith

-- the record that has the row numbered 2^40 is left
pub goes_most : (size file first row : ℕ) (blocks : List Block) (left now : Option (List Fields)) → GoesOn size file first blocks row left now → IfSome now (λ rows. 2 ^ 40 < row + length rows)
    → IfSome left (λ all. (more : List Fields) × (cut_from size file first all ≡ blocks ++ cut_from size file row more) × (2 ^ 40 < row + length more))
goes_most size file first row blocks None now g l = tt
goes_most size file first row blocks (Some all) None g l = absurd g
goes_most size file first row blocks (Some all) (Some ls) g l = (ls, g.0, l)
