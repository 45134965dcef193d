-- Events, their blocks and their places.
use Rattle.std.proofs.Common.{ℕ, zero, suc, ◌≡◌, ◌∙◌, ◌<◌, ◌≤◌, ◌+◌, ◌^◌, List, [], ◌∷◌, ◌++◌, Bool, true, false, sym, ap, subst, refl, arith, length, map, take, drop, get_or, ltb}
use Rattle.std.specs.Prelude.{◌-◌, Option, Some, None, if◌then◌else◌}
use Rattle.std.specs.Bool.{Decides}
use Rattle.std.specs.Option.{option_or}
use Rattle.std.specs.List.{flat_map}
use Rattle.std.proofs.lemmas.Bool.{false≢true}
use Rattle.std.proofs.lemmas.Bool.Decides.{Decides-ltb}
use Rattle.std.proofs.lemmas.Grind.{flat_map-append}
use Rattle.std.proofs.lemmas.List.{drop_more, length-take-le, take-append-drop}
use Rattle.tall_cut.specs.Rows.{Fields}
use Rattle.tall_store.specs.declared.faults.ReadingFault.{ReadingFault}
use Rattle.tall_store.specs.Blocks.{Block, blocks_up_to, first_block_fault, first_in_blocks, numbered_blocks}
use Rattle.tall_store.specs.FileEnds.{too_many}
use Rattle.tall_store.specs.ReadingOrder.{earlier_of, first_reading_fault, precedes}
use Rattle.tall_store.specs.Records.{numbered_records}
use Rattle.tall_store.specs.Stored.{record_faults}
use Rattle.tall_store.specs.Stores.{SeenStore}
use Rattle.tall_store.proofs.Limits.{first_beyond, numbered_append}
use Rattle.tall_store.proofs.ReadingLaws.{first_append}
use Rattle.tall_walk.specs.Events.{Event, IsWalk, a_block, an_end, blocks_in}
use Rattle.tall_walk.specs.OneFile.{cut_from}

-- ---- places

pub walk_more : (file first row : ℕ) (es fs : List Event) (k m n x y z : ℕ) → IsWalk file first row es k m n → IsWalk k m n fs x y z → IsWalk file first row (es ++ fs) x y z
walk_more file first row [] fs k m n x y z w v =
    subst (λ r. IsWalk file first r fs x y z) (sym w.2) (subst (λ f. IsWalk file f n fs x y z) (sym w.1) (subst (λ p. IsWalk p m n fs x y z) (sym w.0) v))
walk_more file first row (a_block b ∷ es) fs k m n x y z w v = (w.0, w.1, w.2, w.3, walk_more file first (row + length b.records) es fs k m n x y z w.4 v)
walk_more file first row (an_end f c ∷ es) fs k m n x y z w v = (w.0, w.1, walk_more (file + 1) row row es fs k m n x y z w.2 v)

-- ---- blocks

pub blocks_append : (es fs : List Event) → blocks_in (es ++ fs) ≡ blocks_in es ++ blocks_in fs
blocks_append [] fs = refl
blocks_append (a_block b ∷ es) fs = ap (λ bs. b ∷ bs) (blocks_append es fs)
blocks_append (an_end f c ∷ es) fs = blocks_append es fs

pub blocks_map : (blocks : List Block) → blocks_in (map a_block blocks) ≡ blocks
blocks_map [] = refl
blocks_map (b ∷ blocks) = ap (λ bs. b ∷ bs) (blocks_map blocks)

-- ---- first faults

pub or_assoc : {A : Type 0} (a b c : Option A) → option_or a (option_or b c) ≡ option_or (option_or a b) c
or_assoc None b c = refl
or_assoc (Some a) b c = refl

pub first_in_append : (store : SeenStore) (xs ys : List Block) → first_in_blocks store (xs ++ ys) ≡ option_or (first_in_blocks store xs) (first_in_blocks store ys)
first_in_append store [] ys = refl
first_in_append store (x ∷ xs) ys =
    ap (λ f. option_or (first_block_fault store x) f) (first_in_append store xs ys) ∙ or_assoc (first_block_fault store x) (first_in_blocks store xs) (first_in_blocks store ys)

pub or_some : {A : Type 0} (a b : Option A) (g : A) → a ≡ Some g → option_or a b ≡ Some g
or_some a b g e = ap (λ f. option_or f b) e

pub or_none : {A : Type 0} (a : Option A) → option_or a None ≡ a
or_none None = refl
or_none (Some a) = refl

pub none_or : {A : Type 0} (a b : Option A) → option_or a b ≡ None → (a ≡ None) × (b ≡ None)
none_or None b e = (refl, e)
none_or (Some a) b e = absurd cc

pub none_append : (store : SeenStore) (xs ys : List Block) → first_in_blocks store (xs ++ ys) ≡ None → (first_in_blocks store xs ≡ None) × (first_in_blocks store ys ≡ None)
none_append store xs ys e = none_or (first_in_blocks store xs) (first_in_blocks store ys) (sym (first_in_append store xs ys) ∙ e)

-- ---- the row numbered 2^40

some_earlier : (a : Option ReadingFault) (g : ReadingFault) → earlier_of a (Some g) ≡ None → ⊥
some_earlier None g e = absurd cc
some_earlier (Some f) g e = by (precedes g f) e
  where
    by : (b : Bool) → (if b then Some g else Some f) ≡ None → ⊥
    by true e = absurd cc
    by false e = absurd cc

limit_at : (store : SeenStore) (file row : ℕ) (taken : List Fields) (fields : Fields) (left : List Fields) → row + length taken ≡ 2 ^ 40
    → first_reading_fault (flat_map (record_faults store) (numbered_records file row (taken ++ fields ∷ left))) ≡ None → ⊥
limit_at store file row taken fields left e h =
    some_earlier (first_reading_fault (flat_map (record_faults store) (numbered_records file row taken))) (too_many file)
    (sym (ap (λ rs. first_reading_fault (flat_map (record_faults store) rs)) (numbered_append file row taken (fields ∷ left))
    ∙ ap first_reading_fault (flat_map-append (record_faults store) (numbered_records file row taken) (numbered_records file (row + length taken) (fields ∷ left)))
    ∙ first_append (flat_map (record_faults store) (numbered_records file row taken)) (flat_map (record_faults store) (numbered_records file (row + length taken) (fields ∷ left)))
    ∙ ap (λ n. earlier_of (first_reading_fault (flat_map (record_faults store) (numbered_records file row taken))) (first_reading_fault (flat_map (record_faults store) (numbered_records file n (fields ∷ left))))) e
    ∙ ap (λ f. earlier_of (first_reading_fault (flat_map (record_faults store) (numbered_records file row taken))) f) (first_beyond store file (2 ^ 40) fields left refl))
    ∙ h)

-- a block without a fault has no row from 2^40 on
pub block_below : (store : SeenStore) (file row : ℕ) (records : List Fields) → row ≤ 2 ^ 40 → first_block_fault store (record { file = file; row = row; records = records }) ≡ None → row + length records ≤ 2 ^ 40
block_below store file row records l h = by_test (ltb (2 ^ 40) (row + length records)) (Decides-ltb (2 ^ 40) (row + length records)) refl
  where
    within : (r n m : ℕ) → m ≡ 2 ^ 40 → m < r + n → r ≤ m → m - r < n
    within r n m e a b = omega arith

    apart : (r m : ℕ) → r ≤ m → r + (m - r) ≡ m
    apart r m a = omega arith

    less : (k n : ℕ) → k < n → k ≤ n
    less k n a = omega arith

    by_limit : 2 ^ 40 < row + length records → ⊥
    by_limit over =
        let k : ℕ = 2 ^ 40 - row in
        let inside : k < length records = within row (length records) (2 ^ 40) refl over l in
        limit_at store file row (take k records) (get_or records k []) (drop (k + 1) records)
        (ap (λ n. row + n) (length-take-le k records (less k (length records) inside)) ∙ apart row (2 ^ 40) l)
        (ap (λ rs. first_reading_fault (flat_map (record_faults store) (numbered_records file row rs)))
        (ap (λ rs. take k records ++ rs) (sym (drop_more records k [] inside)) ∙ take-append-drop k records) ∙ h)

    not_over : (n m : ℕ) → (m < n → ⊥) → n ≤ m
    not_over n m h = omega (arith, h)

    by_test : (b : Bool) → Decides b (2 ^ 40 < row + length records) → b ≡ ltb (2 ^ 40) (row + length records) → row + length records ≤ 2 ^ 40
    by_test true d e = absurd (by_limit (d.0 refl))
    by_test false d e = not_over (row + length records) (2 ^ 40) (λ lt. false≢true (d.1 lt))

pub below_limit : (store : SeenStore) (file first row : ℕ) (blocks : List Block) (k m n : ℕ) → IsWalk file first row (map a_block blocks) k m n → row ≤ 2 ^ 40 → first_in_blocks store blocks ≡ None → n ≤ 2 ^ 40
below_limit store file first row [] k m n w l h = subst (λ r. r ≤ 2 ^ 40) w.2 l
below_limit store file first row (b ∷ blocks) k m n w l h =
    let faults : (first_block_fault store b ≡ None) × (first_in_blocks store blocks ≡ None) = none_or (first_block_fault store b) (first_in_blocks store blocks) h in
    below_limit store file first (row + length b.records) blocks k m n w.4
    (subst (λ r. r + length b.records ≤ 2 ^ 40) w.1 (block_below store b.file b.row b.records (subst (λ r. r ≤ 2 ^ 40) (sym w.1) l) faults.0))
    faults.1

-- the block that begins with the row numbered 2^40 begins with its fault
pub limit_first : (store : SeenStore) (size file row : ℕ) (more : List Fields) → 0 < size → row ≡ 2 ^ 40 → 2 ^ 40 < row + length more
    → first_in_blocks store (cut_from size file row more) ≡ Some (too_many file)
unfolding blocks_up_to
limit_first store size file row [] l e over = absurd (none row (2 ^ 40) e over)
  where
    none : (r m : ℕ) → r ≡ m → m < r + 0 → ⊥
    none r m e over = omega arith
limit_first store zero file row (fields ∷ more) l e over = absurd (omega (arith, l))
limit_first store (suc n) file row (fields ∷ more) l e over =
    ap (λ r. first_in_blocks store (cut_from (suc n) file r (fields ∷ more))) e
    ∙ or_some (first_block_fault store (record { file = file; row = 2 ^ 40; records = fields ∷ take n more }))
    (first_in_blocks store (numbered_blocks file (2 ^ 40 + length (fields ∷ take n more)) (blocks_up_to (length more) (suc n) (drop n more))))
    (too_many file) (first_beyond store file (2 ^ 40) fields (take n more) refl)

-- it is there, and it has a fault
pub limit_block : (store : SeenStore) (size file row : ℕ) (more : List Fields) → 0 < size → row ≡ 2 ^ 40 → 2 ^ 40 < row + length more
    → (b : Block) × (rest : List Block) × (cut_from size file row more ≡ b ∷ rest) × (first_block_fault store b ≡ None → ⊥)
unfolding blocks_up_to
limit_block store size file row [] l e over = absurd (none row (2 ^ 40) e over)
  where
    none : (r m : ℕ) → r ≡ m → m < r + 0 → ⊥
    none r m e over = omega arith
limit_block store zero file row (fields ∷ more) l e over = absurd (omega (arith, l))
limit_block store (suc n) file row (fields ∷ more) l e over = (
  record { file = file; row = row; records = fields ∷ take n more },
  numbered_blocks file (row + length (fields ∷ take n more)) (blocks_up_to (length more) (suc n) (drop n more)),
  refl,
  λ h. beyond row (length (take n more)) (2 ^ 40) e (block_below store file row (fields ∷ take n more) (same row (2 ^ 40) e) h),
)
  where
    same : (r m : ℕ) → r ≡ m → r ≤ m
    same r m e = omega arith

    beyond : (r k m : ℕ) → r ≡ m → r + suc k ≤ m → ⊥
    beyond r k m e l = omega (arith, e, l)

-- rows only grow
pub walk_grows : (file first row : ℕ) (es : List Event) (k m n : ℕ) → IsWalk file first row es k m n → row ≤ n
walk_grows file first row [] k m n w = same row n w.2
  where
    same : (r n : ℕ) → r ≡ n → r ≤ n
    same r n e = omega arith
walk_grows file first row (a_block b ∷ es) k m n w = grow row (length b.records) n (walk_grows file first (row + length b.records) es k m n w.4)
  where
    grow : (r c n : ℕ) → r + c ≤ n → r ≤ n
    grow r c n l = omega arith
walk_grows file first row (an_end f records ∷ es) k m n w = walk_grows (file + 1) row row es k m n w.2
