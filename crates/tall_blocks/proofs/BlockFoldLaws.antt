-- What is kept block by block is what is kept of a value's rows as a whole.
use Rattle.std.specs.Prelude.{◌≡◌, refl, ℕ, Bool, List, [], ◌∷◌, ◌++◌, length}
use Rattle.std.proofs.Common.{ap, sym, ◌∙◌, arith}
use Rattle.std.proofs.lemmas.List.{append_assoc, append-nil, length-append, length-map, map-append}
use Rattle.tall_value.specs.Cells.{Seen}
use Rattle.tall_value.specs.Columns.{cells}
use Rattle.tall_value.specs.Distinct.{distinct}
use Rattle.tall_value.specs.Ends.{first_rows, last_rows}
use Rattle.tall_value.specs.Reductions.{reduced, used}
use Rattle.tall_value.specs.declared.class.Kind.{Kind}
use Rattle.tall_value.specs.declared.functions.Reduction.{Reduction}
use Rattle.tall_semantics.specs.Outcomes.{Outcome, rows, rows_in, cells_in}
use Rattle.tall_blocks.specs.Carries.{Rows}
use Rattle.tall_blocks.specs.Folds.{Fold, Kept, start, more, reduction_fold, omits, reduction_result}
use Rattle.tall_blocks.specs.GroupsOver.{groups_of}
use Rattle.tall_blocks.specs.ValuesOver.{rows_of_blocks}
use Rattle.tall_blocks.specs.FoldsOfBlocks.{AreAsLong, kept_of_blocks, first_of_blocks, last_of_blocks, distinct_of_blocks, groups_of_blocks}
use Rattle.tall_blocks.proofs.DistinctLaws.{distinct_front}
use Rattle.tall_blocks.proofs.EndLaws.{first_front, first_none, last_front, last_none}
use Rattle.tall_blocks.proofs.FoldLaws.{no_more, more_append, used_append, reduced_kept}
use Rattle.tall_blocks.proofs.GroupLaws.{more_groups}

cells_append : (rs ss : Rows) → cells (rs ++ ss) ≡ cells rs ++ cells ss
cells_append rs ss = map-append (λ (r : ℕ × Seen). r.1) rs ss

pub kept_all : (g : Fold) (b : Bool) (s : Kept g) (hs : List (ℕ → Outcome)) (i : ℕ) → more g s (used b (cells (rows_of_blocks hs i))) ≡ kept_of_blocks g b s hs i
kept_all g b s [] i = no_more g b s
kept_all g b s (h ∷ hs) i =
    ap (λ cs. more g s (used b cs)) (cells_append (rows_in (h i)) (rows_of_blocks hs i))
    ∙ (ap (more g s) (used_append b (cells_in (h i)) (cells (rows_of_blocks hs i)))
    ∙ (more_append g s (used b (cells_in (h i))) (used b (cells (rows_of_blocks hs i))) ∙ kept_all g b (more g s (used b (cells_in (h i)))) hs i))

first_all : (k : ℕ) (rs : Rows) (hs : List (ℕ → Outcome)) (i : ℕ) → first_rows k (rs ++ rows_of_blocks hs i) ≡ first_of_blocks k (first_rows k rs) hs i
first_all k rs [] i = ap (first_rows k) (append-nil rs)
first_all k rs (h ∷ hs) i =
    ap (first_rows k) (sym (append_assoc rs (rows_in (h i)) (rows_of_blocks hs i)))
    ∙ (first_all k (rs ++ rows_in (h i)) hs i ∙ ap (λ ss. first_of_blocks k ss hs i) (sym (first_front k rs (rows_in (h i)))))

last_all : (k : ℕ) (rs : Rows) (hs : List (ℕ → Outcome)) (i : ℕ) → last_rows k (rs ++ rows_of_blocks hs i) ≡ last_of_blocks k (last_rows k rs) hs i
last_all k rs [] i = ap (last_rows k) (append-nil rs)
last_all k rs (h ∷ hs) i =
    ap (last_rows k) (sym (append_assoc rs (rows_in (h i)) (rows_of_blocks hs i)))
    ∙ (last_all k (rs ++ rows_in (h i)) hs i ∙ ap (λ ss. last_of_blocks k ss hs i) (sym (last_front k rs (rows_in (h i)))))

distinct_all : (cs : List Seen) (hs : List (ℕ → Outcome)) (i : ℕ) → distinct (cs ++ cells (rows_of_blocks hs i)) ≡ distinct_of_blocks (distinct cs) hs i
distinct_all cs [] i = ap distinct (append-nil cs)
distinct_all cs (h ∷ hs) i =
    ap (λ ds. distinct (cs ++ ds)) (cells_append (rows_in (h i)) (rows_of_blocks hs i))
    ∙ (ap distinct (sym (append_assoc cs (cells_in (h i)) (cells (rows_of_blocks hs i))))
    ∙ (distinct_all (cs ++ cells_in (h i)) hs i ∙ ap (λ ds. distinct_of_blocks ds hs i) (sym (distinct_front cs (cells_in (h i))))))

long_cells : (x : Outcome) → length (cells_in x) ≡ length (rows_in x)
long_cells x = length-map (rows_in x) (λ (r : ℕ × Seen). r.1)

groups_all : (g : Fold) (b : Bool) (ks ds : List Seen) (hs : List (ℕ → Outcome)) (i j : ℕ) → length ks ≡ length ds → AreAsLong hs i j
    → groups_of g b (ks ++ cells (rows_of_blocks hs i)) (ds ++ cells (rows_of_blocks hs j)) ≡ groups_of_blocks g b (groups_of g b ks ds) hs i j
groups_all g b ks ds [] i j e long = ap (λ xs. groups_of g b xs (ds ++ [])) (append-nil ks) ∙ ap (groups_of g b ks) (append-nil ds)
groups_all g b ks ds (h ∷ hs) i j e long =
    let x : List Seen = cells_in (h i) in
    let y : List Seen = cells_in (h j) in
    let xs : List Seen = cells (rows_of_blocks hs i) in
    let ys : List Seen = cells (rows_of_blocks hs j) in
    let p : ks ++ cells (rows_in (h i) ++ rows_of_blocks hs i) ≡ (ks ++ x) ++ xs = ap (λ cs. ks ++ cs) (cells_append (rows_in (h i)) (rows_of_blocks hs i)) ∙ sym (append_assoc ks x xs) in
    let q : ds ++ cells (rows_in (h j) ++ rows_of_blocks hs j) ≡ (ds ++ y) ++ ys = ap (λ cs. ds ++ cs) (cells_append (rows_in (h j)) (rows_of_blocks hs j)) ∙ sym (append_assoc ds y ys) in
    let l : length (ks ++ x) ≡ length (ds ++ y) = as_long ks ds x y e (long_cells (h i) ∙ (long.0 ∙ sym (long_cells (h j)))) in
    ap (λ cs. groups_of g b cs (ds ++ cells (rows_in (h j) ++ rows_of_blocks hs j))) p
    ∙ (ap (groups_of g b ((ks ++ x) ++ xs)) q
    ∙ (groups_all g b (ks ++ x) (ds ++ y) hs i j l long.1 ∙ ap (λ es. groups_of_blocks g b es hs i j) (more_groups g b ks x ds y e)))
  where
    as_long : (ks ds x y : List Seen) → length ks ≡ length ds → length x ≡ length y → length (ks ++ x) ≡ length (ds ++ y)
    as_long ks ds x y e d = (let p = length-append ks x in let q = length-append ds y in omega (arith, p, q, e, d))

-- ---- of a value with the rows of the blocks

module _ (x : Outcome) (hs : List (ℕ → Outcome)) (i : ℕ) (is : x ≡ rows (rows_of_blocks hs i)) where
  pub reduced_by_blocks : (r : Reduction) (a : Kind) → reduced r a (cells_in x) ≡ reduction_result r a (kept_of_blocks (reduction_fold r a) (omits r) (start (reduction_fold r a)) hs i)
  reduced_by_blocks r a = reduced_kept r a (cells_in x) ∙ ap (reduction_result r a) (ap (λ o. more (reduction_fold r a) (start (reduction_fold r a)) (used (omits r) (cells_in o))) is ∙ kept_all (reduction_fold r a) (omits r) (start (reduction_fold r a)) hs i)

  pub first_by_blocks : (k : ℕ) → first_rows k (rows_in x) ≡ first_of_blocks k [] hs i
  first_by_blocks k = ap (λ o. first_rows k (rows_in o)) is ∙ (first_all k [] hs i ∙ ap (λ rs. first_of_blocks k rs hs i) (first_none k))

  pub last_by_blocks : (k : ℕ) → last_rows k (rows_in x) ≡ last_of_blocks k [] hs i
  last_by_blocks k = ap (λ o. last_rows k (rows_in o)) is ∙ (last_all k [] hs i ∙ ap (λ rs. last_of_blocks k rs hs i) (last_none k))

  pub distinct_by_blocks : distinct (cells_in x) ≡ distinct_of_blocks [] hs i
  distinct_by_blocks = ap (λ o. distinct (cells_in o)) is ∙ distinct_all [] hs i

pub groups_by_blocks : (x y : Outcome) (hs : List (ℕ → Outcome)) (i j : ℕ) → x ≡ rows (rows_of_blocks hs i) → y ≡ rows (rows_of_blocks hs j) → AreAsLong hs i j
    → (g : Fold) (b : Bool) → groups_of g b (cells_in x) (cells_in y) ≡ groups_of_blocks g b [] hs i j
groups_by_blocks x y hs i j p q long g b = ap (λ o. groups_of g b (cells_in o) (cells_in y)) p ∙ (ap (λ o. groups_of g b (cells (rows_of_blocks hs i)) (cells_in o)) q ∙ groups_all g b [] [] hs i j refl long)
