-- The part of a block, made without what is kept so far, joins to it as the block's rows do.
use Rattle.std.specs.Prelude.{◌≡◌, refl, Bool, true, false, None, Some, Result, Ok, Err, List, [], ◌++◌, map}
use Rattle.std.proofs.Common.{ap, sym, ◌∙◌}
use Rattle.tall_value.specs.declared.class.Kind.{Kind}
use Rattle.tall_value.specs.declared.class.Kind.TheVariants.{Integer, Logical, Double, Text}
use Rattle.tall_value.specs.declared.faults.FaultKind.{FaultKind}
use Rattle.tall_value.specs.declared.functions.Scan.{Scan}
use Rattle.tall_value.specs.declared.functions.Scan.TheVariants.{CumSum, CumMin, CumMax}
use Rattle.tall_value.specs.Cells.{Seen}
use Rattle.tall_value.specs.Distinct.{distinct}
use Rattle.tall_value.specs.Ends.{first_rows, last_rows}
use Rattle.tall_value.specs.Groups.{group_keys, group_data}
use Rattle.tall_value.specs.Reductions.{exact_total, used, every_cell}
use Rattle.tall_semantics.specs.Operations.{Op, constant, unary, binary, filter, reduce, scan, head, tail, group}
use Rattle.tall_semantics.specs.Operations as operations
use Rattle.tall_semantics.specs.Outcomes.{Outcome, rows_in, cells_in}
use Rattle.tall_semantics.specs.ScanCarries.{fold_of}
use Rattle.tall_blocks.specs.Folds.{Fold, by_parts, class_sum, exact_sum, Kept, Part, start, more, part_of, with_part, number_of, method_fold, method_omits, total_result, value_of}
use Rattle.tall_blocks.specs.Folds as folds
use Rattle.tall_blocks.specs.Gathered.{Gathered, block_part, gathered_more, gathered_with}
use Rattle.tall_blocks.specs.GroupsOver.{Groups, group_parts, groups_more, groups_with, at_key, keys_of}
use Rattle.tall_blocks.specs.ScanFolds.{scan_fold, scan_omits, if_exact, carry_result}
use Rattle.tall_blocks.proofs.DistinctLaws.{distinct_front, distinct_of_both}
use Rattle.tall_blocks.proofs.EndLaws.{first_front, first_of_both, last_front, last_of_both}
use Rattle.tall_blocks.proofs.FoldLaws.{from_start}
use Rattle.tall_blocks.proofs.GroupLaws.{at_groups, data_alike, found_keys, keys_more, keys_of_both, map_alike, map_itself, map_map, no_data, of_one_group}

-- ---- folds

pub more_parts : (g : Fold) (s : Kept g) (cs : List Seen) → more g s cs ≡ with_part g s (part_of g cs)
more_parts (by_parts p) s cs = refl
more_parts (class_sum k) s cs = refl

-- ---- groups

used_none : (b : Bool) → used b [] ≡ []
used_none true = refl
used_none false = refl

part_at_key : (g : Fold) (b : Bool) (ks ds : List Seen) (key : Seen) → at_key (part_of g []) (group_parts g b ks ds) key ≡ part_of g (used b (group_data key ks ds))
part_at_key g b ks ds key =
    at_groups key (part_of g []) (part_of g (used b (group_data key ks ds))) (λ k. part_of g (used b (group_data k ks ds)))
    (λ k h. ap (λ xs. part_of g (used b xs)) (sym (data_alike key k (λ c. of_one_group key k c h) ks ds)))
    (group_keys ks)
    (λ none. sym (ap (λ xs. part_of g (used b xs)) (no_data key ks ds (sym (found_keys key ks) ∙ none)) ∙ ap (part_of g) (used_none b)))

part_keys : (g : Fold) (b : Bool) (ks ds : List Seen) → keys_of (group_parts g b ks ds) ≡ group_keys ks
part_keys g b ks ds = map_map (λ key. (key, part_of g (used b (group_data key ks ds)))) (λ (e : Seen × Part g). e.0) (group_keys ks) ∙ map_itself (group_keys ks)

pub groups_parts : (g : Fold) (b : Bool) (es : Groups g) (ks ds : List Seen) → groups_more g b es ks ds ≡ groups_with g es (group_parts g b ks ds)
groups_parts g b es ks ds =
    map_alike (λ key. (key, more g (at_key (start g) es key) (used b (group_data key ks ds)))) (λ key. (key, with_part g (at_key (start g) es key) (at_key (part_of g []) (group_parts g b ks ds) key)))
    (λ key. ap (λ s. (key, s)) (more_parts g (at_key (start g) es key) (used b (group_data key ks ds)) ∙ ap (with_part g (at_key (start g) es key)) (sym (part_at_key g b ks ds key))))
    (group_keys (keys_of es ++ ks))
    ∙ ap (map (λ key. (key, with_part g (at_key (start g) es key) (at_key (part_of g []) (group_parts g b ks ds) key))))
    (keys_of_both (keys_of es) ks ∙ (sym (keys_more (keys_of es) (group_keys ks)) ∙ ap (λ xs. group_keys (keys_of es ++ xs)) (sym (part_keys g b ks ds))))

-- ---- values that need all rows

pub gathered_by_parts : (op : Op) (a : Kind) (s : Gathered op a) (x y : Outcome) → gathered_more op a s x y ≡ gathered_with op a s (block_part op a x y)
gathered_by_parts (reduce r) a s x y = more_parts (folds.reduction_fold r a) s (used (folds.omits r) (cells_in x))
gathered_by_parts (head k) a s x y = first_of_both k s (rows_in x) ∙ first_front k s (first_rows k (rows_in x))
gathered_by_parts (tail k) a s x y = last_of_both k s (rows_in x) ∙ last_front k s (last_rows k (rows_in x))
gathered_by_parts operations.distinct a s x y = distinct_of_both s (cells_in x) ∙ distinct_front s (distinct (cells_in x))
gathered_by_parts (group m part) a s x y =
    ap (λ es. (es, groups_more (method_fold m a) (method_omits m) s.1 (cells_in x) (cells_in y))) (groups_parts (by_parts (number_of every_cell)) false s.0 (cells_in x) (cells_in x))
    ∙ ap (λ es. (groups_with (by_parts (number_of every_cell)) s.0 (group_parts (by_parts (number_of every_cell)) false (cells_in x) (cells_in x)), es)) (groups_parts (method_fold m a) (method_omits m) s.1 (cells_in x) (cells_in y))
gathered_by_parts (constant c) a s x y = refl
gathered_by_parts (unary op) a s x y = refl
gathered_by_parts (binary op) a s x y = refl
gathered_by_parts filter a s x y = refl
gathered_by_parts (scan r) a s x y = refl

-- ---- carries of scans

if_exact_is : (r : Result Seen FaultKind) → elim r [ Ok c ↦ Some c | Err e ↦ None ] ≡ if_exact r
if_exact_is (Ok c) = refl
if_exact_is (Err e) = refl

total_kept : (cs : List Seen) → if_exact (exact_total cs) ≡ if_exact (total_result (more (by_parts exact_sum) (start (by_parts exact_sum)) cs))
total_kept cs = ap (λ s. if_exact (total_result s)) (sym (from_start exact_sum cs))

pub carry_folded : (s : Scan) (a : Kind) (cs : List Seen) → fold_of s a cs ≡ carry_result s a (more (scan_fold s a) (start (scan_fold s a)) (used (scan_omits s a) cs))
carry_folded CumSum (Integer k) cs = refl
carry_folded CumSum Logical cs = if_exact_is (exact_total cs) ∙ total_kept cs
carry_folded CumSum Double cs = if_exact_is (exact_total cs) ∙ total_kept cs
carry_folded CumSum Text cs = if_exact_is (exact_total cs) ∙ total_kept cs
carry_folded CumMin (Integer k) cs = refl
carry_folded CumMin Logical cs = refl
carry_folded CumMin Double cs = refl
carry_folded CumMin Text cs = refl
carry_folded CumMax (Integer k) cs = refl
carry_folded CumMax Logical cs = refl
carry_folded CumMax Double cs = refl
carry_folded CumMax Text cs = refl
