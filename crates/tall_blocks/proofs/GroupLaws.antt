-- The groups of some rows and then others, from the groups of the first and the others' rows, or from both parts' groups.
use Rattle.std.specs.Prelude.{◌≡◌, refl, ℕ, pos, ◌||◌, ◌&&◌, if◌then◌else◌, Bool, true, false, Some, None, List, [], ◌∷◌, ◌++◌, length, map}
use Rattle.std.proofs.Common.{ap, sym, ◌∙◌, arith}
use Rattle.std.specs.List.{filter, list_any}
use Rattle.std.specs.Ordering.{is_eq, ordering_reverse}
use Rattle.std.specs.declared.cmp.Ordering.{Ordering}
use Rattle.std.specs.declared.cmp.Ordering.TheVariants.{Less, Equal, Greater}
use Rattle.std.proofs.lemmas.List.{append-nil}
use Rattle.std.proofs.lemmas.List.Elements.{filter-append}
use Rattle.std.proofs.lemmas.List.Folds.{list_any-append}
use Rattle.tall_value.specs.declared.class.Kind.{Kind}
use Rattle.tall_value.specs.declared.functions.Method.{Method}
use Rattle.tall_value.specs.Cells.{Seen, whole, logical, double, text, is_nan}
use Rattle.tall_value.specs.CellOrder.{cell_order}
use Rattle.tall_value.specs.Distinct.{by_order, insert, ascending}
use Rattle.tall_value.specs.Groups.{group_keys, is_of_group, group_data, group_counts, group_value, all_values, group_values}
use Rattle.tall_value.specs.Reductions.{present, is_present, count, used, every_cell}
use Rattle.tall_value.proofs.OrderLaws.{cells_total}
use Rattle.tall_blocks.specs.Folds.{PartFold, number_of, value_of, joined, Fold, by_parts, class_sum, Kept, start, more, method_fold, method_omits, method_result}
use Rattle.tall_blocks.specs.GroupsOver.{kept_of, groups_of, at_key, keys_of, groups_more, groups_joined}
use Rattle.tall_blocks.proofs.DistinctLaws.{same_order, ascending_front, ascending_of_both, present_ascending, no_nan_ascending}
use Rattle.tall_blocks.proofs.FoldLaws.{joined_start, more_append, used_append, group_kept, every_one, from_start, or_assoc}

-- ---- keys

abbrev nan_key : Bool → List Seen
nan_key b = if b then double None ∷ [] else []

nan_key_present : (b : Bool) → present (nan_key b) ≡ []
nan_key_present true = refl
nan_key_present false = refl

nan_key_nan : (b : Bool) → list_any is_nan (nan_key b) ≡ b
nan_key_nan true = refl
nan_key_nan false = refl

present_keys : (ks : List Seen) → present (group_keys ks) ≡ ascending (present ks)
present_keys ks =
    filter-append is_present (ascending (present ks)) (nan_key (list_any is_nan ks))
    ∙ (ap (λ xs. xs ++ present (nan_key (list_any is_nan ks))) (present_ascending ks)
    ∙ (ap (λ xs. ascending (present ks) ++ xs) (nan_key_present (list_any is_nan ks)) ∙ append-nil (ascending (present ks))))

nan_keys : (ks : List Seen) → list_any is_nan (group_keys ks) ≡ list_any is_nan ks
nan_keys ks =
    list_any-append is_nan (ascending (present ks)) (nan_key (list_any is_nan ks))
    ∙ (ap (λ b. b || list_any is_nan (nan_key (list_any is_nan ks))) (no_nan_ascending ks) ∙ nan_key_nan (list_any is_nan ks))

keys_alike : (ks js : List Seen) → ascending (present ks) ≡ ascending (present js) → list_any is_nan ks ≡ list_any is_nan js → group_keys ks ≡ group_keys js
keys_alike ks js p q = ap (λ xs. xs ++ nan_key (list_any is_nan ks)) p ∙ ap (λ b. ascending (present js) ++ nan_key b) q

-- the keys of the first rows stand for these rows
pub keys_more : (ks js : List Seen) → group_keys (ks ++ js) ≡ group_keys (group_keys ks ++ js)
keys_more ks js =
    keys_alike (ks ++ js) (group_keys ks ++ js)
    (ap ascending (filter-append is_present ks js)
    ∙ (sym (ascending_front (present ks) (present js)) ∙ ap ascending (sym (filter-append is_present (group_keys ks) js ∙ ap (λ xs. xs ++ present js) (present_keys ks)))))
    (list_any-append is_nan ks js ∙ sym (list_any-append is_nan (group_keys ks) js ∙ ap (λ b. b || list_any is_nan js) (nan_keys ks)))

pub keys_of_both : (ks js : List Seen) → group_keys (ks ++ js) ≡ group_keys (group_keys ks ++ group_keys js)
keys_of_both ks js =
    keys_alike (ks ++ js) (group_keys ks ++ group_keys js)
    (ap ascending (filter-append is_present ks js)
    ∙ (ascending_of_both (present ks) (present js)
    ∙ ap ascending (sym (filter-append is_present (group_keys ks) (group_keys js) ∙ (ap (λ xs. xs ++ present (group_keys js)) (present_keys ks) ∙ ap (λ xs. ascending (present ks) ++ xs) (present_keys js))))))
    (list_any-append is_nan ks js
    ∙ sym (list_any-append is_nan (group_keys ks) (group_keys js) ∙ (ap (λ b. b || list_any is_nan (group_keys js)) (nan_keys ks) ∙ ap (λ b. list_any is_nan ks || b) (nan_keys js))))

-- ---- the data of a key

put_in_front : (b : Bool) (d : Seen) (xs ys : List Seen) → (if b then d ∷ (xs ++ ys) else xs ++ ys) ≡ (if b then d ∷ xs else xs) ++ ys
put_in_front true d xs ys = refl
put_in_front false d xs ys = refl

pub data_append : (key : Seen) (ks js ds es : List Seen) → length ks ≡ length ds → group_data key (ks ++ js) (ds ++ es) ≡ group_data key ks ds ++ group_data key js es
data_append key [] js [] es h = refl
data_append key [] js (d ∷ ds) es h = absurd (omega (arith, h))
data_append key (k ∷ ks) js [] es h = absurd (omega (arith, h))
data_append key (k ∷ ks) js (d ∷ ds) es h =
    ap (λ xs. if is_of_group key k then d ∷ xs else xs) (data_append key ks js ds es (omega (arith, h))) ∙ put_in_front (is_of_group key k) d (group_data key ks ds) (group_data key js es)

pub data_alike : (key other : Seen) → ((c : Seen) → is_of_group key c ≡ is_of_group other c) → (ks ds : List Seen) → group_data key ks ds ≡ group_data other ks ds
data_alike key other same [] ds = refl
data_alike key other same (k ∷ ks) [] = refl
data_alike key other same (k ∷ ks) (d ∷ ds) =
    ap (λ b. if b then d ∷ group_data key ks ds else group_data key ks ds) (same k) ∙ ap (λ xs. if is_of_group other k then d ∷ xs else xs) (data_alike key other same ks ds)

is_equal : (r : Ordering) → is_eq r ≡ true → r ≡ Equal
is_equal Less h = absurd (cc)
is_equal Equal h = refl
is_equal Greater h = absurd (cc)

pub of_one_group : (key other c : Seen) → is_of_group key other ≡ true → is_of_group key c ≡ is_of_group other c
of_one_group key other c h = ap is_eq (same_order key other c (is_equal (cell_order key other) h))

-- equal cells are of one group
same_group : (key c d : Seen) → cell_order c d ≡ Equal → is_of_group key c ≡ is_of_group key d
same_group key c d h = ap is_eq (cells_total.antisymm key c ∙ (ap ordering_reverse (same_order c d key h) ∙ sym (cells_total.antisymm key d)))

-- ---- a key is found among the groups' keys where it is found in the rows

or_turn : (a b c : Bool) → (a || (b || c)) ≡ (b || (a || c))
or_turn true true c = refl
or_turn true false c = refl
or_turn false true c = refl
or_turn false false c = refl

or_same : (a b : Bool) → a ≡ b → (c : Bool) → (b || c) ≡ (a || (b || c))
or_same true b h c = (let e : b ≡ true = sym h in ap (λ x. x || c) e)
or_same false b h c = refl

module _ (key : Seen) where
  abbrev pub found : List Seen → Bool
  found cs = list_any (is_of_group key) cs

  found_by : (c d : Seen) (ds : List Seen) (r : Ordering) → cell_order c d ≡ r → found (insert c ds) ≡ (is_of_group key c || found ds) → found (insert c (d ∷ ds)) ≡ (is_of_group key c || (is_of_group key d || found ds))
  found_by c d ds Less p h = ap (λ r. found (by_order r (c ∷ d ∷ ds) (d ∷ ds) (d ∷ insert c ds))) p
  found_by c d ds Equal p h = ap (λ r. found (by_order r (c ∷ d ∷ ds) (d ∷ ds) (d ∷ insert c ds))) p ∙ or_same (is_of_group key c) (is_of_group key d) (same_group key c d p) (found ds)
  found_by c d ds Greater p h =
      ap (λ r. found (by_order r (c ∷ d ∷ ds) (d ∷ ds) (d ∷ insert c ds))) p ∙ (ap (λ b. is_of_group key d || b) h ∙ or_turn (is_of_group key d) (is_of_group key c) (found ds))

  found_inserted : (c : Seen) (ds : List Seen) → found (insert c ds) ≡ (is_of_group key c || found ds)
  found_inserted c [] = refl
  found_inserted c (d ∷ ds) = found_by c d ds (cell_order c d) refl (found_inserted c ds)

  found_ascending : (cs : List Seen) → found (ascending cs) ≡ found cs
  found_ascending [] = refl
  found_ascending (c ∷ cs) = found_inserted c (ascending cs) ∙ ap (λ b. is_of_group key c || b) (found_ascending cs)

  found_nan : (b : Bool) → found (nan_key b) ≡ (b && is_of_group key (double None))
  found_nan true = or_false (is_of_group key (double None))
    where
      or_false : (a : Bool) → (a || false) ≡ a
      or_false true = refl
      or_false false = refl
  found_nan false = refl

  more_nan : (q p n : Bool) → (q || (p || (n && q))) ≡ (p || q)
  more_nan true true n = refl
  more_nan true false n = refl
  more_nan false true n = refl
  more_nan false false true = refl
  more_nan false false false = refl

  found_parts : (ks : List Seen) → found ks ≡ (found (present ks) || (list_any is_nan ks && is_of_group key (double None)))
  found_parts [] = refl
  found_parts (double None ∷ ks) =
      ap (λ b. is_of_group key (double None) || b) (found_parts ks) ∙ more_nan (is_of_group key (double None)) (found (present ks)) (list_any is_nan ks)
  found_parts (double (Some n) ∷ ks) =
      ap (λ b. is_of_group key (double (Some n)) || b) (found_parts ks) ∙ or_assoc (is_of_group key (double (Some n))) (found (present ks)) (list_any is_nan ks && is_of_group key (double None))
  found_parts (whole k n ∷ ks) =
      ap (λ b. is_of_group key (whole k n) || b) (found_parts ks) ∙ or_assoc (is_of_group key (whole k n)) (found (present ks)) (list_any is_nan ks && is_of_group key (double None))
  found_parts (logical c ∷ ks) =
      ap (λ b. is_of_group key (logical c) || b) (found_parts ks) ∙ or_assoc (is_of_group key (logical c)) (found (present ks)) (list_any is_nan ks && is_of_group key (double None))
  found_parts (text t ∷ ks) =
      ap (λ b. is_of_group key (text t) || b) (found_parts ks) ∙ or_assoc (is_of_group key (text t)) (found (present ks)) (list_any is_nan ks && is_of_group key (double None))

  pub found_keys : (ks : List Seen) → found (group_keys ks) ≡ found ks
  found_keys ks =
      list_any-append (is_of_group key) (ascending (present ks)) (nan_key (list_any is_nan ks))
      ∙ (ap (λ b. b || found (nan_key (list_any is_nan ks))) (found_ascending (present ks))
      ∙ (ap (λ b. found (present ks) || b) (found_nan (list_any is_nan ks)) ∙ sym (found_parts ks)))

  first_false : (a b : Bool) → (a || b) ≡ false → a ≡ false
  first_false true b h = absurd (cc)
  first_false false b h = refl

  second_false : (a b : Bool) → (a || b) ≡ false → b ≡ false
  second_false true b h = absurd (cc)
  second_false false b h = h

  pub no_data : (ks ds : List Seen) → found ks ≡ false → group_data key ks ds ≡ []
  no_data [] ds h = refl
  no_data (k ∷ ks) [] h = refl
  no_data (k ∷ ks) (d ∷ ds) h =
      ap (λ b. if b then d ∷ group_data key ks ds else group_data key ks ds) (first_false (is_of_group key k) (found ks) h) ∙ no_data ks ds (second_false (is_of_group key k) (found ks) h)

  module _ {S : Type 0} (s v : S) (F : Seen → S) (alike : (k : Seen) → is_of_group key k ≡ true → F k ≡ v) where
    at_by : (k : Seen) (ks : List Seen) (b : Bool) → is_of_group key k ≡ b → (found (k ∷ ks) ≡ false → s ≡ v) → ((found ks ≡ false → s ≡ v) → at_key s (map (λ c. (c, F c)) ks) key ≡ v) → at_key s (map (λ c. (c, F c)) (k ∷ ks)) key ≡ v
    at_by k ks true h none go = ap (λ b. if b then F k else at_key s (map (λ c. (c, F c)) ks) key) h ∙ alike k h
    at_by k ks false h none go =
        ap (λ b. if b then F k else at_key s (map (λ c. (c, F c)) ks) key) h ∙ go (λ e. none (ap (λ b. b || found ks) h ∙ e))

    pub at_groups : (ks : List Seen) → (found ks ≡ false → s ≡ v) → at_key s (map (λ c. (c, F c)) ks) key ≡ v
    at_groups [] none = none refl
    at_groups (k ∷ ks) none = at_by k ks (is_of_group key k) refl none (λ n. at_groups ks n)

-- ---- what is kept

kept_nothing : (g : Fold) (b : Bool) → kept_of g b [] ≡ start g
kept_nothing (by_parts p) true = joined_start p (value_of p [])
kept_nothing (by_parts p) false = joined_start p (value_of p [])
kept_nothing (class_sum k) true = refl
kept_nothing (class_sum k) false = refl

kept_append : (g : Fold) (b : Bool) (cs ds : List Seen) → kept_of g b (cs ++ ds) ≡ more g (kept_of g b cs) (used b ds)
kept_append g b cs ds = ap (more g (start g)) (used_append b cs ds) ∙ more_append g (start g) (used b cs) (used b ds)

pub at_any_key : (g : Fold) (b : Bool) (ks ds : List Seen) (key : Seen) → at_key (start g) (groups_of g b ks ds) key ≡ kept_of g b (group_data key ks ds)
at_any_key g b ks ds key =
    at_groups key (start g) (kept_of g b (group_data key ks ds)) (λ k. kept_of g b (group_data k ks ds))
    (λ k h. ap (kept_of g b) (sym (data_alike key k (λ c. of_one_group key k c h) ks ds)))
    (group_keys ks)
    (λ none. sym (ap (kept_of g b) (no_data key ks ds (sym (found_keys key ks) ∙ none)) ∙ kept_nothing g b))

pub map_alike : {A B : Type 0} (f g : A → B) → ((x : A) → f x ≡ g x) → (xs : List A) → map f xs ≡ map g xs
map_alike f g same [] = refl
map_alike f g same (x ∷ xs) = ap (λ y. y ∷ map f xs) (same x) ∙ ap (λ ys. g x ∷ ys) (map_alike f g same xs)

pub map_map : {A B C : Type 0} (f : A → B) (g : B → C) (xs : List A) → map g (map f xs) ≡ map (λ x. g (f x)) xs
map_map f g [] = refl
map_map f g (x ∷ xs) = ap (λ ys. g (f x) ∷ ys) (map_map f g xs)

pub map_itself : {A : Type 0} (xs : List A) → map (λ x. x) xs ≡ xs
map_itself [] = refl
map_itself (x ∷ xs) = ap (λ ys. x ∷ ys) (map_itself xs)

pub keys_kept : (g : Fold) (b : Bool) (ks ds : List Seen) → keys_of (groups_of g b ks ds) ≡ group_keys ks
keys_kept g b ks ds = map_map (λ key. (key, kept_of g b (group_data key ks ds))) (λ (e : Seen × Kept g). e.0) (group_keys ks) ∙ map_itself (group_keys ks)

pub more_groups : (g : Fold) (b : Bool) (ks js ds es : List Seen) → length ks ≡ length ds → groups_of g b (ks ++ js) (ds ++ es) ≡ groups_more g b (groups_of g b ks ds) js es
more_groups g b ks js ds es h =
    map_alike (λ key. (key, kept_of g b (group_data key (ks ++ js) (ds ++ es)))) (λ key. (key, more g (at_key (start g) (groups_of g b ks ds) key) (used b (group_data key js es))))
    (λ key. ap (λ s. (key, s)) (ap (kept_of g b) (data_append key ks js ds es h) ∙ (kept_append g b (group_data key ks ds) (group_data key js es) ∙ ap (λ s. more g s (used b (group_data key js es))) (sym (at_any_key g b ks ds key)))))
    (group_keys (ks ++ js))
    ∙ ap (map (λ key. (key, more g (at_key (start g) (groups_of g b ks ds) key) (used b (group_data key js es))))) (keys_more ks js ∙ ap (λ xs. group_keys (xs ++ js)) (sym (keys_kept g b ks ds)))

pub joined_groups : (p : PartFold) (b : Bool) (ks js ds es : List Seen) → length ks ≡ length ds → groups_of (by_parts p) b (ks ++ js) (ds ++ es) ≡ groups_joined p (groups_of (by_parts p) b ks ds) (groups_of (by_parts p) b js es)
joined_groups p b ks js ds es h =
    let g : Fold = by_parts p in
    map_alike (λ key. (key, kept_of (by_parts p) b (group_data key (ks ++ js) (ds ++ es)))) (λ key. (key, joined p (at_key (start (by_parts p)) (groups_of (by_parts p) b ks ds) key) (at_key (start (by_parts p)) (groups_of (by_parts p) b js es) key)))
    (λ key. ap (λ s. (key, s))
    (ap (kept_of (by_parts p) b) (data_append key ks js ds es h)
    ∙ (kept_append (by_parts p) b (group_data key ks ds) (group_data key js es)
    ∙ (ap (joined p (kept_of (by_parts p) b (group_data key ks ds))) (sym (joined_start p (value_of p (used b (group_data key js es)))))
    ∙ (ap (λ s. joined p s (kept_of (by_parts p) b (group_data key js es))) (sym (at_any_key (by_parts p) b ks ds key)) ∙ ap (joined p (at_key (start (by_parts p)) (groups_of (by_parts p) b ks ds) key)) (sym (at_any_key (by_parts p) b js es key)))))))
    (group_keys (ks ++ js))
    ∙ ap (map (λ key. (key, joined p (at_key (start (by_parts p)) (groups_of (by_parts p) b ks ds) key) (at_key (start (by_parts p)) (groups_of (by_parts p) b js es) key))))
    (keys_of_both ks js ∙ (ap (λ xs. group_keys (xs ++ group_keys js)) (sym (keys_kept (by_parts p) b ks ds)) ∙ ap (λ xs. group_keys (keys_of (groups_of (by_parts p) b ks ds) ++ xs)) (sym (keys_kept (by_parts p) b js es))))

-- ---- the columns of `groupsummary`

pub values_kept : (m : Method) (a : Kind) (ks ds : List Seen) → group_values m a ks ds ≡ all_values (map (λ (e : Seen × Kept (method_fold m a)). method_result m a e.1) (groups_of (method_fold m a) (method_omits m) ks ds))
values_kept m a ks ds =
    ap all_values
    (map_alike (λ key. group_value m a (group_data key ks ds)) (λ key. method_result m a (kept_of (method_fold m a) (method_omits m) (group_data key ks ds))) (λ key. group_kept m a (group_data key ks ds)) (group_keys ks)
    ∙ sym (map_map (λ key. (key, kept_of (method_fold m a) (method_omits m) (group_data key ks ds))) (λ (e : Seen × Kept (method_fold m a)). method_result m a e.1) (group_keys ks)))

rows_of_key : (key : Seen) (ks : List Seen) → group_data key ks ks ≡ filter (is_of_group key) ks
rows_of_key key [] = refl
rows_of_key key (k ∷ ks) = ap (λ xs. if is_of_group key k then k ∷ xs else xs) (rows_of_key key ks)

pub counts_kept : (ks : List Seen) → group_counts ks ≡ map (λ (e : Seen × ℕ). double (Some (pos e.1))) (groups_of (by_parts (number_of every_cell)) false ks ks)
counts_kept ks =
    map_alike (λ key. count (filter (is_of_group key) ks)) (λ key. double (Some (pos (kept_of (by_parts (number_of every_cell)) false (group_data key ks ks)))))
    (λ key. ap (λ n. double (Some (pos n))) (ap length (sym (every_one (group_data key ks ks) ∙ rows_of_key key ks)) ∙ sym (from_start (number_of every_cell) (group_data key ks ks)))) (group_keys ks)
    ∙ sym (map_map (λ key. (key, kept_of (by_parts (number_of every_cell)) false (group_data key ks ks))) (λ (e : Seen × ℕ). double (Some (pos e.1))) (group_keys ks))
