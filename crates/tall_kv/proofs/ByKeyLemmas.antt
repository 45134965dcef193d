-- The values of each key, pair by pair.
use Rattle.std.proofs.Common.{◌≡◌, refl, sym, ◌∙◌, ap, subst, arith, length, get_or, set, take, ◌<◌, ◌≤◌}
use Rattle.std.specs.Prelude.{Bool, true, false, Some, Result, Ok, Err, MatchResult, OnOk, option_map, slice_get, cond, ◌||◌, not, ℕ, zero, suc, ◌+◌, List, [], ◌∷◌, ◌++◌, map, filter}
use Rattle.std.specs.List.{list_any, position_or_len}
use Rattle.std.specs.Ordering.{is_eq}
use Rattle.std.proofs.lemmas.Bool.{true≢false}
use Rattle.std.proofs.lemmas.Cmp.{eq_by_cmp_equiv}
use Rattle.std.proofs.lemmas.List.{map-append, append-nil, length-map, take_all}
use Rattle.std.proofs.lemmas.Option.{none-some}
use Rattle.std.proofs.lemmas.List.Elements.{filter-append}
use Rattle.tall_value.specs.declared.class.Class.{Class}
use Rattle.tall_value.specs.Cells.{Seen}
use Rattle.tall_value.specs.CellOrder.{cell_order}
use Rattle.tall_value.proofs.OrderLaws.{cells_total}
use Rattle.tall_column.specs.Columns.{SeenColumn, class_of_cell, with_cell}
use Rattle.tall_local.specs.Pairs.{Pair, is_key_of, keys_after, distinct_keys, pair_value, values_of}
use Rattle.tall_kv.specs.ByKey.{groups_beside, groups_of, is_this_key, values_column, value_put, with_value_at}
use Rattle.tall_kv.specs.declared.key.Key.{Key}
use Rattle.tall_kv.specs.Keys.{key_seen, without_class}
use Rattle.tall_kv.proofs.KeyLemmas.{turned, class_is_left_out}

either : (a b : Bool) → (a || b) ≡ false → (a ≡ false) × (b ≡ false)
either true b h = absurd (true≢false h)
either false b h = (refl, h)

or_none : (a : Bool) → (a || false) ≡ a
or_none true = refl
or_none false = refl

own : (c : Seen) → is_eq (cell_order c c) ≡ true
own c = (eq_by_cmp_equiv cells_total).refl c

-- equal keys are the same key as a third
same_third : (k c j : Seen) → is_this_key c k ≡ true → is_this_key c j ≡ is_eq (cell_order k j)
same_third k c j h = turned j c ∙ sym ((eq_by_cmp_equiv cells_total).congr k c j h)

any_same : (c d : Seen) (ks : List Seen) → is_eq (cell_order c d) ≡ true → list_any (is_this_key c) ks ≡ list_any (is_this_key d) ks
any_same c d [] h = refl
any_same c d (k ∷ ks) h =
    ap (λ b. b || list_any (is_this_key c) ks) (turned k c ∙ (eq_by_cmp_equiv cells_total).congr c d k h ∙ turned d k)
    ∙ ap (λ b. is_this_key d k || b) (any_same c d ks h)

-- ---- one more key

or_moved : (a b c : Bool) → ((a || b) || c) ≡ (b || (a || c))
or_moved true true c = refl
or_moved true false c = refl
or_moved false true c = refl
or_moved false false c = refl

abbrev new_key : Bool → Pair → List Seen
new_key true p = []
new_key false p = p.key ∷ []

last_key : (b : Bool) (p : Pair) → cond b [] (p.key ∷ []) ≡ new_key (b || false) p
last_key true p = refl
last_key false p = refl

after_more : (met : List Seen) (ps : List Pair) (p : Pair)
    → keys_after met (ps ++ p ∷ []) ≡ keys_after met ps ++ new_key (list_any (is_this_key p.key) met || list_any (is_this_key p.key) (keys_after met ps)) p
after_more met [] p = last_key (list_any (is_this_key p.key) met) p
after_more met (q ∷ ps) p = by (list_any (λ key. is_key_of key q) met) (after_more met ps p) (after_more (q.key ∷ met) ps p) where
  by : (b : Bool)
      → keys_after met (ps ++ p ∷ []) ≡ keys_after met ps ++ new_key (list_any (is_this_key p.key) met || list_any (is_this_key p.key) (keys_after met ps)) p
      → keys_after (q.key ∷ met) (ps ++ p ∷ []) ≡ keys_after (q.key ∷ met) ps ++ new_key (list_any (is_this_key p.key) (q.key ∷ met) || list_any (is_this_key p.key) (keys_after (q.key ∷ met) ps)) p
      → cond b (keys_after met (ps ++ p ∷ [])) (q.key ∷ keys_after (q.key ∷ met) (ps ++ p ∷ []))
      ≡ cond b (keys_after met ps) (q.key ∷ keys_after (q.key ∷ met) ps)
      ++ new_key (list_any (is_this_key p.key) met || list_any (is_this_key p.key) (cond b (keys_after met ps) (q.key ∷ keys_after (q.key ∷ met) ps))) p
  by true old fresh = old
  by false old fresh =
      ap (λ ks. q.key ∷ ks) fresh
      ∙ ap (λ b. q.key ∷ keys_after (q.key ∷ met) ps ++ new_key b p)
      (or_moved (is_this_key p.key q.key) (list_any (is_this_key p.key) met) (list_any (is_this_key p.key) (keys_after (q.key ∷ met) ps)))

pub keys_more : (ps : List Pair) (p : Pair) → distinct_keys (ps ++ p ∷ []) ≡ distinct_keys ps ++ new_key (list_any (is_this_key p.key) (distinct_keys ps)) p
keys_more ps p = after_more [] ps p

-- ---- no key comes twice

abbrev NoneOf : (Seen → Bool) → List Seen → Type 0
NoneOf test [] = Unit {0}
NoneOf test (k ∷ ks) = (test k ≡ false) × NoneOf test ks

abbrev Apart : List Seen → Type 0
Apart [] = Unit {0}
Apart (k ∷ ks) = NoneOf (λ j. is_eq (cell_order k j)) ks × Apart ks

-- tests of which one or the other passes
neither : (s t : Seen → Bool) (ks : List Seen) → NoneOf (λ k. s k || t k) ks → NoneOf s ks × NoneOf t ks
neither s t [] h = (tt, tt)
neither s t (k ∷ ks) h = let a = either (s k) (t k) h.0 in let b = neither s t ks h.1 in ((a.0, b.0), (a.1, b.1))

abbrev KeysAreApart : List Seen → List Seen → Type 0
KeysAreApart met ks = NoneOf (λ j. list_any (is_this_key j) met) ks × Apart ks

after_apart : (met : List Seen) (ps : List Pair) → KeysAreApart met (keys_after met ps)
after_apart met [] = (tt, tt)
after_apart met (p ∷ ps) = by (list_any (λ key. is_key_of key p) met) refl (after_apart met ps) (after_apart (p.key ∷ met) ps) where
  by : (b : Bool) → list_any (is_this_key p.key) met ≡ b → KeysAreApart met (keys_after met ps) → KeysAreApart (p.key ∷ met) (keys_after (p.key ∷ met) ps)
      → KeysAreApart met (cond b (keys_after met ps) (p.key ∷ keys_after (p.key ∷ met) ps))
  by true h same rest = same
  by false h same rest =
      let both = neither (λ j. is_eq (cell_order p.key j)) (λ j. list_any (is_this_key j) met) (keys_after (p.key ∷ met) ps) rest.0 in
      ((h, both.1), (both.0, rest.1))

-- ---- one more value

values_more : (key : Seen) (ps : List Pair) (p : Pair) → values_of key (ps ++ p ∷ []) ≡ values_of key ps ++ cond (is_key_of key p) (p.value ∷ []) []
values_more key ps p =
    ap (map pair_value) (filter-append (is_key_of key) ps (p ∷ []))
    ∙ map-append pair_value (filter (is_key_of key) ps) (filter (is_key_of key) (p ∷ []))
    ∙ ap (λ vs. values_of key ps ++ vs) (by (is_key_of key p)) where
      by : (b : Bool) → map pair_value (cond b (p ∷ []) []) ≡ cond b (p.value ∷ []) []
      by true = refl
      by false = refl

more_of_key : (class : Class) (key : Seen) (ps : List Pair) (p : Pair) → is_key_of key p ≡ true → with_cell (values_column class ps key) p.value ≡ values_column class (ps ++ p ∷ []) key
more_of_key class key ps p h = ap (λ cs. record { class = class; cells = cs }) (sym (values_more key ps p ∙ ap (λ b. values_of key ps ++ cond b (p.value ∷ []) []) h))

none_of_key : (class : Class) (key : Seen) (ps : List Pair) (p : Pair) → is_key_of key p ≡ false → values_column class ps key ≡ values_column class (ps ++ p ∷ []) key
none_of_key class key ps p h =
    ap (λ cs. record { class = class; cells = cs }) (sym (values_more key ps p ∙ ap (λ b. values_of key ps ++ cond b (p.value ∷ []) []) h ∙ append-nil (values_of key ps)))

unchanged : (class : Class) (ks : List Seen) (ps : List Pair) (p : Pair) → NoneOf (is_this_key p.key) ks → map (values_column class ps) ks ≡ map (values_column class (ps ++ p ∷ [])) ks
unchanged class [] ps p h = refl
unchanged class (k ∷ ks) ps p h =
    ap (λ column. column ∷ map (values_column class ps) ks) (none_of_key class k ps p h.0) ∙ ap (λ columns. values_column class (ps ++ p ∷ []) k ∷ columns) (unchanged class ks ps p h.1)

others : (k c : Seen) (ks : List Seen) → is_this_key c k ≡ true → NoneOf (λ j. is_eq (cell_order k j)) ks → NoneOf (is_this_key c) ks
others k c [] same h = tt
others k c (j ∷ ks) same h = (same_third k c j same ∙ h.0, others k c ks same h.1)

put : (class : Class) (ks : List Seen) (ps : List Pair) (p : Pair) → Apart ks → list_any (is_this_key p.key) ks ≡ true
    → value_put (map (values_column class ps) ks) (position_or_len (is_this_key p.key) ks) p.value ≡ map (values_column class (ps ++ p ∷ [])) ks
put class [] ps p apart h = absurd (true≢false (sym h))
put class (k ∷ ks) ps p apart h = by (is_this_key p.key k) refl h (λ any. put class ks ps p apart.1 any) where
  by : (b : Bool) → is_this_key p.key k ≡ b → (b || list_any (is_this_key p.key) ks) ≡ true
      → (list_any (is_this_key p.key) ks ≡ true → value_put (map (values_column class ps) ks) (position_or_len (is_this_key p.key) ks) p.value ≡ map (values_column class (ps ++ p ∷ [])) ks)
      → value_put (map (values_column class ps) (k ∷ ks)) (cond (not b) (1 + position_or_len (is_this_key p.key) ks) 0) p.value ≡ map (values_column class (ps ++ p ∷ [])) (k ∷ ks)
  by true same any rest =
      ap (λ column. column ∷ map (values_column class ps) ks) (more_of_key class k ps p same)
      ∙ ap (λ columns. values_column class (ps ++ p ∷ []) k ∷ columns) (unchanged class ks ps p (others k p.key ks same apart.0))
  by false same any rest =
      let e : 1 + position_or_len (is_this_key p.key) ks ≡ suc (position_or_len (is_this_key p.key) ks) = omega arith in
      ap (λ n. value_put (map (values_column class ps) (k ∷ ks)) n p.value) e
      ∙ ap (λ column. column ∷ value_put (map (values_column class ps) ks) (position_or_len (is_this_key p.key) ks) p.value) (none_of_key class k ps p same)
      ∙ ap (λ columns. values_column class (ps ++ p ∷ []) k ∷ columns) (rest any)

-- ---- a new key

none_named : (c : Seen) (ks : List Seen) → list_any (is_this_key c) ks ≡ false → NoneOf (is_this_key c) ks
none_named c [] h = tt
none_named c (k ∷ ks) h = let a = either (is_this_key c k) (list_any (is_this_key c) ks) h in (a.0, none_named c ks a.1)

no_values : (met : List Seen) (ps : List Pair) (c : Seen) → list_any (is_this_key c) met ≡ false → list_any (is_this_key c) (keys_after met ps) ≡ false → values_of c ps ≡ []
no_values met [] c old fresh = refl
no_values met (p ∷ ps) c old fresh = by (list_any (λ key. is_key_of key p) met) refl fresh (no_values met ps c) (no_values (p.key ∷ met) ps c) where
  skip : (b : Bool) → is_key_of c p ≡ b → b ≡ false → values_of c ps ≡ [] → map pair_value (cond (is_key_of c p) (p ∷ filter (is_key_of c) ps) (filter (is_key_of c) ps)) ≡ []
  skip b is none rest = ap (λ b. map pair_value (cond b (p ∷ filter (is_key_of c) ps) (filter (is_key_of c) ps))) (is ∙ none) ∙ rest

  met_before : (b : Bool) → is_key_of c p ≡ b → list_any (is_this_key p.key) met ≡ true → b ≡ false
  met_before true is any = absurd (true≢false (sym any ∙ sym (any_same c p.key met is) ∙ old))
  met_before false is any = refl

  by : (b : Bool) → list_any (is_this_key p.key) met ≡ b → list_any (is_this_key c) (cond b (keys_after met ps) (p.key ∷ keys_after (p.key ∷ met) ps)) ≡ false
      → (list_any (is_this_key c) met ≡ false → list_any (is_this_key c) (keys_after met ps) ≡ false → values_of c ps ≡ [])
      → (list_any (is_this_key c) (p.key ∷ met) ≡ false → list_any (is_this_key c) (keys_after (p.key ∷ met) ps) ≡ false → values_of c ps ≡ [])
      → map pair_value (cond (is_key_of c p) (p ∷ filter (is_key_of c) ps) (filter (is_key_of c) ps)) ≡ []
  by true any none same rest = skip (is_key_of c p) refl (met_before (is_key_of c p) refl any) (same old none)
  by false any none same rest =
      let a = either (is_this_key c p.key) (list_any (is_this_key c) (keys_after (p.key ∷ met) ps)) none in
      skip (is_key_of c p) refl (turned c p.key ∙ a.0)
      (rest (ap (λ b. b || list_any (is_this_key c) met) a.0 ∙ old) a.1)

-- ---- one more pair

pub columns_more : (class : Class) (ps : List Pair) (p : Pair) (new : Bool) (place : ℕ) → new ≡ not (list_any (is_this_key p.key) (distinct_keys ps)) → place ≡ position_or_len (is_this_key p.key) (distinct_keys ps)
    → with_value_at class (map (values_column class ps) (distinct_keys ps)) place new p.value ≡ map (values_column class (ps ++ p ∷ [])) (distinct_keys (ps ++ p ∷ []))
columns_more class ps p new place h at =
    ap (λ b. with_value_at class (map (values_column class ps) (distinct_keys ps)) place b p.value) h
    ∙ by (list_any (is_this_key p.key) (distinct_keys ps)) refl
    ∙ ap (map (values_column class (ps ++ p ∷ []))) (sym (keys_more ps p)) where
      alone : list_any (is_this_key p.key) (distinct_keys ps) ≡ false → record { class = class; cells = p.value ∷ [] } ≡ values_column class (ps ++ p ∷ []) p.key
      alone any =
          ap (λ vs. record { class = class; cells = vs })
          (sym (values_more p.key ps p ∙ ap (λ b. values_of p.key ps ++ cond b (p.value ∷ []) []) (own p.key) ∙ ap (λ vs. vs ++ p.value ∷ []) (no_values [] ps p.key refl any)))

      by : (b : Bool) → list_any (is_this_key p.key) (distinct_keys ps) ≡ b
          → with_value_at class (map (values_column class ps) (distinct_keys ps)) place (not b) p.value ≡ map (values_column class (ps ++ p ∷ [])) (distinct_keys ps ++ new_key (list_any (is_this_key p.key) (distinct_keys ps)) p)
      by true any =
          ap (λ n. value_put (map (values_column class ps) (distinct_keys ps)) n p.value) at
          ∙ put class (distinct_keys ps) ps p (after_apart [] ps).1 any
          ∙ ap (map (values_column class (ps ++ p ∷ []))) (sym (append-nil (distinct_keys ps)) ∙ ap (λ b. distinct_keys ps ++ new_key b p) (sym any))
      by false any =
          ap (λ columns. columns ++ record { class = class; cells = p.value ∷ [] } ∷ []) (unchanged class (distinct_keys ps) ps p (none_named p.key (distinct_keys ps) any))
          ∙ ap (λ column. map (values_column class (ps ++ p ∷ [])) (distinct_keys ps) ++ column ∷ []) (alone any)
          ∙ sym (map-append (values_column class (ps ++ p ∷ [])) (distinct_keys ps) (p.key ∷ []))
          ∙ ap (λ b. map (values_column class (ps ++ p ∷ [])) (distinct_keys ps ++ new_key b p)) (sym any)

-- ---- keys beside columns

pub length_beside : (ks : List Seen) (columns : List SeenColumn) → length columns ≡ length ks → length (groups_beside ks columns) ≡ length ks
length_beside [] columns h = refl
length_beside (k ∷ ks) [] h = absurd (omega (arith, h))
length_beside (k ∷ ks) (column ∷ columns) h = ap suc (length_beside ks columns (omega (arith, h)))

pub key_beside : (ks : List Seen) (columns : List SeenColumn) (i : ℕ) (k : Seen) → length columns ≡ length ks → slice_get ks i ≡ Some k → option_map (λ g. g.key) (slice_get (groups_beside ks columns) i) ≡ Some k
key_beside [] columns i k h at = at
key_beside (j ∷ ks) [] i k h at = absurd (omega (arith, h))
key_beside (j ∷ ks) (column ∷ columns) zero k h at = at
key_beside (j ∷ ks) (column ∷ columns) (suc i) k h at = key_beside ks columns i k (omega (arith, h)) at

pub column_beside : (ks : List Seen) (columns : List SeenColumn) (i : ℕ) (d : SeenColumn) → length columns ≡ length ks → i < length ks → d ≡ get_or columns i d → option_map (λ g. g.values) (slice_get (groups_beside ks columns) i) ≡ Some d
column_beside [] columns i d h within at = absurd (omega (arith, within))
column_beside (j ∷ ks) [] i d h within at = absurd (omega (arith, h))
column_beside (j ∷ ks) (column ∷ columns) zero d h within at = ap Some (sym at)
column_beside (j ∷ ks) (column ∷ columns) (suc i) d h within at = column_beside ks columns i d (omega (arith, h)) (omega (arith, within)) at

pub beside_columns : (class : Class) (ps : List Pair) (ks : List Seen) → groups_beside ks (map (values_column class ps) ks) ≡ map (λ key. record { key = key; values = values_column class ps key }) ks
beside_columns class ps [] = refl
beside_columns class ps (k ∷ ks) = ap (λ gs. record { key = k; values = values_column class ps k } ∷ gs) (beside_columns class ps ks)

pub set_is_put : (columns : List SeenColumn) (i : ℕ) (d e : SeenColumn) (c : Seen) → i < length columns → d ≡ get_or columns i d → e ≡ with_cell d c → set columns i e ≡ value_put columns i c
set_is_put [] i d e c within at is = absurd (omega (arith, within))
set_is_put (column ∷ columns) zero d e c within at is = ap (λ e. e ∷ columns) (is ∙ ap (λ d. with_cell d c) at)
set_is_put (column ∷ columns) (suc i) d e c within at is = ap (λ cs. column ∷ cs) (set_is_put columns i d e c (omega (arith, within)) at is)

-- ---- a turn of the loop

abbrev HasValueClass : Class → List Pair → Type 0
HasValueClass class [] = Unit {0}
HasValueClass class (p ∷ ps) = class ≡ class_of_cell p.value

pub record IsGrouped (class key_class : Class) (done : List Pair) (keys : SeenColumn) (met : List Key) (columns : List SeenColumn) : Type 0 where
  pub keys_are : keys.cells ≡ distinct_keys done
  pub class_is : keys.class ≡ key_class
  pub met_are : map key_seen met ≡ map without_class (distinct_keys done)
  pub columns_are : columns ≡ map (values_column class done) (distinct_keys done)
  pub values_have : HasValueClass class done

keys_step : (done : List Pair) (p : Pair) (new : Bool) → new ≡ not (list_any (is_this_key p.key) (distinct_keys done)) → distinct_keys (done ++ p ∷ []) ≡ cond new (distinct_keys done ++ p.key ∷ []) (distinct_keys done)
keys_step done p new h = keys_more done p ∙ by (list_any (is_this_key p.key) (distinct_keys done)) ∙ ap (λ b. cond b (distinct_keys done ++ p.key ∷ []) (distinct_keys done)) (sym h) where
  by : (b : Bool) → distinct_keys done ++ new_key b p ≡ cond (not b) (distinct_keys done ++ p.key ∷ []) (distinct_keys done)
  by true = append-nil (distinct_keys done)
  by false = refl

cells_step : (new : Bool) (keys : SeenColumn) (c : Seen) → (cond new (with_cell keys c) keys).cells ≡ cond new (keys.cells ++ c ∷ []) keys.cells
cells_step true keys c = refl
cells_step false keys c = refl

class_step : (new : Bool) (keys : SeenColumn) (c : Seen) → (cond new (with_cell keys c) keys).class ≡ keys.class
class_step true keys c = refl
class_step false keys c = refl

map_step : (new : Bool) (ks : List Seen) (c : Seen) → cond new (map without_class ks ++ without_class c ∷ []) (map without_class ks) ≡ map without_class (cond new (ks ++ c ∷ []) ks)
map_step true ks c = sym (map-append without_class ks (c ∷ []))
map_step false ks c = refl

any_left_out : (c : Seen) (ks : List Seen) → list_any (is_this_key c) (map without_class ks) ≡ list_any (is_this_key c) ks
any_left_out c [] = refl
any_left_out c (k ∷ ks) = ap (λ b. b || list_any (is_this_key c) (map without_class ks)) (class_is_left_out c k) ∙ ap (λ b. is_this_key c k || b) (any_left_out c ks)

place_left_out : (c : Seen) (ks : List Seen) → position_or_len (is_this_key c) (map without_class ks) ≡ position_or_len (is_this_key c) ks
place_left_out c [] = refl
place_left_out c (k ∷ ks) =
    ap (λ b. cond (not b) (1 + position_or_len (is_this_key c) (map without_class ks)) 0) (class_is_left_out c k) ∙ ap (λ n. cond (not (is_this_key c k)) (1 + n) 0) (place_left_out c ks)

pub new_is : (met : List Key) (ks : List Seen) (c : Seen) (new : Bool) → map key_seen met ≡ map without_class ks → new ≡ not (list_any (is_this_key c) (map key_seen met)) → new ≡ not (list_any (is_this_key c) ks)
new_is met ks c new h is = is ∙ ap (λ ks. not (list_any (is_this_key c) ks)) h ∙ ap not (any_left_out c ks)

pub place_is : (met : List Key) (ks : List Seen) (c : Seen) (place : ℕ) → map key_seen met ≡ map without_class ks → place ≡ position_or_len (is_this_key c) (map key_seen met) → place ≡ position_or_len (is_this_key c) ks
place_is met ks c place h is = is ∙ ap (position_or_len (is_this_key c)) h ∙ place_left_out c ks

value_class : (class : Class) (done : List Pair) (p : Pair) → HasValueClass class done → class_of_cell p.value ≡ class → HasValueClass class (done ++ p ∷ [])
value_class class [] p h is = sym is
value_class class (q ∷ done) p h is = h

pub more_grouped : (class key_class : Class) (done : List Pair) (keys more_keys : SeenColumn) (met more_met : List Key) (columns more_columns : List SeenColumn) (p : Pair) (new : Bool) (place : ℕ)
    → IsGrouped class key_class done keys met columns
    → new ≡ not (list_any (is_this_key p.key) (map key_seen met)) → place ≡ position_or_len (is_this_key p.key) (map key_seen met)
    → more_keys ≡ cond new (with_cell keys p.key) keys → map key_seen more_met ≡ cond new (map key_seen met ++ without_class p.key ∷ []) (map key_seen met)
    → more_columns ≡ with_value_at class columns place new p.value → class_of_cell p.value ≡ class
    → IsGrouped class key_class (done ++ p ∷ []) more_keys more_met more_columns
more_grouped class key_class done keys more_keys met more_met columns more_columns p new place is new_told place_told keys_told met_told columns_told value_told =
    let n = new_is met (distinct_keys done) p.key new is.met_are new_told in
    let at = place_is met (distinct_keys done) p.key place is.met_are place_told in
    let ks = keys_step done p new n in
    record {
      keys_are = ap (λ k. k.cells) keys_told ∙ cells_step new keys p.key ∙ ap (λ cs. cond new (cs ++ p.key ∷ []) cs) is.keys_are ∙ sym ks;
      class_is = ap (λ k. k.class) keys_told ∙ class_step new keys p.key ∙ is.class_is;
      met_are = met_told ∙ ap (λ ms. cond new (ms ++ without_class p.key ∷ []) ms) is.met_are ∙ map_step new (distinct_keys done) p.key ∙ ap (map without_class) (sym ks);
      columns_are = columns_told ∙ ap (λ cs. with_value_at class cs place new p.value) is.columns_are ∙ columns_more class done p new place n at;
      values_have = value_class class done p is.values_have value_told;
    }

found_within : (test : Seen → Bool) (ks : List Seen) → list_any test ks ≡ true → position_or_len test ks < length ks
found_within test [] h = absurd (true≢false (sym h))
found_within test (k ∷ ks) h = by (test k) h (λ any. found_within test ks any) where
  by : (b : Bool) → (b || list_any test ks) ≡ true → (list_any test ks ≡ true → position_or_len test ks < length ks) → cond (not b) (1 + position_or_len test ks) 0 < length (k ∷ ks)
  by true any rest = omega arith
  by false any rest = let h = rest any in omega (arith, h)

pub place_within : (class key_class : Class) (done : List Pair) (keys : SeenColumn) (met : List Key) (columns : List SeenColumn) (c : Seen) (new : Bool) (place : ℕ) → IsGrouped class key_class done keys met columns
    → new ≡ not (list_any (is_this_key c) (map key_seen met)) → place ≡ position_or_len (is_this_key c) (map key_seen met) → new ≡ false → place < length columns
place_within class key_class done keys met columns c new place is new_told place_told old =
    let at = place_is met (distinct_keys done) c place is.met_are place_told in
    let within = found_within (is_this_key c) (distinct_keys done) (by (list_any (is_this_key c) (distinct_keys done)) (sym (new_is met (distinct_keys done) c new is.met_are new_told) ∙ old)) in
    let e : length columns ≡ length (distinct_keys done) = ap length is.columns_are ∙ length-map (distinct_keys done) (values_column class done) in
    omega (arith, at, within, e) where
      by : (b : Bool) → not b ≡ false → b ≡ true
      by true h = refl
      by false h = absurd (true≢false h)

have_class : (class : Class) (ps : List Pair) (ks : List Seen) (i : ℕ) (d : SeenColumn) → i < length (map (values_column class ps) ks) → (get_or (map (values_column class ps) ks) i d).class ≡ class
have_class class ps [] i d h = absurd (omega (arith, h))
have_class class ps (k ∷ ks) zero d h = refl
have_class class ps (k ∷ ks) (suc i) d h = have_class class ps ks i d (omega (arith, h))

pub have_the_class : (class key_class : Class) (done : List Pair) (keys : SeenColumn) (met : List Key) (columns : List SeenColumn) → IsGrouped class key_class done keys met columns
    → (i : ℕ) (d : SeenColumn) → i < length columns → (get_or columns i d).class ≡ class
have_the_class class key_class done keys met columns is i d h =
    ap (λ cs. (get_or cs i d).class) is.columns_are ∙ have_class class done (distinct_keys done) i d (subst (λ cs. i < length cs) is.columns_are h)

pub take_next : (ps : List Pair) (i : ℕ) (p : Pair) → slice_get ps i ≡ Some p → take (i + 1) ps ≡ take i ps ++ p ∷ []
take_next [] i p at = absurd (none-some p at)
take_next (q ∷ ps) zero p at = let e : q ≡ p = cc in ap (λ q. q ∷ []) e
take_next (q ∷ ps) (suc i) p at = let e : suc i + 1 ≡ suc (i + 1) = omega arith in ap (λ n. take n (q ∷ ps)) e ∙ ap (λ ps. q ∷ ps) (take_next ps i p at)

-- ---- all pairs

same_groups : (class : Class) (ps : List Pair) → HasValueClass class ps
    → map (λ key. record { key = key; values = values_column class ps key }) (distinct_keys ps) ≡ groups_of ps
same_groups class [] h = refl
same_groups class (p ∷ ps) h = ap (λ class. map (λ key. record { key = key; values = values_column class (p ∷ ps) key }) (distinct_keys (p ∷ ps))) h

pub groups_are : (class key_class : Class) (ps : List Pair) (keys : SeenColumn) (met : List Key) (columns : List SeenColumn) → IsGrouped class key_class ps keys met columns → groups_beside keys.cells columns ≡ groups_of ps
groups_are class key_class ps keys met columns is =
    ap (λ ks. groups_beside ks columns) is.keys_are ∙ ap (groups_beside (distinct_keys ps)) is.columns_are ∙ beside_columns class ps (distinct_keys ps) ∙ same_groups class ps is.values_have

pub all_grouped : (class key_class : Class) (n : ℕ) (ps : List Pair) (keys : SeenColumn) (met : List Key) (columns : List SeenColumn) → IsGrouped class key_class (take n ps) keys met columns → length ps ≤ n
    → groups_beside keys.cells columns ≡ groups_of ps
all_grouped class key_class n ps keys met columns is h = groups_are class key_class (take n ps) keys met columns is ∙ ap groups_of (take_all n ps h)

pub value_added : {A E : Type 0} (r : Result A E) (class : Class) (columns : List SeenColumn) (i : ℕ) (d e : SeenColumn) (c : Seen) (new : Bool) → new ≡ false → i < length columns → d ≡ get_or columns i d
    → MatchResult r (λ _. e ≡ with_cell d c) (λ _. e ≡ d) → OnOk r (set columns i e ≡ with_value_at class columns i new c)
value_added (Ok done) class columns i d e c new old within at is = set_is_put columns i d e c within at is ∙ ap (λ b. with_value_at class columns i b c) (sym old)
value_added (Err fault) class columns i d e c new old within at is = tt
