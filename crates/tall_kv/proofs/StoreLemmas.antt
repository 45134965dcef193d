-- Pairs in columns.
use Rattle.std.proofs.Common.{◌≡◌, ℕ, zero, suc, ◌≤◌, ◌<◌, ◌+◌, List, [], ◌∷◌, ◌++◌, length, map, take, get_or, refl, ap, sym, subst, ◌∙◌, arith}
use Rattle.std.proofs.lemmas.Bool.{and_parts, le-ltb, lt-ltb, ltb-true}
use Rattle.std.proofs.lemmas.List.{append-nil, append_assoc, length-append, length-map, length_push}
use Rattle.std.specs.Prelude.{Bool, true, false, ◌&&◌, ◌^◌, None, Some, Result, Ok, Err, option_map, slice_get}
use Rattle.std.proofs.lemmas.Option.{none-some}
use Rattle.tall_value.specs.declared.class.IntKind.TheVariants.{Int8, Int16, Int32, Int64, Uint8, Uint16, Uint32, Uint64}
use Rattle.tall_value.specs.declared.class.Kind.{Kind}
use Rattle.tall_value.specs.declared.class.Kind.TheVariants.{Integer, Logical, Double, Text}
use Rattle.tall_value.specs.Cells.{Seen, seen_kind}
use Rattle.tall_local.specs.Refusals.{Refusal, stop_at, too_many_rows}
use Rattle.tall_local.proofs.KeyLaws.{same_kinds}
use Rattle.tall_column.specs.Columns.{SeenColumn}
use Rattle.tall_local.specs.Pairs.{Pair, append_if, appended, column_of_cells, has_room, pair_key, pair_value, is_key, key_fits, value_fits, is_within_store, judged, misfit, same_class, same_kind, with_pair}
use Rattle.tall_kv.specs.declared.rows.Rows.{Rows}
use Rattle.tall_kv.specs.declared.faults.PairFault.{PairFault}
use Rattle.tall_kv.specs.Faults.{IsFaultOf}
use Rattle.tall_kv.specs.Stores.{AllFit, HasKinds, HaveKinds, HaveKindsOfFirst, IsLong, IsStore, pairs_of, rows_pairs, fits_first}

pub fits_first_of_front : (cs : List Seen) (rows : ℕ) (first c : Seen) → (rows ≡ 0 → ⊥) → slice_get cs 0 ≡ Some first → same_class first c ≡ fits_first (take rows cs) c
fits_first_of_front [] rows first c some h = absurd (none-some first h)
fits_first_of_front (d ∷ cs) zero first c some h = absurd (some refl)
fits_first_of_front (d ∷ cs) (suc n) first c some h = let e : d ≡ first = cc in ap (λ d. same_class d c) (sym e)

-- the pairs are those of the fronts
pub of_fronts : (ls : List ℕ) (ks vs : List Seen) → pairs_of ls ks vs ≡ pairs_of ls (take (length ls) ks) (take (length ls) vs)
of_fronts [] ks vs = refl
of_fronts (l ∷ ls) [] vs = refl
of_fronts (l ∷ ls) (k ∷ ks) [] = refl
of_fronts (l ∷ ls) (k ∷ ks) (v ∷ vs) = ap (λ ps. record { key = k; value = v; line = l } ∷ ps) (of_fronts ls ks vs)

pub same_fronts : (ls : List ℕ) (ks vs js us : List Seen) → take (length ls) js ≡ take (length ls) ks → take (length ls) us ≡ take (length ls) vs → pairs_of ls js us ≡ pairs_of ls ks vs
same_fronts ls ks vs js us keys values =
    of_fronts ls js us ∙ ap (λ ks. pairs_of ls ks (take (length ls) us)) keys ∙ ap (λ vs. pairs_of ls (take (length ls) ks) vs) values ∙ sym (of_fronts ls ks vs)

-- pairs behind the fronts
pub of_more : (ls ms : List ℕ) (ks vs js us : List Seen) → length ls ≤ length ks → length ls ≤ length vs
    → pairs_of (ls ++ ms) (take (length ls) ks ++ js) (take (length ls) vs ++ us) ≡ pairs_of ls ks vs ++ pairs_of ms js us
of_more [] ms ks vs js us keys values = refl
of_more (l ∷ ls) ms [] vs js us keys values = absurd (omega (arith, keys))
of_more (l ∷ ls) ms (k ∷ ks) [] js us keys values = absurd (omega (arith, values))
of_more (l ∷ ls) ms (k ∷ ks) (v ∷ vs) js us keys values =
    ap (λ ps. record { key = k; value = v; line = l } ∷ ps) (of_more ls ms ks vs js us (omega (arith, keys)) (omega (arith, values)))

pub length_of_pairs : (ls : List ℕ) (ks vs : List Seen) → length ls ≤ length ks → length ls ≤ length vs → length (pairs_of ls ks vs) ≡ length ls
length_of_pairs [] ks vs keys values = refl
length_of_pairs (l ∷ ls) [] vs keys values = absurd (omega (arith, keys))
length_of_pairs (l ∷ ls) (k ∷ ks) [] keys values = absurd (omega (arith, values))
length_of_pairs (l ∷ ls) (k ∷ ks) (v ∷ vs) keys values = ap suc (length_of_pairs ls ks vs (omega (arith, keys)) (omega (arith, values)))

-- ---- what a pair doesn't fit by

keys_of_first : (ls : List ℕ) (ks vs : List Seen) (c : Seen) → length ls ≤ length ks → length ls ≤ length vs → fits_first (take (length ls) ks) c ≡ key_fits (pairs_of ls ks vs) c
keys_of_first [] ks vs c keys values = refl
keys_of_first (l ∷ ls) [] vs c keys values = absurd (omega (arith, keys))
keys_of_first (l ∷ ls) (k ∷ ks) [] c keys values = absurd (omega (arith, values))
keys_of_first (l ∷ ls) (k ∷ ks) (v ∷ vs) c keys values = refl

values_of_first : (ls : List ℕ) (ks vs : List Seen) (c : Seen) → length ls ≤ length ks → length ls ≤ length vs → fits_first (take (length ls) vs) c ≡ value_fits (pairs_of ls ks vs) c
values_of_first [] ks vs c keys values = refl
values_of_first (l ∷ ls) [] vs c keys values = absurd (omega (arith, keys))
values_of_first (l ∷ ls) (k ∷ ks) [] c keys values = absurd (omega (arith, values))
values_of_first (l ∷ ls) (k ∷ ks) (v ∷ vs) c keys values = refl

pub misfit_of_columns : (ls : List ℕ) (ks vs : List Seen) (key value : Seen) (line : ℕ) → length ls ≤ length ks → length ls ≤ length vs
    → judged (is_key key && fits_first (take (length ls) ks) key) (fits_first (take (length ls) vs) value) (is_within_store (length ls + 1))
    ≡ misfit (pairs_of ls ks vs) (record { key = key; value = value; line = line })
misfit_of_columns ls ks vs key value line keys values =
    ap (λ b. judged (is_key key && b) (fits_first (take (length ls) vs) value) (is_within_store (length ls + 1))) (keys_of_first ls ks vs key keys values)
    ∙ ap (λ b. judged (is_key key && key_fits (pairs_of ls ks vs) key) b (is_within_store (length ls + 1))) (values_of_first ls ks vs value keys values)
    ∙ ap (λ n. judged (is_key key && key_fits (pairs_of ls ks vs) key) (value_fits (pairs_of ls ks vs) value) (is_within_store (n + 1))) (sym (length_of_pairs ls ks vs keys values))

pub misfit_is : (r : Rows) (key value : Seen) (line n : ℕ) (k v : Bool) → IsLong r → n ≡ length r.lines.items
    → k ≡ (is_key key && fits_first (take n r.keys.cells) key) → v ≡ fits_first (take n r.values.cells) value
    → judged k v (is_within_store (n + 1)) ≡ misfit (rows_pairs r) (record { key = key; value = value; line = line })
misfit_is r key value line n k v long lines keys values =
    ap (λ k. judged k v (is_within_store (n + 1))) keys
    ∙ ap (λ v. judged (is_key key && fits_first (take n r.keys.cells) key) v (is_within_store (n + 1))) values
    ∙ ap (λ n. judged (is_key key && fits_first (take n r.keys.cells) key) (fits_first (take n r.values.cells) value) (is_within_store (n + 1))) lines
    ∙ misfit_of_columns r.lines.items r.keys.cells r.values.cells key value line long.keys long.values

-- ---- classes

same_to_itself : (k : Kind) → same_kind k k ≡ true
same_to_itself (Integer Int8) = refl
same_to_itself (Integer Int16) = refl
same_to_itself (Integer Int32) = refl
same_to_itself (Integer Int64) = refl
same_to_itself (Integer Uint8) = refl
same_to_itself (Integer Uint16) = refl
same_to_itself (Integer Uint32) = refl
same_to_itself (Integer Uint64) = refl
same_to_itself Logical = refl
same_to_itself Double = refl
same_to_itself Text = refl

same_of_kinds : (c d : Seen) (k : Kind) → seen_kind c ≡ k → seen_kind d ≡ k → same_class c d ≡ true
same_of_kinds c d k h i = ap (λ j. same_kind j (seen_kind d)) h ∙ ap (same_kind k) i ∙ same_to_itself k

-- ---- pairs that fit

-- the first has these kinds, if there is one
FirstHas : Kind → Kind → List Pair → Type 0
FirstHas j k [] = Unit {0}
FirstHas j k (p ∷ ps) = (seen_kind p.key ≡ j) × (seen_kind p.value ≡ k)

fits_but_for_room : (ps : List Pair) (q : Pair) (j k : Kind) → FirstHas j k ps → HasKinds j k q → misfit ps q ≡ judged true true (has_room ps)
unfolding FirstHas
fits_but_for_room [] q j k f h = ap (λ b. judged (b && true) true (has_room [])) h.0
fits_but_for_room (p ∷ ps) q j k f h =
    ap (λ b. judged (b && same_class p.key q.key) (same_class p.value q.value) (has_room (p ∷ ps))) h.0
    ∙ ap (λ b. judged b (same_class p.value q.value) (has_room (p ∷ ps))) (same_of_kinds p.key q.key j f.0 h.1)
    ∙ ap (λ b. judged true b (has_room (p ∷ ps))) (same_of_kinds p.value q.value k f.1 h.2)

first_after : (ps : List Pair) (q : Pair) (j k : Kind) → FirstHas j k ps → HasKinds j k q → FirstHas j k (ps ++ q ∷ [])
unfolding FirstHas
first_after [] q j k f h = (h.1, h.2)
first_after (p ∷ ps) q j k f h = f

room_is : (ps : List Pair) → length ps + 1 < 2 ^ 40 → has_room ps ≡ true
room_is ps h = lt-ltb (length ps + 1) (2 ^ 40) h

no_room_is : (ps : List Pair) → length ps + 1 ≡ 2 ^ 40 → has_room ps ≡ false
no_room_is ps h = le-ltb (length ps + 1) (2 ^ 40) (omega (arith, h))

all_fit : (ps qs : List Pair) (j k : Kind) → FirstHas j k ps → HaveKinds j k qs → length ps + length qs < 2 ^ 40 → AllFit ps qs
all_fit ps [] j k f h room = ap (λ l. record { pairs = l; stop = None }) (sym (append-nil ps))
all_fit ps (q ∷ qs) j k f h room =
    ap (λ r. append_if r ps q (λ rs. appended rs qs)) (fits_but_for_room ps q j k f h.0 ∙ ap (judged true true) (room_is ps (omega (arith, room))))
    ∙ all_fit (ps ++ q ∷ []) qs j k (first_after ps q j k f h.0) h.1 (let e : length (ps ++ q ∷ []) ≡ length ps + 1 = length_push ps q in omega (arith, room, e))
    ∙ ap (λ l. record { pairs = l; stop = None }) (append_assoc ps (q ∷ []) qs)

-- the first that finds no room
full : (ps qs : List Pair) (j k : Kind) (m : ℕ) (p : Pair) → FirstHas j k ps → HaveKinds j k qs → length ps + m + 1 ≡ 2 ^ 40 → slice_get qs m ≡ Some p
    → (appended ps qs).stop ≡ Some (stop_at p.line too_many_rows)
full ps [] j k m p f h room at = absurd (none-some p at)
full ps (q ∷ qs) j k zero p f h room at =
    let e : q ≡ p = cc in
    ap (λ r. (append_if r ps q (λ rs. appended rs qs)).stop) (fits_but_for_room ps q j k f h.0 ∙ ap (judged true true) (no_room_is ps (omega (arith, room))))
    ∙ ap (λ (p : Pair). Some (stop_at p.line too_many_rows)) e
full ps (q ∷ qs) j k (suc m) p f h room at =
    ap (λ r. (append_if r ps q (λ rs. appended rs qs)).stop) (fits_but_for_room ps q j k f h.0 ∙ ap (judged true true) (room_is ps (omega (arith, room))))
    ∙ full (ps ++ q ∷ []) qs j k m p (first_after ps q j k f h.0) h.1 (let e : length (ps ++ q ∷ []) ≡ length ps + 1 = length_push ps q in omega (arith, room, e)) at

-- ---- stores

judged_none : (k v r : Bool) → judged k v r ≡ None → (k ≡ true) × (v ≡ true) × (r ≡ true)
judged_none true true true h = (refl, refl, refl)
judged_none true true false h = absurd (none-some _ (sym h))
judged_none true false r h = absurd (none-some _ (sym h))
judged_none false v r h = absurd (none-some _ (sym h))

first_has : (ps : List Pair) (q : Pair) → misfit ps q ≡ None → FirstHas (seen_kind q.key) (seen_kind q.value) ps
unfolding FirstHas
first_has [] q none = tt
first_has (p ∷ ps) q none =
    let t = judged_none (is_key q.key && same_class p.key q.key) (same_class p.value q.value) (has_room (p ∷ ps)) none in
    (sym (same_kinds (seen_kind p.key) (seen_kind q.key) (and_parts (is_key q.key) (same_class p.key q.key) t.0).1), sym (same_kinds (seen_kind p.value) (seen_kind q.value) t.1))

have_both : (j k : Kind) (ps qs : List Pair) → HaveKinds j k ps → HaveKinds j k qs → HaveKinds j k (ps ++ qs)
have_both j k [] qs f h = h
have_both j k (p ∷ ps) qs f h = (f.0, have_both j k ps qs f.1 h)

pub store_of_both : (ps qs : List Pair) (q : Pair) → IsStore ps → HaveKinds (seen_kind q.key) (seen_kind q.value) qs → misfit ps q ≡ None → length ps + length qs < 2 ^ 40 → HaveKindsOfFirst qs → IsStore (ps ++ qs)
unfolding FirstHas
store_of_both [] qs q store h none room first = record { kinds = first; within = omega (arith, room) }
store_of_both (p ∷ ps) qs q store h none room first =
    let f = first_has (p ∷ ps) q none in
    record {
      kinds = have_both (seen_kind p.key) (seen_kind p.value) (p ∷ ps) qs store.kinds
          (subst (λ j. HaveKinds j (seen_kind p.value) qs) (sym f.0) (subst (λ k. HaveKinds (seen_kind q.key) k qs) (sym f.1) h));
      within = let e : length (p ∷ ps ++ qs) ≡ length (p ∷ ps) + length qs = length-append (p ∷ ps) qs in omega (arith, room, e);
    }

pub pair_at : (ls : List ℕ) (ks vs : List Seen) (i l : ℕ) (k v : Seen) → i < length ls → l ≡ get_or ls i l → slice_get ks i ≡ Some k → slice_get vs i ≡ Some v
    → slice_get (pairs_of ls ks vs) i ≡ Some (record { key = k; value = v; line = l })
pair_at [] ks vs i l k v h line key value = absurd (omega (arith, h))
pair_at (m ∷ ls) [] vs i l k v h line key value = absurd (none-some k key)
pair_at (m ∷ ls) (j ∷ ks) [] i l k v h line key value = absurd (none-some v value)
pair_at (m ∷ ls) (j ∷ ks) (u ∷ vs) zero l k v h line key value = let e : j ≡ k = cc in let f : u ≡ v = cc in
    ap (λ j. Some (record { key = j; value = u; line = m })) e ∙ ap (λ u. Some (record { key = k; value = u; line = m })) f ∙ ap (λ m. Some (record { key = k; value = v; line = m })) (sym line)
pair_at (m ∷ ls) (j ∷ ks) (u ∷ vs) (suc i) l k v h line key value = pair_at ls ks vs i l k v (omega (arith, h)) line key value

-- ---- what `fit` finds

pub none_fits : (ps qs : List Pair) → 0 ≡ length qs → AllFit ps qs
none_fits ps [] h = ap (λ l. record { pairs = l; stop = None }) (sym (append-nil ps))
none_fits ps (q ∷ qs) h = absurd (omega (arith, h))

pub none_of_store : (ps qs : List Pair) → 0 ≡ length qs → IsStore ps → IsStore (ps ++ qs)
none_of_store ps [] h store = subst IsStore (sym (append-nil ps)) store
none_of_store ps (q ∷ qs) h store = absurd (omega (arith, h))

pub first_is_fault : (ps qs : List Pair) (q : Pair) (e : Refusal) (fault : PairFault) → slice_get qs 0 ≡ Some q → Some e ≡ misfit ps q → IsFaultOf (Some (stop_at q.line e)) fault
    → IsFaultOf (appended ps qs).stop fault
first_is_fault ps [] q e fault at some is = absurd (none-some q at)
first_is_fault ps (p ∷ qs) q e fault at some is =
    let same : p ≡ q = cc in
    subst (λ s. IsFaultOf s fault)
    (ap (λ (q : Pair). Some (stop_at q.line e)) (sym same) ∙ ap (λ r. (append_if r ps p (λ rs. appended rs qs)).stop) (some ∙ ap (misfit ps) (sym same))) is

kinds_at_first : (qs : List Pair) (q : Pair) → slice_get qs 0 ≡ Some q → HaveKindsOfFirst qs → HaveKinds (seen_kind q.key) (seen_kind q.value) qs
kinds_at_first [] q at h = absurd (none-some q at)
kinds_at_first (p ∷ qs) q at h = let same : p ≡ q = cc in subst (λ (q : Pair). HaveKinds (seen_kind q.key) (seen_kind q.value) (p ∷ qs)) same h

pub number_is_fault : (ps qs : List Pair) (q p : Pair) (m : ℕ) (fault : PairFault) → IsStore qs → slice_get qs 0 ≡ Some q → None ≡ misfit ps q → length ps + m + 1 ≡ 2 ^ 40 → slice_get qs m ≡ Some p
    → IsFaultOf (Some (stop_at p.line too_many_rows)) fault → IsFaultOf (appended ps qs).stop fault
number_is_fault ps qs q p m fault store first none room at is =
    subst (λ s. IsFaultOf s fault) (sym (full ps qs (seen_kind q.key) (seen_kind q.value) m p (first_has ps q (sym none)) (kinds_at_first qs q first store.kinds) room at)) is

pub all_are_fitting : (ps qs : List Pair) (q : Pair) → IsStore qs → slice_get qs 0 ≡ Some q → None ≡ misfit ps q → length ps + length qs < 2 ^ 40 → AllFit ps qs
all_are_fitting ps qs q store first none room =
    all_fit ps qs (seen_kind q.key) (seen_kind q.value) (first_has ps q (sym none)) (kinds_at_first qs q first store.kinds) room

pub all_are_store : (ps qs : List Pair) (q : Pair) → IsStore ps → IsStore qs → slice_get qs 0 ≡ Some q → None ≡ misfit ps q → length ps + length qs < 2 ^ 40 → IsStore (ps ++ qs)
all_are_store ps qs q own store first none room = store_of_both ps qs q own (kinds_at_first qs q first store.kinds) (sym none) room store.kinds

-- ---- one pair

pub added_is : (ps : List Pair) (q : Pair) → None ≡ misfit ps q → with_pair ps q ≡ Ok (ps ++ q ∷ [])
added_is ps q none = ap (λ r. elim r as (λ _. Result (List Pair) Refusal) [ None ↦ Ok (ps ++ q ∷ []) | Some refusal ↦ Err refusal ]) (sym none)

pub store_with : (ps : List Pair) (q : Pair) → IsStore ps → None ≡ misfit ps q → IsStore (ps ++ q ∷ [])
store_with ps q store none =
    let t = judged_none (is_key q.key && key_fits ps q.key) (value_fits ps q.value) (has_room ps) (sym none) in
    let key = (and_parts (is_key q.key) (key_fits ps q.key) t.0).0 in
    store_of_both ps (q ∷ []) q store ((key, refl, refl), tt) (sym none) (ltb-true (length ps + 1) (2 ^ 40) t.2) ((key, refl, refl), tt)

pub misfit_is_fault : (ps old : List Pair) (q : Pair) (e : Refusal) (fault : PairFault) → ps ≡ old → Some e ≡ misfit ps q → IsFaultOf (Some (stop_at q.line e)) fault → IsFaultOf (option_map (stop_at q.line) (misfit old q)) fault
misfit_is_fault ps old q e fault view some is = subst (λ s. IsFaultOf s fault) (ap (option_map (stop_at q.line)) (some ∙ ap (λ ps. misfit ps q) view)) is

pub added_to : (ps old new : List Pair) (q : Pair) → ps ≡ old → None ≡ misfit ps q → new ≡ ps ++ q ∷ [] → with_pair old q ≡ Ok new
added_to ps old new q view none added = ap (λ ps. with_pair ps q) (sym view) ∙ added_is ps q none ∙ ap Ok (sym added)

-- ---- all pairs of another

pub appended_to : (ps old qs later new : List Pair) → ps ≡ old → qs ≡ later → AllFit ps qs → new ≡ ps ++ qs → appended old later ≡ record { pairs = new; stop = None }
appended_to ps old qs later new view later_view fit added =
    ap (λ ps. appended ps later) (sym view) ∙ ap (appended ps) (sym later_view) ∙ fit ∙ ap (λ l. record { pairs = l; stop = None }) (sym added)

pub refused_to : (ps old qs later : List Pair) (fault : PairFault) → ps ≡ old → qs ≡ later → IsFaultOf (appended ps qs).stop fault → IsFaultOf (appended old later).stop fault
refused_to ps old qs later fault view later_view is = subst (λ a. IsFaultOf a.stop fault) (ap (λ ps. appended ps qs) view ∙ ap (appended old) later_view) is

pub is_line : (r : Rows) (ps : List Pair) (i : ℕ) → IsLong r → rows_pairs r ≡ ps → i < length ps → i < length r.lines.items
is_line r ps i long view h =
    let e : length ps ≡ length r.lines.items = ap length (sym view) ∙ length_of_pairs r.lines.items r.keys.cells r.values.cells long.keys long.values in
    omega (arith, h, e)

-- ---- as columns

pub keys_of_pairs : (ls : List ℕ) (ks vs : List Seen) → length ls ≤ length ks → length ls ≤ length vs → map pair_key (pairs_of ls ks vs) ≡ take (length ls) ks
keys_of_pairs [] ks vs keys values = refl
keys_of_pairs (l ∷ ls) [] vs keys values = absurd (omega (arith, keys))
keys_of_pairs (l ∷ ls) (k ∷ ks) [] keys values = absurd (omega (arith, values))
keys_of_pairs (l ∷ ls) (k ∷ ks) (v ∷ vs) keys values = ap (λ cs. k ∷ cs) (keys_of_pairs ls ks vs (omega (arith, keys)) (omega (arith, values)))

pub values_of_pairs : (ls : List ℕ) (ks vs : List Seen) → length ls ≤ length ks → length ls ≤ length vs → map pair_value (pairs_of ls ks vs) ≡ take (length ls) vs
values_of_pairs [] ks vs keys values = refl
values_of_pairs (l ∷ ls) [] vs keys values = absurd (omega (arith, keys))
values_of_pairs (l ∷ ls) (k ∷ ks) [] keys values = absurd (omega (arith, values))
values_of_pairs (l ∷ ls) (k ∷ ks) (v ∷ vs) keys values = ap (λ cs. v ∷ cs) (values_of_pairs ls ks vs (omega (arith, keys)) (omega (arith, values)))

column_height : (cs : List Seen) → length (column_of_cells cs).cells ≡ length cs
column_height [] = refl
column_height (c ∷ cs) = refl

pub columns_height : (ps : List Pair) (keys values : SeenColumn) → length ps < 2 ^ 40 → keys ≡ column_of_cells (map pair_key ps) → values ≡ column_of_cells (map pair_value ps)
    → (length keys.cells < 2 ^ 40) × (length values.cells ≡ length keys.cells)
columns_height ps keys values few k v =
    let of_keys : length keys.cells ≡ length ps = ap (λ c. length c.cells) k ∙ column_height (map pair_key ps) ∙ length-map ps pair_key in
    let of_values : length values.cells ≡ length ps = ap (λ c. length c.cells) v ∙ column_height (map pair_value ps) ∙ length-map ps pair_value in
    (subst (λ n. n < 2 ^ 40) (sym of_keys) few, of_values ∙ sym of_keys)
