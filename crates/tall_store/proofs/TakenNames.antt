-- The names that are taken while the variables of a header get theirs, in a set and a table.
use Rattle.std.proofs.Common.{ℕ, zero, suc, inl, inr, ◌≡◌, ◌≢◌, ◌∙◌, ◌<◌, ◌≤◌, ◌+◌, List, [], ◌∷◌, ◌++◌, Bool, true, false, cond, sym, ap, subst, refl, arith, length, get_or, drop}
use Rattle.std.specs.Prelude.{◌⊎◌, ◌||◌, OnOk, Result, Ok, Err, ◌-◌, if◌then◌else◌, Option, Some, None, String, string_bytes, is_some}
use Rattle.std.specs.BTreeMap as map_updates
use Rattle.std.specs.BTreeMap.{BTreeMap, get_by_text}
use Rattle.std.specs.BTreeSet as set_updates
use Rattle.std.specs.BTreeSet.{BTreeSet, contains_text}
use Rattle.std.specs.Cmp.Lexicographic.{slice_cmp}
use Rattle.std.specs.Map.{update}
use Rattle.std.specs.Ordering.{nat_cmp}
use Rattle.std.specs.Str.{bytes_eq}
use Rattle.std.specs.String.{string_cmp}
use Rattle.std.proofs.lemmas.Bool.{cases_eq, false≢true}
use Rattle.std.proofs.lemmas.Cmp.{nat_list_eq_equiv}
use Rattle.std.proofs.lemmas.List.{drop_more, length-append}
use Rattle.std.proofs.Math.Seq.{drop-length}
use Rattle.std.proofs.lemmas.Map.Text.{btree_map_updates_text, btree_set_updates_text}
use Rattle.std.proofs.lemmas.List.Folds.{list_any-append}
use Rattle.std.proofs.lemmas.Slice.Eq.{bytes_eq-Decides}
use Rattle.tall_value.specs.Names.{has_name}
use Rattle.tall_store.specs.Names.{distinct_name, is_suffix_taken, least_free, suffix_of, suffixed}
use Rattle.tall_store.specs.NamesSoFar.{AreKnown, HasNames, IsPassed}

-- ---- the set of fields

-- those so far, and those to come, are all
abbrev pub AreFields : {Y : Type 0} → BTreeSet (String Y) → List (List ℕ) → ℕ → Type 0
AreFields set fields k = (name : List ℕ) → (contains_text set name || has_name (drop k fields) name) ≡ has_name fields name

no_field : {Y : Type 0} (set : BTreeSet (String Y)) (name : List ℕ) → set.keys ≡ [] → contains_text set name ≡ false
no_field set name e = rw e refl

pub fields_start : {Y : Type 0} (set : BTreeSet (String Y)) (fields : List (List ℕ)) → set.keys ≡ [] → AreFields set fields 0
fields_start set fields e = λ name. ap (λ b. b || has_name fields name) (no_field set name e)

one_field : (a b known rest : Bool) → a ≡ b → (cond a true known || rest) ≡ (known || (b || rest))
one_field true true known rest e = grind arith
one_field false false true rest e = refl
one_field false false false rest e = refl
one_field true false known rest e = absurd (false≢true (sym e))
one_field false true known rest e = absurd (false≢true e)

pub fields_more : {Y : Type 0} (old new : BTreeSet (String Y)) (fields : List (List ℕ)) (field : List ℕ) (k : ℕ) → k < length fields → field ≡ get_or fields k []
    → ((name : List ℕ) → contains_text new name ≡ cond (bytes_eq field name) true (contains_text old name)) → AreFields old fields k → AreFields new fields (k + 1)
fields_more old new fields field k l f added are = λ name.
    ap (λ b. b || has_name (drop (k + 1) fields) name) (added name)
    ∙ one_field (bytes_eq field name) (bytes_eq name field) (contains_text old name) (has_name (drop (k + 1) fields) name) (nat_list_eq_equiv.symm field name)
    ∙ ap (λ x. contains_text old name || (bytes_eq name x || has_name (drop (k + 1) fields) name)) f
    ∙ ap (λ fs. contains_text old name || has_name fs name) (sym (drop_more fields k [] l)) ∙ are name

or_none : (a : Bool) → a ≡ (a || false)
or_none true = refl
or_none false = refl

pub fields_all : {Y : Type 0} (set : BTreeSet (String Y)) (fields : List (List ℕ)) → AreFields set fields (length fields) → HasNames set fields
fields_all set fields are = λ name.
    or_none (contains_text set name) ∙ ap (λ fs. contains_text set name || has_name fs name) (sym (drop-length fields)) ∙ are name

-- ---- suffixes that were passed

below_least : (P : ℕ → Bool) (n k j : ℕ) → k ≤ j → j < least_free P n k → P j ≡ true
unfolding least_free
below_least P zero k j l m = absurd (omega (arith, l, m))
below_least P (suc n) k j l m = by (below_least P n (k + 1) j) (P k) refl m
  where
    by : (k + 1 ≤ j → j < least_free P n (k + 1) → P j ≡ true) → (b : Bool) → b ≡ P k → j < (if b then least_free P n (k + 1) else k) → P j ≡ true
    by rest false e m = absurd (omega (arith, l, m))
    by rest true e m = here (cases_eq j k)
      where
        here : (j ≡ k) ⊎ (j ≢ k) → P j ≡ true
        here (inl same) = ap P same ∙ sym e
        here (inr apart) = rest (omega (arith, l, apart)) m

least_most : (P : ℕ → Bool) (n k : ℕ) → least_free P n k ≤ k + n
unfolding least_free
least_most P zero k = omega arith
least_most P (suc n) k = by (least_most P n (k + 1)) (P k)
  where
    by : least_free P n (k + 1) ≤ k + 1 + n → (b : Bool) → (if b then least_free P n (k + 1) else k) ≤ k + suc n
    by rest true = omega (arith, rest)
    by rest false = omega arith

-- what is taken may be passed over
skip : (P : ℕ → Bool) (m n d k : ℕ) → n ≡ m + d → ((j : ℕ) → k ≤ j → j < k + m → P j ≡ true) → least_free P n k ≡ least_free P d (k + m)
unfolding least_free
skip P zero n d k e taken =
    let same : n ≡ d = omega (arith, e) in
    let here : k ≡ k + 0 = omega arith in
    ap (λ i. least_free P i k) same ∙ ap (least_free P d) here
skip P (suc m) n d k e taken =
    let size : n ≡ suc (m + d) = omega (arith, e) in
    let there : k + 1 + m ≡ k + suc m = omega arith in
    ap (λ i. least_free P i k) size
    ∙ ap (λ b. if b then least_free P (m + d) (k + 1) else k) (taken k (omega arith) (omega arith))
    ∙ skip P m (m + d) d (k + 1) refl (λ j l h. taken j (omega (arith, l)) (omega (arith, h)))
    ∙ ap (least_free P d) there

-- so the search may begin behind them
pub search_from : (fields earlier : List (List ℕ)) (name : List ℕ) (start : ℕ) → IsPassed fields earlier name start
    → least_free (is_suffix_taken fields earlier name) ((length fields + length earlier + 1) - start) start ≡ suffix_of fields earlier name
search_from fields earlier name start p = by start (start - 1) p (omega (arith, p.first))
  where
    P : ℕ → Bool
    P = is_suffix_taken fields earlier name

    by : (start m : ℕ) → IsPassed fields earlier name start → start ≡ 1 + m
        → least_free (is_suffix_taken fields earlier name) ((length fields + length earlier + 1) - start) start ≡ suffix_of fields earlier name
    by start m p e =
        let d : ℕ = (length fields + length earlier + 1) - start in
        let size : length fields + length earlier ≡ m + d = omega (arith, e, p.most) in
        ap (least_free (is_suffix_taken fields earlier name) d) e
        ∙ sym (skip (is_suffix_taken fields earlier name) m (length fields + length earlier) d 1 size (λ j l h. p.taken j l (omega (arith, e, h))))

-- what was taken stays taken
has_more : (names : List (List ℕ)) (name x : List ℕ) → has_name names name ≡ true → has_name (names ++ x ∷ []) name ≡ true
has_more names name x e = list_any-append (bytes_eq name) names (x ∷ []) ∙ ap (λ b. b || has_name (x ∷ []) name) e

or_more : (a b c : Bool) → (b ≡ true → c ≡ true) → (a || b) ≡ true → (a || c) ≡ true
or_more true b c h e = refl
or_more false b c h e = h e

passed_more : (fields earlier names : List (List ℕ)) (name x : List ℕ) (k : ℕ) → names ≡ earlier ++ x ∷ [] → IsPassed fields earlier name k → IsPassed fields names name k
passed_more fields earlier names name x k e p = subst (λ ns. IsPassed fields ns name k) (sym e) (record {
  first = p.first;
  most = let long : length (earlier ++ x ∷ []) ≡ length earlier + 1 = length-append earlier (x ∷ []) in omega (arith, long, p.most);
  taken = λ j l h. or_more (has_name fields (suffixed name j)) (has_name earlier (suffixed name j)) (has_name (earlier ++ x ∷ []) (suffixed name j))
      (has_more earlier (suffixed name j) x) (p.taken j l h);
})

is_same : (x : List ℕ) → bytes_eq x x ≡ true
is_same x = (bytes_eq-Decides x x).1 refl

has_last : (names : List (List ℕ)) (x : List ℕ) → has_name (names ++ x ∷ []) x ≡ true
has_last names x =
    list_any-append (bytes_eq x) names (x ∷ []) ∙ ap (λ b. has_name names x || (b || false)) (is_same x) ∙ or_true (has_name names x)
  where
    or_true : (a : Bool) → (a || true) ≡ true
    or_true true = refl
    or_true false = refl

-- the least free suffix is passed once its name is taken
pub passed_least : (fields earlier names : List (List ℕ)) (name : List ℕ) (k : ℕ) → k ≡ suffix_of fields earlier name → names ≡ earlier ++ suffixed name k ∷ []
    → IsPassed fields names name (k + 1)
passed_least fields earlier names name k least e = subst (λ ns. IsPassed fields ns name (k + 1)) (sym e) (record {
  first = omega arith;
  most =
      let long : length (earlier ++ suffixed name k ∷ []) ≡ length earlier + 1 = length-append earlier (suffixed name k ∷ []) in
      let most : suffix_of fields earlier name ≤ 1 + (length fields + length earlier) = least_most (is_suffix_taken fields earlier name) (length fields + length earlier) 1 in
      omega (arith, long, most, least);
  taken = λ j l h. by j l h (cases_eq j k);
})
  where
    by : (j : ℕ) → 1 ≤ j → j < k + 1 → (j ≡ k) ⊎ (j ≢ k) → is_suffix_taken fields (earlier ++ suffixed name k ∷ []) name j ≡ true
    by j l h (inl same) = subst (λ i. is_suffix_taken fields (earlier ++ suffixed name k ∷ []) name i ≡ true) (sym same)
        (or_more (has_name fields (suffixed name k)) true (has_name (earlier ++ suffixed name k ∷ []) (suffixed name k)) (λ _. has_last earlier (suffixed name k))
        (or_true (has_name fields (suffixed name k))))
      where
        or_true : (a : Bool) → (a || true) ≡ true
        or_true true = refl
        or_true false = refl
    by j l h (inr apart) = or_more (has_name fields (suffixed name j)) (has_name earlier (suffixed name j)) (has_name (earlier ++ suffixed name k ∷ []) (suffixed name j))
        (has_more earlier (suffixed name j) (suffixed name k))
        (below_least (is_suffix_taken fields earlier name) (length fields + length earlier) 1 j l (subst (λ i. j < i) least (omega (arith, h, apart))))

-- ---- the table of earlier names

abbrev Updated : {Z : Type 0} → BTreeMap (String Z) ℕ → BTreeMap (String Z) ℕ → List ℕ → ℕ → Type 0
Updated old new name k = (key : List ℕ) → get_by_text new key ≡ update bytes_eq (get_by_text old) name (Some k) key

some_is : (a b : ℕ) → ◌≡◌ {A = Option ℕ} (Some a) (Some b) → a ≡ b
some_is a b e = cc

-- no name yet
pub known_start : {Y Z : Type 0} (fields : List (List ℕ)) (set : BTreeSet (String Y)) (earlier : List (List ℕ)) (next : BTreeMap (String Z) ℕ) → HasNames set fields
    → earlier ≡ [] → next.entries ≡ [] → AreKnown fields set earlier next
known_start fields set earlier next has none empty = record {
  fields_are = has;
  earlier_are = λ name. rw (empty, none) refl;
  passed = λ name k e. absurd (nothing name k e);
}
  where
    none_some : (k : ℕ) → ◌≡◌ {A = Option ℕ} None (Some k) → ⊥
    none_some k e = absurd cc

    no_entry : (name : List ℕ) → ◌≡◌ {A = Option ℕ} (get_by_text next name) None
    no_entry name = rw empty refl

    nothing : (name : List ℕ) (k : ℕ) → get_by_text next name ≡ Some k → ⊥
    nothing name k e = none_some k (sym (no_entry name) ∙ e)

-- a name more
pub known_more : {Y Z : Type 0} (fields : List (List ℕ)) (set : BTreeSet (String Y)) (earlier names : List (List ℕ)) (old new : BTreeMap (String Z) ℕ) (name : List ℕ)
    → AreKnown fields set earlier old → Updated old new name 1 → names ≡ earlier ++ name ∷ [] → AreKnown fields set names new
known_more fields set earlier names old new name known updated e = record {
  fields_are = known.fields_are;
  earlier_are = λ key. ap is_some (updated key) ∙ are key (bytes_eq name key) refl ∙ ap (λ ns. has_name ns key) (sym e);
  passed = λ key k found. passes key k (bytes_eq name key) (sym (updated key) ∙ found);
}
  where
    are : (key : List ℕ) (b : Bool) → b ≡ bytes_eq name key → is_some (cond b (Some 1) (get_by_text old key)) ≡ has_name (earlier ++ name ∷ []) key
    are key b t =
        sym (list_any-append (bytes_eq key) earlier (name ∷ []) ∙ ap (λ c. has_name earlier key || (c || false)) (nat_list_eq_equiv.symm key name ∙ sym t)
        ∙ each b)
      where
        each : (b : Bool) → (has_name earlier key || (b || false)) ≡ is_some (cond b (Some 1) (get_by_text old key))
        each true = or_true (has_name earlier key)
          where
            or_true : (a : Bool) → (a || true) ≡ true
            or_true true = refl
            or_true false = refl
        each false = sym (known.earlier_are key ∙ or_none (has_name earlier key))

    passes : (key : List ℕ) (k : ℕ) (b : Bool) → cond b (Some 1) (get_by_text old key) ≡ Some k → IsPassed fields names key k
    passes key k true found = subst (IsPassed fields names key) (some_is 1 k found) (record { first = omega arith; most = omega arith; taken = λ j l h. absurd (omega (arith, l, h)) })
    passes key k false found = passed_more fields earlier names key name k e (known.passed key k found)

-- another suffix for a name that is there
pub known_moved : {Y Z : Type 0} (fields : List (List ℕ)) (set : BTreeSet (String Y)) (earlier : List (List ℕ)) (old new : BTreeMap (String Z) ℕ) (name : List ℕ) (suffix : ℕ)
    → AreKnown fields set earlier old → Updated old new name suffix → has_name earlier name ≡ true → IsPassed fields earlier name suffix → AreKnown fields set earlier new
known_moved fields set earlier old new name suffix known updated has p = record {
  fields_are = known.fields_are;
  earlier_are = λ key. ap is_some (updated key) ∙ are key (bytes_eq name key) refl;
  passed = λ key k found. passes key k (bytes_eq name key) refl (sym (updated key) ∙ found);
}
  where
    are : (key : List ℕ) (b : Bool) → b ≡ bytes_eq name key → is_some (cond b (Some suffix) (get_by_text old key)) ≡ has_name earlier key
    are key true t = sym (subst (λ n. has_name earlier n ≡ true) ((bytes_eq-Decides name key).0 (sym t)) has)
    are key false t = known.earlier_are key

    passes : (key : List ℕ) (k : ℕ) (b : Bool) → b ≡ bytes_eq name key → cond b (Some suffix) (get_by_text old key) ≡ Some k → IsPassed fields earlier key k
    passes key k true t found = subst (λ n. IsPassed fields earlier n k) ((bytes_eq-Decides name key).0 (sym t)) (subst (IsPassed fields earlier name) (some_is suffix k found) p)
    passes key k false t found = known.passed key k found

-- ---- the same, from state to state

pub known_push : {Y Z : Type 0} (fields fields' : List (List ℕ)) (set set' : BTreeSet (String Y)) (earlier earlier' names : List (List ℕ)) (old new : BTreeMap (String Z) ℕ) (name : List ℕ)
    → AreKnown fields set earlier old → Updated old new name 1 → fields' ≡ fields → set' ≡ set → earlier' ≡ earlier → names ≡ earlier' ++ name ∷ []
    → AreKnown fields' set' names new
known_push fields fields' set set' earlier earlier' names old new name known updated f s n e =
    subst (λ x. AreKnown x set' names new) (sym f) (subst (λ x. AreKnown fields x names new) (sym s)
    (known_more fields set earlier names old new name known updated (e ∙ ap (λ ns. ns ++ name ∷ []) n)))

pub known_suffixed : {Y Z : Type 0} (fields fields' fields'' : List (List ℕ)) (set set' set'' : BTreeSet (String Y)) (earlier names names' : List (List ℕ))
    (old mid new : BTreeMap (String Z) ℕ) (name : List ℕ) (start k : ℕ)
    → AreKnown fields set earlier old → get_by_text old name ≡ Some start → k ≡ suffix_of fields earlier name
    → AreKnown fields' set' names mid → fields' ≡ fields → names ≡ earlier ++ suffixed name k ∷ []
    → Updated mid new name (k + 1) → fields'' ≡ fields' → set'' ≡ set' → names' ≡ names → AreKnown fields'' set'' names' new
known_suffixed fields fields' fields'' set set' set'' earlier names names' old mid new name start k known there least after f n updated f' s' n' =
    subst (λ x. AreKnown x set'' names' new) (sym f') (subst (λ x. AreKnown fields' x names' new) (sym s') (subst (λ x. AreKnown fields' set' x new) (sym n')
    (known_moved fields' set' names mid new name (k + 1) after updated
    (subst (λ ns. has_name ns name ≡ true) (sym n) (has_more earlier name (suffixed name k) (sym (known.earlier_are name) ∙ ap is_some there)))
    (subst (λ x. IsPassed x names name (k + 1)) (sym f) (passed_least fields earlier names name k least n)))))

-- ---- what the two tell

pub is_taken_by : {Y Z : Type 0} (fields : List (List ℕ)) (set : BTreeSet (String Y)) (earlier : List (List ℕ)) (next : BTreeMap (String Z) ℕ) (name : List ℕ)
    → AreKnown fields set earlier next → (contains_text set name || is_some (get_by_text next name)) ≡ (has_name fields name || has_name earlier name)
is_taken_by fields set earlier next name known =
    ap (λ b. b || is_some (get_by_text next name)) (known.fields_are name) ∙ ap (λ b. has_name fields name || b) (known.earlier_are name)

pub named_earlier : {Y Z : Type 0} (fields : List (List ℕ)) (set : BTreeSet (String Y)) (earlier : List (List ℕ)) (next : BTreeMap (String Z) ℕ) (name : List ℕ) (found : Option ℕ)
    → AreKnown fields set earlier next → found ≡ get_by_text next name → has_name earlier name ≡ is_some found
named_earlier fields set earlier next name found known e = sym (ap is_some e ∙ known.earlier_are name)

-- a name that an earlier variable has gets a suffix
pub named_twice : {Y Z : Type 0} (fields : List (List ℕ)) (set : BTreeSet (String Y)) (earlier : List (List ℕ)) (next : BTreeMap (String Z) ℕ) (name : List ℕ) (start : ℕ)
    → AreKnown fields set earlier next → Some start ≡ get_by_text next name → suffixed name (suffix_of fields earlier name) ≡ distinct_name fields earlier name
named_twice fields set earlier next name start known e =
    sym (ap (λ b. if b then suffixed name (suffix_of fields earlier name) else name) (named_earlier fields set earlier next name (Some start) known e))

-- another stays as it is
pub named_once : {Y Z : Type 0} (fields : List (List ℕ)) (set : BTreeSet (String Y)) (earlier : List (List ℕ)) (next : BTreeMap (String Z) ℕ) (name : List ℕ)
    → AreKnown fields set earlier next → None ≡ get_by_text next name → name ≡ distinct_name fields earlier name
named_once fields set earlier next name known e =
    sym (ap (λ b. if b then suffixed name (suffix_of fields earlier name) else name) (named_earlier fields set earlier next name None known e))

pub on_ok : {X E : Type 0} (r : Result X E) {P Q : Type 0} → OnOk r P → (P → Q) → OnOk r Q
on_ok (Ok x) p f = f p
on_ok (Err e) p f = tt

-- ---- one key

pub one_added : {Y : Type 0} (name : List ℕ) (old new : BTreeSet (String Y)) → set_updates.UpdatesBy string_cmp (λ k. slice_cmp nat_cmp name (string_bytes k)) old new true
    → (text : List ℕ) → contains_text new text ≡ cond (bytes_eq name text) true (contains_text old text)
one_added name old new updates = λ text. btree_set_updates_text name old new true updates text

pub one_updated : {Z : Type 0} (name : List ℕ) (old new : BTreeMap (String Z) ℕ) (suffix : ℕ)
    → map_updates.UpdatesBy string_cmp (λ k. slice_cmp nat_cmp name (string_bytes k)) old new (Some suffix)
    → (key : List ℕ) → get_by_text new key ≡ update bytes_eq (get_by_text old) name (Some suffix) key
one_updated name old new suffix updates = λ key. btree_map_updates_text name old new (Some suffix) updates key
