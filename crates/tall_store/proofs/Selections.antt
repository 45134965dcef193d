-- What the options and the properties of a datastore have to do with what is true of every datastore.
use Rattle.std.proofs.Common.{ℕ, suc, ◌≡◌, ◌∙◌, ◌<◌, ◌≤◌, ◌+◌, List, [], ◌∷◌, Bool, true, false, Option, Some, None, sym, ap, subst, refl, arith, length, get_or, map}
use Rattle.std.specs.Prelude.{◌&&◌, ◌||◌, not, if◌then◌else◌}
use Rattle.std.specs.List.{All, AllByRecursion, IsDistinct, position_from}
use Rattle.std.specs.Set.{is_member}
use Rattle.std.specs.Str.{bytes_eq}
use Rattle.std.specs.Cmp.{IsEquivalence}
use Rattle.std.proofs.lemmas.Bool.{false≢true}
use Rattle.std.proofs.lemmas.Cmp.{lists_equiv, nat_eq_equiv}
use Rattle.std.proofs.lemmas.List.{length-map}
use Rattle.std.proofs.lemmas.List.Elements.{All-cons, All-nil}
use Rattle.std.proofs.lemmas.List.Folds.{list_any_at}
use Rattle.std.proofs.lemmas.Map.Keys.{IsDistinct-cons}
use Rattle.std.proofs.lemmas.Map.Made.{length-le_from_is_member}
use Rattle.std.proofs.lemmas.Slice.Eq.{bytes_eq-Decides}
use Rattle.tall_cut.specs.declared.cutter.ReadSize.{ReadSize}
use Rattle.tall_store.specs.declared.format.Format.{Format}
use Rattle.tall_store.specs.Options.{is_choice, is_nonempty, is_size}
use Rattle.tall_value.specs.Names.{are_distinct, has_name}
use Rattle.tall_store.specs.Choices.{cons_option, place_of, places_of}
use Rattle.tall_store.specs.Stores.{IsStore, SeenStore}

pub bytes_laws : IsEquivalence bytes_eq
bytes_laws = lists_equiv nat_eq_equiv

-- ---- places

some_injective : (m n : ℕ) → ◌≡◌ {A = Option ℕ} (Some m) (Some n) → m ≡ n
some_injective m n e = cc

none_some : {X : Type 0} (n : X) → ◌≡◌ {A = Option X} None (Some n) → ⊥
none_some n e = absurd cc

abbrev is_named : List ℕ → List ℕ → Bool
is_named name other = bytes_eq other name

-- the place that is found, counted from the front
record Found (name : List ℕ) (names : List (List ℕ)) (k place : ℕ) : Type 0 where
  at : ℕ
  is : place ≡ k + at
  within : at < length names
  named : bytes_eq (get_or names at []) name ≡ true

found_at : (name : List ℕ) (names : List (List ℕ)) (k place : ℕ) → position_from (is_named name) k names ≡ Some place → Found name names k place
found_at name [] k place e = absurd (none_some place e)
found_at name (x ∷ names) k place e = by_test (found_at name names (k + 1) place) (bytes_eq x name) refl e
  where
    by_test : (position_from (is_named name) (k + 1) names ≡ Some place → Found name names (k + 1) place)
        → (b : Bool) → b ≡ bytes_eq x name → (if b then Some k else position_from (is_named name) (k + 1) names) ≡ Some place → Found name (x ∷ names) k place
    by_test rest true b e = record { at = 0; is = sym (some_injective k place e) ∙ omega arith; within = omega arith; named = sym b }
    by_test rest false b e =
        let f : Found name names (k + 1) place = rest e in
        record { at = suc f.at; is = f.is ∙ omega arith; within = omega arith; named = f.named }

-- the variable of a name
pub record IsPlace (names : List (List ℕ)) (name : List ℕ) (place : ℕ) : Type 0 where
  pub within : place < length names
  pub named : get_or names place [] ≡ name

pub place_is : (names : List (List ℕ)) (name : List ℕ) (place : ℕ) → place_of names name ≡ Some place → IsPlace names name place
place_is names name place e =
    let f : Found name names 0 place = found_at name names 0 place e in
    let same : place ≡ f.at = f.is ∙ omega arith in
    record {
      within = subst (λ n. n < length names) (sym same) f.within;
      named = ap (λ n. get_or names n []) same ∙ (bytes_eq-Decides (get_or names f.at []) name).0 f.named;
    }

-- the places of several names
record ArePlaces (names wanted : List (List ℕ)) (places : List ℕ) : Type 0 where
  within : AllByRecursion (λ place. place < length names) places
  named : map (λ place. get_or names place []) places ≡ wanted

pair_of : (place : Option ℕ) (more : Option (List ℕ)) (places : List ℕ) → cons_option place more ≡ Some places
    → (p : ℕ) × ((ps : List ℕ) × ((place ≡ Some p) × ((more ≡ Some ps) × (places ≡ p ∷ ps))))
pair_of None more places e = absurd (none_some places e)
pair_of (Some p) None places e = absurd (none_some places e)
pair_of (Some p) (Some ps) places e = (p, (ps, (refl, (refl, sym (list_injective (p ∷ ps) places e)))))
  where
    list_injective : (xs ys : List ℕ) → ◌≡◌ {A = Option (List ℕ)} (Some xs) (Some ys) → xs ≡ ys
    list_injective xs ys e = cc

are_places : (names wanted : List (List ℕ)) (places : List ℕ) → places_of names wanted ≡ Some places → ArePlaces names wanted places
are_places names [] places e = subst (ArePlaces names []) (empty places e) (record { within = tt; named = refl })
  where
    empty : (places : List ℕ) → ◌≡◌ {A = Option (List ℕ)} (Some []) (Some places) → [] ≡ places
    empty places e = cc
are_places names (name ∷ wanted) places e =
    let pair = pair_of (place_of names name) (places_of names wanted) places e in
    let first : IsPlace names name pair.0 = place_is names name pair.0 pair.1.1.0 in
    let rest : ArePlaces names wanted pair.1.0 = are_places names wanted pair.1.0 pair.1.1.1.0 in
    subst (ArePlaces names (name ∷ wanted)) (sym pair.1.1.1.1)
    (record {
      within = (first.within, rest.within);
      named = ap (λ n. n ∷ map (λ place. get_or names place []) pair.1.0) first.named ∙ ap (λ ns. name ∷ ns) rest.named;
    })

-- ---- distinct names

pub both_true : (a b : Bool) → (a && b) ≡ true → (a ≡ true) × (b ≡ true)
both_true true b e = (refl, e)
both_true false b e = absurd (false≢true e)

pub not_true : (b : Bool) → not b ≡ true → b ≡ false
not_true false e = refl
not_true true e = absurd (false≢true e)

none_of : (name : List ℕ) (names : List (List ℕ)) → has_name names name ≡ false → AllByRecursion (λ y. bytes_eq name y ≡ false) names
none_of name [] e = tt
none_of name (x ∷ names) e = let p = neither (bytes_eq name x) (has_name names name) e in (p.0, none_of name names p.1)
  where
    neither : (a b : Bool) → (a || b) ≡ false → (a ≡ false) × (b ≡ false)
    neither false b e = (refl, e)
    neither true b e = absurd (false≢true (sym e))

pub distinct_names : (names : List (List ℕ)) → are_distinct names ≡ true → IsDistinct bytes_eq names
unfolding IsDistinct
distinct_names [] e = tt
distinct_names (name ∷ names) e =
    let p = both_true (not (has_name names name)) (are_distinct names) e in
    IsDistinct-cons bytes_eq name names (none_of name names (not_true (has_name names name) p.0)) (distinct_names names p.1)

-- ---- selections

pub all_of : (P : ℕ → Type 0) (xs : List ℕ) → AllByRecursion P xs → All P xs
all_of P [] a = All-nil P
all_of P (x ∷ xs) a = All-cons P x xs a.0 (all_of P xs a.1)

-- the selected variables are among all
among : (names : List (List ℕ)) (places : List ℕ) (q : List ℕ) → AllByRecursion (λ place. place < length names) places
    → is_member bytes_eq (map (λ place. get_or names place []) places) q ≡ true → is_member bytes_eq names q ≡ true
among names [] q a e = absurd (false≢true e)
among names (place ∷ places) q a e = by_test (among names places q a.1) (bytes_eq q (get_or names place [])) refl e
  where
    by_test : (is_member bytes_eq (map (λ p. get_or names p []) places) q ≡ true → is_member bytes_eq names q ≡ true) → (b : Bool) → b ≡ bytes_eq q (get_or names place []) → (b || is_member bytes_eq (map (λ p. get_or names p []) places) q) ≡ true → is_member bytes_eq names q ≡ true
    by_test rest true b e = list_any_at (bytes_eq q) names place [] a.0 (sym b)
    by_test rest false b e = rest e

pub few_places : (names : List (List ℕ)) (places : List ℕ) → AllByRecursion (λ place. place < length names) places
    → IsDistinct bytes_eq (map (λ place. get_or names place []) places) → length places ≤ length names
few_places names places a d =
    subst (λ n. n ≤ length names) (length-map places (λ place. get_or names place []))
    (length-le_from_is_member bytes_laws (map (λ place. get_or names place []) places) names d (λ q e. among names places q a e))

-- ---- changes

pub selected_store : (store : SeenStore) (wanted : List (List ℕ)) (places : List ℕ) → IsStore store → is_choice wanted ≡ true → places_of store.names wanted ≡ Some places
    → IsStore (record store { selected = places })
selected_store store wanted places s c e =
    let p = both_true (is_nonempty wanted) (are_distinct wanted) c in
    let a : ArePlaces store.names wanted places = are_places store.names wanted places e in
    let d : IsDistinct bytes_eq (map (λ place. get_or store.names place []) places) = subst (IsDistinct bytes_eq) (sym a.named) (distinct_names wanted p.1) in
    record {
      some_files = s.some_files;
      few_files = s.few_files;
      distinct_files = s.distinct_files;
      delimiter = s.delimiter;
      size = s.size;
      few_variables = s.few_variables;
      formats = s.formats;
      places = all_of (λ place. place < length store.names) places a.within;
      few_selected = few_places store.names places a.within d;
      distinct = d;
    }

pub sized_store : (store : SeenStore) (size : ReadSize) → IsStore store → is_size size ≡ true → IsStore (record store { size = size })
sized_store store size s e = record {
  some_files = s.some_files;
  few_files = s.few_files;
  distinct_files = s.distinct_files;
  delimiter = s.delimiter;
  size = e;
  few_variables = s.few_variables;
  formats = s.formats;
  places = s.places;
  few_selected = s.few_selected;
  distinct = s.distinct;
}

pub formatted_store : (store : SeenStore) (formats : List Format) → IsStore store → length formats ≡ length store.names → IsStore (record store { formats = formats })
formatted_store store formats s e = record {
  some_files = s.some_files;
  few_files = s.few_files;
  distinct_files = s.distinct_files;
  delimiter = s.delimiter;
  size = s.size;
  few_variables = s.few_variables;
  formats = e;
  places = s.places;
  few_selected = s.few_selected;
  distinct = s.distinct;
}

pub selecting_store : (store : SeenStore) (wanted : List (List ℕ)) (size : ReadSize) (formats : List Format) (places : List ℕ)
    → size ≡ store.size → formats ≡ store.formats → IsStore store → is_choice wanted ≡ true → Some places ≡ places_of store.names wanted
    → IsStore (record store { size = size; formats = formats; selected = places })
selecting_store store wanted size formats places p q s c e =
    subst (λ z. IsStore (record store { size = z; formats = formats; selected = places })) (sym p)
    (subst (λ fs. IsStore (record store { formats = fs; selected = places })) (sym q) (selected_store store wanted places s c (sym e)))
