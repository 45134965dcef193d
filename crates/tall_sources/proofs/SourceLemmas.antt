-- Datastores and their calls, side by side.
use Rattle.std.specs.Prelude.{◌≡◌, refl, ℕ, zero, suc, ◌<◌, List, [], ◌∷◌, ◌++◌, length, map, get_or, slice_get, None, Some}
use Rattle.std.proofs.Common.{ap, sym, subst, ◌∙◌, arith}
use Rattle.std.proofs.lemmas.Option.{slice_get-get_or}
use Rattle.tall_semantics.specs.Faults as semantics
use Rattle.tall_store.specs.Stores.{SeenStore}
use Rattle.tall_stored.specs.StoredColumns.{Store}
use Rattle.tall_deferred.specs.declared.values.At.{At}
use Rattle.tall_deferred.specs.Values.{at_seen}
use Rattle.tall_sources.specs.Sources.{called, store_in}

fewer : (m n : ℕ) → suc m ≡ suc n → m ≡ n
fewer m n e = omega (arith, e)

pub stores_in : (calls : List At) (stores : List SeenStore) → length calls ≡ length stores → stores ≡ map store_in (called calls stores)
stores_in [] [] l = refl
stores_in [] (s ∷ stores) l = absurd (omega (arith, l))
stores_in (at ∷ calls) [] l = absurd (omega (arith, l))
stores_in (at ∷ calls) (s ∷ stores) l = ap (λ xs. s ∷ xs) (stores_in calls stores (fewer (length calls) (length stores) l))

pub as_many : (calls : List At) (stores : List SeenStore) → length calls ≡ length stores → length stores ≡ length (called calls stores)
as_many [] [] l = refl
as_many [] (s ∷ stores) l = absurd (omega (arith, l))
as_many (at ∷ calls) [] l = absurd (omega (arith, l))
as_many (at ∷ calls) (s ∷ stores) l = ap suc (as_many calls stores (fewer (length calls) (length stores) l))

pub one_more : (calls : List At) (stores : List SeenStore) (at : At) (s : SeenStore) → length calls ≡ length stores → called (calls ++ at ∷ []) (stores ++ s ∷ []) ≡ called calls stores ++ record { at = at_seen at; store = s } ∷ []
one_more [] [] at s l = refl
one_more [] (t ∷ stores) at s l = absurd (omega (arith, l))
one_more (a ∷ calls) [] at s l = absurd (omega (arith, l))
one_more (a ∷ calls) (t ∷ stores) at s l = ap (λ xs. record { at = at_seen a; store = t } ∷ xs) (one_more calls stores at s (fewer (length calls) (length stores) l))

inside : (x y : Store) → Some x ≡ Some y → x ≡ y
inside x y e = ap (λ o. elim o [ Some z ↦ z | None ↦ x ]) e

pub at_place : (calls : List At) (stores : List SeenStore) (place : ℕ) (at : At) (s : SeenStore) (d : Store) → slice_get (called calls stores) place ≡ Some d
    → (record { at = at_seen (get_or calls place at); store = get_or stores place s } ≡ d)
at_place [] stores place at s d e = absurd cc
at_place (a ∷ calls) [] place at s d e = absurd cc
at_place (a ∷ calls) (t ∷ stores) zero at s d e = inside (record { at = at_seen a; store = t }) d e
at_place (a ∷ calls) (t ∷ stores) (suc place) at s d e = at_place calls stores place at s d e

abbrev made : semantics.At → SeenStore → Store
made a t = record { at = a; store = t }

-- what is known of the kept datastores
module _ (calls : List At) (stores : List SeenStore) (now : List Store) (same : length calls ≡ length stores) (view : called calls stores ≡ now) where
  pub call_there : (place : ℕ) → place < length now → place < length calls
  call_there place l = subst (λ n. place < n) (ap length (sym view) ∙ (sym (as_many calls stores same) ∙ sym same)) l

  pub store_there : (place : ℕ) → place < length now → place < length stores
  store_there place l = subst (λ n. place < n) (ap length (sym view) ∙ sym (as_many calls stores same)) l

  pub count : length stores ≡ length now
  count = as_many calls stores same ∙ ap length view

  pub listed : stores ≡ map store_in now
  listed = stores_in calls stores same ∙ ap (map store_in) view

  pub call_of : (place : ℕ) (at : At) (d : Store) → at ≡ get_or calls place at → slice_get now place ≡ Some d → at_seen at ≡ d.at
  call_of place at d e h = ap at_seen e ∙ ap (λ (x : Store). x.at) (at_place calls stores place at d.store d (subst (λ xs. slice_get xs place ≡ Some d) (sym view) h))

  pub one_added : (more : List At) (others : List SeenStore) (at : At) (s : SeenStore) → more ≡ calls ++ at ∷ [] → others ≡ stores ++ s ∷ [] → called more others ≡ now ++ record { at = at_seen at; store = s } ∷ []
  one_added more others at s e h =
      ap (λ cs. called cs others) e ∙ (ap (called (calls ++ at ∷ [])) h ∙ (one_more calls stores at s same ∙ ap (λ xs. xs ++ record { at = at_seen at; store = s } ∷ []) view))

  pub entry : (place : ℕ) (at : At) (s : SeenStore) → place < length now → ((d : Store) → slice_get now place ≡ Some d → at_seen at ≡ d.at) → s ≡ get_or stores place s
      → slice_get now place ≡ Some (record { at = at_seen at; store = s })
  entry place at s l h e =
      let r : Store = record { at = at_seen at; store = s } in
      let d = get_or now place r in
      let there : slice_get now place ≡ Some d = slice_get-get_or now place r l in
      let is = at_place calls stores place at s d (subst (λ xs. slice_get xs place ≡ Some d) (sym view) there) in
      there ∙ sym (ap (λ a. Some (made a s)) (h d there) ∙ ap (λ t. Some (made d.at t)) (e ∙ ap (λ (x : Store). x.store) is))

pub same_store : (now : List Store) (place : ℕ) (d e : Store) → slice_get now place ≡ Some d → slice_get now place ≡ Some e → d ≡ e
same_store now place d e h k = inside d e (sym h ∙ k)
