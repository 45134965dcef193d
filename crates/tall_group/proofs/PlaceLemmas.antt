-- Places of keys: of one that is there, and of a new one.
use Rattle.std.specs.Prelude.{◌≡◌, refl, ℕ, zero, suc, ◌+◌, ◌<◌, ◌||◌, Bool, true, false, if◌then◌else◌, Option, None, Some, List, [], ◌∷◌, ◌++◌, length, get_or, map, position, take}
use Rattle.std.proofs.Common.{ap, sym, subst, ◌∙◌, arith, length-append}
use Rattle.std.specs.List.{list_any, AllByRecursion}
use Rattle.std.specs.Map.{keys_of}
use Rattle.std.specs.Cmp.{tied_itself}
use Rattle.std.proofs.lemmas.List.{length-map, map-append, take-map}
use Rattle.std.specs.Ordering.{is_eq}
use Rattle.std.proofs.lemmas.List.Quantifiers.{position-Some}
use Rattle.indexmap.specs.IndexMap.{insert_entry}
use Rattle.indexmap.proofs.MapLemmas.{Missing-position, insert_entry-absent}
use Rattle.std.specs.Str.{bytes_eq}
use Rattle.std.proofs.lemmas.Map.Text.{is_eq-slice_cmp}
use Rattle.tall_value.specs.Cells.{Seen, text}
use Rattle.tall_value.specs.CellOrder.{cell_order}
use Rattle.tall_value.specs.Groups.{is_of_group}
use Rattle.tall_value.proofs.OrderLaws.{cells_total}
use Rattle.tall_group.specs.Keys.{found, with_key, IsPlaced}
use Rattle.tall_value.specs.declared.class.Kind.{Kind}
use Rattle.tall_group.specs.Numbers.{key_cell, number_of}
use Rattle.tall_group.specs.Tables.{ArePlaces, AreExact, IsNumeric, number_cells}
use Rattle.tall_group.specs.declared.numbers.Number.{Number}
use Rattle.tall_group.specs.declared.numbers.Number.TheVariants.{Whole, Nan}
use Rattle.tall_group.specs.contracts.numbers.NumberPartialEq.TheImpl as same
use Rattle.tall_group.proofs.NumberLemmas.{number_eq, cells_equal}

pub group_itself : (c : Seen) → is_of_group c c ≡ true
group_itself c = ap is_eq (tied_itself cells_total c)

pub last_of : {A : Type 0} (xs : List A) (x d : A) → get_or (xs ++ x ∷ []) (length xs) d ≡ x
last_of [] x d = refl
last_of (y ∷ xs) x d = last_of xs x d

pub earlier_of : {A : Type 0} (xs : List A) (x d : A) (i : ℕ) → i < length xs → get_or (xs ++ x ∷ []) i d ≡ get_or xs i d
earlier_of [] x d i l = absurd (omega arith)
earlier_of (y ∷ xs) x d zero l = refl
earlier_of (y ∷ xs) x d (suc i) l = earlier_of xs x d i (omega arith)

-- a fact of each place below, and of the next
pub by_last : (P : ℕ → Type 0) (n : ℕ) → ((i : ℕ) → i < n → P i) → P n → (i : ℕ) → i < n + 1 → P i
by_last P zero f g zero l = g
by_last P zero f g (suc i) l = absurd (omega arith)
by_last P (suc n) f g zero l = f zero (omega arith)
by_last P (suc n) f g (suc i) l = by_last (λ j. P (suc j)) n (λ j p. f (suc j) (omega (arith, p))) g i (omega (arith, l))

-- a new key's place is the next one
pub more_places : {K : Type 0} (es : List (K × ℕ)) (k : K) → ArePlaces es → ArePlaces (es ++ (k, length es) ∷ [])
more_places es k h i d l =
    by_last (λ j. (get_or (es ++ (k, length es) ∷ []) j d).1 ≡ j) (length es)
    (λ j p. ap (λ e. e.1) (earlier_of es (k, length es) d j p) ∙ h j d p)
    (ap (λ e. e.1) (last_of es (k, length es) d)) i (omega (arith, l, length-append es ((k, length es) ∷ [])))

pub new_place : (ks : List Seen) (c : Seen) → found c ks ≡ false → IsPlaced ks (ks ++ c ∷ []) c (length ks)
new_place ks c h =
    record {
      keys = sym (ap (λ b. if b then ks else ks ++ c ∷ []) h);
      within = omega (arith, length-append ks (c ∷ []));
      here = λ d. ap (is_of_group c) (last_of ks c d) ∙ group_itself c;
    }

module _ {K : Type 0} (test : K → Bool) (cell : K → Seen) (c : Seen) where
  abbrev pub shown : List (K × ℕ) → List Seen
  shown es = map (λ e. cell e.0) es

  -- the test tells the keys of the cell's group
  pub agrees : List (K × ℕ) → Type 0
  agrees [] = Unit {0}
  agrees (e ∷ es) = (is_of_group c (cell e.0) ≡ test e.0) × agrees es

  pub not_found : (es : List (K × ℕ)) → agrees es → AllByRecursion (λ k. test k ≡ false) (keys_of es) → found c (shown es) ≡ false
  unfolding agrees
  not_found [] a h = refl
  not_found (e ∷ es) a h = ap (λ b. b || found c (shown es)) (a.0 ∙ h.0) ∙ not_found es a.1 h.1

  pub record AtPlace (es : List (K × ℕ)) (i : ℕ) : Type 0 where
    pub there : found c (shown es) ≡ true
    pub here : (d : Seen) → is_of_group c (get_or (shown es) i d) ≡ true

  or_true : (a : Bool) → (a || true) ≡ true
  or_true true = refl
  or_true false = refl

  pub at : (es : List (K × ℕ)) (i : ℕ) (d : K) → agrees es → i < length (keys_of es) → test (get_or (keys_of es) i d) ≡ true → AtPlace es i
  unfolding agrees
  at [] i d a l t = absurd (omega arith)
  at (e ∷ es) zero d a l t = record { there = ap (λ b. b || found c (shown es)) (a.0 ∙ t); here = λ x. a.0 ∙ t }
  at (e ∷ es) (suc i) d a l t =
      let r = at es i d a.1 (omega arith) t in
      record { there = ap (λ b. is_of_group c (cell e.0) || b) r.there ∙ or_true (is_of_group c (cell e.0)); here = r.here }

  -- the place of a key that is there
  pub place_there : (es : List (K × ℕ)) (i : ℕ) → agrees es → position test (keys_of es) ≡ Some i → IsPlaced (shown es) (shown es) c i
  place_there [] i a e = absurd cc
  place_there (x ∷ xs) i a e =
      let es = x ∷ xs in
      let p = position-Some test (keys_of es) i x.0 e in
      let r = at es i x.0 a p.0 p.1 in
      record {
        keys = sym (ap (λ b. if b then shown es else shown es ++ c ∷ []) r.there);
        within = omega (arith, p.0, length-map es (λ (x : K × ℕ). x.0), length-map es (λ (x : K × ℕ). cell x.0));
        here = r.here;
      }

  -- the place of a key that isn't
  pub place_new : (es fs : List (K × ℕ)) (k : K) (i : ℕ) → agrees es → position test (keys_of es) ≡ None → cell k ≡ c → fs ≡ es ++ (k, length es) ∷ [] → i ≡ length es → IsPlaced (shown es) (shown fs) c i
  place_new es fs k i a e h f n =
      let more : shown fs ≡ shown es ++ c ∷ [] = ap shown f ∙ (map-append (λ (x : K × ℕ). cell x.0) es ((k, length es) ∷ []) ∙ ap (λ x. shown es ++ x ∷ []) h) in
      let at_end : length (shown es) ≡ i = length-map es (λ (x : K × ℕ). cell x.0) ∙ sym n in
      subst (λ ks. IsPlaced (shown es) ks c i) (sym more)
      (subst (λ j. IsPlaced (shown es) (shown es ++ c ∷ []) c j) at_end (new_place (shown es) c (not_found es a (Missing-position test es e).absent)))

-- ---- numbers

pub derived : (a b : Number) → same.eq-value.it a b ≡ number_eq a b
derived (Whole a) (Whole b) = refl
derived (Whole a) Nan = refl
derived Nan (Whole b) = refl
derived Nan Nan = refl

numbers_agree : (k : Kind) → IsNumeric k → (n : Number) → number_of (key_cell k n) ≡ n → (es : List (Number × ℕ)) → AreExact k es → agrees (same.eq-value.it n) (key_cell k) (key_cell k n) es
unfolding agrees
numbers_agree k h n e [] x = tt
numbers_agree k h n e (f ∷ es) x = (cells_equal k h n f.0 e x.0 ∙ sym (derived n f.0), numbers_agree k h n e es x.1)

pub more_exact : (k : Kind) (es : List (Number × ℕ)) (n : Number) (i : ℕ) → AreExact k es → number_of (key_cell k n) ≡ n → AreExact k (es ++ (n, i) ∷ [])
more_exact k [] n i x e = (e, tt)
more_exact k (f ∷ es) n i x e = (x.0, more_exact k es n i x.1 e)

module _ (k : Kind) (h : IsNumeric k) (n : Number) (c : Seen) (is : key_cell k n ≡ c) (e : n ≡ number_of c) where
  pub own_number : number_of (key_cell k n) ≡ n
  own_number = ap number_of is ∙ sym e

  pub number_there : (es : List (Number × ℕ)) (i : ℕ) → AreExact k es → Some i ≡ position (same.eq-value.it n) (keys_of es) → IsPlaced (number_cells k es) (number_cells k es) c i
  number_there es i x p =
      subst (λ d. IsPlaced (number_cells k es) (number_cells k es) d i) is
      (place_there (same.eq-value.it n) (key_cell k) (key_cell k n) es i (numbers_agree k h n own_number es x) (sym p))

  pub number_entries : (es fs : List (Number × ℕ)) (v : ℕ) → None ≡ position (same.eq-value.it n) (keys_of es) → fs ≡ insert_entry same.eq-value.it es n v → fs ≡ es ++ (n, v) ∷ []
  number_entries es fs v p f = f ∙ insert_entry-absent same.eq-value.it n v es (Missing-position (same.eq-value.it n) es (sym p)).absent

  pub number_exact : (es fs : List (Number × ℕ)) (v : ℕ) → AreExact k es → None ≡ position (same.eq-value.it n) (keys_of es) → fs ≡ insert_entry same.eq-value.it es n v → AreExact k fs
  number_exact es fs v x p f = subst (AreExact k) (sym (number_entries es fs v p f)) (more_exact k es n v x own_number)

  pub number_places : (es fs : List (Number × ℕ)) (v : ℕ) → ArePlaces es → None ≡ position (same.eq-value.it n) (keys_of es) → fs ≡ insert_entry same.eq-value.it es n v → v ≡ length es → ArePlaces fs
  number_places es fs v x p f l = subst ArePlaces (sym (number_entries es fs v p f ∙ ap (λ m. es ++ (n, m) ∷ []) l)) (more_places es n x)

  pub number_new : (es fs : List (Number × ℕ)) (v : ℕ) → AreExact k es → None ≡ position (same.eq-value.it n) (keys_of es) → fs ≡ insert_entry same.eq-value.it es n v → v ≡ length es → IsPlaced (number_cells k es) (number_cells k fs) c v
  number_new es fs v x p f l =
      subst (λ d. IsPlaced (number_cells k es) (number_cells k fs) d v) is
      (place_new (same.eq-value.it n) (key_cell k) (key_cell k n) es fs n v (numbers_agree k h n own_number es x) (sym p) refl (number_entries es fs v p f ∙ ap (λ m. es ++ (n, m) ∷ []) l) l)

-- ---- texts

module _ {K : Type 0} (bytes : K → List ℕ) (q : List ℕ) where
  abbrev is_text : K → Bool
  is_text k = bytes_eq q (bytes k)

  abbrev text_of : K → Seen
  text_of k = text (bytes k)

  texts_agree : (es : List (K × ℕ)) → agrees is_text text_of (text q) es
  unfolding agrees
  texts_agree [] = tt
  texts_agree (e ∷ es) = (is_eq-slice_cmp q (bytes e.0), texts_agree es)

  pub text_there : (es : List (K × ℕ)) (i : ℕ) → Some i ≡ position is_text (keys_of es) → IsPlaced (shown is_text text_of (text q) es) (shown is_text text_of (text q) es) (text q) i
  text_there es i p = place_there is_text text_of (text q) es i (texts_agree es) (sym p)

  module _ (k : K) (is : bytes k ≡ q) where
    absent_too : (es : List (K × ℕ)) → AllByRecursion (λ j. is_text j ≡ false) (keys_of es) → AllByRecursion (λ j. bytes_eq (bytes k) (bytes j) ≡ false) (keys_of es)
    absent_too [] h = tt
    absent_too (e ∷ es) h = (ap (λ b. bytes_eq b (bytes e.0)) is ∙ h.0, absent_too es h.1)

    pub text_entries : (es fs : List (K × ℕ)) (v : ℕ) → None ≡ position is_text (keys_of es) → fs ≡ insert_entry (λ a b. bytes_eq (bytes a) (bytes b)) es k v → fs ≡ es ++ (k, v) ∷ []
    text_entries es fs v p f = f ∙ insert_entry-absent (λ a b. bytes_eq (bytes a) (bytes b)) k v es (absent_too es (Missing-position is_text es (sym p)).absent)

    pub text_new : (es fs : List (K × ℕ)) (v : ℕ) → None ≡ position is_text (keys_of es) → fs ≡ insert_entry (λ a b. bytes_eq (bytes a) (bytes b)) es k v → v ≡ length es → IsPlaced (shown is_text text_of (text q) es) (shown is_text text_of (text q) fs) (text q) v
    text_new es fs v p f l = place_new is_text text_of (text q) es fs k v (texts_agree es) (sym p) (ap text is) (text_entries es fs v p f ∙ ap (λ m. es ++ (k, m) ∷ []) l) l

    pub text_places : (es fs : List (K × ℕ)) (v : ℕ) → ArePlaces es → None ≡ position is_text (keys_of es) → fs ≡ insert_entry (λ a b. bytes_eq (bytes a) (bytes b)) es k v → v ≡ length es → ArePlaces fs
    text_places es fs v x p f l = subst ArePlaces (sym (text_entries es fs v p f ∙ ap (λ m. es ++ (k, m) ∷ []) l)) (more_places es k x)

-- ---- the first keys alone

kept_at : {A : Type 0} (es : List A) (n i : ℕ) (d : A) → i < length (take n es) → (i < length es) × (get_or (take n es) i d ≡ get_or es i d)
kept_at [] zero i d l = absurd (omega arith)
kept_at [] (suc n) i d l = absurd (omega arith)
kept_at (e ∷ es) zero i d l = absurd (omega arith)
kept_at (e ∷ es) (suc n) zero d l = (omega arith, refl)
kept_at (e ∷ es) (suc n) (suc i) d l = (let h = kept_at es n i d (omega (arith, l)) in (omega (arith, h.0), h.1))

pub kept_places : {K : Type 0} (es fs : List (K × ℕ)) (n : ℕ) → fs ≡ take n es → ArePlaces es → ArePlaces fs
kept_places {K} es fs n e h = subst (λ (gs : List (K × ℕ)). ArePlaces gs) (sym e) (λ i d l. let k = kept_at es n i d l in ap (λ (x : K × ℕ). x.1) k.1 ∙ h i d k.0)

kept_exact : (kind : Kind) (es : List (Number × ℕ)) (n : ℕ) → AreExact kind es → AreExact kind (take n es)
kept_exact kind [] zero h = tt
kept_exact kind [] (suc n) h = tt
kept_exact kind (e ∷ es) zero h = tt
kept_exact kind (e ∷ es) (suc n) h = (h.0, kept_exact kind es n h.1)

pub kept_numbers : (kind : Kind) (es fs : List (Number × ℕ)) (n : ℕ) → fs ≡ take n es → AreExact kind es → AreExact kind fs
kept_numbers kind es fs n e h = subst (AreExact kind) (sym e) (kept_exact kind es n h)

pub kept_cells : {A : Type 0} (cell : A → Seen) (es fs : List A) (n : ℕ) → fs ≡ take n es → map cell fs ≡ take n (map cell es)
kept_cells cell es fs n e = ap (map cell) e ∙ sym (take-map cell n es)
