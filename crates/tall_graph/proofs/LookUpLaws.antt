-- What a look-up in a map, or in a set of texts, tells of numbers.
use Rattle.std.specs.Prelude.{◌≡◌, refl, Result, Ok, Err, IsOk, OnOk, ℕ, zero, suc, ◌+◌, Bool, true, false, cond, nat_lt, if◌then◌else◌, Option, None, Some, List, [], ◌∷◌, ◌++◌, length, map, slice_get, get_or, option_map, String, string_bytes, string_eq, bytes_eq, position}
use Rattle.std.proofs.Common.{ap, sym, subst, ◌∙◌, inl, inr, arith}
use Rattle.std.specs.Bool.{one_answer}
use Rattle.std.specs.List.{list_any, position_or_len}
use Rattle.std.specs.Map.{lookup}
use Rattle.std.proofs.lemmas.List.{append-nil, map-append}
use Rattle.std.proofs.lemmas.List.Recursion.{is_position_or_len}
use Rattle.std.proofs.lemmas.List.Quantifiers.{position-Some}
use Rattle.std.proofs.lemmas.Map.Entries.{place_from_lookup}
use Rattle.std.proofs.lemmas.Option.{slice_get-get_or, slice_get-map}
use Rattle.std.proofs.lemmas.Slice.Eq.{bytes_eq-Decides}
use Rattle.indexmap.specs.IndexSet.{insert_key}
use Rattle.indexmap.specs.IndexMap.{IndexMap, get, insert_entry}
use Rattle.indexmap.proofs.CallerLemmas.{insert_entry-new}
use Rattle.tall_semantics.specs.Forms.{first_place}
use Rattle.tall_semantics.proofs.Basics.{inside}
use Rattle.tall_graph.specs.Numbers.{IsNumber, Holds, IsLookedUp, Grows}

module _ {K : Type 0} (eq : K → K → Bool) (exact : (a b : K) → eq a b ≡ true → a ≡ b) (same : (a : K) → eq a a ≡ true) where
  pub found : (es : List (K × ℕ)) (k : K) (n : ℕ) → lookup (eq k) es ≡ Some n → Holds es k n
  found es k n h =
      let w = place_from_lookup (eq k) es n h in
      (w.0, subst (λ l. slice_get es w.0 ≡ Some (l, n)) (sym (exact k w.1 w.3)) w.2)

  taken : (b : Bool) (m : ℕ) (r : Option ℕ) → cond b (Some m) r ≡ None → (b ≡ false) × (r ≡ None)
  taken true m r h = absurd (cc)
  taken false m r h = (refl, h)

  pub absent : (es : List (K × ℕ)) (k : K) → lookup (eq k) es ≡ None → (m : ℕ) → Holds es k m → ⊥
  absent [] k none m h = let e = h.1 in cc
  absent (e ∷ es) k none m (zero, at) =
      let t = taken (eq k e.0) e.1 (lookup (eq k) es) none in
      let s : eq k e.0 ≡ true = ap (λ (p : K × ℕ). eq k p.0) (inside e (k, m) at) ∙ same k in
      let u : true ≡ false = sym s ∙ t.0 in
      absurd (cc)
  absent (e ∷ es) k none m (suc j, at) = absent es k (taken (eq k e.0) e.1 (lookup (eq k) es) none).1 m (j, at)

  pub there : (es : List (K × ℕ)) (k : K) (place n : ℕ) → lookup (eq k) es ≡ Some n → IsLookedUp es k place n es
  there es k place n h = inl (found es k n h, refl)

  pub added : (es fs : List (K × ℕ)) (k : K) (place : ℕ) → lookup (eq k) es ≡ None → fs ≡ es ++ (k, place) ∷ [] → IsLookedUp es k place place fs
  added es fs k place h e = inr (absent es k h, refl, e)

-- ---- texts

turned : (s t : List ℕ) → bytes_eq s t ≡ bytes_eq t s
turned s t = one_answer (bytes_eq s t) (bytes_eq t s) (bytes_eq-Decides s t) (λ e. sym ((bytes_eq-Decides t s).0 e), λ e. (bytes_eq-Decides t s).1 (sym e))

module _ {Z : Type 0} (test : String Z → Bool) (t : List ℕ) (tests : (k : String Z) → test k ≡ bytes_eq t (string_bytes k)) where
  step : (b d : Bool) (m : ℕ) → d ≡ b → (if b then 0 else suc m) ≡ cond d 0 (1 + m)
  step true true m h = refl
  step true false m h = absurd (cc)
  step false true m h = absurd (cc)
  step false false m h = omega arith

  pub first_text : (ks : List (String Z)) → first_place bytes_eq t (map string_bytes ks) ≡ position_or_len test ks
  first_text = is_position_or_len (λ ks. first_place bytes_eq t (map string_bytes ks)) test refl
      (λ k ks. step (bytes_eq (string_bytes k) t) (test k) (first_place bytes_eq t (map string_bytes ks)) (tests k ∙ turned t (string_bytes k)))

  place_is : (b : Bool) (m i : ℕ) → cond b (Some m) None ≡ Some i → m ≡ i
  place_is true m i h = inside_number m i h
    where
      inside_number : (m i : ℕ) → Some m ≡ Some i → m ≡ i
      inside_number m i h = cc
  place_is false m i h = absurd (cc)

  found_at : (ks : List (String Z)) (i : ℕ) (d : String Z) → position test ks ≡ Some i → IsNumber bytes_eq (map string_bytes ks) i t
  found_at ks i d h =
      let w = position-Some test ks i d h in
      let e : t ≡ string_bytes (get_or ks i d) = (bytes_eq-Decides t (string_bytes (get_or ks i d))).0 (sym (tests (get_or ks i d)) ∙ w.1) in
      record {
        place = i;
        there = slice_get-map string_bytes ks i ∙ (ap (option_map string_bytes) (slice_get-get_or ks i d w.0) ∙ ap Some (sym e));
        first = first_text ks ∙ place_is (nat_lt (position_or_len test ks) (length ks)) (position_or_len test ks) i h;
      }

  pub text_found : (ks : List (String Z)) (i : ℕ) → position test ks ≡ Some i → IsNumber bytes_eq (map string_bytes ks) i t
  text_found [] i h = absurd (cc)
  text_found (k ∷ ks) i h = found_at (k ∷ ks) i k h

zero_or_one : Bool → ℕ
zero_or_one b = if b then 0 else 1

alone : (b : Bool) → b ≡ true → zero_or_one b ≡ 0
unfolding zero_or_one
alone true h = refl
alone false h = absurd (cc)

-- a text at the end comes first where it stands first, or last where it was not there
first_push : (xs : List (List ℕ)) (x : List ℕ) → first_place bytes_eq x (xs ++ x ∷ []) ≡ first_place bytes_eq x xs
unfolding zero_or_one
first_push [] x = alone (bytes_eq x x) ((bytes_eq-Decides x x).1 refl)
first_push (y ∷ xs) x = ap (λ m. if bytes_eq y x then 0 else suc m) (first_push xs x)

module _ {Z : Type 0} (ks : List (String Z)) (kept : String Z) where
  texts_with : Bool → List (List ℕ)
  texts_with b = map string_bytes (if b then ks else ks ++ kept ∷ [])

  first_with : (b : Bool) → first_place bytes_eq (string_bytes kept) (texts_with b) ≡ position_or_len (string_eq kept) ks
  unfolding texts_with
  first_with true = first_text (string_eq kept) (string_bytes kept) (λ k. refl) ks
  first_with false =
      ap (first_place bytes_eq (string_bytes kept)) (map-append string_bytes ks (kept ∷ []))
      ∙ (first_push (map string_bytes ks) (string_bytes kept) ∙ first_text (string_eq kept) (string_bytes kept) (λ k. refl) ks)

  grows_with : (b : Bool) → Grows (map string_bytes ks) (texts_with b)
  unfolding texts_with
  grows_with true = ([], sym (append-nil (map string_bytes ks)))
  grows_with false = (string_bytes kept ∷ [], map-append string_bytes ks (kept ∷ []))

  pub text_grows : (new : List (String Z)) → new ≡ insert_key string_eq ks kept → Grows (map string_bytes ks) (map string_bytes new)
  unfolding texts_with
  text_grows new e = subst (λ ns. Grows (map string_bytes ks) (map string_bytes ns)) (sym e) (grows_with (list_any (string_eq kept) ks))

  pub text_new : (new : List (String Z)) (n : ℕ) (k : String Z) (t : List ℕ) → string_bytes kept ≡ t → new ≡ insert_key string_eq ks kept → n ≡ position_or_len (string_eq kept) ks
      → slice_get new n ≡ Some k → string_eq kept k ≡ true → IsNumber bytes_eq (map string_bytes new) n t
  unfolding texts_with
  text_new new n k t is e number at same =
      let f : first_place bytes_eq (string_bytes kept) (map string_bytes new) ≡ n =
      ap (λ ns. first_place bytes_eq (string_bytes kept) (map string_bytes ns)) e ∙ (first_with (list_any (string_eq kept) ks) ∙ sym number) in
      let b : string_bytes kept ≡ string_bytes k = (bytes_eq-Decides (string_bytes kept) (string_bytes k)).0 same in
      record {
        place = n;
        there = slice_get-map string_bytes new n ∙ (ap (option_map string_bytes) at ∙ ap Some (sym b ∙ is));
        first = ap (λ u. first_place bytes_eq u (map string_bytes new)) (sym is) ∙ f;
      }

-- ---- an insert that has room

on_ok : {A E : Type 0} (r : Result A E) (P : Type 0) → IsOk r → OnOk r P → P
on_ok (Ok a) P is h = h
on_ok (Err e) P is h = absurd (cc)

pub inserted : {K S A E : Type 0} (eq : K → K → Bool) (m : IndexMap K ℕ S) (new : List (K × ℕ)) (k : K) (n : ℕ) (r : Result A E)
    → get eq m k ≡ None → IsOk r → OnOk r (new ≡ insert_entry eq m.entries k n) → new ≡ m.entries ++ (k, n) ∷ []
inserted eq m new k n r none is e = on_ok r (new ≡ insert_entry eq m.entries k n) is e ∙ insert_entry-new eq m k n none
