-- A table of numbers with one thing more, and what its look-up told.
use Rattle.std.specs.Prelude.{◌≡◌, refl, ℕ, suc, Bool, true, false, if◌then◌else◌, Some, List, [], ◌∷◌, ◌++◌, length, slice_get}
use Rattle.std.proofs.Common.{ap, sym, subst, ◌∙◌, inl, inr}
use Rattle.std.specs.Bool.{Decides}
use Rattle.tall_semantics.specs.Forms.{first_place}
use Rattle.tall_semantics.proofs.FormLaws.{exact, longer}
use Rattle.tall_semantics.proofs.InOrderLaws.{get_left, get_last, old_or_new}
use Rattle.tall_graph.specs.Numbers.{IsNumber, Holds, IsTable, IsLookedUp}

module _ {A : Type 0} (same : A → A → Bool) (decides : (a b : A) → Decides (same a b) (a ≡ b)) where
  pub one_value : (xs : List A) (n : ℕ) (x y : A) → IsNumber same xs n x → IsNumber same xs n y → x ≡ y
  one_value xs n x y p q = (exact same decides xs p.place q.place x y p.there q.there).0 (p.first ∙ sym q.first)

  pub number_longer : (xs zs : List A) (n : ℕ) (x : A) → IsNumber same xs n x → IsNumber same (xs ++ zs) n x
  number_longer xs zs n x p = record {
    place = p.place;
    there = get_left xs zs p.place x p.there;
    first = longer same decides xs zs p.place x p.there ∙ p.first;
  }

  first_step : (b : Bool) (m n : ℕ) → b ≡ false → m ≡ n → (if b then 0 else suc m) ≡ suc n
  first_step true m n h e = absurd (cc)
  first_step false m n h e = ap suc e

  first_alone : (b : Bool) (m : ℕ) → b ≡ true → (if b then 0 else suc m) ≡ 0
  first_alone true m h = refl
  first_alone false m h = absurd (cc)

  false_of : (b : Bool) → (b ≡ true → ⊥) → b ≡ false
  false_of true h = absurd (h refl)
  false_of false h = refl

  -- what is new has the place at the end
  pub first_new : (xs : List A) (x : A) → ((i : ℕ) → slice_get xs i ≡ Some x → ⊥) → first_place same x (xs ++ x ∷ []) ≡ length xs
  first_new [] x new = first_alone (same x x) 0 ((decides x x).1 refl)
  first_new (y ∷ xs) x new =
      first_step (same y x) (first_place same x (xs ++ x ∷ [])) (length xs) (false_of (same y x) (λ h. new 0 (ap Some ((decides y x).0 h)))) (first_new xs x (λ i e. new (suc i) e))

-- R holds of the keys and the list before, R' of the list with one thing more
module _ {K A : Type 0} (same : A → A → Bool) (decides : (a b : A) → Decides (same a b) (a ≡ b)) (R R' : K → A → Type 0)
    (grows : (k : K) (x : A) → R k x → R' k x) (one : (k : K) (x y : A) → R' k x → R' k y → x ≡ y) (one_key : (k l : K) (x : A) → R' k x → R' l x → k ≡ l) where
  pub record IsNext (old new : List (K × ℕ)) (xs : List A) (x : A) (n : ℕ) : Type 0 where
    pub number : first_place same x (xs ++ x ∷ []) ≡ n
    pub table : IsTable same R' new (xs ++ x ∷ [])

  there : (old : List (K × ℕ)) (xs : List A) (x : A) (k : K) (n : ℕ) → IsTable same R old xs → R' k x → Holds old k n → IsNext old old xs x n
  there old xs x k n table r h =
      let t = table.told k n h in
      let e : t.0 ≡ x = one k t.0 x (grows k t.0 t.1) r in
      let is : IsNumber same (xs ++ x ∷ []) n x = number_longer same decides xs (x ∷ []) n x (subst (λ y. IsNumber same xs n y) e t.2) in
      record {
        number = is.first;
        table = record {
          known = λ i y g. elim (old_or_new xs x y i g) [
            | inl before ↦
                let w = table.known i y before in
                (w.0, grows w.0 y w.1, subst (λ m. Holds old w.0 m) (sym (longer same decides xs (x ∷ []) i y before)) w.2)
            | inr last ↦ (k, subst (λ z. R' k z) last.1 r, subst (λ z. Holds old k (first_place same z (xs ++ x ∷ []))) last.1 (subst (λ m. Holds old k m) (sym is.first) h))
          ];
          told = λ l m g. (let w = table.told l m g in (w.0, grows l w.0 w.1, number_longer same decides xs (x ∷ []) m w.0 w.2));
        };
      }

  more : (old : List (K × ℕ)) (xs : List A) (x : A) (k : K) → IsTable same R old xs → R' k x → ((m : ℕ) → Holds old k m → ⊥)
      → IsNext old (old ++ (k, length xs) ∷ []) xs x (length xs)
  more old xs x k table r absent =
      let new = old ++ (k, length xs) ∷ [] in
      let fresh : (i : ℕ) → slice_get xs i ≡ Some x → ⊥ = λ i g.
      (let w = table.known i x g in absent (first_place same x xs) (subst (λ l. Holds old l (first_place same x xs)) (one_key w.0 k x (grows w.0 x w.1) r) w.2)) in
      let first : first_place same x (xs ++ x ∷ []) ≡ length xs = first_new same decides xs x fresh in
      record {
        number = first;
        table = record {
          known = λ i y g. elim (old_or_new xs x y i g) [
            | inl before ↦
                let w = table.known i y before in (
                  w.0,
                  grows w.0 y w.1,
                  (
                    w.2.0,
                    get_left old ((k, length xs) ∷ []) w.2.0 (w.0, first_place same y (xs ++ x ∷ []))
                        (subst (λ m. slice_get old w.2.0 ≡ Some (w.0, m)) (sym (longer same decides xs (x ∷ []) i y before)) w.2.1),
                  ),
                )
            | inr last ↦ (
              k,
              subst (λ z. R' k z) last.1 r,
              (
                length old,
                subst (λ z. slice_get new (length old) ≡ Some (k, first_place same z (xs ++ x ∷ []))) last.1
                    (subst (λ m. slice_get new (length old) ≡ Some (k, m)) (sym first) (get_last old (k, length xs))),
              ),
            )
          ];
          told = λ l m g. elim (old_or_new old (k, length xs) (l, m) g.0 g.1) [
            | inl before ↦
                let w = table.told l m (g.0, before) in
                (w.0, grows l w.0 w.1, number_longer same decides xs (x ∷ []) m w.0 w.2)
            | inr last ↦
                let lk : k ≡ l = ap (λ (p : K × ℕ). p.0) last.1 in
                let nm : length xs ≡ m = ap (λ (p : K × ℕ). p.1) last.1 in
                (x, subst (λ j. R' j x) lk r, record { place = length xs; there = get_last xs x; first = first ∙ nm })
          ];
        };
      }

  -- the number that the look-up told is that of the list's new last, and the table serves the longer list
  pub looked_up : (old new : List (K × ℕ)) (xs : List A) (x : A) (k : K) (n : ℕ) → IsTable same R old xs → R' k x → IsLookedUp old k (length xs) n new → IsNext old new xs x n
  looked_up old new xs x k n table r h = elim h [
    | inl found ↦ subst (λ es. IsNext old es xs x n) (sym found.1) (there old xs x k n table r found.0)
    | inr absent ↦ subst (λ es. IsNext old es xs x n) (sym absent.2) (subst (λ m. IsNext old (old ++ (k, length xs) ∷ []) xs x m) (sym absent.1) (more old xs x k table r absent.0))
  ]
