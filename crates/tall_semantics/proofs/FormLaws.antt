-- The place of the first equal one: equal exactly for equal ones, and the same in a longer list.
use Rattle.std.specs.Prelude.{◌≡◌, refl, ℕ, zero, suc, ◌⊎◌, ◌↔◌, Bool, true, false, if◌then◌else◌, Some, List, [], ◌∷◌, ◌++◌, slice_get}
use Rattle.std.proofs.Common.{ap, sym, subst, ◌∙◌, inl, inr}
use Rattle.std.specs.Bool.{Decides}
use Rattle.tall_semantics.proofs.Basics.{inside}
use Rattle.tall_semantics.specs.Forms.{first_place}

module _ {A : Type 0} (same : A → A → Bool) (decides : (a b : A) → Decides (same a b) (a ≡ b)) where
  -- the first of the list, or not
  tested : (b : Bool) (m : ℕ) → ((b ≡ true) × ((if b then 0 else suc m) ≡ 0)) ⊎ ((b ≡ false) × ((if b then 0 else suc m) ≡ suc m))
  tested true m = inl (refl, refl)
  tested false m = inr (refl, refl)

  differs : (x y : A) → same y x ≡ false → Some y ≡ Some x → ⊥
  differs x y h e = let t : same y x ≡ true = (decides y x).1 (inside y x e) in absurd (cc)

  -- what stands at the first place of what is in the list
  there : (ts : List A) (i : ℕ) (x : A) → slice_get ts i ≡ Some x → slice_get ts (first_place same x ts) ≡ Some x
  there [] i x e = absurd (cc)
  there (t ∷ ts) zero x e = elim (tested (same t x) (first_place same x ts)) [
    | inl h ↦ subst (λ k. slice_get (t ∷ ts) k ≡ Some x) (sym h.1) e
    | inr h ↦ absurd (differs x t h.0 e)
  ]
  there (t ∷ ts) (suc i) x e = elim (tested (same t x) (first_place same x ts)) [
    | inl h ↦ subst (λ k. slice_get (t ∷ ts) k ≡ Some x) (sym h.1) (ap Some ((decides t x).0 h.0))
    | inr h ↦ subst (λ k. slice_get (t ∷ ts) k ≡ Some x) (sym h.1) (there ts i x e)
  ]

  pub exact : (ts : List A) (i j : ℕ) (x y : A) → slice_get ts i ≡ Some x → slice_get ts j ≡ Some y → (first_place same x ts ≡ first_place same y ts) ↔ (x ≡ y)
  exact ts i j x y e g = (λ h. inside x y (sym (there ts i x e) ∙ (ap (slice_get ts) h ∙ there ts j y g)), λ h. ap (λ z. first_place same z ts) h)

  pub longer : (ts us : List A) (i : ℕ) (x : A) → slice_get ts i ≡ Some x → first_place same x (ts ++ us) ≡ first_place same x ts
  longer [] us i x e = absurd (cc)
  longer (t ∷ ts) us zero x e =
      let h : same t x ≡ true = (decides t x).1 (inside t x e) in
      ap (λ b. if b then 0 else suc (first_place same x (ts ++ us))) h ∙ sym (ap (λ b. if b then 0 else suc (first_place same x ts)) h)
  longer (t ∷ ts) us (suc i) x e = ap (λ n. if same t x then 0 else suc n) (longer ts us i x e)
