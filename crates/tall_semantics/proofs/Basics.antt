-- Facts of options and tests.
use Rattle.std.specs.Prelude.{◌≡◌, refl, ◌⊎◌, Bool, true, false, ◌&&◌, ◌||◌, None, Some}
use Rattle.std.proofs.Common.{ap, inl, inr}

pub inside : {A : Type 0} (x y : A) → Some x ≡ Some y → x ≡ y
inside x y h = ap (λ o. elim o [ Some z ↦ z | None ↦ x ]) h

pub both : (a b : Bool) → (a && b) ≡ true → (a ≡ true) × (b ≡ true)
both true b h = (refl, h)
both false b h = absurd (cc)

pub and_true : (a b : Bool) → a ≡ true → b ≡ true → (a && b) ≡ true
and_true true b g h = h
and_true false b g h = absurd (cc)

pub either : (a b : Bool) → (a || b) ≡ true → (a ≡ true) ⊎ (b ≡ true)
either true b h = inl refl
either false b h = inr h

pub first_false : (a b : Bool) → (a || b) ≡ false → a ≡ false
first_false true b h = h
first_false false b h = refl
