-- Spaces of operands, by tests of their spaces.
use Rattle.std.specs.Prelude.{◌≡◌, refl, Bool, true, false, if◌then◌else◌, Result, Err}
use Rattle.std.proofs.Common.{ap, sym, ◌∙◌}
use Rattle.tall_semantics.specs.Spaces.{Space, single, is_single}
use Rattle.tall_semantics.specs.Equality.{same_space}
use Rattle.tall_semantics.specs.Shapes.{ShapeRefusal, incompatible, common}
use Rattle.tall_semantics.proofs.ShapeLaws.{space_ok}

pub common_left : (s t : Space) → is_single s ≡ true → space_ok t ≡ common s t
common_left single t h = refl
common_left s t h = absurd (cc)

pub common_right : (s t : Space) → is_single s ≡ false → is_single t ≡ true → space_ok s ≡ common s t
common_right single t g h = absurd (cc)
common_right s single g h = refl
common_right s t g h = absurd (cc)

common_both : (s t : Space) → is_single s ≡ false → is_single t ≡ false → (if same_space s t then space_ok s else Err incompatible) ≡ common s t
common_both single t g h = absurd (cc)
common_both s single g h = absurd (cc)
common_both s t g h = refl

tested : Bool → Space → Result Space ShapeRefusal
tested b s = if b then space_ok s else Err incompatible

pub common_same : (s t : Space) → is_single s ≡ false → is_single t ≡ false → same_space s t ≡ true → space_ok s ≡ common s t
unfolding tested
common_same s t g h e = ap (λ b. tested b s) (sym e) ∙ common_both s t g h

pub common_other : (s t : Space) → is_single s ≡ false → is_single t ≡ false → same_space s t ≡ false → Err incompatible ≡ common s t
unfolding tested
common_other s t g h e = ap (λ b. tested b s) (sym e) ∙ common_both s t g h
