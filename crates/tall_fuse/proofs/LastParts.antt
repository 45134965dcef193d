-- The last part that has something, of parts one after another.
use Rattle.std.proofs.Common.{◌≡◌, refl, ap, sym, ◌∙◌, ℕ, Bool, true, if◌then◌else◌, Option, None, Some, Result, Ok, Err, OnOk, List, [], ◌∷◌, ◌++◌}
use Rattle.std.specs.Result.{is_ok}
use Rattle.tall_fuse.specs.Results.{or_else}
use Rattle.tall_fuse.specs.Kept.{carry, carry_here, found, found_here, last_in}
use Rattle.tall_fuse.specs.declared.parts.Part.{Part}
use Rattle.tall_fuse.specs.declared.known.Known.{Known}

pub or_else_assoc : {X : Type 0} (x y z : Option X) → or_else (or_else x y) z ≡ or_else x (or_else y z)
or_else_assoc None y z = refl
or_else_assoc (Some x) y z = refl

pub or_else_none : {X : Type 0} (x : Option X) → or_else x None ≡ x
or_else_none None = refl
or_else_none (Some x) = refl

pub last_append : {X : Type 0} (f : Part → Option X) (ps qs : List Part) → last_in f (ps ++ qs) ≡ or_else (last_in f qs) (last_in f ps)
last_append f [] qs = sym (or_else_none (last_in f qs))
last_append f (p ∷ ps) qs = ap (λ x. or_else x (f p)) (last_append f ps qs) ∙ or_else_assoc (last_in f qs) (last_in f ps) (f p)

-- a part, and then another's parts
pub joined : {X : Type 0} (f : Part → Option X) (before latest : Part) (ps qs : List Part)
    → or_else (f latest) (last_in f ((ps ++ before ∷ []) ++ qs)) ≡ or_else (or_else (f latest) (last_in f qs)) (or_else (f before) (last_in f ps))
joined f before latest ps qs =
    ap (or_else (f latest)) (last_append f (ps ++ before ∷ []) qs ∙ ap (or_else (last_in f qs)) (last_append f ps (before ∷ [])))
    ∙ sym (or_else_assoc (f latest) (last_in f qs) (or_else (f before) (last_in f ps)))

-- ---- all that one has, and then all that another has

module _ (known later now : Known) (latest : now.current ≡ later.current) where
  abbrev Follows : (refused : Bool) → Type 0
  Follows ok = now.earlier.items ≡ (if ok then (known.earlier.items ++ known.current ∷ []) ++ later.earlier.items else known.earlier.items ++ known.current ∷ [])

  last_joined : {X : Type 0} (f : Part → Option X) → Follows true
      → or_else (f now.current) (last_in f now.earlier.items) ≡ or_else (or_else (f later.current) (last_in f later.earlier.items)) (or_else (f known.current) (last_in f known.earlier.items))
  last_joined f is =
      ap (λ p. or_else (f p) (last_in f now.earlier.items)) latest ∙ ap (λ ps. or_else (f later.current) (last_in f ps)) is
      ∙ joined f known.current later.current known.earlier.items later.earlier.items

  pub found_joined : {E : Type 0} (r : Result (Unit {0}) E) → Follows (is_ok r) → OnOk r ((j : ℕ) → found now j ≡ or_else (found later j) (found known j))
  found_joined (Ok u) is = λ j. last_joined (λ p. found_here p j) is
  found_joined (Err e) is = tt

  pub carry_joined : {E : Type 0} (r : Result (Unit {0}) E) → Follows (is_ok r) → OnOk r ((j b : ℕ) → carry now j b ≡ or_else (carry later j b) (carry known j b))
  carry_joined (Ok u) is = λ j b. last_joined (λ p. carry_here p j b) is
  carry_joined (Err e) is = tt
