-- From the answers of a shelf to the names that were opened.
use Rattle.std.proofs.Common.{◌≡◌, ◌∙◌, ◌++◌, ◌∷◌, [], ℕ, List, Option, Some, None, sym, ap, subst, inl, inr}
use Rattle.std.proofs.lemmas.List.{append-nil, append_assoc}
use Rattle.tall_outside.specs.Shelf.{Logs}
use Rattle.tall_outside.specs.declared.shelf.Opening.{Opening}
use Rattle.tall_outside.specs.declared.shelf.Opening.TheVariants as o
use Rattle.tall_outside.specs.OpenedNames.{Adds, OpensOnce, OpensTwice}

abbrev Names : Type 0
Names = List (List ℕ)

-- no call, no name
pub adds_none : (before now : Option Names) → now ≡ before → Adds [] before now
adds_none before now e = subst (λ n. Adds [] before n) (sym e) (by before)
  where
    by : (names : Option Names) → Adds [] names names
    by None = tt
    by (Some names) = sym (append-nil names)

-- no call, no name more than once
pub none_once : (before now : Option Names) (name : List ℕ) → now ≡ before → OpensOnce name before now
none_once before now name e = inl (adds_none before now e)

-- a call of `open`
pub logs_once : (before now : Option Names) (name : List ℕ) (answer : Opening) → Logs before now name answer → OpensOnce name before now
logs_once None now name answer h = inl tt
logs_once (Some names) None name answer h = absurd h
logs_once (Some names) (Some all) name o.Opened h = inr h
logs_once (Some names) (Some all) name o.NoSuch h = inr h
logs_once (Some names) (Some all) name o.Failed h = inr h
logs_once (Some names) (Some all) name o.Memory (inl h) = inl (h ∙ sym (append-nil names))
logs_once (Some names) (Some all) name o.Memory (inr h) = inr h

-- one opening, and then another
pub opens_twice : (before now after : Option Names) (name : List ℕ) → OpensOnce name before now → OpensOnce name now after → OpensTwice name before after
opens_twice None now after name h g = inl tt
opens_twice (Some names) None after name (inl h) g = absurd h
opens_twice (Some names) None after name (inr h) g = absurd h
opens_twice (Some names) (Some some) None name h (inl g) = absurd g
opens_twice (Some names) (Some some) None name h (inr g) = absurd g
opens_twice (Some names) (Some some) (Some all) name (inl h) (inl g) = inl (g ∙ append-nil some ∙ h)
opens_twice (Some names) (Some some) (Some all) name (inr h) (inl g) = inr (inl (g ∙ append-nil some ∙ h))
opens_twice (Some names) (Some some) (Some all) name (inl h) (inr g) = inr (inl (g ∙ ap (λ ns. ns ++ name ∷ []) (h ∙ append-nil names)))
opens_twice (Some names) (Some some) (Some all) name (inr h) (inr g) =
    inr (inr (g ∙ ap (λ ns. ns ++ name ∷ []) h ∙ append_assoc names (name ∷ []) (name ∷ [])))

-- no opening
pub opens_none : (before now : Option Names) (name : List ℕ) → now ≡ before → OpensTwice name before now
opens_none before now name e = inl (adds_none before now e)

-- one opening alone
pub opens_one : (before now after : Option Names) (name : List ℕ) → OpensOnce name before now → after ≡ now → OpensTwice name before after
opens_one before now after name (inl h) e = inl (subst (λ n. Adds [] before n) (sym e) h)
opens_one before now after name (inr h) e = inr (inl (subst (λ n. Adds (name ∷ []) before n) (sym e) h))
