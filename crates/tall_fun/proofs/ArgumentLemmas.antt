-- Arguments one after another.
use Rattle.std.proofs.Common.{◌≡◌, refl, sym, subst, ap, ◌∙◌, List, [], ◌∷◌, ◌++◌, map}
use Rattle.std.specs.Prelude.{Bool, true, false, Option, None, Some, option_map}
use Rattle.std.specs.Option.{is_some}
use Rattle.std.proofs.lemmas.List.{append_assoc}
use Rattle.tall_local.specs.Lists.{all_of, in_front_of}

module _ {A B X : Type 0} (f : A → Option B) (g : X → A) where
  -- all are there exactly where the rest is, or not, where this is none
  pub some_more : (xs rest : List X) (x : X) (all : Bool) → xs ≡ x ∷ rest → is_some (f (g x)) ≡ true → is_some (all_of f (map g xs)) ≡ all → is_some (all_of f (map g rest)) ≡ all
  some_more xs rest x all is h e = step (f (g x)) (all_of f (map g rest)) h ∙ subst (λ ys. is_some (all_of f (map g ys)) ≡ all) is e
    where
      step : (o : Option B) (os : Option (List B)) → is_some o ≡ true → is_some os ≡ is_some (in_front_of o os)
      step (Some b) (Some bs) h = refl
      step (Some b) None h = refl
      step None os h = absurd (cc)

  pub some_none : (xs rest : List X) (x : X) (all : Bool) → xs ≡ x ∷ rest → is_some (f (g x)) ≡ false → is_some (all_of f (map g xs)) ≡ all → false ≡ all
  some_none xs rest x all is h e = step (f (g x)) (all_of f (map g rest)) h ∙ subst (λ ys. is_some (all_of f (map g ys)) ≡ all) is e
    where
      step : (o : Option B) (os : Option (List B)) → is_some o ≡ false → false ≡ is_some (in_front_of o os)
      step None os h = refl
      step (Some b) os h = absurd (cc)

  -- what is done, before what the rest gives
  abbrev pub before : List B → Option (List B) → Option (List B)
  before done o = option_map (λ rest. done ++ rest) o

  pub given_more : (xs rest : List X) (x : X) (b : B) (done done' : List B) (all : Option (List B)) → xs ≡ x ∷ rest → Some b ≡ f (g x) → done' ≡ done ++ b ∷ []
      → before done (all_of f (map g xs)) ≡ all → before done' (all_of f (map g rest)) ≡ all
  given_more xs rest x b done done' all is h d e =
      ap (λ ys. before ys (all_of f (map g rest))) d ∙ sym (step (all_of f (map g rest))) ∙ ap (λ o. before done (in_front_of o (all_of f (map g rest)))) h
      ∙ subst (λ ys. before done (all_of f (map g ys)) ≡ all) is e
    where
      step : (o : Option (List B)) → before done (in_front_of (Some b) o) ≡ before (done ++ b ∷ []) o
      step (Some bs) = ap Some (sym (append_assoc done (b ∷ []) bs))
      step None = refl

  pub given_none : (xs rest : List X) (x : X) (done : List B) (all : Option (List B)) → xs ≡ x ∷ rest → None ≡ f (g x)
      → before done (all_of f (map g xs)) ≡ all → None ≡ all
  given_none xs rest x done all is h e =
      ap (λ o. before done (in_front_of o (all_of f (map g rest)))) h ∙ subst (λ ys. before done (all_of f (map g ys)) ≡ all) is e
