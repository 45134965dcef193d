-- Lists of what was read, or the first line that is too high.
use Rattle.std.proofs.Common.{◌≡◌, ℕ, Bool, false, List, [], ◌∷◌, ◌++◌, refl, sym, ap, ◌∙◌, subst, append_assoc}
use Rattle.std.proofs.lemmas.List.{append-nil}
use Rattle.std.specs.Prelude.{Ok, Err}
use Rattle.std.specs.List.{flat_map}
use Rattle.tall_grammar.specs.Lexemes.{Lexeme}
use Rattle.tall_grammar.specs.Trees.{Tree, Step, Steps}
use Rattle.tall_grammar.specs.Views.{steps_of, arms_of}
use Rattle.tall_grammar.specs.Refusals.{step_trees, steps_trees, arms_trees}
use Rattle.tall_grammar.specs.Kept.{Flagged, flagged, with_both, and_last}
use Rattle.tall_grammar.specs.Readers.{pure, front_is}
use Rattle.tall_grammar.proofs.Exact.{Exact}
use Rattle.tall_grammar.proofs.Combine.{IsPure, is_pure, exact_as, exact_pure}
use Rattle.tall_grammar.proofs.Flags.{flagged_both}

-- nothing is taken, and this is given
pub data IsSame {A : Type 0} (a : A) : ℕ → List Lexeme → A → ℕ → Type 0 where
  is_same : (m : ℕ) (b : A) → b ≡ a → IsSame a m [] b m

pub exact_gives : {A : Type 0} (goes : Lexeme → Bool) (a : A) → Exact (IsSame a) goes (pure a)
exact_gives goes a = exact_as (IsPure a) (IsSame a) (exact_pure goes a) (there a) (back a) where
  there : {A : Type 0} (a : A) (m : ℕ) (ts : List Lexeme) (b : A) (n : ℕ) → IsPure a m ts b n → IsSame a m ts b n
  there a m ts b n (is_pure m1) = is_same m1 a refl

  back : {A : Type 0} (a : A) (m : ℕ) (ts : List Lexeme) (b : A) (n : ℕ) → IsSame a m ts b n → IsPure a m ts b n
  back {A} a m ts b n (is_same m1 b1 q) = subst (λ (x : A). IsPure a m1 [] x m1) (sym q) (is_pure m1)

pub same_front : {A : Type 0} (test : Lexeme → Bool) (a : A) (m : ℕ) (ts : List Lexeme) (b : A) (n : ℕ) (rest : List Lexeme) → IsSame a m ts b n → front_is test rest ≡ false → front_is test (ts ++ rest) ≡ false
same_front test a m ts b n rest (is_same m1 b1 q) h = h

-- those that were found, and these
abbrev pub extended : {A : Type 0} → (A → List Tree) → Flagged (List A) → List A → Flagged (List A)
extended trees found bs = with_both (λ xs ys. xs ++ ys) found (flagged (flat_map trees bs) bs)

pub extended_more : {A : Type 0} (trees : A → List Tree) (found : Flagged (List A)) (b : A) (bs : List A)
    → extended trees (and_last found (flagged (trees b) b)) bs ≡ extended trees found (b ∷ bs)
extended_more trees (Err high) b bs = refl
extended_more {A} trees (Ok xs) b bs =
    ap (λ z. with_both (λ xs ys. xs ++ ys) z (flagged (flat_map trees bs) bs)) (flagged_both (λ xs x. xs ++ x ∷ []) [] (trees b) xs b)
    ∙ (flagged_both (λ xs ys. xs ++ ys) (trees b) (flat_map trees bs) (xs ++ b ∷ []) bs
    ∙ (ap (λ z. flagged (trees b ++ flat_map trees bs) z) (append_assoc xs (b ∷ []) bs)
    ∙ sym (flagged_both (λ xs ys. xs ++ ys) [] (trees b ++ flat_map trees bs) xs (b ∷ bs))))

pub extended_none : {A : Type 0} (trees : A → List Tree) (found : Flagged (List A)) → extended trees found [] ≡ found
extended_none trees (Err high) = refl
extended_none trees (Ok xs) = ap Ok (append-nil xs)

pub extended_first : {A : Type 0} (trees : A → List Tree) (bs : List A) → extended trees (Ok []) bs ≡ flagged (flat_map trees bs) bs
extended_first trees bs = flagged_both (λ xs ys. xs ++ ys) [] (flat_map trees bs) [] bs

pub trees_of_steps : (bs : List Step) → steps_trees (steps_of bs) ≡ flat_map step_trees bs
trees_of_steps [] = refl
trees_of_steps (b ∷ bs) = ap (λ z. step_trees b ++ z) (trees_of_steps bs)

abbrev pub arm_trees : Tree × Steps → List Tree
arm_trees a = a.0 ∷ steps_trees a.1

pub trees_of_arms : (bs : List (Tree × Steps)) → arms_trees (arms_of bs) ≡ flat_map arm_trees bs
trees_of_arms [] = refl
trees_of_arms (a ∷ bs) = ap (λ z. a.0 ∷ (steps_trees a.1 ++ z)) (trees_of_arms bs)
