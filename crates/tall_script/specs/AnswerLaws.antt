-- That a command has one answer, and one set of openings that it may make.
use Rattle.std.specs.Prelude.{◌≡◌, ℕ, List}
use Rattle.tall_outside.specs.Shelf.{Files}
use Rattle.tall_script.specs.AllowedOpenings.{IsAllowed}
use Rattle.tall_script.specs.Answers.{Answers}

-- exactly one of these
pub record ExactlyOne {A : Type 0} (Is : A → Type 0) : Type 0 where
  pub one : A
  pub is : Is one
  pub alone : (other : A) → Is other → other ≡ one

-- of a script over files
abbrev pub HasOneAnswer : Files → (name : List ℕ) → Type 0
HasOneAnswer files name = ExactlyOne (Answers files name)

-- how often the script may have a file opened
abbrev pub HasOneAllowance : Files → (name file : List ℕ) → Type 0
HasOneAllowance files name file = ExactlyOne (IsAllowed files name file)
