-- Numbers for trees and spaces: the place of the first equal one in a list. So two values of the list have one number
-- exactly where their trees are equal, and a longer list keeps the numbers.
use Rattle.std.specs.Prelude.{ℕ, suc, Bool, if◌then◌else◌, List, [], ◌∷◌}
use Rattle.tall_semantics.specs.Operations.{Tree}
use Rattle.tall_semantics.specs.Spaces.{Space}
use Rattle.tall_semantics.specs.Equality.{same_tree, same_space}

-- the list's length where none is equal
abbrev pub first_place : {A : Type 0} → (A → A → Bool) → A → List A → ℕ
first_place same x [] = 0
first_place same x (y ∷ ys) = if same y x then 0 else suc (first_place same x ys)

abbrev pub form : Tree → List Tree → ℕ
form x trees = first_place same_tree x trees

abbrev pub space_number : Space → List Space → ℕ
space_number s spaces = first_place same_space s spaces
