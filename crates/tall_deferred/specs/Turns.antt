-- The numbers of an expression in turn, from one number on, as the evaluation of its parts asks for them.
use Rattle.std.specs.Prelude.{◌≡◌, ℕ, suc, ◌<◌, ◌≤◌}
use Rattle.tall_grammar.specs.Trees.{Tree, Args}
use Rattle.tall_semantics.specs.Deferred.{Vertex}
use Rattle.tall_semantics.specs.Faults.{At}
use Rattle.tall_evaluate.specs.Orders.{AreInOrder, ArgsAreInOrder, first_number, last_number, own_number}

-- an expression with a greater number comes later
abbrev pub IsLater : ℕ → ℕ → Type 0
IsLater m n = m < n

-- an expression whose numbers are m and those behind it, up to the one before n
pub record IsInTurn (e : Tree) (m n : ℕ) : Type 0 where
  pub least : m ≤ first_number e
  pub last : n ≡ suc (own_number e)
  pub order : AreInOrder IsLater e

-- arguments whose numbers are those behind a, up to the one before n
pub record ArgsAreInTurn (a : ℕ) (args : Args) (n : ℕ) : Type 0 where
  pub last : n ≡ suc (last_number a args)
  pub order : ArgsAreInOrder IsLater a args

-- no expression of the graph comes after this one
abbrev pub IsAtMost : At → Vertex → Type 0
IsAtMost at w = w.at.number ≤ at.number
