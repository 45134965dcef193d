-- What an expression of scalars comes to.
use Rattle.std.specs.Prelude.{ℕ, ◌≡◌, Bool, false, List, Option, None, Some}
use Rattle.tall_value.specs.Cells.{Seen}
use Rattle.tall_grammar.specs.Trees.{Tree}
use Rattle.tall_local.specs.Calls.{is_iterator, local_value}
use Rattle.tall_local.specs.Expressions.{gives}
use Rattle.tall_local.specs.Locals.{Held, value}
use Rattle.tall_local.specs.Memory.{scalar}
use Rattle.tall_local.specs.Names.{named}
use Rattle.tall_local.specs.Pairs.{Pair}

-- over the values of the iterator, of which so many were given, the expression gives the cell, and then so many are given; it changes
-- nothing else
pub record ComesTo (key_values : List Seen) (e : Tree) (names : List (List ℕ × Held)) (given : ℕ) (c : Seen) (after : ℕ) : Type 0 where
  pub comes : (turns : ℕ) (pairs : List Pair) → local_value key_values e (record { names = names; given = given; turns = turns; pairs = pairs })
      ≡ gives (value (scalar c)) (record { names = names; given = after; turns = turns; pairs = pairs })

-- the name stands for the iterator
abbrev pub iterator_in : List (List ℕ × Held) → Option (List ℕ) → Bool
iterator_in names (Some name) = is_iterator (named names name)
iterator_in names None = false
