-- Parts of the readers of scripts, for functions of their own.
use Rattle.std.specs.Prelude.{ℕ, List, [], ◌∷◌, ◌++◌, Option}
use Rattle.tall_grammar.specs.ExprReader.{expr_within, closed_args}
use Rattle.tall_grammar.specs.Kept.{Flagged, settled, with_it}
use Rattle.tall_grammar.specs.Readers.{Reader, ◌>>=◌, pure, expect_sign}
use Rattle.tall_grammar.specs.ScriptReader.{parameter}
use Rattle.tall_grammar.specs.Trees.{Body, Tree, gathered}
use Rattle.tall_grammar.specs.Views.{args_of}

-- the arguments of a list of targets, behind the parenthesis
abbrev pub args_on : ℕ → ℕ → ℕ → Reader (Flagged (List (Option Tree)))
args_on k d l = closed_args (expr_within k d) k l >>= (λ args. pure (settled l args))

-- a gather of the names, behind the parenthesis
abbrev pub gather_to : ℕ → ℕ → ℕ → List (List ℕ) → Reader (Flagged Body)
gather_to k d l ss = closed_args (expr_within k d) k l >>= (λ args. pure (with_it (λ xs. gathered ss (args_of xs)) (settled l args)))

-- a parameter with the sign behind it, behind the parameters before
abbrev pub and_parameter : List ℕ → List (Option (List ℕ)) → Reader (List (Option (List ℕ)))
and_parameter s before = parameter >>= (λ a. expect_sign s >>= (λ _. pure (before ++ a ∷ [])))
