-- What a run is in words that know no recursion over statements: each statement runs from the state that the one before
-- it left, up to the first that fails.
use Rattle.std.specs.Prelude.{◌≡◌, ℕ, List, [], ◌∷◌, ◌++◌, None, Some}
use Rattle.std.specs.List.{concat}
use Rattle.tall_semantics.specs.Talls.{Tall}
use Rattle.tall_grammar.specs.Trees.{SeenStatement}
use Rattle.tall_local.specs.Refusals.{Stop}
use Rattle.tall_script.specs.Runs.{Run, behind, run_from}
use Rattle.tall_script.specs.ScriptLanguage.{Setting}
use Rattle.tall_script.specs.Statements.{shows, fails, statement}
use Rattle.tall_script.specs.States.{State}

-- from one state to another statements run to their end, with the texts that they show
pub data RunsTo (setting : Setting) : State Tall → List SeenStatement → List (List ℕ) → State Tall → Type 0 where
  at_the_end : (s : State Tall) → RunsTo setting s [] [] s
  one_more : (s t u : State Tall) (entry : SeenStatement) (entries : List SeenStatement) (text : List ℕ) (texts : List (List ℕ))
      → statement setting entry s ≡ shows text t → RunsTo setting t entries texts u → RunsTo setting s (entry ∷ entries) (text ∷ texts) u

-- all statements ran, or those before one that fails; the text is that of the statements that ran
pub data IsRunOf (setting : Setting) (s : State Tall) : List SeenStatement → Run → Type 0 where
  all_ran : (entries : List SeenStatement) (texts : List (List ℕ)) (t : State Tall) → RunsTo setting s entries texts t
      → IsRunOf setting s entries (record { text = concat texts; ending = None; state = t })
  one_failed : (front rest : List SeenStatement) (entry : SeenStatement) (texts : List (List ℕ)) (t u : State Tall) (stop : Stop)
      → RunsTo setting s front texts t → statement setting entry t ≡ fails stop u
      → IsRunOf setting s (front ++ entry ∷ rest) (record { text = concat texts; ending = Some stop; state = u })

-- a text begins with another
abbrev pub BeginsWith : List ℕ → List ℕ → Type 0
BeginsWith front text = (rest : List ℕ) × (front ++ rest ≡ text)

-- a run that goes on with more statements; after a fault none runs
abbrev pub continued : Setting → Run → List SeenStatement → Run
continued setting r more = elim r.ending [ None ↦ behind r.text (run_from setting more r.state) | Some stop ↦ r ]
