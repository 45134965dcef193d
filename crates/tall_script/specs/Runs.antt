-- Runs: the statements of a script, one after another, over files.
use Rattle.std.specs.Prelude.{ℕ, List, [], ◌∷◌, ◌++◌, Option, None, Some}
use Rattle.tall_semantics.specs.Talls.{Tall}
use Rattle.tall_outside.specs.Shelf.{Files}
use Rattle.tall_grammar.specs.Trees.{SeenStatement, SeenScript}
use Rattle.tall_local.specs.Refusals.{Stop}
use Rattle.tall_script.specs.ScriptLanguage.{Setting}
use Rattle.tall_script.specs.Statements.{Done, shows, fails, statement}
use Rattle.tall_script.specs.States.{State, empty_state, times_allowed}

-- the text that is shown, what ended the run before its end, and the state then
pub record Run : Type 0 where
  pub text : List ℕ
  pub ending : Option Stop
  pub state : State Tall

abbrev pub behind : List ℕ → Run → Run
behind text r = record r { text = text ++ r.text }

-- after a fault no statement runs
abbrev pub next : Done → (State Tall → Run) → Run
next (shows text s) rest = behind text (rest s)
next (fails stop s) rest = record { text = []; ending = Some stop; state = s }

abbrev pub run_from : Setting → List SeenStatement → State Tall → Run
run_from setting [] s = record { text = []; ending = None; state = s }
run_from setting (entry ∷ entries) s = next (statement setting entry s) (λ t. run_from setting entries t)

abbrev pub setting_of : Files → SeenScript → Setting
setting_of files p = record { files = files; functions = p.functions }

abbrev pub run : Files → SeenScript → Run
run files p = run_from (setting_of files p) p.statements empty_state

-- how often a run may open a file that is not the script
abbrev pub openings : Files → SeenScript → List ℕ → ℕ
openings files p file = times_allowed file (run files p).state.opened
