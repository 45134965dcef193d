-- What a session has, as definitions see it.
use Rattle.std.specs.Prelude.{◌≡◌, ◌≤◌, ℕ, Bool, false, List, [], ◌∷◌, drop, ⊤}
use Rattle.tall_grammar.specs.Trees.{SeenStatement, SeenScript}
use Rattle.tall_grammar.specs.Views.{program_of}
use Rattle.tall_grammar.specs.declared.scripts.Script.{Script}
use Rattle.tall_outside.specs.Shelf.{Files}
use Rattle.tall_script.specs.Runs.{setting_of}
use Rattle.tall_script.specs.ScriptLanguage.{Setting}
use Rattle.tall_script.specs.States.{State}
use Rattle.tall_semantics.specs.Talls.{Columns, Tall}
use Rattle.tall_environment.specs.Environments.{IsLast, SeenEnvironment, state_at}
use Rattle.tall_environment.specs.Expressions.{IsSense}
use Rattle.tall_statements.specs.Orders.{IsInOrder, last_of}

-- its script, how many statements ran, whether a step has ended the run, and what the statements so far have left
pub record SeenSession : Type 0 where
  pub script : Script
  pub place : ℕ
  pub has_ended : Bool
  pub environment : SeenEnvironment

abbrev pub program_in : SeenSession → SeenScript
program_in s = program_of s.script

-- the statements that are left
abbrev pub left_in : SeenSession → List SeenStatement
left_in s = drop s.place (program_in s).statements

-- at the front of a script
abbrev pub session_of : Script → SeenSession
session_of script = record { script = script; place = 0; has_ended = false; environment = record { names = []; stores = []; graph = []; opened = [] } }

abbrev pub setting_in : Files → SeenSession → Setting
setting_in files s = setting_of files (program_in s)

-- ---- what the values of a session mean

-- the columns of its datastores, and the values of its deferred nodes
pub record Sense : Type 0 where
  pub columns : Columns
  pub values : ℕ → Tall

-- over these files its values may mean this now
abbrev pub MayMean : Files → SeenSession → Sense → Type 0
MayMean files s sense = IsSense files s.environment sense.columns sense.values

-- what the statements so far have left
abbrev pub state_in : Sense → SeenSession → State Tall
state_in sense s = state_at sense.values s.environment

-- ---- the numbers of expressions

-- the expressions of the statements come in the order of their numbers, behind the one with the number `after`
abbrev pub AreInOrder : (after : ℕ) → List SeenStatement → Type 0
AreInOrder after [] = ⊤
AreInOrder after (entry ∷ entries) = IsInOrder after entry.form × AreInOrder (last_of after entry.form) entries

-- ---- what each session keeps

-- `after` is the number of the last expression that was evaluated
pub record IsReady (left : List SeenStatement) (e : SeenEnvironment) (after : ℕ) : Type 0 where
  pub last : IsLast after e
  pub order : AreInOrder after left

pub record IsSession (s : SeenSession) (workers after : ℕ) : Type 0 where
  pub some : 1 ≤ workers
  pub few : workers ≤ 64
  pub ready : s.has_ended ≡ false → IsReady (left_in s) s.environment after
