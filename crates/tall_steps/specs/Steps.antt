-- What a step of a session says: the text of a statement and the state behind it, or why the run ends.
use Rattle.std.specs.Prelude.{ℕ, ◌+◌, ◌≤◌, ◌≡◌, true, List, ◌∷◌, Option, Some, Result, Ok, Err, Vec, IfOk, IfErr, ⊤}
use Rattle.tall_grammar.specs.Trees.{SeenStatement}
use Rattle.tall_outside.specs.Shelf.{Files, openings_of}
use Rattle.tall_outside.specs.ShelfCounts.{IsLater, shelf_counts}
use Rattle.tall_outside.specs.declared.shelf.Shelf as shelf
use Rattle.tall_script.specs.OpeningLaws.{opens_none}
use Rattle.tall_script.specs.ScriptLanguage.{Setting}
use Rattle.tall_script.specs.Statements.{shows, fails, statement}
use Rattle.tall_script.specs.States.{State, times_allowed}
use Rattle.tall_script.specs.StatesFollow.{done_state}
use Rattle.tall_semantics.specs.Talls.{Tall}
use Rattle.tall_steps.specs.Ends.{End, Grows, IsExplained, all_ran, usage, no_script, refused, stopped, unread, changed, too_large, line_of, status_of}
use Rattle.tall_steps.specs.Sessions.{MayMean, SeenSession, Sense, left_in, program_in, setting_in, state_in}
use Rattle.tall_steps.specs.declared.endings.Ending.{Ending}
use Rattle.tall_steps.specs.declared.endings.Ending.TheVariants.{Line, Memory}
use Rattle.tall_steps.specs.declared.endings.Step.{Step}
use Rattle.tall_steps.specs.declared.endings.Step.TheVariants.{Text, Finished, Ended}

-- ---- endings

-- the line of an end and its status, or want of memory
abbrev pub HasEnd : (Is : End → Type 0) → Ending → Type 0
HasEnd Is (Line how line) = (e : End) × Is e × (how ≡ status_of e) × (line.items ≡ line_of e)
HasEnd Is Memory = ⊤

-- the line and the status are those of this end
abbrev pub IsEndingOf : End → Ending → Type 0
IsEndingOf e (Line how line) = (how ≡ status_of e) × (line.items ≡ line_of e)
IsEndingOf e Memory = ⊤

-- an end that a statement can have
abbrev pub IsOfStatement : End → Type 0
IsOfStatement all_ran = ⊥
IsOfStatement usage = ⊥
IsOfStatement (no_script name) = ⊥
IsOfStatement (refused what) = ⊥
IsOfStatement (stopped stop) = ⊤
IsOfStatement (unread name) = ⊤
IsOfStatement (changed name rows more) = ⊤
IsOfStatement (too_large name) = ⊤

-- a statement stops as it does in the definitions; a call that failed and a file that is too large tell nothing of it
abbrev pub StopsAs : Setting → List SeenStatement → State Tall → End → Type 0
StopsAs setting left s (stopped stop) =
    (entry : SeenStatement) × (rest : List SeenStatement) × (t : State Tall) × (left ≡ entry ∷ rest) × (statement setting entry s ≡ fails stop t)
StopsAs setting left s (unread name) = ⊤
StopsAs setting left s (too_large name) = ⊤
StopsAs setting left s e = ⊥

-- why a step ends the run
abbrev pub IsStepEnd : {S : Type 0} → shelf.Ghosts S → (old new : SeenSession) → (before now : S) → End → Type 0
IsStepEnd s old new before now e =
    IsOfStatement e × IsExplained s e before now
    × ((files : Files) → s.held before ≡ Some files → (sense : Sense) → MayMean files new sense
    → StopsAs (setting_in files old) (left_in old) (state_in sense old) e)

-- ---- texts

-- the next of the statements shows the text, and leads from one state to the other
pub record Shows (setting : Setting) (left rest : List SeenStatement) (s t : State Tall) (text : List ℕ) : Type 0 where
  pub entry : SeenStatement
  pub next : left ≡ entry ∷ rest
  pub shows_text : statement setting entry s ≡ shows text t

abbrev pub TellsText : Setting → (left rest : List SeenStatement) → (s t : State Tall) → Result Step Ending → Type 0
TellsText setting left rest s t (Ok (Text text)) = Shows setting left rest s t text.items
TellsText setting left rest s t (Ok Finished) = ⊤
TellsText setting left rest s t (Ok Ended) = ⊤
TellsText setting left rest s t (Err e) = ⊤

-- one statement fewer is left behind a text
abbrev pub LeavesLess : (left rest : List SeenStatement) → Result Step Ending → Type 0
LeavesLess left rest (Ok (Text text)) = (entry : SeenStatement) × (left ≡ entry ∷ rest)
LeavesLess left rest (Ok Finished) = ⊤
LeavesLess left rest (Ok Ended) = ⊤
LeavesLess left rest (Err e) = ⊤

-- ---- openings

-- from one state to another each name is opened at most as often as the definitions count, where the names are told
abbrev pub OpensBetween : (s t : State Tall) → (before now : Option (List (List ℕ))) → Type 0
OpensBetween s t before now =
    (names : List (List ℕ)) → before ≡ Some names
    → (all : List (List ℕ)) × (now ≡ Some all)
    × ((name : List ℕ) → (openings_of name names ≤ openings_of name all)
    × (openings_of name all + times_allowed name s.opened ≤ openings_of name names + times_allowed name t.opened))

-- where a statement is left, by what it does; else none
abbrev pub StepOpens : Setting → List SeenStatement → State Tall → (before now : Option (List (List ℕ))) → Type 0
StepOpens setting left s before now =
    (entry : SeenStatement) (rest : List SeenStatement) → left ≡ entry ∷ rest → OpensBetween s (done_state (statement setting entry s)) before now

-- ---- the next statement, as one record

abbrev pub ShowsText : {Z : Type 0} → Setting → (left rest : List SeenStatement) → (s t : State Tall) → Result (Vec ℕ Z) Ending → Type 0
ShowsText setting left rest s t (Ok text) = Shows setting left rest s t text.items
ShowsText setting left rest s t (Err e) = ⊤

abbrev pub LeavesRest : {Z : Type 0} → (left rest : List SeenStatement) → Result (Vec ℕ Z) Ending → Type 0
LeavesRest left rest (Ok text) = (entry : SeenStatement) × (left ≡ entry ∷ rest)
LeavesRest left rest (Err e) = ⊤

-- a session with a statement left ran it, between two moments of the shelf
pub record RunsNext {S Z : Type 0} (s : shelf.Ghosts S) (old new : SeenSession) (before now : S) (r : Result (Vec ℕ Z) Ending) : Type 0 where
  pub program : program_in new ≡ program_in old
  pub stops : IfErr r (λ _. new.has_ended ≡ true)
  pub goes_on : IfOk r (λ _. new.has_ended ≡ old.has_ended)
  pub less : LeavesRest (left_in old) (left_in new) r
  pub ends : IfErr r (HasEnd (IsStepEnd s old new before now))
  pub text : (files : Files) → s.held before ≡ Some files → (sense : Sense) → MayMean files new sense
      → ShowsText (setting_in files old) (left_in old) (left_in new) (state_in sense old) (state_in sense new) r
  pub meant : (files : Files) (sense : Sense) → MayMean files new sense → MayMean files old sense
  pub some : (files : Files) → (sense : Sense) × MayMean files new sense
  pub held : s.held now ≡ s.held before
  pub grows : Grows (s.opened before) (s.opened now)
  pub later : IsLater (shelf_counts s before) (shelf_counts s now)
  pub opens : (files : Files) → s.held before ≡ Some files → (sense : Sense) → MayMean files new sense
      → StepOpens (setting_in files old) (left_in old) (state_in sense old) (s.opened before) (s.opened now)
  pub quiet : (entry : SeenStatement) (rest : List SeenStatement) → left_in old ≡ entry ∷ rest → opens_none entry.form ≡ true → now ≡ before
