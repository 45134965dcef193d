-- Over which files a run's promises speak, and what it leaves of the shelf.
use Rattle.std.specs.Prelude.{ℕ, ◌+◌, ◌≤◌, ◌^◌, ◌≡◌, List, length, Option, None, Some, IfSome, ⊤}
use Rattle.tall_answer.specs.CommandAnswers.{AnswersAsked, CommandAnswer}
use Rattle.tall_outside.specs.Shelf.{Files, file_in, openings_of}
use Rattle.tall_outside.specs.declared.shelf.Shelf as shelf
use Rattle.tall_words.specs.Commands.{Asked, run_demo, run_script}
use Rattle.tall_steps.specs.Ends.{End, IsExplained, usage}
use Rattle.tall_run.specs.Dues.{IsDue, IsOwn}

-- the command runs a script of the shelf
abbrev pub IsOfShelf : Option Asked → Type 0
IsOfShelf (Some (run_script name workers)) = ⊤
IsOfShelf (Some (run_demo rows workers)) = ⊥
IsOfShelf None = ⊥

-- no file is longer than 2^50 bytes
abbrev pub WithinLimit : Files → Type 0
WithinLimit files = (name : List ℕ) → IfSome (file_in files name) (λ bytes. length bytes ≤ 2 ^ 50)

-- where the shelf tells the files; a command that takes none of them has its answer over any
abbrev pub IfTold : Option Files → Option Asked → (Files → Type 0) → Type 0
IfTold held (Some (run_script name workers)) Says = IfSome held Says
IfTold held (Some (run_demo rows workers)) Says = (files : Files) → Says files
IfTold held None Says = (files : Files) → Says files

-- and where none of these files is too long
abbrev pub IfShort : Option Files → Option Asked → (Files → Type 0) → Type 0
IfShort held (Some (run_script name workers)) Says = IfSome held (λ files. WithinLimit files → Says files)
IfShort held (Some (run_demo rows workers)) Says = (files : Files) → Says files
IfShort held None Says = (files : Files) → Says files

-- no call on the shelf failed, where it is called at all
abbrev pub IsCalm : Option Asked → (failed : Type 0) → Type 0
IsCalm (Some (run_script name workers)) failed = failed → ⊥
IsCalm (Some (run_demo rows workers)) failed = ⊤
IsCalm None failed = ⊤

-- what explains an end; the demo has files of its own, on which no call fails
abbrev pub IsExplainedFor : {S : Type 0} → shelf.Ghosts S → Option Asked → End → (before now : S) → Type 0
IsExplainedFor s (Some (run_script name workers)) e before now = IsExplained s e before now
IsExplainedFor s (Some (run_demo rows workers)) e before now = IsOwn e
IsExplainedFor s None e before now = e ≡ usage

-- an end that explains itself, and is the answer's where that is known
abbrev pub IsEnd : {S : Type 0} → shelf.Ghosts S → Option Asked → (before now : S) → End → Type 0
IsEnd s asked before now e =
    IsExplainedFor s asked e before now
    × IfTold (s.held before) asked (λ files. (a : CommandAnswer) → AnswersAsked files asked a → IsDue e a)

-- each name was opened at most as often more as is allowed, where the names are told
abbrev pub OpensAllowed : (IsAllowed : List ℕ → ℕ → Type 0) → (before now : Option (List (List ℕ))) → Type 0
OpensAllowed IsAllowed before now =
    (names : List (List ℕ)) → before ≡ Some names
    → (all : List (List ℕ)) × (now ≡ Some all)
    × ((name : List ℕ) (n : ℕ) → IsAllowed name n
    → (openings_of name names ≤ openings_of name all) × (openings_of name all ≤ openings_of name names + n))
