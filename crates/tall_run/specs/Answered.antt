-- How a script of a name ends, beside its answers.
use Rattle.std.specs.Prelude.{ℕ, ◌≡◌, ◌⊎◌, List, Option, Some}
use Rattle.std.specs.Io.KnownBytes.{Appends}
use Rattle.tall_answer.specs.CommandAnswers.{of_script}
use Rattle.tall_local.specs.FaultLines.{out_of_memory, outside_line}
use Rattle.tall_outside.specs.Shelf.{Files}
use Rattle.tall_outside.specs.declared.shelf.Shelf as shelf
use Rattle.tall_script.specs.Answers.{Answer, Answers}
use Rattle.tall_steps.specs.Ends.{End, IsExplained, all_ran, AddsFront}
use Rattle.tall_run.specs.Dues.{IsDue, IsOwn}
use Rattle.tall_steps.specs.Progress.{IsWriteFault}
use Rattle.tall_steps.specs.Steps.{HasEnd}
use Rattle.tall_steps.specs.declared.endings.Ending.{Ending}
use Rattle.tall_steps.specs.declared.endings.Ending.TheVariants.{Line, Memory}
use Rattle.tall_steps.specs.declared.statements.RunEnd.{RunEnd}
use Rattle.tall_steps.specs.declared.statements.RunEnd.TheVariants.{Finished, Stopped, Unwritten}
use Rattle.tall_steps.specs.declared.statuses.Status.{Status}
use Rattle.tall_steps.specs.declared.statuses.Status.TheVariants as status

-- an end that explains itself; where it is the definitions' own, it is each answer's, of which all text was written
abbrev pub IsAnswerEnd : {S : Type 0} → shelf.Ghosts S → List ℕ → (before now : S) → (written after : Option (List ℕ)) → End → Type 0
IsAnswerEnd s name before now written after e =
    IsExplained s e before now
    × ((files : Files) → s.held before ≡ Some files → (a : Answer) → Answers files name a
    → IsDue e (of_script a) × (IsOwn e → Appends written after a.text))

abbrev pub IsAnswered : {S : Type 0} → shelf.Ghosts S → List ℕ → (before now : S) → (written after : Option (List ℕ)) → (failed : Type 0) → RunEnd → Type 0
IsAnswered s name before now written after failed Finished = IsAnswerEnd s name before now written after all_ran
IsAnswered s name before now written after failed (Stopped ending) = HasEnd (IsAnswerEnd s name before now written after) ending
IsAnswered s name before now written after failed (Unwritten fault) = IsWriteFault fault failed

-- ---- the error output

-- what is written of an ending, and the status
abbrev pub Closes : Ending → (failed : Type 0) → Status → (before after : Option (List ℕ)) → Type 0
Closes (Line how line) failed result before after =
    ((result ≡ status.Write) × failed × AddsFront line.items before after)
    ⊎ ((result ≡ status.Memory) × AddsFront line.items before after)
    ⊎ ((result ≡ how) × Appends before after line.items)
Closes Memory failed result before after = (result ≡ status.Memory) × AddsFront (outside_line out_of_memory) before after

-- ---- the demo

-- over these files, which are told and short, and on which no call fails
abbrev pub IsDemoEnd : Files → List ℕ → (written after : Option (List ℕ)) → End → Type 0
IsDemoEnd files name written after e =
    IsOwn e × ((a : Answer) → Answers files name a → IsDue e (of_script a) × (IsOwn e → Appends written after a.text))
