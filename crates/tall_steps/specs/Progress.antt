-- How far the statements of a script have come.
use Rattle.std.specs.Prelude.{ℕ, ◌+◌, ◌≤◌, ◌≡◌, List, Option, None, Some, ⊤}
use Rattle.std.specs.Io.KnownBytes.{Appends}
use Rattle.tall_grammar.specs.Trees.{SeenStatement, SeenScript}
use Rattle.tall_outside.specs.Shelf.{Files, openings_of}
use Rattle.tall_outside.specs.declared.shelf.Shelf as shelf
use Rattle.tall_outside.specs.declared.sink.WriteFault.{WriteFault}
use Rattle.tall_outside.specs.declared.sink.WriteFault.TheVariants as write
use Rattle.tall_script.specs.Runs.{behind, run, run_from, setting_of}
use Rattle.tall_script.specs.States.{State, times_allowed}
use Rattle.tall_semantics.specs.Talls.{Tall}
use Rattle.tall_steps.specs.Ends.{End, IsExplained, stopped, unread, too_large}
use Rattle.tall_steps.specs.Steps.{HasEnd, IsOfStatement}
use Rattle.tall_steps.specs.declared.statements.RunEnd.{RunEnd}
use Rattle.tall_steps.specs.declared.statements.RunEnd.TheVariants.{Finished, Stopped, Unwritten}

-- each name was opened no more often than the bound says, where the names are told
abbrev pub OpensAtMost : (bound : List ℕ → ℕ) → (before now : Option (List (List ℕ))) → Type 0
OpensAtMost bound before now =
    (names : List (List ℕ)) → before ≡ Some names
    → (all : List (List ℕ)) × (now ≡ Some all)
    × ((name : List ℕ) → (openings_of name names ≤ openings_of name all) × (openings_of name all ≤ openings_of name names + bound name))

-- the text so far was written, and before what the statements that are left show it is the text of the whole run
pub record Reached (files : Files) (p : SeenScript) (left : List SeenStatement) (s : State Tall)
    (before after : Option (List ℕ)) (opened now : Option (List (List ℕ))) : Type 0 where
  pub text : List ℕ
  pub written : Appends before after text
  pub goes_on : behind text (run_from (setting_of files p) left s) ≡ run files p
  pub opens : OpensAtMost (λ name. times_allowed name s.opened) opened now

-- ---- ends of the statements

-- all of the run's text was written, and the run stops for this, as far as the definitions know it
abbrev pub EndsRun : Files → SeenScript → End → (before after : Option (List ℕ)) → Type 0
EndsRun files p (stopped stop) before after = ((run files p).ending ≡ Some stop) × Appends before after (run files p).text
EndsRun files p (unread name) before after = ⊤
EndsRun files p (too_large name) before after = ⊤
EndsRun files p e before after = ⊥

abbrev pub IsRunEnd : {S : Type 0} → shelf.Ghosts S → SeenScript → (before now : S) → (written after : Option (List ℕ)) → End → Type 0
IsRunEnd s p before now written after e =
    IsOfStatement e × IsExplained s e before now
    × ((files : Files) → s.held before ≡ Some files → EndsRun files p e written after)

abbrev pub IsWriteFault : WriteFault → (failed : Type 0) → Type 0
IsWriteFault write.Failed failed = failed
IsWriteFault write.Memory failed = ⊤

abbrev pub IsRunEnded : {S : Type 0} → shelf.Ghosts S → SeenScript → (before now : S) → (written after : Option (List ℕ)) → (failed : Type 0) → RunEnd → Type 0
IsRunEnded s p before now written after failed Finished =
    (files : Files) → s.held before ≡ Some files → ((run files p).ending ≡ None) × Appends written after (run files p).text
IsRunEnded s p before now written after failed (Stopped ending) = HasEnd (IsRunEnd s p before now written after) ending
IsRunEnded s p before now written after failed (Unwritten fault) = IsWriteFault fault failed
