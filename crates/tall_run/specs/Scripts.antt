-- What a script's file is, and why it is no script.
use Rattle.std.specs.Prelude.{ℕ, ◌≡◌, List, [], length, Option, Some, IfSome}
use Rattle.tall_answer.specs.CommandAnswers.{of_script}
use Rattle.tall_grammar.specs.Refusals as parse
use Rattle.tall_outside.specs.Count.{Rose}
use Rattle.tall_outside.specs.Shelf.{Files}
use Rattle.tall_outside.specs.declared.shelf.Shelf as shelf
use Rattle.tall_script.specs.AllowedOpenings.{IsAllowed, allowed_of}
use Rattle.tall_script.specs.Answers.{Answer, Answers, answer_of}
use Rattle.tall_steps.specs.Ends.{End, IsExplained, refused, unread, refusal_text}
use Rattle.tall_run.specs.Dues.{IsDue, IsOwn}

-- over these files the script of this name is this, as far as answers and openings go
pub record IsVerdict (files : Files) (name : List ℕ) (v : parse.Verdict) : Type 0 where
  pub answers : (a : Answer) → Answers files name a → a ≡ answer_of files v
  pub allows : (file : List ℕ) (n : ℕ) → IsAllowed files name file n → n ≡ allowed_of files name v file

-- an end before any statement is that of each answer of the script, which has no text
abbrev pub IsDueFor : Files → List ℕ → End → Type 0
IsDueFor files name e = (a : Answer) → Answers files name a → IsDue e (of_script a) × (IsOwn e → a.text ≡ [])

-- ---- bytes

-- bytes are this and nothing else
pub record IsOnly (bytes : List ℕ) (v : parse.Verdict) : Type 0 where
  pub is : parse.Parses bytes v
  pub only : (w : parse.Verdict) → parse.Parses bytes w → w ≡ v

-- bytes are no script for this
abbrev pub IsRefusal : List ℕ → End → Type 0
IsRefusal bytes (refused what) = (v : parse.Verdict) × IsOnly bytes v × (refusal_text v ≡ Some what)
IsRefusal bytes e = ⊥

abbrev pub IsRefusalOf : parse.Verdict → End → Type 0
IsRefusalOf v (refused what) = refusal_text v ≡ Some what
IsRefusalOf v e = ⊥

-- the end of the refusal that there is
abbrev pub IsRefusalBy : Option parse.Verdict → End → Type 0
IsRefusalBy found e = (v : parse.Verdict) × (found ≡ Some v) × IsRefusalOf v e

-- what is left of a file is this, where it is known
abbrev pub IsLeftOnly : Option (List ℕ) → parse.Verdict → Type 0
IsLeftOnly left v = IfSome left (λ bytes. (w : parse.Verdict) → parse.Parses bytes w → w ≡ v)

-- why the open file of this name gave no script
abbrev pub IsFileEnd : {S : Type 0} → shelf.Ghosts S → List ℕ → (before now : S) → End → Type 0
IsFileEnd s name before now (unread file) = (file ≡ name) × Rose (s.faults before) (s.faults now)
IsFileEnd s name before now (refused what) =
    (bytes : List ℕ) × (v : parse.Verdict) × (length bytes ≡ s.came now) × parse.Parses bytes v × (refusal_text v ≡ Some what) × IsLeftOnly (s.left before) v
IsFileEnd s name before now e = ⊥

-- why there is no script of this name
abbrev pub IsScriptEnd : {S : Type 0} → shelf.Ghosts S → List ℕ → (before now : S) → End → Type 0
IsScriptEnd s name before now e =
    IsExplained s e before now × ((files : Files) → s.held before ≡ Some files → IsDueFor files name e)
