-- All that a run promises of what its words ask for, between two moments of the shelf and of what the outputs have taken.
use Rattle.std.specs.Prelude.{◌≡◌, ◌⊎◌, Option}
use Rattle.tall_answer.specs.CommandAnswers.{AnswersAsked, CommandAnswer}
use Rattle.tall_answer.specs.CommandOpenings.{IsAllowedAsked}
use Rattle.tall_outside.specs.Count.{Rose}
use Rattle.tall_outside.specs.declared.shelf.Shelf as shelf
use Rattle.tall_words.specs.Commands.{Asked}
use Rattle.tall_run.specs.Shelves.{IfShort, IfTold, IsCalm, IsEnd, IsOfShelf, OpensAllowed}
use Rattle.tall_steps.specs.Ends.{AddsFront}
use Rattle.tall_run.specs.Shown.{Ends, ShowsAll, Written}
use Rattle.tall_steps.specs.Statuses.{IsSettled}
use Rattle.tall_steps.specs.declared.statuses.Status.{Status}
use Rattle.tall_steps.specs.declared.statuses.Status.TheVariants.{Memory}

-- `text_failed` and `line_failed` say that a call on the one output, or on the other, failed
pub record Promises {S : Type 0} (s : shelf.Ghosts S) (asked : Option Asked) (before now : S) (text_failed line_failed : Type 0)
    (how : Status) (old new : Written) : Type 0 where
  pub complete : IfShort (s.held before) asked (λ files. IsCalm asked (Rose (s.faults before) (s.faults now)) → (text_failed → ⊥) → (line_failed → ⊥)
      → (a : CommandAnswer) → AnswersAsked files asked a → (how ≡ Memory) ⊎ ShowsAll a how old new)
  pub settled : IfTold (s.held before) asked (λ files. IsSettled how → (a : CommandAnswer) → AnswersAsked files asked a → ShowsAll a how old new)
  pub front : IfTold (s.held before) asked (λ files. (a : CommandAnswer) → AnswersAsked files asked a → AddsFront a.text old.text new.text)
  pub ends : Ends (IsEnd s asked before now) text_failed line_failed how old.line new.line
  pub held : s.held now ≡ s.held before
  pub opens : IfTold (s.held before) asked (λ files. OpensAllowed (λ name n. IsAllowedAsked files name asked n) (s.opened before) (s.opened now))
  pub unused : (IsOfShelf asked → ⊥) → now ≡ before
