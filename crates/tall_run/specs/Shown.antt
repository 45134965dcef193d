-- What a run shows on its two outputs.
use Rattle.std.specs.Prelude.{List, ℕ, Option, ◌≡◌}
use Rattle.std.specs.Io.KnownBytes.{Appends}
use Rattle.tall_answer.specs.CommandAnswers.{CommandAnswer}
use Rattle.tall_local.specs.FaultLines.{outside_line, cannot_write, out_of_memory}
use Rattle.tall_steps.specs.Ends.{AddsFront, End, line_of, status_of}
use Rattle.tall_run.specs.Dues.{status_of_answer}
use Rattle.tall_steps.specs.declared.statuses.Status.{Status}
use Rattle.tall_steps.specs.declared.statuses.Status.TheVariants.{Write, Memory}

-- what the two outputs have taken, where they tell it
pub record Written : Type 0 where
  pub text : Option (List ℕ)
  pub line : Option (List ℕ)

-- all of an answer was added, and the status is its own
abbrev pub ShowsAll : CommandAnswer → Status → Written → Written → Type 0
ShowsAll a how before after =
    (how ≡ status_of_answer a.status) × Appends before.text after.text a.text × Appends before.line after.line a.line

-- How a run ends on the error output. `Is` says which ends explain themselves; `text_failed` and `line_failed` that a call
-- on the standard output, or on the error output, failed.
pub data Ends (Is : End → Type 0) (text_failed line_failed : Type 0) (how : Status) (before after : Option (List ℕ)) : Type 0 where
  -- with the whole line of an end, and its status
  with_line : (e : End) → Is e → how ≡ status_of e → Appends before after (line_of e) → Ends Is text_failed line_failed how before after
  -- the line could not be written whole
  line_fails : (e : End) → Is e → how ≡ Write → line_failed → AddsFront (line_of e) before after → Ends Is text_failed line_failed how before after
  line_breaks : (e : End) → Is e → how ≡ Memory → AddsFront (line_of e) before after → Ends Is text_failed line_failed how before after
  -- a text could not be written, which the error output tells
  text_fails : how ≡ Write → text_failed → Appends before after (outside_line cannot_write) → Ends Is text_failed line_failed how before after
  both_fail : how ≡ Write → text_failed → line_failed → AddsFront (outside_line cannot_write) before after → Ends Is text_failed line_failed how before after
  text_fails_and_breaks : how ≡ Memory → text_failed → AddsFront (outside_line cannot_write) before after → Ends Is text_failed line_failed how before after
  -- memory was wanting
  out_of_memory_ends : how ≡ Memory → AddsFront (outside_line out_of_memory) before after → Ends Is text_failed line_failed how before after
