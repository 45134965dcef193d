-- Ends that an answer has.
use Rattle.std.specs.Prelude.{◌≡◌, [], ⊤}
use Rattle.tall_answer.specs.CommandAnswers.{CommandAnswer}
use Rattle.tall_answer.specs.CommandAnswers as answer
use Rattle.tall_steps.specs.Ends.{End, all_ran, usage, no_script, refused, stopped, unread, changed, too_large, line_of}
use Rattle.tall_steps.specs.declared.statuses.Status.{Status}
use Rattle.tall_steps.specs.declared.statuses.Status.TheVariants.{Done, Fault, Usage}

-- the status of an answer
abbrev pub status_of_answer : answer.Status → Status
status_of_answer answer.done = Done
status_of_answer answer.fault = Fault
status_of_answer answer.usage = Usage

-- over files that are told: an end of the definitions is the answer's; a call that failed and a file that is too large tell
-- nothing of it
abbrev pub IsDue : End → CommandAnswer → Type 0
IsDue all_ran a = (a.status ≡ answer.done) × (a.line ≡ [])
IsDue usage a = (a.status ≡ answer.usage) × (a.line ≡ line_of usage)
IsDue (no_script name) a = (a.status ≡ answer.fault) × (a.line ≡ line_of (no_script name))
IsDue (refused what) a = (a.status ≡ answer.fault) × (a.line ≡ line_of (refused what))
IsDue (stopped stop) a = (a.status ≡ answer.fault) × (a.line ≡ line_of (stopped stop))
IsDue (unread name) a = ⊤
IsDue (changed name rows more) a = ⊥
IsDue (too_large name) a = ⊤

-- an end that a script over files of its own can have
abbrev pub IsOwn : End → Type 0
IsOwn all_ran = ⊤
IsOwn usage = ⊥
IsOwn (no_script name) = ⊤
IsOwn (refused what) = ⊤
IsOwn (stopped stop) = ⊤
IsOwn (unread name) = ⊥
IsOwn (changed name rows more) = ⊥
IsOwn (too_large name) = ⊥
