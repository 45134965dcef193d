-- The answer of a script over files: docs/LANGUAGE.md, commands and fault lines.
use Rattle.std.specs.Prelude.{ℕ, List, [], ◌≡◌, Option, None, Some}
use Rattle.tall_outside.specs.Shelf.{Files, file_in}
use Rattle.tall_grammar.specs.Refusals as parse
use Rattle.tall_local.specs.Refusals.{Stop}
use Rattle.tall_local.specs.FaultLines.{fault_line, stop_line, too_long_text, bad_token_text, too_deep_text, syntax_text, no_script_text}
use Rattle.tall_script.specs.Runs.{run}

-- all statements ran, or the script or its data have a fault
pub data Status : Type 0 where
  done : Status
  fault : Status

-- the text for the standard output, and the line for the standard error
pub record Answer : Type 0 where
  pub status : Status
  pub text : List ℕ
  pub line : List ℕ

abbrev pub refused : List ℕ → Answer
refused what = record { status = fault; text = []; line = fault_line what }

abbrev pub ended : List ℕ → Option Stop → Answer
ended text None = record { status = done; text = text; line = [] }
ended text (Some stop) = record { status = fault; text = text; line = stop_line stop }

-- of what the bytes of a script are
abbrev pub answer_of : Files → parse.Verdict → Answer
answer_of files (parse.read p) = ended (run files p).text (run files p).ending
answer_of files parse.too_long = refused too_long_text
answer_of files (parse.bad_token line place) = refused (bad_token_text line place)
answer_of files (parse.too_deep_at line) = refused (too_deep_text line)
answer_of files (parse.syntax_at line) = refused (syntax_text line)

-- of the script of a name, which may be absent
pub data Answers (files : Files) (name : List ℕ) : Answer → Type 0 where
  no_script : file_in files name ≡ None → Answers files name (refused (no_script_text name))
  of_script : {bytes : List ℕ} {a : parse.Verdict} → file_in files name ≡ Some bytes → parse.Parses bytes a → Answers files name (answer_of files a)
