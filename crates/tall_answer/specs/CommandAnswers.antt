-- The answer of words over files: docs/LANGUAGE.md, commands, statuses and fault lines.
use Rattle.std.specs.Prelude.{ℕ, List, [], Option, None, Some, codes}
use Rattle.clap.specs.Words.{Text}
use Rattle.tall_local.specs.FaultLines.{fault_line, usage_text}
use Rattle.tall_outside.specs.Shelf.{Files}
use Rattle.tall_script.specs.Answers.{Answer, Answers}
use Rattle.tall_script.specs.Answers as script
use Rattle.tall_words.specs.Commands.{Asked, command, run_demo, run_script}
use Rattle.tall_words.specs.Demo.{demo_files}

-- all statements ran; the script or its data have a fault; the words are no command
pub data Status : Type 0 where
  done : Status
  fault : Status
  usage : Status

-- the text for the standard output, and the line for the standard error
pub record CommandAnswer : Type 0 where
  pub status : Status
  pub text : List ℕ
  pub line : List ℕ

abbrev pub status_of : script.Status → Status
status_of script.done = done
status_of script.fault = fault

abbrev pub of_script : Answer → CommandAnswer
of_script a = record { status = status_of a.status; text = a.text; line = a.line }

abbrev pub usage_answer : CommandAnswer
usage_answer = record { status = usage; text = []; line = fault_line usage_text }

-- ---- what a command runs, whatever its number of workers

abbrev pub script_name : Asked → List ℕ
script_name (run_script name workers) = name
script_name (run_demo rows workers) = codes "demo.m"

-- the demo has its own files, and takes none that are there
abbrev pub files_of : Files → Asked → Files
files_of files (run_script name workers) = files
files_of files (run_demo rows workers) = demo_files rows

-- ---- of words

pub data AnswersAsked (files : Files) : Option Asked → CommandAnswer → Type 0 where
  no_command : AnswersAsked files None usage_answer
  of_command : {asked : Asked} {a : Answer} → Answers (files_of files asked) (script_name asked) a → AnswersAsked files (Some asked) (of_script a)

-- the program's name first
abbrev pub AnswersWords : Files → List Text → CommandAnswer → Type 0
AnswersWords files words a = AnswersAsked files (command words) a
