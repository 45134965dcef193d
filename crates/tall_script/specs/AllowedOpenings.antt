-- How often a file may be opened when a script is run over files: the script's own opening, and those that its run
-- counts. docs/LANGUAGE.md, limits.
use Rattle.std.specs.Prelude.{ℕ, ◌+◌, ◌≡◌, if◌then◌else◌, List, None, Some}
use Rattle.std.specs.Str.{bytes_eq}
use Rattle.tall_outside.specs.Shelf.{Files, file_in}
use Rattle.tall_grammar.specs.Refusals as parse
use Rattle.tall_script.specs.Runs.{openings}

-- the script itself is opened once
abbrev pub script_openings : (script file : List ℕ) → ℕ
script_openings script file = if bytes_eq script file then 1 else 0

-- of what the bytes of a script are; what is no script opens nothing more
abbrev pub allowed_of : Files → (script : List ℕ) → parse.Verdict → (file : List ℕ) → ℕ
allowed_of files script (parse.read p) file = script_openings script file + openings files p file
allowed_of files script a file = script_openings script file

-- of the script of a name, which may be absent
pub data IsAllowed (files : Files) (script file : List ℕ) : ℕ → Type 0 where
  no_script : file_in files script ≡ None → IsAllowed files script file (script_openings script file)
  of_script : {bytes : List ℕ} {a : parse.Verdict} → file_in files script ≡ Some bytes → parse.Parses bytes a
      → IsAllowed files script file (allowed_of files script a file)
