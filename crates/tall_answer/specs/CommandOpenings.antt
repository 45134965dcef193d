-- How often the program may open a file of the shelf: docs/LANGUAGE.md, limits. Without a command and for the demo, never.
use Rattle.std.specs.Prelude.{ℕ, List, Option, None, Some}
use Rattle.clap.specs.Words.{Text}
use Rattle.tall_outside.specs.Shelf.{Files}
use Rattle.tall_script.specs.AllowedOpenings.{IsAllowed}
use Rattle.tall_words.specs.Commands.{Asked, command, run_demo, run_script}

pub data IsAllowedAsked (files : Files) (file : List ℕ) : Option Asked → ℕ → Type 0 where
  without_command : IsAllowedAsked files file None 0
  for_script : {name : List ℕ} {workers n : ℕ} → IsAllowed files name file n → IsAllowedAsked files file (Some (run_script name workers)) n
  for_demo : {rows workers : ℕ} → IsAllowedAsked files file (Some (run_demo rows workers)) 0

abbrev pub IsAllowedByWords : Files → List Text → (file : List ℕ) → ℕ → Type 0
IsAllowedByWords files words file n = IsAllowedAsked files file (command words) n
