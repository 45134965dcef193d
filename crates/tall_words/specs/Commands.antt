-- What the words of the command line ask for: `tallrun [--workers N] SCRIPT` or `tallrun [--workers N] --demo N`.
--
-- The words are those of a simple command of `clap`, with the help and version options turned off. Its definition says which
-- words it takes and what it finds in them; that either a script or the demo stands is this project's own rule.
use Rattle.std.specs.Prelude.{ℕ, ℤ, List, [], ◌∷◌, Option, Some, None, codes, option_map, pos, true}
use Rattle.std.specs.Str.Parse.{digits_value, without_leading_plus}
use Rattle.clap.specs.Words.{App, Kinds, Row, Rule, Text, fault_of, first_of, matches_of, new_app, new_rule, one_of, with_rule}
use Rattle.clap.specs.declared.builder.value_parser.ValueParser.TheVariants as parser

-- an option, a long name and a whole number from 1 to the greatest
abbrev pub number_option : Text → ℤ → Rule
number_option name greatest = record (new_rule name) { long = Some name; parser = Some (parser.Signed (pos 1) greatest) }

abbrev pub workers : Rule
workers = record (number_option (codes "workers") (pos 64)) { defaults = codes "4" ∷ [] }

abbrev pub demo : Rule
demo = number_option (codes "demo") (pos 1000000)

abbrev pub script : Rule
script = new_rule (codes "script")

abbrev pub bare : App
bare = let a = new_app (codes "tallrun") in record a { top = record a.top { disable_help_flag = true; disable_version_flag = true } }

abbrev pub tallrun : App
tallrun = with_rule (with_rule (with_rule bare workers) demo) script

-- what the command asks for
pub data Asked : Type 0 where
  run_script : (name : Text) (workers : ℕ) → Asked
  run_demo : (rows workers : ℕ) → Asked

-- the number that a text spells: `+4` and `04` are 4
abbrev pub spelled : Text → ℕ
spelled text = digits_value 10 (without_leading_plus text)

-- a script or the demo has to stand, and not both
abbrev pub chosen : Option Text → Option ℕ → ℕ → Option Asked
chosen (Some name) None n = Some (run_script name n)
chosen None (Some rows) n = Some (run_demo rows n)
chosen None None n = None
chosen (Some name) (Some rows) n = None

abbrev pub asked_of : (name : Option Text) (rows workers : Option ℕ) → Option Asked
asked_of name rows None = None
asked_of name rows (Some n) = chosen name rows n

abbrev pub asked_by : Kinds → List Row → Option Asked
asked_by [] rows =
    asked_of (first_of (codes "script") rows) (option_map spelled (one_of (codes "demo") rows)) (option_map spelled (one_of (codes "workers") rows))
asked_by (kind ∷ kinds) rows = None

-- the command of the words, the program's name first; nothing where they are none
abbrev pub command : List Text → Option Asked
command words = asked_by (fault_of tallrun words) (matches_of tallrun words)
