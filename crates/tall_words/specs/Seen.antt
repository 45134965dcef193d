-- A command as definitions see it, and what is known of the words that `clap` has read.
use Rattle.std.specs.Prelude.{◌≡◌, ℕ, List, [], Option, None, Some, codes, pos, string_bytes}
use Rattle.clap.specs.Words.{Text, found_of, fault_of, matches_of, one_text, rows_of, without_minus}
use Rattle.clap.specs.Values.{IsSignedIn}
use Rattle.clap.specs.declared.parser.matches.ArgMatches.{ArgMatches}
use Rattle.tall_words.specs.Commands.{Asked, run_demo, run_script, tallrun}
use Rattle.tall_words.specs.declared.command.Command.{Command}
use Rattle.tall_words.specs.declared.command.Command.TheVariants.{Script, Demo}

abbrev pub seen : Command → Asked
seen (Script name workers) = run_script (string_bytes name) workers
seen (Demo rows workers) = run_demo rows workers

-- the workers of a command
abbrev pub workers_of : Command → ℕ
workers_of (Script name workers) = workers
workers_of (Demo rows workers) = workers

-- the rows of the demo, where it is asked for
abbrev pub demo_rows : Command → Option ℕ
demo_rows (Script name workers) = None
demo_rows (Demo rows workers) = Some rows

-- where the option has a text, a number from 1 to the greatest was read from it
abbrev pub HasNumber : ArgMatches → Text → ℕ → Type 0
HasNumber m id greatest =
    (text : Text) → one_text (found_of m) id ≡ Some text → (word : Text) × (text ≡ without_minus word) × IsSignedIn (pos 1) (pos greatest) word

-- what the matches have of words that the command line takes
pub record AreFound (words : List Text) (m : ArgMatches) : Type 0 where
  pub taken : fault_of tallrun words ≡ []
  pub rows : rows_of (found_of m) ≡ matches_of tallrun words
  pub workers : HasNumber m (codes "workers") 64
  pub demo : HasNumber m (codes "demo") 1000000
