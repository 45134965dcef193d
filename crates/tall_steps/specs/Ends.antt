-- How a run comes to its end, with the line that tells it, and what of the outside explains it: docs/LANGUAGE.md, fault lines.
use Rattle.std.specs.Prelude.{ℕ, ◌≡◌, ◌≢◌, ◌<◌, ◌≤◌, ◌^◌, true, List, [], ◌∷◌, length, take, Option, None, Some, IfSome, ⊤}
use Rattle.std.specs.Io.KnownBytes.{Appends}
use Rattle.tall_grammar.specs.Refusals as parse
use Rattle.tall_grammar.specs.Trees.{SeenScript, SeenStatement}
use Rattle.tall_local.specs.FaultLines.{fault_line, stop_line, usage_text, no_script_text, too_long_text, bad_token_text, too_deep_text, syntax_text, outside_line, cannot_read, file_changed, file_too_large}
use Rattle.tall_local.specs.Refusals.{Refusal, Stop, no_file}
use Rattle.tall_outside.specs.Count.{Rose}
use Rattle.tall_outside.specs.Shelf.{Files, openings_of}
use Rattle.tall_outside.specs.declared.shelf.Shelf as shelf
use Rattle.tall_store.specs.FileEnds.{IsTooLong}
use Rattle.tall_script.specs.OpeningLaws.{opens_none}
use Rattle.tall_steps.specs.declared.statuses.Status.{Status}
use Rattle.tall_steps.specs.declared.statuses.Status.TheVariants as status

pub data End : Type 0 where
  -- every statement ran
  all_ran : End
  -- the words are no command
  usage : End
  -- no script has this name
  no_script : (name : List ℕ) → End
  -- the bytes are no script, for what is told
  refused : (what : List ℕ) → End
  -- a statement stopped
  stopped : Stop → End
  -- a call on a file failed
  unread : (name : List ℕ) → End
  -- a file had so many rows, and then so many
  changed : (name : List ℕ) (rows more : ℕ) → End
  -- too many bytes came of a file
  too_large : (name : List ℕ) → End

abbrev pub line_of : End → List ℕ
line_of all_ran = []
line_of usage = fault_line usage_text
line_of (no_script name) = fault_line (no_script_text name)
line_of (refused what) = fault_line what
line_of (stopped stop) = stop_line stop
line_of (unread name) = outside_line (cannot_read name)
line_of (changed name rows more) = outside_line (file_changed name rows more)
line_of (too_large name) = outside_line (file_too_large name)

abbrev pub status_of : End → Status
status_of all_ran = status.Done
status_of usage = status.Usage
status_of (no_script name) = status.Fault
status_of (refused what) = status.Fault
status_of (stopped stop) = status.Fault
status_of (unread name) = status.Read
status_of (changed name rows more) = status.Read
status_of (too_large name) = status.Read

-- ---- fronts

-- a front of a text was added
abbrev pub AddsFront : List ℕ → Option (List ℕ) → Option (List ℕ) → Type 0
AddsFront text before after = (n : ℕ) × Appends before after (take n text)

-- ---- what explains an end

-- why bytes are no script
abbrev pub refusal_text : parse.Verdict → Option (List ℕ)
refusal_text (parse.read p) = None
refusal_text parse.too_long = Some too_long_text
refusal_text (parse.bad_token line place) = Some (bad_token_text line place)
refusal_text (parse.too_deep_at line) = Some (too_deep_text line)
refusal_text (parse.syntax_at line) = Some (syntax_text line)

-- a file that isn't there is counted
abbrev pub IsMissed : Refusal → (before after : ℕ) → Type 0
IsMissed (no_file name) before after = Rose before after
IsMissed refusal before after = ⊤

-- the name was opened, where the names are told
abbrev pub WasOpened : (before now : Option (List (List ℕ))) → (name : List ℕ) → Type 0
WasOpened before now name = (names all : List (List ℕ)) → before ≡ Some names → now ≡ Some all → openings_of name names < openings_of name all

-- no statement makes a datastore, gathers or runs a mapreduce
abbrev pub AreQuiet : List SeenStatement → Type 0
AreQuiet [] = ⊤
AreQuiet (entry ∷ entries) = (opens_none entry.form ≡ true) × AreQuiet entries

-- no name was opened less often, where the names are told
abbrev pub Grows : (before now : Option (List (List ℕ))) → Type 0
Grows before now =
    (names : List (List ℕ)) → before ≡ Some names → (all : List (List ℕ)) × (now ≡ Some all) × ((name : List ℕ) → openings_of name names ≤ openings_of name all)

-- of a script, between two moments of a shelf. The last file that was opened is the script where its bytes are none, and where
-- no statement opens another.
abbrev pub IsExplained : {S : Type 0} → shelf.Ghosts S → End → (before now : S) → Type 0
IsExplained s all_ran before now =
    (bytes : List ℕ) × (p : SeenScript) × parse.Parses bytes (parse.read p) × (AreQuiet p.statements → length bytes ≡ s.came now)
IsExplained s usage before now = ⊥
IsExplained s (no_script name) before now = Rose (s.misses before) (s.misses now)
IsExplained s (refused what) before now =
    (bytes : List ℕ) × (v : parse.Verdict) × (length bytes ≡ s.came now) × parse.Parses bytes v × (refusal_text v ≡ Some what)
IsExplained s (stopped stop) before now = IsMissed stop.refusal (s.misses before) (s.misses now)
IsExplained s (unread name) before now = Rose (s.faults before) (s.faults now) × WasOpened (s.opened before) (s.opened now) name
IsExplained s (changed name rows more) before now =
    (rows ≢ more) × WasOpened (s.opened before) (s.opened now) name × ((files : Files) → s.held before ≡ Some files → ⊥)
IsExplained s (too_large name) before now =
    (2 ^ 50 < s.came now) × WasOpened (s.opened before) (s.opened now) name
    × IfSome (s.held before) (λ files. IsTooLong files name)
