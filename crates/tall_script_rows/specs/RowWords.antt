-- What the rows of runs say: files, the first two lines, and answers.
use Prim.Native.String.{String}
use Rattle.std.specs.Prelude.{⊤, ℕ, pos, List, [], ◌∷◌, Option, None, Some, codes}
use Rattle.tall_value.specs.declared.class.Class.TheVariants as class
use Rattle.tall_value.specs.declared.class.IntKind.TheVariants.{Int8}
use Rattle.tall_value.specs.Cells.{whole, double}
use Rattle.tall_value.specs.Cells as cell
use Rattle.tall_column.specs.Columns.{SeenColumn}
use Rattle.tall_outside.specs.Shelf.{Files}
use Rattle.tall_grammar.specs.Trees.{SeenStatement, SeenScript, Step}
use Rattle.csv.proofs.OnLiterals.{csv_on_literals}
use Rattle.std.proofs.Math.Utf8.{encode}
use Rattle.std.specs.Fmt.{digits}
use Rattle.std.specs.Str.{chars, is_utf8}
use Rattle.tall_semantics.specs.Talls.{tall}
use Rattle.tall_store.specs.Blocks.{blocks_up_to}
use Rattle.tall_store.specs.Names.{least_free}
use Rattle.tall_script.specs.Answers.{Answer, done, fault}
use Rattle.tall_local.specs.Constants.{constant_named}
use Rattle.tall_script.specs.Datastores.{datastore_call, changed}
use Rattle.tall_script.specs.TallTables.{tall_call}
use Rattle.tall_local.specs.FaultLines.{refusal_text}
use Rattle.tall_local.specs.Functions.{script_function_named, local_function_named}
use Rattle.tall_script.specs.Gathers.{gather_all, gather_value}
use Rattle.tall_local.specs.MemoryFunctions.{memory_application}
use Rattle.tall_local.specs.MemoryIndexing.{memory_index, memory_member}
use Rattle.tall_local.specs.MemoryOperators.{memory_unary, memory_binary, memory_prefix, memory_infix}
use Rattle.tall_local.specs.Printing.{value_text, memory_text}
use Rattle.tall_script.specs.ScriptLanguage.{script_call}
use Rattle.tall_script.specs.ScriptValues.{prefix_value, infix_value, member_value, index_value, application_value}
use Rattle.tall_script.specs.StoreArguments.{options_given}
use Rattle.tall_local.specs.Applications.{application_of}
use Rattle.tall_script_rows.specs.Drafts.{name, texts, call, silent, sets, steps, parameter}
use Rattle.tall_script.specs.Numbering.{numbered_steps}
use Rattle.tall_script_rows.specs.Drafts as draft
use Rattle.tall_local.specs.Locals.{Locals, held_infix, held_index, held_function, held_call}
use Rattle.tall_local.specs.Calls.{call_map, call_reduce}
use Rattle.tall_script.specs.MapReduce.{map_reduced}
use Rattle.tall_local.specs.Refusals.{Refusal, Stop, stop_at}
use Rattle.tall_script.specs.Runs.{run}

-- what a row unfolds to compute a run
unfoldable pub whole_runs : ⊤
unfolding csv_on_literals is_utf8 chars encode digits least_free blocks_up_to tall
    memory_unary memory_binary memory_prefix memory_infix memory_index memory_member memory_application script_function_named local_function_named constant_named application_of
    prefix_value infix_value member_value index_value application_value held_infix held_index held_function held_call options_given datastore_call
    tall_call changed gather_all gather_value map_reduced script_call value_text memory_text refusal_text
whole_runs = tt

-- the file a.csv
abbrev pub over : List ℕ → Files
over bytes = (codes "a.csv", bytes) ∷ []

-- 1: ds = tabularTextDatastore('a.csv', 'TextscanFormats', {..});
-- 2: T = tall(ds);
abbrev pub usual : List String → List SeenStatement
usual formats =
    silent 1 (sets "ds" (call "tabularTextDatastore" (draft.text "a.csv" ∷ draft.text "TextscanFormats" ∷ texts formats ∷ [])))
    ∷ silent 2 (sets "T" (call "tall" (name "ds" ∷ []))) ∷ []

-- ---- answers

abbrev pub prints : List ℕ → Answer
prints text = record { status = done; text = text; line = [] }

abbrev pub prints_and_fails : List ℕ → List ℕ → Answer
prints_and_fails text line = record { status = fault; text = text; line = line }

abbrev pub fails : List ℕ → Answer
fails line = prints_and_fails [] line

-- ---- what ends a run

abbrev pub ending_of : Files → SeenScript → Option Stop
ending_of files p = (run files p).ending

abbrev pub at_line : ℕ → Refusal → Option Stop
at_line line refusal = Some (stop_at line refusal)

-- two rows of an integer and a text
abbrev pub two_rows : Files
two_rows = over (codes "x,g\n1,a\n2,b\n")

-- ---- calls of functions

-- x = int8 1, 2; d = double NaN, 3; g = string "a", "b"
abbrev pub block : List (List ℕ × SeenColumn)
block =
    (codes "x", record { class = class.Int8; cells = whole Int8 (pos 1) ∷ whole Int8 (pos 2) ∷ [] })
    ∷ (codes "d", record { class = class.Double; cells = double None ∷ double (Some (pos 3)) ∷ [] })
    ∷ (codes "g", record { class = class.Text; cells = cell.text (codes "a") ∷ cell.text (codes "b") ∷ [] }) ∷ []

abbrev pub map_parameters : List (Option (List ℕ))
map_parameters = parameter "data" ∷ parameter "info" ∷ parameter "store" ∷ []

-- the fault of a map function with these statements over the block, with its line 1
abbrev pub map_stop : List Step → Option Stop
map_stop bs = (call_map (record { name = codes "f"; line = 1; params = map_parameters; body = (numbered_steps (steps bs) 1).0 }) block []).stop

-- of a reduce function over the key 'a' and the values 1 and 2
abbrev pub reduce_stop : List Step → Option Stop
reduce_stop bs =
    (call_reduce (record { name = codes "f"; line = 1; params = parameter "key" ∷ parameter "values" ∷ parameter "out" ∷ []; body = (numbered_steps (steps bs) 1).0 })
    (cell.text (codes "a")) (double (Some (pos 1)) ∷ double (Some (pos 2)) ∷ []) []).stop

-- a function that has begun so many turns
abbrev pub after_turns : ℕ → Locals
after_turns n = record { names = []; given = 0; turns = n; pairs = [] }
