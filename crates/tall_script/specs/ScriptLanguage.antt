-- What names, operators, indexes and calls mean in a script, over files and with its functions.
use Rattle.std.specs.Prelude.{ℕ, Bool, true, false, if◌then◌else◌, slice_get, List, [], ◌∷◌, Option, None, Some, Result, Ok, Err}
use Rattle.std.specs.Option.{is_some}
use Rattle.std.specs.List.{find}
use Rattle.std.specs.Str.{bytes_eq}
use Rattle.tall_semantics.specs.Faults.{At}
use Rattle.tall_semantics.specs.Talls.{Tall}
use Rattle.tall_outside.specs.Shelf.{Files}
use Rattle.tall_grammar.specs.Trees.{Tree, SeenFunction}
use Rattle.tall_local.specs.Arguments.{Argument, function, given, value_given}
use Rattle.tall_local.specs.Lists.{all_of}
use Rattle.tall_local.specs.Names.{named}
use Rattle.tall_local.specs.Refusals.{Refusal, undefined, bad_class, bad_argument, Stop, stop_at}
use Rattle.tall_local.specs.Memory.{Memory, scalar, table}
use Rattle.tall_local.specs.declared.functions.ScriptFunction.{ScriptFunction}
use Rattle.tall_local.specs.declared.functions.ScriptFunction.TheVariants.{OfValues, TabularTextDatastore, Tall as TallOf, Gather, MapReduce, ReadAll, Elsewhere}
use Rattle.tall_local.specs.Functions.{script_function_named}
use Rattle.tall_local.specs.Applications.{Application, application_of}
use Rattle.tall_local.specs.Expressions.{Language, Valued, gives, stops, answered}
use Rattle.tall_local.specs.Expressions as expressions
use Rattle.tall_local.specs.Constants.{constant_named}
use Rattle.tall_script.specs.ScriptValues.{TallValue, scalar_given, application_value, prefix_value, infix_value, member_value, index_value}
use Rattle.tall_local.specs.Values.{datastore, in_memory}
use Rattle.tall_script.specs.States.{State, Store, with_openings}
use Rattle.tall_script.specs.Datastores.{datastore_call}
use Rattle.tall_script.specs.TallTables.{tall_call}
use Rattle.tall_script.specs.Gathers.{gather_call}
use Rattle.tall_script.specs.MapReduce.{map_reduced}

-- what a script runs over
pub record Setting : Type 0 where
  pub files : Files
  pub functions : List SeenFunction

abbrev pub function_in : List SeenFunction → List ℕ → Option SeenFunction
function_in fs name = find (λ (f : SeenFunction). bytes_eq f.name name) fs

-- ---- names

abbrev pub read_name : List ℕ → Option TallValue → Result TallValue Refusal
read_name name (Some v) = Ok v
read_name name None = elim (constant_named name) [ Some c ↦ Ok (in_memory (scalar c)) | None ↦ Err (undefined name) ]

-- a function that is there is still no value
abbrev pub handle_refusal : List SeenFunction → List ℕ → Refusal
handle_refusal fs name = if is_some (function_in fs name) then bad_argument else undefined name

-- ---- calls

abbrev pub application_answer : At → Option (Application TallValue) → Result TallValue Refusal
application_answer at (Some a) = application_value at a
application_answer at None = Err bad_argument

-- readall(t): a table in memory
abbrev pub readall_answer : Option (List TallValue) → Result TallValue Refusal
readall_answer (Some (in_memory (table t) ∷ [])) = Ok (in_memory (table t))
readall_answer (Some (v ∷ [])) = Err bad_class
readall_answer vs = Err bad_argument

abbrev pub table_or_stop : Result Memory Stop → State Tall → Valued TallValue (State Tall)
table_or_stop (Ok v) s = gives (in_memory v) s
table_or_stop (Err stop) s = stops stop s

-- each file is opened once at most
abbrev pub reduce_store : Files → At → Option Store → Option SeenFunction → Option SeenFunction → State Tall → Valued TallValue (State Tall)
reduce_store files at (Some d) (Some m) (Some r) s =
    table_or_stop (map_reduced files d m r) (with_openings (record { files = d.store.files; times = 1 } ∷ []) s)
reduce_store files at d m r s = stops (stop_at at.line bad_argument) s

-- a datastore, by its place, and the names of two functions
abbrev pub reduced_arguments : List (Argument TallValue) → Result (ℕ × List ℕ × List ℕ) Refusal
reduced_arguments (given (datastore place) ∷ function m ∷ function r ∷ []) = Ok (place, m, r)
reduced_arguments (given v ∷ function m ∷ function r ∷ []) = Err bad_class
reduced_arguments args = Err bad_argument

-- mapreduce(ds, @m, @r)
abbrev pub mapreduce_with : Setting → At → Result (ℕ × List ℕ × List ℕ) Refusal → State Tall → Valued TallValue (State Tall)
mapreduce_with setting at (Ok a) s =
    reduce_store setting.files at (slice_get s.stores a.0) (function_in setting.functions a.1) (function_in setting.functions a.2) s
mapreduce_with setting at (Err refusal) s = stops (stop_at at.line refusal) s

unfoldable pub script_call : Setting → At → ScriptFunction → List (Argument TallValue) → State Tall → Valued TallValue (State Tall)
script_call setting at (OfValues f) args s = answered at.line s (application_answer at (application_of scalar_given f args))
script_call setting at TabularTextDatastore args s = datastore_call setting.files at args s
script_call setting at TallOf args s = answered at.line s (tall_call setting.files args s)
script_call setting at Gather args s = gather_call at args s
script_call setting at MapReduce args s = mapreduce_with setting at (reduced_arguments args) s
script_call setting at ReadAll args s = answered at.line s (readall_answer (all_of value_given args))
script_call setting at Elsewhere args s = answered at.line s (Err bad_argument)

abbrev pub is_mapreduce : ScriptFunction → Bool
is_mapreduce MapReduce = true
is_mapreduce f = false

-- an expression of a script, by its number and its line
abbrev pub place : (number line : ℕ) → At
place n l = record { number = n; line = l }

abbrev pub script_language : Setting → Language ScriptFunction TallValue (State Tall)
script_language setting = record {
  literal = in_memory;
  has_value = λ s name. is_some (named s.names name);
  name = λ s name. read_name name (named s.names name);
  handle = handle_refusal setting.functions;
  function_named = script_function_named;
  takes_handles = is_mapreduce;
  function_is_there = λ name. is_some (function_in setting.functions name);
  prefix_value = λ n l op v. prefix_value (place n l) op v;
  infix_value = λ n l op v w. infix_value (place n l) op v w;
  member = member_value;
  index = λ n l v args. index_value (place n l) v args;
  call = λ n l f args s. script_call setting (place n l) f args s;
}

-- the value of an expression of a script
abbrev pub script_value : Setting → Tree → State Tall → Valued TallValue (State Tall)
script_value setting e s = expressions.value (script_language setting) e s
