-- What opens files: calls of three functions, and nothing else.
use Rattle.std.specs.Prelude.{◌≡◌, ℕ, ◌==◌, ◌&&◌, Bool, true, false, length, slice_get, List, [], ◌∷◌, Option, None, Some, Result, Ok, Err}
use Rattle.std.specs.List.{All, flat_map}
use Rattle.std.specs.Option.{is_some}
use Rattle.tall_grammar.specs.Trees.{Body, assigned, gathered, property, bare}
use Rattle.tall_local.specs.Functions.{script_function_named}
use Rattle.tall_local.specs.declared.functions.ScriptFunction.{ScriptFunction}
use Rattle.tall_local.specs.declared.functions.ScriptFunction.TheVariants.{TabularTextDatastore, Gather, MapReduce}
use Rattle.tall_local.specs.Arguments.{Argument, value_given}
use Rattle.tall_local.specs.CallsMade.{Call, calls_made, calls_in_arguments}
use Rattle.tall_local.specs.Expressions.{Valued, gives, stops, arguments}
use Rattle.tall_local.specs.Lists.{all_of, each_of}
use Rattle.tall_local.specs.Refusals.{Refusal}
use Rattle.tall_local.specs.StateLaws.{calls_none}
use Rattle.tall_semantics.specs.Talls.{Tall}
use Rattle.tall_store.specs.Options.{SeenOptions, is_accepted, is_nonempty}
use Rattle.tall_script.specs.Datastores.{options_in}
use Rattle.tall_script.specs.Gathers.{gathered_value, talls_in}
use Rattle.tall_script.specs.ScriptLanguage.{Setting, function_in, reduced_arguments, script_language}
use Rattle.tall_script.specs.ScriptValues.{TallValue}
use Rattle.tall_script.specs.States.{State}

-- it makes a datastore, gathers or runs a mapreduce
abbrev pub opens_files : ScriptFunction → Bool
opens_files TabularTextDatastore = true
opens_files Gather = true
opens_files MapReduce = true
opens_files f = false

abbrev pub opens : Option ScriptFunction → Bool
opens (Some f) = opens_files f
opens None = false

abbrev pub is_opening : List ℕ → Bool
is_opening name = opens (script_function_named name)

-- a statement in which no such function is called; a gather into several names is one
abbrev pub opens_none : Body → Bool
opens_none (assigned name e) = calls_none is_opening e
opens_none (gathered names args) = false
opens_none (property name p e) = calls_none is_opening e
opens_none (bare e) = calls_none is_opening e

-- ---- by what was called

-- a call in a script
abbrev pub ScriptCall : Type 0
ScriptCall = Call ScriptFunction TallValue (State Tall)

-- options of a datastore that are accepted before the opening
abbrev pub makes_datastore : Option SeenOptions → Bool
makes_datastore (Some o) = is_accepted o
makes_datastore None = false

-- values of which none is refused for its class, and one is tall
abbrev pub gathers_tall : {W : Type 0} → Result W Refusal → List TallValue → Bool
gathers_tall (Ok w) vs = is_nonempty (flat_map talls_in vs)
gathers_tall (Err e) vs = false

abbrev pub gathers_one : Option (List TallValue) → Bool
gathers_one (Some (v ∷ [])) = gathers_tall (gathered_value v) (v ∷ [])
gathers_one vs = false

-- as many names as values
abbrev pub gathers_into : List (List ℕ) → Option (List TallValue) → Bool
gathers_into names (Some vs) = (length names == length vs) && gathers_tall (each_of gathered_value vs) vs
gathers_into names None = false

-- a datastore that is there, and two functions that are there
abbrev pub reduces_store : Setting → Result (ℕ × List ℕ × List ℕ) Refusal → State Tall → Bool
reduces_store setting (Ok a) s =
    is_some (slice_get s.stores a.0) && (is_some (function_in setting.functions a.1) && is_some (function_in setting.functions a.2))
reduces_store setting (Err e) s = false

-- the call makes a datastore, gathers a tall value or runs a mapreduce; one that is refused before does not
abbrev pub call_opens : Setting → ScriptFunction → List (Argument TallValue) → State Tall → Bool
call_opens setting TabularTextDatastore args s = makes_datastore (options_in args)
call_opens setting Gather args s = gathers_one (all_of value_given args)
call_opens setting MapReduce args s = reduces_store setting (reduced_arguments args) s
call_opens setting f args s = false

abbrev pub OpensNothing : Setting → ScriptCall → Type 0
OpensNothing setting c = call_opens setting c.function c.arguments c.state ≡ false

-- the gather of a list of names, of arguments that were given
abbrev pub GathersNothing : List (List ℕ) → Valued (List (Argument TallValue)) (State Tall) → Type 0
GathersNothing names (gives args s) = gathers_into names (all_of value_given args) ≡ false
GathersNothing names (stops stop s) = Unit {0}

-- no call that a statement makes is one
abbrev pub IsQuiet : Setting → Body → State Tall → Type 0
IsQuiet setting (assigned name e) s = All (OpensNothing setting) (calls_made (script_language setting) e s)
IsQuiet setting (gathered names args) s =
    All (OpensNothing setting) (calls_in_arguments (script_language setting) args false s) × GathersNothing names (arguments (script_language setting) args false s)
IsQuiet setting (property name p e) s = All (OpensNothing setting) (calls_made (script_language setting) e s)
IsQuiet setting (bare e) s = All (OpensNothing setting) (calls_made (script_language setting) e s)
