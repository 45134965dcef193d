-- Datastores with another ReadSize; states, statements and runs without a look at ReadSizes.
use Rattle.std.specs.Prelude.{◌≡◌, ℕ, ◌&&◌, Bool, false, List, [], ◌∷◌, map, Option, None, Some, Result, Ok, Err}
use Rattle.std.specs.List.{All, list_all}
use Rattle.tall_cut.specs.declared.cutter.ReadSize.{ReadSize}
use Rattle.tall_cut.specs.declared.cutter.ReadSize.TheVariants.{File}
use Rattle.tall_grammar.specs.Trees.{Body, assigned, gathered, property, bare, SeenStatement}
use Rattle.tall_local.specs.CallsMade.{calls_made, calls_in_arguments}
use Rattle.tall_local.specs.Expressions.{Valued, gives, stops}
use Rattle.tall_local.specs.Functions.{script_function_named}
use Rattle.tall_local.specs.StateLaws.{calls_none, calls_none_in}
use Rattle.tall_local.specs.declared.functions.ScriptFunction.{ScriptFunction}
use Rattle.tall_semantics.specs.Talls.{Tall}
use Rattle.tall_store.specs.declared.faults.StoreFault.{StoreFault}
use Rattle.tall_store.specs.Options.{SeenOptions}
use Rattle.tall_store.specs.Stores.{SeenStore}
use Rattle.tall_script.specs.OpeningLaws.{ScriptCall, reduces_store}
use Rattle.tall_script.specs.Runs.{Run}
use Rattle.tall_script.specs.ScriptLanguage.{Setting, is_mapreduce, reduced_arguments, script_language}
use Rattle.tall_script.specs.Statements.{Done, shows, fails, statement}
use Rattle.tall_script.specs.States.{State, Store}

abbrev pub in_blocks_of : ReadSize → SeenStore → SeenStore
in_blocks_of size store = record store { size = size }

abbrev pub resized : ReadSize → Store → Store
resized size d = record { at = d.at; store = in_blocks_of size d.store }

-- ---- openings

abbrev pub with_size : ReadSize → SeenOptions → SeenOptions
with_size size o = record o { size = size }

abbrev pub opened_in : ReadSize → Result SeenStore StoreFault → Result SeenStore StoreFault
opened_in size (Ok store) = Ok (in_blocks_of size store)
opened_in size (Err f) = Err f

-- ---- whatever the ReadSizes are

abbrev pub sizeless : Store → Store
sizeless d = resized File d

abbrev pub sizeless_state : State Tall → State Tall
sizeless_state s = record s { stores = map sizeless s.stores }

abbrev pub sizeless_valued : {W : Type 0} → Valued W (State Tall) → Valued W (State Tall)
sizeless_valued (gives w s) = gives w (sizeless_state s)
sizeless_valued (stops stop s) = stops stop (sizeless_state s)

abbrev pub sizeless_done : Done → Done
sizeless_done (shows text s) = shows text (sizeless_state s)
sizeless_done (fails stop s) = fails stop (sizeless_state s)

abbrev pub sizeless_run : Run → Run
sizeless_run r = record r { state = sizeless_state r.state }

-- ---- statements in which mapreduce isn't called, by its name

abbrev pub reduces : Option ScriptFunction → Bool
reduces (Some f) = is_mapreduce f
reduces None = false

abbrev pub is_reducing : List ℕ → Bool
is_reducing name = reduces (script_function_named name)

abbrev pub reduces_none : Body → Bool
reduces_none (assigned name e) = calls_none is_reducing e
reduces_none (gathered names args) = calls_none_in is_reducing args
reduces_none (property name p e) = calls_none is_reducing e
reduces_none (bare e) = calls_none is_reducing e

abbrev pub reduce_none : List SeenStatement → Bool
reduce_none entries = list_all (λ (entry : SeenStatement). reduces_none entry.form) entries

-- ---- by what was called

-- the call runs a mapreduce; one that is refused before does not
abbrev pub call_reduces : Setting → ScriptCall → Bool
call_reduces setting c = is_mapreduce c.function && reduces_store setting (reduced_arguments c.arguments) c.state

abbrev pub ReducesNothing : Setting → ScriptCall → Type 0
ReducesNothing setting c = call_reduces setting c ≡ false

-- the calls that a statement makes
abbrev pub calls_in_body : Setting → Body → State Tall → List ScriptCall
calls_in_body setting (assigned name e) s = calls_made (script_language setting) e s
calls_in_body setting (gathered names args) s = calls_in_arguments (script_language setting) args false s
calls_in_body setting (property name p e) s = calls_made (script_language setting) e s
calls_in_body setting (bare e) s = calls_made (script_language setting) e s

-- in the state that a statement leaves, where it doesn't fail
abbrev pub AfterDone : Done → (State Tall → Type 0) → Type 0
AfterDone (shows text s) P = P s
AfterDone (fails stop s) P = Unit {0}

-- no call of the run of these statements runs a mapreduce
abbrev pub RunsNone : Setting → List SeenStatement → State Tall → Type 0
RunsNone setting [] s = Unit {0}
RunsNone setting (entry ∷ entries) s =
    All (ReducesNothing setting) (calls_in_body setting entry.form s) × AfterDone (statement setting entry s) (RunsNone setting entries)
