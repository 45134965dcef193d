-- Gathers: the values of tall values, or the least fault among them. docs/LANGUAGE.md, functions.
use Rattle.std.specs.Prelude.{ℕ, ◌+◌, List, [], ◌∷◌, map, Option, None, Some, Result, Ok, Err}
use Rattle.std.specs.List.{flat_map}
use Rattle.tall_value.specs.declared.class.Class.{Class}
use Rattle.tall_column.specs.Columns.{SeenColumn}
use Rattle.tall_semantics.specs.Faults.{At, Fault, least_fault}
use Rattle.tall_semantics.specs.Openings.{share}
use Rattle.tall_semantics.specs.Outcomes.{Outcome, fault_of, cells_in}
use Rattle.tall_semantics.specs.Outcomes as outcome
use Rattle.tall_semantics.specs.Shapes.{Shape}
use Rattle.tall_semantics.specs.Talls.{Tall, shapes, outcomes}
use Rattle.tall_local.specs.Arguments.{Argument, value_given}
use Rattle.tall_local.specs.Lists.{all_of, each_of}
use Rattle.tall_local.specs.Names.{each_named}
use Rattle.tall_local.specs.Refusals.{Refusal, bad_class, bad_argument, Stop, stop_at}
use Rattle.tall_local.specs.Memory.{Memory, scalar, column, table, texts}
use Rattle.tall_local.specs.Expressions.{Valued, gives, stops, go_on}
use Rattle.tall_script.specs.ScriptValues.{TallValue}
use Rattle.tall_script.specs.ReadingFaults.{stop_of_fault}
use Rattle.tall_local.specs.Values.{datastore, tall_table, deferred, in_memory}
use Rattle.tall_script.specs.States.{Store, State, Openings, with_openings}

abbrev pub column_in : List ℕ × Tall → Tall
column_in entry = entry.1

-- the tall columns and scalars of a value
abbrev pub talls_in : TallValue → List Tall
talls_in (deferred x) = x ∷ []
talls_in (tall_table t) = map column_in t
talls_in v = []

-- ---- values without a fault

abbrev pub column_of_tall : Tall → SeenColumn
column_of_tall x = record { class = x.shape.class; cells = cells_in x.outcome }

abbrev pub memory_of_outcome : Class → Outcome → Memory
memory_of_outcome c (outcome.scalar cell) = scalar cell
memory_of_outcome c x = column (record { class = c; cells = cells_in x })

-- a value in memory is its own; a datastore and a list are refused
abbrev pub gathered_value : TallValue → Result Memory Refusal
gathered_value (in_memory (texts ts)) = Err bad_class
gathered_value (in_memory v) = Ok v
gathered_value (deferred x) = Ok (memory_of_outcome x.shape.class x.outcome)
gathered_value (tall_table t) = Ok (table (each_named column_of_tall t))
gathered_value (datastore place) = Err bad_class

-- ---- openings

-- each datastore's files may be opened as often as its share says
abbrev pub gather_openings : (place : ℕ) → List Store → List Shape → List Openings
gather_openings place [] xs = []
gather_openings place (d ∷ ds) xs = record { files = d.store.files; times = share place xs } ∷ gather_openings (place + 1) ds xs

-- ---- gathers

-- what is made of the values of all, or the least of all faults
abbrev pub values_or_fault : {W : Type 0} → List Store → Option Fault → W → Result W Stop
values_or_fault stores None w = Ok w
values_or_fault stores (Some f) w = Err (stop_of_fault stores f)

abbrev pub answered_all : {W : Type 0} → State Tall → Result W Stop → Valued W (State Tall)
answered_all s (Ok w) = gives w s
answered_all s (Err stop) = stops stop s

abbrev pub gather_known : {W : Type 0} → List Tall → W → State Tall → Valued W (State Tall)
gather_known xs w s =
    answered_all (with_openings (gather_openings 0 s.stores (shapes xs)) s) (values_or_fault s.stores (least_fault (map fault_of (outcomes xs))) w)

-- classes are looked at first; a gather that is refused for a class opens nothing
abbrev pub gather_if : {W : Type 0} → (line : ℕ) → List TallValue → Result W Refusal → State Tall → Valued W (State Tall)
gather_if line vs (Ok w) s = gather_known (flat_map talls_in vs) w s
gather_if line vs (Err refusal) s = stops (stop_at line refusal) s

unfoldable pub gather_all : (line : ℕ) → List TallValue → State Tall → Valued (List Memory) (State Tall)
gather_all line vs s = gather_if line vs (each_of gathered_value vs) s

-- gather(x)
unfoldable pub gather_value : (line : ℕ) → TallValue → State Tall → Valued Memory (State Tall)
gather_value line v s = gather_if line (v ∷ []) (gathered_value v) s

abbrev pub gather_one : At → Option (List TallValue) → State Tall → Valued TallValue (State Tall)
gather_one at (Some (v ∷ [])) s = go_on (gather_value at.line v s) (λ m t. gives (in_memory m) t)
gather_one at vs s = stops (stop_at at.line bad_argument) s

abbrev pub gather_call : At → List (Argument TallValue) → State Tall → Valued TallValue (State Tall)
gather_call at args s = gather_one at (all_of value_given args) s
