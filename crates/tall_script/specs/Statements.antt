-- Statements: the text that a statement shows and the state that it leaves, or the fault that ends the run.
-- docs/LANGUAGE.md, grammar.
use Rattle.std.specs.Prelude.{ℕ, Bool, false, if◌then◌else◌, ◌==◌, length, slice_get, List, [], ◌∷◌, ◌++◌, Option, None, Some, Result, Ok, Err, codes}
use Rattle.tall_grammar.specs.Trees.{Tree, tree, Args, Body, assigned, gathered, property, bare, SeenStatement}
use Rattle.tall_grammar.specs.Trees as trees
use Rattle.tall_semantics.specs.Talls.{Tall}
use Rattle.tall_local.specs.Arguments.{value_given}
use Rattle.tall_local.specs.Lists.{all_of}
use Rattle.tall_local.specs.Names.{named, put_name}
use Rattle.tall_local.specs.Refusals.{Refusal, bad_argument, Stop, stop_at, and_then, or_refuse}
use Rattle.tall_local.specs.Memory.{Memory}
use Rattle.tall_local.specs.Expressions.{Valued, gives, stops, arguments}
use Rattle.tall_script.specs.ScriptLanguage.{Setting, read_name, script_language, script_value}
use Rattle.tall_script.specs.ScriptValues.{TallValue, class_of_tall}
use Rattle.tall_script.specs.Gathers.{gather_all}
use Rattle.tall_script.specs.Datastores.{changed}
use Rattle.tall_script.specs.StoreArguments.{properties}
use Rattle.tall_local.specs.Printing.{value_text}
use Rattle.tall_local.specs.Values.{datastore, in_memory}
use Rattle.tall_script.specs.States.{State, Store, with_store}

-- a statement shows a text and leaves a state, or stops; a state tells what was done before
pub data Done : Type 0 where
  shows : (text : List ℕ) → State Tall → Done
  fails : Stop → State Tall → Done

abbrev pub then_do : {V : Type 0} → Valued V (State Tall) → (V → State Tall → Done) → Done
then_do (gives v s) f = f v s
then_do (stops stop s) f = fails stop s

abbrev pub set_name : List ℕ → TallValue → State Tall → State Tall
set_name name v s = record s { names = put_name name v s.names }

abbrev pub shown_text : Bool → List ℕ → TallValue → List ℕ
shown_text shown name v = if shown then value_text class_of_tall name v else []

-- name = expr
abbrev pub assign : Bool → List ℕ → TallValue → State Tall → Done
assign shown name v s = shows (shown_text shown name v) (set_name name v s)

-- ---- gathers into several names

-- each name gets its value; they are shown in their order
abbrev pub set_names : Bool → List (List ℕ) → List Memory → List ℕ → State Tall → Done
set_names shown (name ∷ names) (v ∷ vs) text s =
    set_names shown names vs (text ++ shown_text shown name (in_memory v)) (set_name name (in_memory v) s)
set_names shown names vs text s = shows text s

-- as many names as arguments, and no `:`
abbrev pub gather_into : (line : ℕ) → Bool → List (List ℕ) → Option (List TallValue) → State Tall → Done
gather_into line shown names None s = fails (stop_at line bad_argument) s
gather_into line shown names (Some vs) s =
    if length names == length vs
    then then_do (gather_all line vs s) (λ gathered t. set_names shown names gathered [] t)
    else fails (stop_at line bad_argument) s

-- ---- properties

-- the datastore of a name; a name that has a value while no variable hides it stands for no datastore
abbrev pub datastore_named : List Store → List ℕ → Result TallValue Refusal → Result Store Refusal
datastore_named stores name (Ok (datastore place)) = or_refuse bad_argument (slice_get stores place)
datastore_named stores name (Ok v) = Err bad_argument
datastore_named stores name (Err e) = Err e

-- the datastore with the property changed keeps the number and the line of its call
abbrev pub changed_store : List ℕ → TallValue → Store → Result Store Refusal
changed_store p v d =
    and_then (or_refuse bad_argument (named properties p))
    (λ property. and_then (changed d.store property v) (λ store. Ok (record { at = d.at; store = store })))

abbrev pub put_store : (line : ℕ) → Bool → List ℕ → Result Store Refusal → State Tall → Done
put_store line shown name (Ok d) s = assign shown name (datastore (length s.stores)) (with_store d s)
put_store line shown name (Err refusal) s = fails (stop_at line refusal) s

-- ---- an expression alone

-- one name is shown under itself and assigns nothing; all else is assigned to `ans`
abbrev pub alone : Bool → Tree → TallValue → State Tall → Done
alone shown (tree n l (trees.name x)) v s = shows (shown_text shown x v) s
alone shown e v s = assign shown (codes "ans") v s

-- ---- all forms

abbrev pub body : Setting → (line : ℕ) → Bool → Body → State Tall → Done
body setting line shown (assigned name e) s = then_do (script_value setting e s) (assign shown name)
body setting line shown (gathered names args) s =
    then_do (arguments (script_language setting) args false s) (λ given t. gather_into line shown names (all_of value_given given) t)
body setting line shown (property name p e) s =
    then_do (script_value setting e s)
    (λ v t. put_store line shown name (and_then (datastore_named t.stores name (read_name name (named t.names name))) (changed_store p v)) t)
body setting line shown (bare e) s = then_do (script_value setting e s) (alone shown e)

abbrev pub statement : Setting → SeenStatement → State Tall → Done
statement setting entry s = body setting entry.line entry.shown entry.form s
