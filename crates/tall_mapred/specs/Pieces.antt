-- What a call of a function on an empty store gives, for a block or for a key.
use Rattle.std.specs.Prelude.{◌≡◌, ◌<◌, ◌⊎◌, ℕ, List, [], ◌∷◌, length, slice_get, None, Some, Ok, Err, Result, ⊤}
use Rattle.tall_column.specs.Columns.{SeenColumn}
use Rattle.tall_grammar.specs.Trees.{SeenFunction}
use Rattle.tall_kv.specs.ByKey.{Group}
use Rattle.tall_local.specs.Calls.{CallResult, call_map, call_reduce}
use Rattle.tall_local.specs.Refusals.{Stop}
use Rattle.tall_store.specs.Blocks.{Block, block_table, first_block_fault}
use Rattle.tall_store.specs.Stores.{SeenStore}
use Rattle.tall_store.specs.declared.file_rows.FileBlock.{FileBlock}
use Rattle.tall_script.specs.ReadingFaults.{stop_of_reading}
use Rattle.tall_script.specs.States.{Store}
use Rattle.tall_walk.specs.Events.{block_of}
use Rattle.tall_fun.specs.Faults.{CallsTo}
use Rattle.tall_fun.specs.declared.faults.FunKind.TheVariants.{KeyClass, ValueClass, TooManyRows}
use Rattle.tall_kv.specs.declared.faults.PairFault.{PairFault}
use Rattle.tall_kv.specs.declared.faults.PairFault.TheVariants as pair
use Rattle.tall_mapred.specs.declared.faults.MapFault.{MapFault}
use Rattle.tall_mapred.specs.declared.faults.MapFault.TheVariants as map
use Rattle.tall_mapred.specs.declared.calls.CallPiece.{CallPiece}
use Rattle.tall_mapred.specs.declared.calls.CallPiece.TheVariants.{Called, Reading, Memory}

-- of the map function for a block: its reading fault, else what the call adds to an empty store
abbrev pub IsMapPiece : SeenStore → SeenFunction → Block → CallPiece → Type 0
IsMapPiece store f b (Called pairs end) = (t : List (List ℕ × SeenColumn)) × (block_table store b ≡ Ok t) × CallsTo (call_map f t []) pairs end
IsMapPiece store f b (Reading g) = block_table store b ≡ Err g
IsMapPiece store f b Memory = ⊤

-- the same for a block that was found
abbrev pub IsBlockPiece : SeenStore → SeenFunction → FileBlock → CallPiece → Type 0
IsBlockPiece store f b p = IsMapPiece store f (block_of b) p

-- of the reduce function for a key with its values
abbrev pub IsReducePiece : SeenFunction → Group → CallPiece → Type 0
IsReducePiece f g (Called pairs end) = CallsTo (call_reduce f g.key g.values.cells []) pairs end
IsReducePiece f g (Reading fault) = ⊥
IsReducePiece f g Memory = ⊤

-- such a piece of what stands at a place of a list, if anything does
abbrev pub IsOfPlace : {X : Type 0} → (X → CallPiece → Type 0) → List X → (place : ℕ) → CallPiece → Type 0
IsOfPlace R xs i p = (x : _) → slice_get xs i ≡ Some x → R x p

-- either one comes from what a phase has at its place
abbrev pub ComesFrom : Store → Result CallResult Stop → CallPiece → Type 0
ComesFrom d want (Called pairs end) = (c : CallResult) × (want ≡ Ok c) × CallsTo c pairs end
ComesFrom d want (Reading g) = want ≡ Err (stop_of_reading d g)
ComesFrom d want Memory = ⊤

-- ---- a pair that does not fit

abbrev pub IsPairFault : PairFault → MapFault → Type 0
IsPairFault (pair.KeyClass line) fault = fault ≡ map.At line None KeyClass
IsPairFault (pair.ValueClass line) fault = fault ≡ map.At line None ValueClass
IsPairFault (pair.TooManyRows line) fault = fault ≡ map.At line None TooManyRows
IsPairFault pair.Memory fault = fault ≡ map.Memory

-- ---- why the pairs of a piece were not appended

-- a fault of a function, or want of memory
abbrev pub IsOfFunctions : MapFault → Type 0
IsOfFunctions (map.At line row kind) = ⊤
IsOfFunctions (map.Reading g) = ⊥
IsOfFunctions (map.Read file) = ⊥
IsOfFunctions (map.TooLarge file) = ⊥
IsOfFunctions map.Memory = ⊤

abbrev pub IsFaultOfPiece : CallPiece → MapFault → Type 0
IsFaultOfPiece (Called pairs end) fault = IsOfFunctions fault
IsFaultOfPiece (Reading g) fault = fault ≡ map.Reading g
IsFaultOfPiece Memory fault = fault ≡ map.Memory

-- of one of the pieces
abbrev pub IsFaultOfOne : List CallPiece → MapFault → Type 0
IsFaultOfOne [] fault = ⊥
IsFaultOfOne (p ∷ ps) fault = IsFaultOfPiece p fault ⊎ IsFaultOfOne ps fault

-- such a fault, or the reading fault of a block
abbrev pub IsOfPhase : SeenStore → MapFault → Type 0
IsOfPhase store (map.At line row kind) = ⊤
IsOfPhase store (map.Reading g) = (b : Block) × (b.file < length store.files) × (first_block_fault store b ≡ Some g)
IsOfPhase store (map.Read file) = ⊥
IsOfPhase store (map.TooLarge file) = ⊥
IsOfPhase store map.Memory = ⊤
