-- What the pieces of blocks and of keys come from.
use Rattle.std.proofs.Common.{ℕ, zero, suc, ◌≡◌, ◌∙◌, List, [], ◌∷◌, Err, sym, ap, subst, refl, length, take, ◌<◌, ◌≤◌, arith}
use Rattle.std.specs.Prelude.{Option, Some, None, option_map, slice_get}
use Rattle.std.proofs.lemmas.Option.{none-some}
use Rattle.tall_column.specs.Columns.{SeenColumn}
use Rattle.tall_grammar.specs.Trees.{SeenFunction}
use Rattle.tall_kv.specs.ByKey.{Group}
use Rattle.tall_value.specs.Cells.{Seen}
use Rattle.tall_local.specs.Calls.{call_map, call_reduce}
use Rattle.tall_script.specs.MapReduceLaws.{mapped_block}
use Rattle.tall_script.specs.States.{Store}
use Rattle.tall_store.specs.Blocks.{Block, block_table, block_variables, first_block_fault}
use Rattle.tall_store.specs.Stores.{SeenStore}
use Rattle.tall_mapred.specs.declared.calls.CallPiece.{CallPiece}
use Rattle.tall_mapred.specs.declared.calls.CallPiece.TheVariants.{Called, Reading, Memory}
use Rattle.tall_mapred.specs.Phases.{reduce_want}
use Rattle.tall_mapred.specs.Pieces.{ComesFrom, IsFaultOfPiece, IsMapPiece, IsOfFunctions, IsOfPhase, IsReducePiece}
use Rattle.tall_mapred.specs.declared.faults.MapFault.{MapFault}
use Rattle.tall_mapred.specs.declared.faults.MapFault.TheVariants as map
use Rattle.tall_store.specs.declared.faults.ReadingFault.{ReadingFault}
use Rattle.tall_store.specs.Stored.{unless_fault}

pub map_comes : (d : Store) (store : SeenStore) (f : SeenFunction) (b : Block) (piece : CallPiece) → d.store ≡ store → IsMapPiece store f b piece → ComesFrom d (mapped_block d f (block_table d.store b)) piece
map_comes d store f b (Called pairs end) same p = (call_map f p.0 [], ap (λ s. mapped_block d f (block_table s b)) same ∙ ap (mapped_block d f) p.1, p.2)
map_comes d store f b (Reading g) same p = ap (λ s. mapped_block d f (block_table s b)) same ∙ ap (mapped_block d f) p
map_comes d store f b Memory same p = tt

pub reduce_comes : (d : Store) (f : SeenFunction) (g : Group) (piece : CallPiece) → IsReducePiece f g piece → ComesFrom d (reduce_want f g) piece
reduce_comes d f g (Called pairs end) p = (call_reduce f g.key g.values.cells [], refl, p)
reduce_comes d f g (Reading fault) p = absurd p
reduce_comes d f g Memory p = tt

-- ---- the group at a place

pub group_at : (groups : List Group) (i : ℕ) (key : Seen) (values : SeenColumn) → option_map (λ g. g.key) (slice_get groups i) ≡ Some key → option_map (λ g. g.values) (slice_get groups i) ≡ Some values
    → slice_get groups i ≡ Some (record { key = key; values = values })
group_at groups i key values k v = by (slice_get groups i) k v
  where
    same : (g : Group) → Some g.key ≡ Some key → Some g.values ≡ Some values → g ≡ record { key = key; values = values }
    same g a b = let k : g.key ≡ key = cc in let v : g.values ≡ values = cc in ap (λ x. record { key = x; values = g.values }) k ∙ ap (λ x. record { key = key; values = x }) v

    by : (o : Option Group) → option_map (λ g. g.key) o ≡ Some key → option_map (λ g. g.values) o ≡ Some values → o ≡ Some (record { key = key; values = values })
    by None a b = absurd (none-some key a)
    by (Some g) a b = ap (λ x. Some x) (same g a b)

pub take_all : (groups : List Group) (n : ℕ) → length groups ≤ n → take n groups ≡ groups
take_all [] zero l = refl
take_all [] (suc n) l = refl
take_all (x ∷ groups) zero l = absurd (omega (arith, l))
take_all (x ∷ groups) (suc n) l = ap (λ ys. x ∷ ys) (take_all groups n (omega (arith, l)))

-- ---- faults of pieces

faulty_table : (store : SeenStore) (b : Block) (g : ReadingFault) → block_table store b ≡ Err g → first_block_fault store b ≡ Some g
faulty_table store b g e = by (first_block_fault store b) e
  where
    by : (f : Option ReadingFault) → unless_fault f (block_variables store b) ≡ Err g → f ≡ Some g
    by None e = absurd cc
    by (Some f) e = cc

pub fault_of_phase : (store : SeenStore) (f : SeenFunction) (b : Block) (piece : CallPiece) (fault : MapFault) → b.file < length store.files → IsMapPiece store f b piece → IsFaultOfPiece piece fault → IsOfPhase store fault
fault_of_phase store f b (Called pairs end) (map.At line row kind) l p e = tt
fault_of_phase store f b (Called pairs end) (map.Reading g) l p e = absurd e
fault_of_phase store f b (Called pairs end) (map.Read file) l p e = absurd e
fault_of_phase store f b (Called pairs end) (map.TooLarge file) l p e = absurd e
fault_of_phase store f b (Called pairs end) map.Memory l p e = tt
fault_of_phase store f b (Reading g) fault l p e = subst (IsOfPhase store) (sym e) (b, l, faulty_table store b g p)
fault_of_phase store f b Memory fault l p e = subst (IsOfPhase store) (sym e) tt

pub fault_of_reduce : (f : SeenFunction) (g : Group) (piece : CallPiece) (fault : MapFault) → IsReducePiece f g piece → IsFaultOfPiece piece fault → IsOfFunctions fault
fault_of_reduce f g (Called pairs end) fault p e = e
fault_of_reduce f g (Reading x) fault p e = absurd p
fault_of_reduce f g Memory fault p e = subst IsOfFunctions (sym e) tt
