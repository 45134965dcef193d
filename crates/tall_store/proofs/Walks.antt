-- The walk over a datastore's files: its tables end at the first fault, and its blocks have their size.
use Rattle.std.proofs.Common.{ℕ, zero, suc, ◌≡◌, ◌∙◌, ◌<◌, ◌≤◌, ◌+◌, List, [], ◌∷◌, ◌++◌, Bool, true, false, Option, Some, None, Ok, Err, Result, sym, ap, subst, refl, arith, length, take, drop}
use Rattle.std.specs.Prelude.{◌-◌, ◌&&◌, map, not}
use Rattle.std.specs.List.{flat_map}
use Rattle.std.specs.Option.{option_or}
use Rattle.std.proofs.lemmas.List.{length-drop, length-take}
use Rattle.tall_outside.specs.Shelf.{Files, file_in}
use Rattle.tall_column.specs.Columns.{SeenColumn}
use Rattle.tall_cut.specs.Rows.{Fields}
use Rattle.tall_value.specs.declared.faults.ReadingKind.{ReadingKind}
use Rattle.tall_value.specs.declared.faults.ReadingKind.TheVariants.{HeaderDiffers, NoFile}
use Rattle.tall_store.specs.declared.faults.ReadingFault.{ReadingFault}
use Rattle.tall_store.specs.Stores.{SeenStore}
use Rattle.tall_store.specs.Headers.{begins_with}
use Rattle.tall_store.specs.Records.{data_in, records_in}
use Rattle.tall_store.specs.ReadingOrder.{first_reading_fault}
use Rattle.tall_store.specs.Stored.{unless_fault}
use Rattle.tall_store.specs.Walk.{WalkedFile, fault_when, file_faults, walk_from}
use Rattle.tall_store.specs.Blocks.{AreOfSize, Block, SizesHold, TablesJoin, block_table, block_variables, blocks_up_to, first_block_fault, first_in_blocks, first_on_walk, first_refused, in_blocks, walked_blocks, walked_tables}
use Rattle.tall_store.proofs.Joins.{faults_join, sizes_cut}

-- ---- tables

abbrev Tables : Type 0
Tables = List (Result (List (List ℕ × SeenColumn)) ReadingFault)

refused_append : (ts us : Tables) → first_refused (ts ++ us) ≡ option_or (first_refused ts) (first_refused us)
refused_append [] us = refl
refused_append (Ok t ∷ ts) us = refused_append ts us
refused_append (Err f ∷ ts) us = refl

when_refused : (b : Bool) (kind : ReadingKind) (file row : ℕ) → first_refused (map (λ f. Err f) (fault_when b kind file row)) ≡ first_reading_fault (fault_when b kind file row)
when_refused true kind file row = refl
when_refused false kind file row = refl

file_refused : (store : SeenStore) (bytes : Option (List ℕ)) (file row : ℕ)
    → first_refused (map (λ f. Err f) (file_faults store bytes file row)) ≡ first_reading_fault (file_faults store bytes file row)
file_refused store None file row = when_refused true NoFile file row
file_refused store (Some bytes) file row = when_refused (store.header && not (begins_with store.first (records_in store (Some bytes)))) HeaderDiffers file row

blocks_refused : (store : SeenStore) (blocks : List Block) → first_refused (map (block_table store) blocks) ≡ first_in_blocks store blocks
blocks_refused store [] = refl
blocks_refused store (block ∷ blocks) = by (first_block_fault store block) (blocks_refused store blocks) where
  by : (f : Option ReadingFault) → first_refused (map (block_table store) blocks) ≡ first_in_blocks store blocks
      → first_refused (unless_fault f (block_variables store block) ∷ map (block_table store) blocks) ≡ option_or f (first_in_blocks store blocks)
  by None e = e
  by (Some fault) e = refl

or_moved : (f g h : Option ReadingFault) → option_or (option_or f g) h ≡ option_or f (option_or g h)
or_moved None g h = refl
or_moved (Some f) g h = refl

walk_refused : (store : SeenStore) (files : Files) (file row : ℕ) (names : List (List ℕ))
    → first_refused (flat_map (walked_tables store) (walk_from store files file row names)) ≡ first_on_walk (in_blocks store.size) store (walk_from store files file row names)
walk_refused store files file row [] = refl
walk_refused store files file row (name ∷ names) =
    let bytes : Option (List ℕ) = file_in files name in
    let found : List Fields = data_in store bytes in
    let here : WalkedFile = record { file = file; row = row; faults = file_faults store bytes file row; records = found } in
    let blocks : List Block = walked_blocks (in_blocks store.size) here in
    let rest : List WalkedFile = walk_from store files (file + 1) (row + length found) names in
    refused_append (walked_tables store here) (flat_map (walked_tables store) rest)
    ∙ ap (λ f. option_or f (first_refused (flat_map (walked_tables store) rest))) (refused_append (map (λ f. Err f) here.faults) (map (block_table store) blocks))
    ∙ ap (λ f. option_or (option_or f (first_refused (map (block_table store) blocks))) (first_refused (flat_map (walked_tables store) rest))) (file_refused store bytes file row)
    ∙ ap (λ f. option_or (option_or (first_reading_fault here.faults) f) (first_refused (flat_map (walked_tables store) rest))) (blocks_refused store blocks)
    ∙ ap (λ f. option_or (option_or (first_reading_fault here.faults) (first_in_blocks store blocks)) f) (walk_refused store files (file + 1) (row + length found) names)
    ∙ or_moved (first_reading_fault here.faults) (first_in_blocks store blocks) (first_on_walk (in_blocks store.size) store rest)

pub tables_join : TablesJoin
tables_join store files some = walk_refused store files 0 1 store.files ∙ faults_join (in_blocks store.size) (sizes_cut store.size some) store files

-- ---- sizes

-- where something is left, as much was taken as a block has
full_take : (size : ℕ) (all : List Fields) → 0 < length (drop size all) → length (take size all) ≡ size
full_take size all l = let t = length-take size all in let d = length-drop size all in omega (arith, t, d, l)

-- else all was taken
last_take : (size : ℕ) (all : List Fields) → 0 < size → 0 < length all → (0 < length (take size all)) × (length (take size all) ≤ size)
last_take size all some l = let t = length-take size all in (omega (arith, t, some, l), omega (arith, t))

alone : (size n : ℕ) (all : List Fields) → 0 < size → 0 < length all → AreOfSize size (take size all ∷ blocks_up_to n size [])
unfolding blocks_up_to
alone size zero all some l = last_take size all some l
alone size (suc n) all some l = last_take size all some l

front_holds : (size n : ℕ) (all rest : List Fields) → drop size all ≡ rest → 0 < size → 0 < length all → length rest ≤ n
    → AreOfSize size (blocks_up_to n size (drop size all)) → AreOfSize size (take size all ∷ blocks_up_to n size (drop size all))
unfolding blocks_up_to
front_holds size n all [] e some l few h = subst (λ (r : List Fields). AreOfSize size (take size all ∷ blocks_up_to n size r)) (sym e) (alone size n all some l)
front_holds size zero all (g ∷ gs) e some l few h = absurd (omega (arith, few))
front_holds size (suc n) all (g ∷ gs) e some l few h =
    subst (λ (r : List Fields). AreOfSize size (take size all ∷ blocks_up_to (suc n) size r)) (sym e)
    (full_take size all (subst (λ (r : List Fields). 0 < length r) (sym e) (omega arith)), subst (λ (r : List Fields). AreOfSize size (blocks_up_to (suc n) size r)) e h)

blocks_hold : (size n : ℕ) (records : List Fields) → 0 < size → length records ≤ n → AreOfSize size (blocks_up_to n size records)
unfolding blocks_up_to
blocks_hold size zero [] some l = tt
blocks_hold size zero (fields ∷ records) some l = absurd (omega (arith, l))
blocks_hold size (suc n) [] some l = tt
blocks_hold size (suc n) (fields ∷ records) some l =
    let d = length-drop size (fields ∷ records) in
    let few : length (drop size (fields ∷ records)) ≤ n = shorter (length records) (length (drop size (fields ∷ records))) size n d some l in
    front_holds size n (fields ∷ records) (drop size (fields ∷ records)) refl some (omega arith) few (blocks_hold size n (drop size (fields ∷ records)) some few)
  where
    shorter : (k m size n : ℕ) → m ≡ suc k - size → 0 < size → suc k ≤ suc n → m ≤ n
    shorter k m size n e l h = omega (arith, e, l, h)

pub sizes_hold : SizesHold
sizes_hold size records some = blocks_hold size (length records) records some (omega arith)
