-- A block of records has the variables that its rows are of.
use Rattle.std.proofs.Common.{ℕ, suc, ◌≡◌, ◌∙◌, ◌<◌, ◌+◌, ◌^◌, Bool, true, false, List, [], ◌∷◌, ◌++◌, length, get_or, Option, None, Some, sym, ap, refl, arith}
use Rattle.std.specs.Prelude.{◌≤◌, nat_le, nat_lt, option_map, slice_get}
use Rattle.std.specs.List.{filter_map, flat_map}
use Rattle.std.specs.Result.{result_err}
use Rattle.std.proofs.lemmas.Bool.Decides.{nat_tests}
use Rattle.std.proofs.lemmas.Option.{slice_get-map, slice_get-get_or}
use Rattle.tall_column.specs.Columns.{SeenColumn}
use Rattle.tall_cut.specs.Rows.{Fields}
use Rattle.tall_value.specs.declared.faults.ReadingKind.{ReadingKind}
use Rattle.tall_value.specs.declared.faults.ReadingKind.TheVariants.{TooManyFields, TooManyRows}
use Rattle.tall_value.specs.Columns.{numbered}
use Rattle.tall_semantics.specs.Outcomes.{Outcome, rows}
use Rattle.tall_blocks.specs.Blocks.{block_columns}
use Rattle.tall_store.specs.Blocks.{Block, block_faults, block_variables, first_block_fault}
use Rattle.tall_store.specs.Records.{DataRecord, numbered_records}
use Rattle.tall_store.specs.Stored.{record_faults, value_at, variable_of}
use Rattle.tall_store.specs.Stores.{SeenStore}
use Rattle.tall_store.specs.Walk.{fault_when}
use Rattle.tall_store.specs.declared.faults.ReadingFault.{ReadingFault}
use Rattle.tall_stored.specs.StoredColumns.{variable_class}
use Rattle.tall_stored.proofs.StoredLaws.{both_empty, none_there}
use Rattle.tall_stored_blocks.specs.StoredBlocks.{block_of}
use Rattle.tall_stored_blocks.proofs.StoredBlockLaws.{height_of}

pub block_variable : (store : SeenStore) (block : Block) (s x : ℕ) → x < length store.selected
    → (e : List ℕ × SeenColumn) × (slice_get (block_variables store block) x ≡ Some e) × (e.1.class ≡ variable_class store x) × (block_columns (block_of store block) s x ≡ rows (numbered block.row e.1.cells))
block_variable store block s x l =
    let records = numbered_records block.file block.row block.records in
    let place = get_or store.selected x 0 in (
      variable_of store records place,
      slice_get-map (variable_of store records) store.selected x ∙ ap (option_map (variable_of store records)) (slice_get-get_or store.selected x 0 l),
      refl,
      refl,
    )

pub block_height : (store : SeenStore) (block : Block) → first_block_fault store block ≡ None → (x : ℕ) (e : List ℕ × SeenColumn) → x < length store.selected
    → slice_get (block_variables store block) x ≡ Some e → length e.1.cells ≡ length block.records
block_height store block none x e l there =
    let records = numbered_records block.file block.row block.records in
    let place = get_or store.selected x 0 in
    let found = slice_get-map (variable_of store records) store.selected x ∙ ap (option_map (variable_of store records)) (slice_get-get_or store.selected x 0 l) in
    ap (λ (o : Option (List ℕ × SeenColumn)). elim o [ Some y ↦ length y.1.cells | None ↦ 0 ]) (sym there ∙ found) ∙ height_of store x l block (none_there (block_faults store block) none)

-- ---- numbers of rows

no_fault_when : (b : Bool) (kind : ReadingKind) (file row : ℕ) → fault_when b kind file row ≡ [] → b ≡ false
no_fault_when false kind file row e = refl
no_fault_when true kind file row e = absurd cc

below : (n : ℕ) → nat_le (2 ^ 40) n ≡ false → n < 2 ^ 40
below n h = grind (arith, nat_tests)

module _ (store : SeenStore) where
  first_below : (r : DataRecord) → record_faults store r ≡ [] → r.row < 2 ^ 40
  first_below r e =
      let rest = fault_when (nat_lt (length store.names) (length r.fields)) TooManyFields r.file r.row ++ filter_map (λ place. result_err (value_at store place r)) store.selected in
      below r.row (no_fault_when (nat_le (2 ^ 40) r.row) TooManyRows r.file r.row (both_empty (fault_when (nat_le (2 ^ 40) r.row) TooManyRows r.file r.row) rest e).0)

  rows_within : (file row : ℕ) (fields : Fields) (more : List Fields) → flat_map (record_faults store) (numbered_records file row (fields ∷ more)) ≡ [] → row + length (fields ∷ more) ≤ 2 ^ 40
  rows_within file row fields [] e =
      let r : DataRecord = record { file = file; row = row; fields = fields } in
      let l = first_below r (both_empty (record_faults store r) [] e).0 in
      omega (arith, l)
  rows_within file row fields (next ∷ more) e =
      let r : DataRecord = record { file = file; row = row; fields = fields } in
      let l = rows_within file (row + 1) next more (both_empty (record_faults store r) (flat_map (record_faults store) (numbered_records file (row + 1) (next ∷ more))) e).1 in
      omega (arith, l)

  pub block_rows : (block : Block) (fields : Fields) (more : List Fields) → first_block_fault store block ≡ None → block.records ≡ fields ∷ more → block.row + length block.records ≤ 2 ^ 40
  block_rows block fields more none e =
      let l = rows_within block.file block.row fields more (sym (ap (λ rs. flat_map (record_faults store) (numbered_records block.file block.row rs)) e) ∙ none_there (block_faults store block) none) in
      let n : length block.records ≡ length (fields ∷ more) = ap (λ (rs : List Fields). length rs) e in
      omega (arith, l, n)
