-- The blocks of a datastore without a reading fault have the rows of its columns.
use Rattle.std.proofs.Common.{ℕ, zero, suc, ◌≡◌, ◌∙◌, ◌<◌, ◌+◌, ◌^◌, Bool, true, false, List, [], ◌∷◌, ◌++◌, length, length-append, get_or, Option, None, Some, Result, Ok, Err, sym, ap, refl, subst, arith}
use Rattle.std.specs.Prelude.{◌≤◌, if◌then◌else◌, nat_le, nat_lt, slice_get}
use Rattle.std.specs.List.{filter_map, flat_map, cons_option, range_with_len}
use Rattle.std.specs.Result.{result_err, result_ok}
use Rattle.std.proofs.lemmas.Grind.{flat_map-append}
use Rattle.tall_outside.specs.Shelf.{Files, file_in}
use Rattle.tall_value.specs.declared.class.Class.{Class}
use Rattle.tall_value.specs.declared.faults.ReadingKind.TheVariants.{TooManyFields, TooManyRows}
use Rattle.tall_value.specs.Cells.{Seen}
use Rattle.tall_value.specs.Columns.{numbered}
use Rattle.tall_cut.specs.Rows.{Fields}
use Rattle.tall_semantics.specs.Operations.{Made, stored, operation}
use Rattle.tall_semantics.specs.Outcomes.{rows, fault}
use Rattle.tall_semantics.specs.Talls.{Columns}
use Rattle.tall_semantics.specs.Deferred.{Vertex}
use Rattle.tall_semantics.specs.RowsOfSpaces.{numbers_in}
use Rattle.tall_blocks.specs.Carries.{Rows}
use Rattle.tall_blocks.specs.Blocks.{all_rows, AllNumbers, RowsFrom, AreAscending, AreBlocksOf, AreTables, IsVariable}
use Rattle.tall_store.specs.declared.faults.ReadingFault.{ReadingFault}
use Rattle.tall_store.specs.Blocks.{Block, IsCutting, blocks_from, numbered_blocks}
use Rattle.tall_store.specs.Stores.{SeenStore}
use Rattle.tall_store.specs.Records.{DataRecord, data_in, numbered_records}
use Rattle.tall_store.specs.ReadingOrder.{earlier_of, first_reading_fault, precedes}
use Rattle.tall_store.specs.Reads.{column_faults}
use Rattle.tall_store.specs.Stored.{all_faults, cells_at, first_fault, record_faults, unless_fault, value_at}
use Rattle.tall_store.specs.Walk.{WalkedFile, all_records, fault_when, records_from, walk}
use Rattle.tall_store.proofs.Joins.{cells_join}
use Rattle.tall_store.proofs.Limits.{numbered_append}
use Rattle.tall_store.proofs.TableRows.{whole_height}
use Rattle.tall_stored.specs.StoredColumns.{AreStored, Store, fault_of_reading, stored_outcome, variable_class}
use Rattle.tall_stored_blocks.specs.StoredBlocks.{column_of, columns_of, block_of, blocks_of}
use Rattle.tall_stored.proofs.StoredLaws.{both_empty, column_none, none_there, one_store}

-- ---- no fault

module _ (store : SeenStore) where
  abbrev Faultless : List DataRecord → Type 0
  Faultless records = flat_map (record_faults store) records ≡ []

  -- ---- consecutive blocks

  abbrev records_of : Block → List DataRecord
  records_of b = numbered_records b.file b.row b.records

  abbrev cells_of : ℕ → Block → List Seen
  cells_of place b = cells_at store (records_of b) place

  abbrev AreConsecutive : ℕ → List Block → Type 0
  AreConsecutive n [] = Unit {0}
  AreConsecutive n (b ∷ bs) = (b.row ≡ n) × Faultless (records_of b) × AreConsecutive (n + length b.records) bs

  abbrev rows_in_all : List Block → ℕ
  rows_in_all [] = 0
  rows_in_all (b ∷ bs) = length b.records + rows_in_all bs

  both_consecutive : (n : ℕ) (bs ds : List Block) → AreConsecutive n bs → AreConsecutive (n + rows_in_all bs) ds → AreConsecutive n (bs ++ ds)
  both_consecutive n [] ds h g = subst (λ m. AreConsecutive m ds) (no_more n) g
    where
      no_more : (n : ℕ) → n + 0 ≡ n
      no_more n = omega arith
  both_consecutive n (b ∷ bs) ds h g = (h.0, h.1, both_consecutive (n + length b.records) bs ds h.2 (subst (λ m. AreConsecutive m ds) (moved n (length b.records) (rows_in_all bs)) g))
    where
      moved : (n a m : ℕ) → n + (a + m) ≡ n + a + m
      moved n a m = omega arith

  abbrev all_of : List (List Fields) → List Fields
  all_of blocks = flat_map (λ block. block) blocks

  record OfFile (row height : ℕ) (bs : List Block) : Type 0 where
    consecutive : AreConsecutive row bs
    all : rows_in_all bs ≡ height

  file_blocks : (file row : ℕ) (blocks : List (List Fields)) → Faultless (numbered_records file row (all_of blocks)) → OfFile row (length (all_of blocks)) (numbered_blocks file row blocks)
  file_blocks file row [] e = record { consecutive = tt; all = refl }
  file_blocks file row (records ∷ blocks) e =
      let split = ap (flat_map (record_faults store)) (numbered_append file row records (all_of blocks)) ∙ flat_map-append (record_faults store) (numbered_records file row records) (numbered_records file (row + length records) (all_of blocks)) in
      let both = both_empty (flat_map (record_faults store) (numbered_records file row records)) (flat_map (record_faults store) (numbered_records file (row + length records) (all_of blocks))) (sym split ∙ e) in
      let rest = file_blocks file (row + length records) blocks both.1 in
      record { consecutive = (refl, both.0, rest.consecutive); all = ap (λ n. length records + n) rest.all ∙ sym (length-append records (all_of blocks)) }

  walk_blocks : (cut : List Fields → List (List Fields)) → IsCutting cut → (files : Files) (file row : ℕ) (names : List (List ℕ)) → Faultless (records_from store files file row names) → AreConsecutive row (blocks_from cut store files file row names)
  walk_blocks cut c files file row [] e = tt
  walk_blocks cut c files file row (name ∷ names) e =
      let found : List Fields = data_in store (file_in files name) in
      let here : List DataRecord = numbered_records file row found in
      let rest : List DataRecord = records_from store files (file + 1) (row + length found) names in
      let both = both_empty (flat_map (record_faults store) here) (flat_map (record_faults store) rest) (sym (flat_map-append (record_faults store) here rest) ∙ e) in
      let one = file_blocks file row (cut found) (ap (λ rs. flat_map (record_faults store) (numbered_records file row rs)) (c found) ∙ both.0) in
      let height : rows_in_all (numbered_blocks file row (cut found)) ≡ length found = one.all ∙ ap length (c found) in
      both_consecutive row (numbered_blocks file row (cut found)) (blocks_from cut store files (file + 1) (row + length found) names) one.consecutive
      (subst (λ n. AreConsecutive (row + n) (blocks_from cut store files (file + 1) (row + length found) names)) (sym height) (walk_blocks cut c files (file + 1) (row + length found) names both.1))

  no_record_faults : (files : Files) → first_fault store files ≡ None → Faultless (all_records store files)
  no_record_faults files none = (both_empty (flat_map (λ (f : WalkedFile). f.faults) (walk store files)) (flat_map (record_faults store) (all_records store files)) (none_there (all_faults store files) none)).1

  all_consecutive : (cut : List Fields → List (List Fields)) → IsCutting cut → (files : Files) → first_fault store files ≡ None → AreConsecutive 1 (blocks_from cut store files 0 1 store.files)
  all_consecutive cut c files none = walk_blocks cut c files 0 1 store.files (no_record_faults files none)

  -- ---- their rows

  records_long : (file row : ℕ) (records : List Fields) → length (numbered_records file row records) ≡ length records
  records_long file row [] = refl
  records_long file row (fields ∷ records) = ap suc (records_long file (row + 1) records)

  numbered_both : (n : ℕ) (cs ds : List Seen) → numbered n (cs ++ ds) ≡ numbered n cs ++ numbered (n + length cs) ds
  numbered_both n [] ds = ap (λ m. numbered m ds) (more n)
    where
      more : (n : ℕ) → n ≡ n + 0
      more n = omega arith
  numbered_both n (c ∷ cs) ds = ap (λ rs. (n, c) ∷ rs) (numbered_both (n + 1) cs ds ∙ ap (λ m. numbered (n + 1) cs ++ numbered m ds) (next n (length cs)))
    where
      next : (n m : ℕ) → n + 1 + m ≡ n + suc m
      next n m = omega arith

  pub height_of : (variable : ℕ) → variable < length store.selected → (b : Block) → Faultless (records_of b) → length (cells_of (get_or store.selected variable 0) b) ≡ length b.records
  height_of variable l b e = whole_height store (records_of b) (get_or store.selected variable 0) (column_none store variable l (records_of b) e) ∙ records_long b.file b.row b.records

  rows_joined : (s variable : ℕ) → variable < length store.selected → (n : ℕ) (bs : List Block) → AreConsecutive n bs
      → all_rows (blocks_of store bs) s variable ≡ numbered n (flat_map (cells_of (get_or store.selected variable 0)) bs)
  rows_joined s variable l n [] h = refl
  rows_joined s variable l n (b ∷ bs) h =
      let place : ℕ = get_or store.selected variable 0 in
      ap (λ m. numbered m (cells_of place b) ++ all_rows (blocks_of store bs) s variable) h.0
      ∙ (ap (λ rs. numbered n (cells_of place b) ++ rs) (rows_joined s variable l (n + length b.records) bs h.2)
      ∙ (ap (λ m. numbered n (cells_of place b) ++ numbered (n + m) (flat_map (cells_of place) bs)) (sym (height_of variable l b h.1))
      ∙ sym (numbered_both n (cells_of place b) (flat_map (cells_of place) bs))))

  numbers_of : (n : ℕ) (cs : List Seen) → numbers_in (rows (numbered n cs)) ≡ range_with_len n (length cs)
  numbers_of n [] = refl
  numbers_of n (c ∷ cs) = ap (λ ns. n ∷ ns) (numbers_of (n + 1) cs)

  block_numbers : (variable : ℕ) → variable < length store.selected → (b : Block) → Faultless (records_of b) → (s : ℕ) → numbers_in (rows (block_of store b s variable)) ≡ range_with_len b.row (length b.records)
  block_numbers variable l b e s = numbers_of b.row (cells_of (get_or store.selected variable 0) b) ∙ ap (range_with_len b.row) (height_of variable l b e)

  -- ---- ascending

  with_ok : (r : Result Seen ReadingFault) (cs : List Seen) (n : ℕ) → length cs ≤ n → length (cons_option (result_ok r) cs) ≤ suc n
  with_ok (Ok c) cs n l = omega (arith, l)
  with_ok (Err f) cs n l = omega (arith, l)

  no_longer : (place : ℕ) (records : List DataRecord) → length (cells_at store records place) ≤ length records
  no_longer place [] = omega arith
  no_longer place (r ∷ records) = with_ok (value_at store place r) (cells_at store records place) (length records) (no_longer place records)

  all_below : (m n : ℕ) (cs : List Seen) → n + length cs ≤ m → AllNumbers (λ r. r < m) (numbered n cs)
  all_below m n [] l = tt
  all_below m n (c ∷ cs) l = (omega (arith, l), all_below m (n + 1) cs (omega (arith, l)))

  all_from : (m n : ℕ) (cs : List Seen) → m ≤ n → AllNumbers (λ r. m ≤ r) (numbered n cs)
  all_from m n [] l = tt
  all_from m n (c ∷ cs) l = (l, all_from m (n + 1) cs (omega (arith, l)))

  both_from : (m : ℕ) (rs ss : Rows) → AllNumbers (λ r. m ≤ r) rs → AllNumbers (λ r. m ≤ r) ss → AllNumbers (λ r. m ≤ r) (rs ++ ss)
  both_from m [] ss h g = g
  both_from m (r ∷ rs) ss h g = (h.0, both_from m rs ss h.1 g)

  rest_from : (m n : ℕ) (bs : List Block) → AreConsecutive n bs → m ≤ n → RowsFrom m (all_rows (blocks_of store bs))
  rest_from m n [] h l s v = tt
  rest_from m n (b ∷ bs) h l s v =
      both_from m (block_of store b s v) (all_rows (blocks_of store bs) s v)
      (all_from m b.row (cells_of (get_or store.selected v 0) b) (let e : b.row ≡ n = h.0 in omega (arith, l, e)))
      (rest_from m (n + length b.records) bs h.2 (omega (arith, l)) s v)

  ascending_from : (n : ℕ) (bs : List Block) → AreConsecutive n bs → AreAscending (blocks_of store bs)
  ascending_from n [] h = tt
  ascending_from n (b ∷ bs) h = (
    (
      n + length b.records,
      (λ s v. all_below (n + length b.records) b.row (cells_of (get_or store.selected v 0) b)
          (let e : b.row ≡ n = h.0 in let l = no_longer (get_or store.selected v 0) (records_of b) in let k = records_long b.file b.row b.records in omega (arith, e, l, k))),
      (λ s v. rest_from (n + length b.records) (n + length b.records) bs h.2 (omega arith) s v),
    ),
    ascending_from (n + length b.records) bs h.2,
  )

pub ascending_blocks : (files : Files) (d : Store) → first_fault d.store files ≡ None → (cutting : List Fields → List (List Fields)) → IsCutting cutting → AreAscending (blocks_of d.store (blocks_from cutting d.store files 0 1 d.store.files))
ascending_blocks files d none cutting c = ascending_from d.store 1 (blocks_from cutting d.store files 0 1 d.store.files) (all_consecutive d.store cutting c files none)

-- ---- of stored columns

variable_of : (m : Made) (s a : ℕ) → IsVariable m s a → (class : Class) × (m ≡ stored s a class)
variable_of (stored t b k) s a h = (k, ap (λ x. stored x b k) h.0 ∙ ap (λ x. stored s x k) h.1)
variable_of (operation op) s a h = absurd h

module _ (files : Files) (stores : List Store) (vs : List Vertex) (columns : Columns) (are : AreStored files stores vs columns) (place : ℕ) (d : Store) (there : slice_get stores place ≡ Some d) where
  record Found (i : ℕ) (v : Vertex) (s a : ℕ) : Type 0 where
    same : s ≡ place
    selected : a < length d.store.selected
    told : columns place a ≡ stored_outcome place d.at (unless_fault (first_fault d.store files) (numbered 1 (cells_at d.store (all_records d.store files) (get_or d.store.selected a 0))))

  found_at : (i : ℕ) (v : Vertex) (a : ℕ) (class : Class) → slice_get vs i ≡ Some v → v.made ≡ stored place a class → Found i v place a
  found_at i v a class e q =
      let c = are i v place a class e q in
      let same : c.found ≡ d = one_store c.found d (sym c.there ∙ there) in
      record {
        same = refl;
        selected = subst (λ (x : Store). a < length x.store.selected) same c.selected;
        told = c.told ∙ ap (λ (x : Store). stored_outcome place x.at (unless_fault (first_fault x.store files) (numbered 1 (cells_at x.store (all_records x.store files) (get_or x.store.selected a 0))))) same;
      }

  pub reading_there : (g : ReadingFault) → first_fault d.store files ≡ Some g → (i : ℕ) (v : Vertex) (variable : ℕ) (class : Class) → slice_get vs i ≡ Some v → v.made ≡ stored place variable class → columns place variable ≡ fault (fault_of_reading place d.at g)
  reading_there g some i v variable class e q =
      (found_at i v variable class e q).told ∙ ap (λ f. stored_outcome place d.at (unless_fault f (numbered 1 (cells_at d.store (all_records d.store files) (get_or d.store.selected variable 0))))) some

  module _ (cut : ℕ → Bool) (here : (i : ℕ) (v : Vertex) (s a : ℕ) → slice_get vs i ≡ Some v → cut i ≡ true → IsVariable v.made s a → s ≡ place) (none : first_fault d.store files ≡ None)
      (cutting : List Fields → List (List Fields)) (c : IsCutting cutting) where
    abbrev Raw : List Block
    Raw = blocks_from cutting d.store files 0 1 d.store.files

    found_of : (i : ℕ) (v : Vertex) (s a : ℕ) → slice_get vs i ≡ Some v → cut i ≡ true → IsVariable v.made s a → Found i v s a
    found_of i v s a e k q =
        let same : s ≡ place = here i v s a e k q in
        let w = variable_of v.made s a q in
        let f = found_at i v a w.0 e (w.1 ∙ ap (λ x. stored x a w.0) same) in
        record { same = same; selected = f.selected; told = f.told }

    pub stored_blocks : AreBlocksOf columns vs cut (blocks_of d.store Raw)
    stored_blocks i v s a e k q =
        let f = found_of i v s a e k q in
        let spot : ℕ = get_or d.store.selected a 0 in
        ap (λ x. columns x a) f.same
        ∙ (f.told
        ∙ (ap (λ o. stored_outcome place d.at (unless_fault o (numbered 1 (cells_at d.store (all_records d.store files) spot)))) none
        ∙ ap rows (ap (numbered 1) (sym (cells_join cutting c d.store files spot)) ∙ sym (rows_joined d.store s a f.selected 1 Raw (all_consecutive d.store cutting c files none)))))

    tables_from : (n : ℕ) (bs : List Block) → AreConsecutive d.store n bs → AreTables vs cut (blocks_of d.store bs)
    tables_from n [] h = tt
    tables_from n (b ∷ bs) h = (
      (λ i j v w s a o e g k l p q.
          block_numbers d.store a (found_of i v s a e k p).selected b h.1 s ∙ sym (block_numbers d.store o (found_of j w s o g l q).selected b h.1 s)),
      tables_from (n + length b.records) bs h.2,
    )

    pub stored_tables : AreTables vs cut (blocks_of d.store Raw)
    stored_tables = tables_from 1 Raw (all_consecutive d.store cutting c files none)

-- ---- the columns of datastores

column_there : (files : Files) (place : ℕ) (o : Option Store) (d : Store) (variable : ℕ) → o ≡ Some d → column_of files place o variable ≡ column_of files place (Some d) variable
column_there files place o d variable e = ap (λ x. column_of files place x variable) e

pub are_stored : (files : Files) (stores : List Store) (vs : List Vertex)
    → ((i : ℕ) (v : Vertex) (place variable : ℕ) (class : Class) → slice_get vs i ≡ Some v → v.made ≡ stored place variable class
    → (d : Store) × (slice_get stores place ≡ Some d) × (v.at ≡ d.at) × (variable < length d.store.selected) × (class ≡ variable_class d.store variable))
    → AreStored files stores vs (columns_of files stores)
are_stored files stores vs named i v place variable class e q =
    let w = named i v place variable class e q in
    record {
      found = w.0;
      there = w.1;
      called = w.2;
      selected = w.3;
      kind = w.4;
      told = column_there files place (slice_get stores place) w.0 variable w.1;
    }
