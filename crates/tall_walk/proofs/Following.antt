-- From file to file.
use Rattle.std.proofs.Common.{ℕ, zero, suc, ◌≡◌, ◌∙◌, ◌<◌, ◌≤◌, ◌+◌, ◌^◌, inl, inr, List, [], ◌∷◌, ◌++◌, sym, ap, subst, refl, arith, length, map, take, drop, get_or, ltb, Bool, true, false}
use Rattle.std.specs.Prelude.{◌⊎◌, IfSome, Option, Some, None, Result, Ok, Err}
use Rattle.std.specs.Bool.{Decides}
use Rattle.std.specs.List.{flat_map}
use Rattle.std.specs.Option.{option_or}
use Rattle.std.proofs.Math.Seq.{drop-length}
use Rattle.std.proofs.lemmas.Bool.{false≢true}
use Rattle.std.proofs.lemmas.Bool.Decides.{Decides-ltb}
use Rattle.std.proofs.lemmas.List.{append_cancel_left, append_assoc, append-nil, length-take-le, map-append}
use Rattle.std.proofs.lemmas.Option.{none-some}
use Rattle.tall_outside.specs.Shelf.{Files}
use Rattle.tall_column.specs.Columns.{SeenColumn}
use Rattle.tall_cut.specs.Rows.{Fields}
use Rattle.tall_cut.specs.declared.cutter.ReadSize.{ReadSize}
use Rattle.tall_cut.specs.declared.cutter.ReadSize.TheVariants.{Rows, File}
use Rattle.tall_cut.specs.Cuts.{rows_of}
use Rattle.tall_store.specs.declared.faults.ReadingFault.{ReadingFault}
use Rattle.tall_store.specs.Blocks.{Block, HasRows, all_blocks, block_table, block_tables, block_variables, blocks_up_to, first_block_fault, first_in_blocks, first_met_from, first_on_walk, first_refused, in_blocks, numbered_blocks, walked_blocks, walked_tables}
use Rattle.tall_store.specs.FileEnds.{walked_file}
use Rattle.tall_store.specs.ReadingOrder.{first_reading_fault}
use Rattle.tall_store.specs.Stored.{file_faults_from, first_fault, unless_fault}
use Rattle.tall_store.specs.Stores.{SeenStore}
use Rattle.tall_store.specs.Walk.{WalkedFile, walk_from}
use Rattle.tall_store.proofs.FileLemmas.{files_follow}
use Rattle.tall_store.proofs.Joins.{faults_join, sizes_cut}
use Rattle.tall_store.proofs.Walks.{tables_join}
use Rattle.tall_walk.specs.Events.{AreTables, Event, IsWalk, Tables, a_block, all_events, an_end, blocks_in, cut_of, events_from, file_events, first_in, up_to_fault}
use Rattle.tall_walk.specs.OneFile.{FaultOfFile, IsOfFile, MeetsBlock, MeetsNext, OfFile, StopsInFile, WholeFile, blocks_of, first_of}
use Rattle.tall_walk.specs.Walked.{GoesFrom, MeetsFault, StopsAt, WalkedTo, WalksAll}
use Rattle.tall_walk.proofs.Cuts.{same_cut}
use Rattle.tall_walk.proofs.Walks.{block_below, blocks_append, blocks_map, first_in_append, none_append, or_assoc, or_none, or_some, walk_grows, walk_more}

-- ---- one file's events

blocks_taken : (before : List Event) (blocks : List Block) → blocks_in (before ++ map a_block blocks) ≡ blocks_in before ++ blocks
blocks_taken before blocks = blocks_append before (map a_block blocks) ∙ ap (λ bs. blocks_in before ++ bs) (blocks_map blocks)

blocks_ended : (before : List Event) (blocks : List Block) (file n : ℕ) → blocks_in ((before ++ map a_block blocks) ++ an_end file n ∷ []) ≡ blocks_in before ++ blocks
blocks_ended before blocks file n =
    blocks_append (before ++ map a_block blocks) (an_end file n ∷ []) ∙ append-nil (blocks_in (before ++ map a_block blocks)) ∙ blocks_taken before blocks

-- ---- the first fault, file by file

-- that of the file at a place, else that of those behind it
first_here : (store : SeenStore) (files : Files) (file row : ℕ) (l : file < length store.files)
    → (rest : Option ReadingFault) × (first_met_from (cut_of store) store files file row (drop file store.files) ≡ option_or (first_of store (walked_file store files file row)) rest)
first_here store files file row l =
    let f : WalkedFile = walked_file store files file row in
    let rest : Option ReadingFault = first_on_walk (cut_of store) store (walk_from store files (file + 1) (row + length f.records) (drop (file + 1) store.files)) in (
      rest,
      ap (first_on_walk (cut_of store) store) (files_follow store files file row l)
          ∙ or_assoc (first_reading_fault f.faults) (first_in_blocks store (blocks_of store f)) rest,
    )

-- with what was taken before
first_from : (store : SeenStore) (files : Files) (file row : ℕ) (events : List Event) (l : file < length store.files) → GoesFrom store files file row events
    → (rest : Option ReadingFault) × (first_fault store files ≡ option_or (first_in store events) (option_or (first_of store (walked_file store files file row)) rest))
first_from store files file row events l w =
    let here : (rest : Option ReadingFault) × (first_met_from (cut_of store) store files file row (drop file store.files) ≡ option_or (first_of store (walked_file store files file row)) rest) = first_here store files file row l in
    (here.0, w.first ∙ ap (λ f. option_or (first_in store events) f) here.1)

first_taken : (store : SeenStore) (before : List Event) (blocks : List Block) → first_in store (before ++ map a_block blocks) ≡ option_or (first_in store before) (first_in_blocks store blocks)
first_taken store before blocks = ap (first_in_blocks store) (blocks_taken before blocks) ∙ first_in_append store (blocks_in before) blocks

-- ---- from a place to the next

module _ {store : SeenStore} {files : Files} {file row n : ℕ} {events : List Event} {blocks : List Block} (l : file < length store.files) (w : GoesFrom store files file row events)
    (few : row + n ≤ 2 ^ 40) (none : (walked_file store files file row).faults ≡ []) (count : n ≡ length (walked_file store files file row).records) (all : blocks_of store (walked_file store files file row) ≡ blocks) where
  abbrev here : WalkedFile
  here = walked_file store files file row

  abbrev next : List WalkedFile
  next = walk_from store files (file + 1) (row + n) (drop (file + 1) store.files)

  abbrev taken : List Event
  taken = (events ++ map a_block blocks) ++ an_end file n ∷ []

  follows : walk_from store files file row (drop file store.files) ≡ here ∷ next
  follows = files_follow store files file row l ∙ ap (λ m. here ∷ walk_from store files (file + 1) (row + m) (drop (file + 1) store.files)) (sym count)

  events_next : all_events store files ≡ taken ++ flat_map (file_events store) next
  events_next =
      w.events
      ∙ ap (λ fs. events ++ flat_map (file_events store) fs) follows
      ∙ ap (λ bs. events ++ ((map a_block bs ++ an_end file (length here.records) ∷ []) ++ flat_map (file_events store) next)) all
      ∙ ap (λ m. events ++ ((map a_block blocks ++ an_end file m ∷ []) ++ flat_map (file_events store) next)) (sym count)
      ∙ sym (append_assoc events (map a_block blocks ++ an_end file n ∷ []) (flat_map (file_events store) next))
      ∙ ap (λ es. es ++ flat_map (file_events store) next) (sym (append_assoc events (map a_block blocks) (an_end file n ∷ [])))

  few_records : length here.records ≤ 2 ^ 40
  few_records = below row n (length here.records) (2 ^ 40) few count
    where
      below : (r n k m : ℕ) → r + n ≤ m → n ≡ k → k ≤ m
      below r n k m l e = omega arith

  sized_here : walked_blocks (in_blocks store.size) here ≡ blocks_of store here
  sized_here = ap (λ bs. numbered_blocks file row bs) (sym (same_cut store.size here.records few_records))

  blocks_next : all_blocks store files ≡ blocks_in taken ++ flat_map (walked_blocks (in_blocks store.size)) next
  blocks_next =
      w.blocks
      ∙ ap (λ fs. blocks_in events ++ flat_map (walked_blocks (in_blocks store.size)) fs) follows
      ∙ ap (λ bs. blocks_in events ++ (bs ++ flat_map (walked_blocks (in_blocks store.size)) next)) (sized_here ∙ all)
      ∙ sym (append_assoc (blocks_in events) blocks (flat_map (walked_blocks (in_blocks store.size)) next))
      ∙ ap (λ bs. bs ++ flat_map (walked_blocks (in_blocks store.size)) next) (sym (blocks_ended events blocks file n))

  own_next : file_faults_from store files 0 1 store.files ≡ flat_map (λ f. f.faults) next
  own_next = w.own ∙ ap (flat_map (λ (f : WalkedFile). f.faults)) follows ∙ ap (λ fs. fs ++ flat_map (λ (f : WalkedFile). f.faults) next) none

  first_next : first_fault store files ≡ option_or (first_in store taken) (first_on_walk (cut_of store) store next)
  first_next =
      let rest : Option ReadingFault = first_on_walk (cut_of store) store next in
      w.first
      ∙ ap (λ fs. option_or (first_in store events) (first_on_walk (cut_of store) store fs)) follows
      ∙ ap (λ fs. option_or (first_in store events) (option_or (first_reading_fault fs) (option_or (first_in_blocks store (blocks_of store here)) rest))) none
      ∙ ap (λ bs. option_or (first_in store events) (option_or (first_in_blocks store bs) rest)) all
      ∙ or_assoc (first_in store events) (first_in_blocks store blocks) rest
      ∙ ap (λ f. option_or f rest) (sym (ap (first_in_blocks store) (blocks_ended events blocks file n) ∙ first_in_append store (blocks_in events) blocks))

  tables_next : block_tables store files ≡ map (block_table store) (blocks_in taken) ++ flat_map (walked_tables store) next
  tables_next =
      w.tables
      ∙ ap (λ fs. map (block_table store) (blocks_in events) ++ flat_map (walked_tables store) fs) follows
      ∙ ap (λ fs. map (block_table store) (blocks_in events) ++ ((map (λ g. Err g) fs ++ map (block_table store) (walked_blocks (in_blocks store.size) here)) ++ flat_map (walked_tables store) next)) none
      ∙ ap (λ bs. map (block_table store) (blocks_in events) ++ (map (block_table store) bs ++ flat_map (walked_tables store) next)) (sized_here ∙ all)
      ∙ sym (append_assoc (map (block_table store) (blocks_in events)) (map (block_table store) blocks) (flat_map (walked_tables store) next))
      ∙ ap (λ ts. ts ++ flat_map (walked_tables store) next) (sym (map-append (block_table store) (blocks_in events) blocks))
      ∙ ap (λ bs. map (block_table store) bs ++ flat_map (walked_tables store) next) (sym (blocks_ended events blocks file n))

  goes_next : GoesFrom store files (file + 1) (row + n) taken
  goes_next = record { events = events_next; blocks = blocks_next; own = own_next; first = first_next; tables = tables_next; refused = w.refused }

-- ---- so far

has_rows : (size : ReadSize) → 0 < rows_of size → HasRows size
has_rows (Rows n) l = l
has_rows File l = tt

pub starts : (P : List Event → Type 0) (store : SeenStore) (held : Option Files) → 0 < rows_of store.size → P [] → WalkedTo P store held 0 1
starts P store held some p = record {
  events = [];
  taken = p;
  walks = (refl, refl, refl);
  goes = goes held;
}
  where
    goes : (held : Option Files) → IfSome held (λ files. GoesFrom store files 0 1 [])
    goes None = tt
    goes (Some files) = record {
      events = refl;
      blocks = refl;
      own = refl;
      first = sym (faults_join (cut_of store) (sizes_cut (Rows (rows_of store.size)) some) store files);
      tables = refl;
      refused = tables_join store files (has_rows store.size some);
    }

ended_walk : (first row n : ℕ) (file : ℕ) → first + n ≡ row → IsWalk file first row (an_end file n ∷ []) (file + 1) row row
ended_walk first row n file e = (refl, e, (refl, refl, refl))

to_file : (store : SeenStore) (held : Option Files) (file row n : ℕ) (events : List Event) (blocks : List Block) → file < length store.files → row + n ≤ 2 ^ 40
    → IfSome held (λ files. GoesFrom store files file row events)
    → OfFile store held file row (λ f. (f.faults ≡ []) × (n ≡ length f.records) × (blocks_of store f ≡ blocks))
    → IfSome held (λ files. GoesFrom store files (file + 1) (row + n) ((events ++ map a_block blocks) ++ an_end file n ∷ []))
to_file store None file row n events blocks l few w t = tt
to_file store (Some files) file row n events blocks l few w t = goes_next l w few t.0 t.1 t.2

-- a file was read whole, and its end was taken
pub walks_file : (P Q R : List Event → Type 0) (store : SeenStore) (held : Option Files) (file row n then : ℕ) → file < length store.files → (w : WalkedTo P store held file row)
    → ((es : List Event) → P es → WholeFile Q store held file row n es) → ((es : List Event) → Q es → R (es ++ an_end file n ∷ [])) → then ≡ row + n
    → WalkedTo R store held (file + 1) then
walks_file P Q R store held file row n then l w whole ended e =
    let f : WholeFile Q store held file row n w.events = whole w.events w.taken in
    subst (λ m. WalkedTo R store held (file + 1) m) (sym e) (record {
      events = (w.events ++ map a_block f.blocks) ++ an_end file n ∷ [];
      taken = ended (w.events ++ map a_block f.blocks) f.takes.taken;
      walks = walk_more 0 1 1 (w.events ++ map a_block f.blocks) (an_end file n ∷ []) file row (row + n) (file + 1) (row + n) (row + n)
          (walk_more 0 1 1 w.events (map a_block f.blocks) file row row file row (row + n) w.walks f.takes.walks)
          (ended_walk row (row + n) n file refl);
      goes = to_file store held file row n w.events f.blocks l f.few w.goes f.told;
    })

-- ---- tables

-- the first fault behind the tables of blocks
refused_behind : (store : SeenStore) (bs : List Block) (us : Tables) → first_refused (map (block_table store) bs ++ us) ≡ option_or (first_in_blocks store bs) (first_refused us)
refused_behind store [] us = refl
refused_behind store (b ∷ bs) us = by (first_block_fault store b) (refused_behind store bs us)
  where
    by : (f : Option ReadingFault) → first_refused (map (block_table store) bs ++ us) ≡ option_or (first_in_blocks store bs) (first_refused us)
        → first_refused (unless_fault f (block_variables store b) ∷ (map (block_table store) bs ++ us)) ≡ option_or (option_or f (first_in_blocks store bs)) (first_refused us)
    by None e = e
    by (Some g) e = refl

-- behind a fault nothing counts
behind_fault : (store : SeenStore) (bs : List Block) (us vs : Tables) (g : ReadingFault) → first_in_blocks store bs ≡ Some g → up_to_fault (map (block_table store) bs ++ us) ≡ up_to_fault (map (block_table store) bs ++ vs)
behind_fault store [] us vs g h = absurd (none-some g h)
behind_fault store (b ∷ bs) us vs g h = by (first_block_fault store b) h (λ e. behind_fault store bs us vs g e)
  where
    by : (f : Option ReadingFault) → option_or f (first_in_blocks store bs) ≡ Some g → (first_in_blocks store bs ≡ Some g → up_to_fault (map (block_table store) bs ++ us) ≡ up_to_fault (map (block_table store) bs ++ vs))
        → up_to_fault (unless_fault f (block_variables store b) ∷ (map (block_table store) bs ++ us)) ≡ up_to_fault (unless_fault f (block_variables store b) ∷ (map (block_table store) bs ++ vs))
    by None h rest = ap (λ ts. Ok (block_variables store b) ∷ ts) (rest h)
    by (Some f) h rest = refl

-- with the same first fault, up to faults at one place
same_fault : (ts us vs : Tables) (f g : ReadingFault) → first_refused (ts ++ Err f ∷ us) ≡ first_refused (ts ++ Err g ∷ vs) → up_to_fault (ts ++ Err f ∷ us) ≡ up_to_fault (ts ++ Err g ∷ vs)
same_fault [] us vs f g e = ap one (same f g e)
  where
    one : ReadingFault → Tables
    one g = Err g ∷ []

    same : (f g : ReadingFault) → Some f ≡ Some g → f ≡ g
    same f g e = cc
same_fault (Ok t ∷ ts) us vs f g e = ap (λ xs. Ok t ∷ xs) (same_fault ts us vs f g e)
same_fault (Err x ∷ ts) us vs f g e = refl

-- a block with a fault has no table
faulty : (store : SeenStore) (b : Block) → (first_block_fault store b ≡ None → ⊥) → (g : ReadingFault) × (first_block_fault store b ≡ Some g) × (block_table store b ≡ Err g)
faulty store b fails = by (first_block_fault store b) refl
  where
    by : (f : Option ReadingFault) → first_block_fault store b ≡ f → (g : ReadingFault) × (f ≡ Some g) × (unless_fault f (block_variables store b) ≡ Err g)
    by None e = absurd (fails e)
    by (Some g) e = (g, refl, refl)

-- ---- a file that is one block

cut_front : (n : ℕ) (x : Fields) (xs : List Fields) → in_blocks (Rows n) (x ∷ xs) ≡ take n (x ∷ xs) ∷ blocks_up_to (length xs) n (drop n (x ∷ xs))
unfolding blocks_up_to
cut_front n x xs = refl

too_long : (store : SeenStore) (file first m : ℕ) (records : List Fields) → m ≡ 2 ^ 40 → 1 ≤ first → first ≤ 2 ^ 40 → m ≤ length records
    → first_block_fault store (record { file = file; row = first; records = records }) ≡ None → ⊥
too_long store file first m records e s l long h = over first (length records) m (2 ^ 40) e s long (block_below store file first records l h)
  where
    over : (f n m k : ℕ) → m ≡ k → 1 ≤ f → m ≤ n → f + n ≤ k → ⊥
    over f n m k e s a b = omega (arith, e, s, a, b)

front_too_long : (store : SeenStore) (file first m : ℕ) (records : List Fields) → m ≡ 2 ^ 40 → 1 ≤ first → first ≤ 2 ^ 40 → m ≤ length records
    → first_block_fault store (record { file = file; row = first; records = take m records }) ≡ None → ⊥
front_too_long store file first m records e s l long h = too_long store file first m (take m records) e s l (full m (length (take m records)) (length-take-le m records long)) h
  where
    full : (m n : ℕ) → n ≡ m → m ≤ n
    full m n e = omega arith

-- a file of more than 2^40 records is one block by its ReadSize, and is read in several; both begin with one that has a fault
record IsLongFile (store : SeenStore) (read sized : List Block) : Type 0 where
  front : Block
  whole : Block
  rest : List Block
  front_is : read ≡ front ∷ rest
  whole_is : sized ≡ whole ∷ []
  front_fails : first_block_fault store front ≡ None → ⊥
  whole_fails : first_block_fault store whole ≡ None → ⊥

long_file : (store : SeenStore) (file first m : ℕ) (x : Fields) (xs : List Fields) → m ≡ 2 ^ 40 → 1 ≤ first → first ≤ 2 ^ 40 → m ≤ length (x ∷ xs)
    → IsLongFile store (numbered_blocks file first (in_blocks (Rows m) (x ∷ xs))) (numbered_blocks file first (in_blocks File (x ∷ xs)))
long_file store file first m x xs e s l long = record {
  front = record { file = file; row = first; records = take m (x ∷ xs) };
  whole = record { file = file; row = first; records = x ∷ xs };
  rest = numbered_blocks file (first + length (take m (x ∷ xs))) (blocks_up_to (length xs) m (drop m (x ∷ xs)));
  front_is = ap (numbered_blocks file first) (cut_front m x xs);
  whole_is = refl;
  front_fails = front_too_long store file first m (x ∷ xs) e s l long;
  whole_fails = too_long store file first m (x ∷ xs) e s l long;
}

-- a file is read in the blocks of its ReadSize, or is such a file
read_as_sized : (store : SeenStore) (size : ReadSize) (file first : ℕ) (records : List Fields) → 1 ≤ first → first ≤ 2 ^ 40
    → (numbered_blocks file first (in_blocks size records) ≡ numbered_blocks file first (in_blocks (Rows (rows_of size)) records))
    ⊎ IsLongFile store (numbered_blocks file first (in_blocks (Rows (rows_of size)) records)) (numbered_blocks file first (in_blocks size records))
read_as_sized store (Rows n) file first records s l = inl refl
read_as_sized store File file first records s l = by_length (ltb (2 ^ 40) (length records)) (Decides-ltb (2 ^ 40) (length records)) records refl
  where
    not_over : (n m : ℕ) → (m < n → ⊥) → n ≤ m
    not_over n m h = omega (arith, h)

    less : (m n : ℕ) → m < n → m ≤ n
    less m n l = omega arith

    none : (m : ℕ) → m < 0 → ⊥
    none m l = omega arith

    by_length : (t : Bool) → Decides t (2 ^ 40 < length records) → (rs : List Fields) → rs ≡ records
        → (numbered_blocks file first (in_blocks File rs) ≡ numbered_blocks file first (in_blocks (Rows (rows_of File)) rs))
        ⊎ IsLongFile store (numbered_blocks file first (in_blocks (Rows (rows_of File)) rs)) (numbered_blocks file first (in_blocks File rs))
    by_length false d rs e = inl (ap (numbered_blocks file first) (sym (same_cut File rs (subst (λ x. length x ≤ 2 ^ 40) (sym e) (not_over (length records) (2 ^ 40) (λ lt. false≢true (d.1 lt)))))))
    by_length true d [] e = absurd (none (2 ^ 40) (subst (λ x. 2 ^ 40 < length x) (sym e) (d.0 refl)))
    by_length true d (x ∷ xs) e = inr (long_file store file first (2 ^ 40) x xs refl s l (less (2 ^ 40) (length (x ∷ xs)) (subst (λ y. 2 ^ 40 < length y) (sym e) (d.0 refl))))

-- ---- tables of a datastore, of which a file's are behind those that were taken

module _ {store : SeenStore} {files : Files} {file row : ℕ} {events : List Event} (l : file < length store.files) (w : GoesFrom store files file row events) where
  abbrev this_file : WalkedFile
  this_file = walked_file store files file row

  abbrev sized_blocks : List Block
  sized_blocks = walked_blocks (in_blocks store.size) this_file

  abbrev behind : Tables
  behind = flat_map (walked_tables store) (walk_from store files (file + 1) (row + length this_file.records) (drop (file + 1) store.files))

  abbrev before : Tables
  before = map (block_table store) (blocks_in events)

  tables_here : block_tables store files ≡ before ++ (walked_tables store this_file ++ behind)
  tables_here = w.tables ∙ ap (λ fs. before ++ flat_map (walked_tables store) fs) (files_follow store files file row l)

  tables_faultless : this_file.faults ≡ [] → block_tables store files ≡ before ++ (map (block_table store) sized_blocks ++ behind)
  tables_faultless none = tables_here ∙ ap (λ fs. before ++ ((map (λ g. Err g) fs ++ map (block_table store) sized_blocks) ++ behind)) none

  -- where the file has a fault of its own, nothing of it was taken
  own_table : (g : ReadingFault) → this_file.faults ≡ g ∷ [] → AreTables store files (before ++ Err g ∷ [])
  own_table g own =
      let rest : Tables = map (block_table store) sized_blocks ++ behind in
      ap up_to_fault (tables_here ∙ ap (λ fs. before ++ ((map (λ g. Err g) fs ++ map (block_table store) sized_blocks) ++ behind)) own)
      ∙ same_fault before rest [] g g (refused_behind store (blocks_in events) (Err g ∷ rest) ∙ sym (refused_behind store (blocks_in events) (Err g ∷ [])))

  -- blocks that were read of it, in front of others
  as_read : (blocks more : List Block) → this_file.faults ≡ [] → sized_blocks ≡ blocks ++ more
      → block_tables store files ≡ map (block_table store) (blocks_in events ++ blocks) ++ (map (block_table store) more ++ behind)
  as_read blocks more none sized =
      tables_faultless none
      ∙ ap (λ bs. before ++ (map (block_table store) bs ++ behind)) sized
      ∙ ap (λ ts. before ++ (ts ++ behind)) (map-append (block_table store) blocks more)
      ∙ ap (λ ts. before ++ ts) (append_assoc (map (block_table store) blocks) (map (block_table store) more) behind)
      ∙ sym (append_assoc before (map (block_table store) blocks) (map (block_table store) more ++ behind))
      ∙ ap (λ ts. ts ++ (map (block_table store) more ++ behind)) (sym (map-append (block_table store) (blocks_in events) blocks))

  -- of a long file: tables with the datastore's first fault, which begin with a fault where the file begins
  of_long : (read : List Block) (long : IsLongFile store read sized_blocks) → this_file.faults ≡ [] → (ts : Tables) (g : ReadingFault) (us : Tables) → ts ≡ before ++ Err g ∷ us → first_fault store files ≡ first_refused ts → AreTables store files ts
  of_long read long none ts g us at first =
      let f : (g : ReadingFault) × (first_block_fault store long.whole ≡ Some g) × (block_table store long.whole ≡ Err g) = faulty store long.whole long.whole_fails in
      let all : block_tables store files ≡ before ++ Err f.0 ∷ behind =
      tables_faultless none ∙ ap (λ bs. before ++ (map (block_table store) bs ++ behind)) long.whole_is ∙ ap (λ t. before ++ t ∷ behind) f.2 in
      ap up_to_fault all ∙ same_fault before behind us f.0 g (sym (ap first_refused all) ∙ w.refused ∙ first ∙ ap first_refused at) ∙ sym (ap up_to_fault at)

-- ---- ends

-- blocks of a file behind what was taken
events_cut : (store : SeenStore) (files : Files) (file row : ℕ) (events : List Event) (blocks more : List Block) → file < length store.files → GoesFrom store files file row events
    → blocks_of store (walked_file store files file row) ≡ blocks ++ more → (rest : List Event) × (all_events store files ≡ (events ++ map a_block blocks) ++ (map a_block more ++ rest))
events_cut store files file row events blocks more l w e =
    let f : WalkedFile = walked_file store files file row in
    let next : List Event = events_from store files (file + 1) (row + length f.records) (drop (file + 1) store.files) in
    let rest : List Event = an_end file (length f.records) ∷ next in (
      rest,
      w.events
          ∙ ap (λ fs. events ++ flat_map (file_events store) fs) (files_follow store files file row l)
          ∙ ap (λ es. events ++ es) (append_assoc (map a_block (blocks_of store f)) (an_end file (length f.records) ∷ []) next)
          ∙ ap (λ bs. events ++ (map a_block bs ++ rest)) e
          ∙ ap (λ es. events ++ (es ++ rest)) (map-append a_block blocks more)
          ∙ ap (λ es. events ++ es) (append_assoc (map a_block blocks) (map a_block more) rest)
          ∙ sym (append_assoc events (map a_block blocks) (map a_block more ++ rest)),
    )

fault_met : (store : SeenStore) (held : Option Files) (file row : ℕ) (events : List Event) (blocks : List Block) (g : ReadingFault) → file < length store.files
    → IfSome held (λ files. GoesFrom store files file row events)
    → OfFile store held file row (λ f. (more : List Block) × (blocks_of store f ≡ blocks ++ more) × (first_of store f ≡ option_or (first_in_blocks store blocks) (Some g)))
    → IfSome held (λ files. (more : List Event) × (all_events store files ≡ (events ++ map a_block blocks) ++ more) × (first_fault store files ≡ option_or (first_in store (events ++ map a_block blocks)) (Some g)))
fault_met store None file row events blocks g l w t = tt
fault_met store (Some files) file row events blocks g l w told =
    let f : WalkedFile = walked_file store files file row in
    let from : (rest : Option ReadingFault) × (first_fault store files ≡ option_or (first_in store events) (option_or (first_of store f) rest)) = first_from store files file row events l w in
    let cut : (rest : List Event) × (all_events store files ≡ (events ++ map a_block blocks) ++ (map a_block told.0 ++ rest)) = events_cut store files file row events blocks told.0 l w told.1 in (
      map a_block told.0 ++ cut.0,
      cut.1,
      from.1
          ∙ ap (λ x. option_or (first_in store events) (option_or x from.0)) told.2
          ∙ by (first_in store events) (first_in_blocks store blocks) from.0
          ∙ ap (λ x. option_or x (Some g)) (sym (first_taken store events blocks)),
    )
  where
    by : (a b c : Option ReadingFault) → option_or a (option_or (option_or b (Some g)) c) ≡ option_or (option_or a b) (Some g)
    by (Some a) b c = refl
    by None (Some b) c = refl
    by None None c = refl

head_block : {a b : Block} {xs ys : List Block} → a ∷ xs ≡ b ∷ ys → a ≡ b
head_block e = cc

-- the fault of a file stands behind the tables of what was taken
fault_tables : (store : SeenStore) (files : Files) (file row : ℕ) (events : List Event) (blocks : List Block) (g : ReadingFault) (l : file < length store.files) → 1 ≤ row → (w : GoesFrom store files file row events)
    → MeetsNext store row blocks g (walked_file store files file row)
    → (more : List Block) → blocks_of store (walked_file store files file row) ≡ blocks ++ more
    → first_fault store files ≡ option_or (first_in_blocks store (blocks_in events ++ blocks)) (Some g)
    → AreTables store files (map (block_table store) (blocks_in events ++ blocks) ++ Err g ∷ [])
fault_tables store files file row events blocks g l s w (inl own) more at first =
    subst (λ bs. AreTables store files (map (block_table store) bs ++ Err g ∷ [])) (sym (ap (λ bs. blocks_in events ++ bs) own.0 ∙ append-nil (blocks_in events))) (own_table l w g own.1)
fault_tables store files file row events blocks g l s w (inr next) more at first = by (read_as_sized store store.size file row (walked_file store files file row).records s next.1)
  where
    ts : Tables
    ts = map (block_table store) (blocks_in events ++ blocks) ++ Err g ∷ []

    refused : first_fault store files ≡ first_refused ts
    refused = first ∙ sym (refused_behind store (blocks_in events ++ blocks) (Err g ∷ []))

    by_fault : (f : Option ReadingFault) → first_in_blocks store (blocks_in events ++ blocks) ≡ f → block_tables store files ≡ map (block_table store) (blocks_in events ++ blocks) ++ (map (block_table store) more ++ behind l w) → AreTables store files ts
    by_fault (Some f) e all = ap up_to_fault all ∙ behind_fault store (blocks_in events ++ blocks) (map (block_table store) more ++ behind l w) (Err g ∷ []) f e
    by_fault None e all =
        let none : (first_in_blocks store (blocks_in events) ≡ None) × (first_in_blocks store blocks ≡ None) = none_append store (blocks_in events) blocks e in
        let b : MeetsBlock store blocks (walked_file store files file row) = next.2 none.1 in
        let f : (g : ReadingFault) × (first_block_fault store b.0 ≡ Some g) × (block_table store b.0 ≡ Err g) = faulty store b.0 b.3 in
        let same : more ≡ b.0 ∷ b.1 = append_cancel_left blocks more (b.0 ∷ b.1) (sym at ∙ b.2) in
        let tables : block_tables store files ≡ map (block_table store) (blocks_in events ++ blocks) ++ Err f.0 ∷ (map (block_table store) b.1 ++ behind l w) =
        all ∙ ap (λ bs. map (block_table store) (blocks_in events ++ blocks) ++ (map (block_table store) bs ++ behind l w)) same ∙ ap (λ t. map (block_table store) (blocks_in events ++ blocks) ++ t ∷ (map (block_table store) b.1 ++ behind l w)) f.2 in
        ap up_to_fault tables
        ∙ same_fault (map (block_table store) (blocks_in events ++ blocks)) (map (block_table store) b.1 ++ behind l w) [] f.0 g (sym (ap first_refused tables) ∙ w.refused ∙ refused)

    by_front : (bs : List Block) → bs ≡ blocks → IsLongFile store (blocks ++ more) (sized_blocks l w) → AreTables store files ts
    by_front [] e long = of_long l w (blocks ++ more) long next.0 ts g [] (ap (λ bs. map (block_table store) bs ++ Err g ∷ []) (ap (λ bs. blocks_in events ++ bs) (sym e) ∙ append-nil (blocks_in events))) refused
    by_front (b ∷ bs) e long =
        let same : b ≡ long.front = head_block (ap (λ xs. xs ++ more) e ∙ long.front_is) in
        let f : (g : ReadingFault) × (first_block_fault store b ≡ Some g) × (block_table store b ≡ Err g) = faulty store b (λ h. long.front_fails (subst (λ x. first_block_fault store x ≡ None) same h)) in
        of_long l w (blocks ++ more) long next.0 ts f.0 (map (block_table store) bs ++ Err g ∷ [])
        (ap (λ xs. map (block_table store) (blocks_in events ++ xs) ++ Err g ∷ []) (sym e)
        ∙ ap (λ xs. xs ++ Err g ∷ []) (map-append (block_table store) (blocks_in events) (b ∷ bs))
        ∙ append_assoc (before l w) (map (block_table store) (b ∷ bs)) (Err g ∷ [])
        ∙ ap (λ t. before l w ++ t ∷ (map (block_table store) bs ++ Err g ∷ [])) f.2)
        refused

    by : (sized_blocks l w ≡ blocks_of store (walked_file store files file row)) ⊎ IsLongFile store (blocks_of store (walked_file store files file row)) (sized_blocks l w) → AreTables store files ts
    by (inl same) = by_fault (first_in_blocks store (blocks_in events ++ blocks)) refl (as_read l w blocks more next.0 (same ∙ at))
    by (inr long) = by_front blocks refl (subst (λ bs. IsLongFile store bs (sized_blocks l w)) at long)

fault_tables_met : (store : SeenStore) (held : Option Files) (file row : ℕ) (events : List Event) (blocks : List Block) (g : ReadingFault) → file < length store.files → 1 ≤ row
    → IfSome held (λ files. GoesFrom store files file row events)
    → OfFile store held file row (MeetsNext store row blocks g)
    → OfFile store held file row (λ f. (more : List Block) × (blocks_of store f ≡ blocks ++ more) × (first_of store f ≡ option_or (first_in_blocks store blocks) (Some g)))
    → IfSome held (λ files. (more : List Event) × (all_events store files ≡ (events ++ map a_block blocks) ++ more) × (first_fault store files ≡ option_or (first_in store (events ++ map a_block blocks)) (Some g)))
    → IfSome held (λ files. AreTables store files (map (block_table store) (blocks_in (events ++ map a_block blocks)) ++ Err g ∷ []))
fault_tables_met store None file row events blocks g l s w next told met = tt
fault_tables_met store (Some files) file row events blocks g l s w next told met =
    subst (λ bs. AreTables store files (map (block_table store) bs ++ Err g ∷ [])) (sym (blocks_taken events blocks))
    (fault_tables store files file row events blocks g l s w next told.0 told.1
    (met.2 ∙ ap (λ bs. option_or (first_in_blocks store bs) (Some g)) (blocks_taken events blocks)))

pub its_file : (file row : ℕ) (g : ReadingFault) → IsOfFile file row g → g.file ≡ file
its_file file row g (inl e) = ap (λ f. f.file) e
its_file file row g (inr (inl e)) = ap (λ f. f.file) e
its_file file row g (inr (inr e)) = ap (λ f. f.file) e

pub meets_fault : (P Q : List Event → Type 0) (store : SeenStore) (held : Option Files) (file row : ℕ) (g : ReadingFault) → file < length store.files → (w : WalkedTo P store held file row)
    → ((es : List Event) → P es → FaultOfFile Q store held file row es g) → MeetsFault Q store held g
meets_fault P Q store held file row g l w met =
    let f : FaultOfFile Q store held file row w.events g = met w.events w.taken in
    record {
      events = w.events ++ map a_block f.blocks;
      first = row;
      row = f.row;
      taken = f.takes.taken;
      walks = subst (λ k. IsWalk 0 1 1 (w.events ++ map a_block f.blocks) k row f.row) (sym (its_file file row g f.own))
          (walk_more 0 1 1 w.events (map a_block f.blocks) file row row file row f.row w.walks f.takes.walks);
      own = subst (λ k. IsOfFile k row g) (sym (its_file file row g f.own)) f.own;
      told = fault_met store held file row w.events f.blocks g l w.goes f.told;
      tables = fault_tables_met store held file row w.events f.blocks g l (walk_grows 0 1 1 w.events file row row w.walks) w.goes f.next f.told (fault_met store held file row w.events f.blocks g l w.goes f.told);
    }

-- the first fault of a file is that of the blocks that were taken, else that of the block at which it stopped
stop_first : (store : SeenStore) (f : WalkedFile) (blocks : List Block) (b : Block) (more : List Block) → f.faults ≡ [] → blocks_of store f ≡ blocks ++ b ∷ more
    → first_of store f ≡ option_or (first_in_blocks store blocks) (option_or (first_block_fault store b) (first_in_blocks store more))
stop_first store f blocks b more none e =
    ap (λ fs. option_or (first_reading_fault fs) (first_in_blocks store (blocks_of store f))) none
    ∙ ap (first_in_blocks store) e
    ∙ first_in_append store blocks (b ∷ more)

first_stopped : (store : SeenStore) (before : List Event) (blocks : List Block) (b : Block)
    → first_in store ((before ++ map a_block blocks) ++ a_block b ∷ []) ≡ option_or (option_or (first_in store before) (first_in_blocks store blocks)) (option_or (first_block_fault store b) None)
first_stopped store before blocks b =
    ap (first_in_blocks store) (blocks_append (before ++ map a_block blocks) (a_block b ∷ []))
    ∙ first_in_append store (blocks_in (before ++ map a_block blocks)) (b ∷ [])
    ∙ ap (λ x. option_or x (option_or (first_block_fault store b) None)) (first_taken store before blocks)

stop_met : (store : SeenStore) (held : Option Files) (file row : ℕ) (events : List Event) (blocks : List Block) (b : Block) → file < length store.files
    → IfSome held (λ files. GoesFrom store files file row events)
    → OfFile store held file row (λ f. (f.faults ≡ []) × (more : List Block) × (blocks_of store f ≡ blocks ++ b ∷ more))
    → IfSome held (λ files. (more : List Event) × (all_events store files ≡ (events ++ map a_block blocks) ++ a_block b ∷ more)
    × ((g : ReadingFault) → first_in store ((events ++ map a_block blocks) ++ a_block b ∷ []) ≡ Some g → first_fault store files ≡ Some g))
stop_met store None file row events blocks b l w t = tt
stop_met store (Some files) file row events blocks b l w told =
    let f : WalkedFile = walked_file store files file row in
    let from : (rest : Option ReadingFault) × (first_fault store files ≡ option_or (first_in store events) (option_or (first_of store f) rest)) = first_from store files file row events l w in
    let cut : (rest : List Event) × (all_events store files ≡ (events ++ map a_block blocks) ++ (a_block b ∷ (map a_block told.1 ++ rest))) = events_cut store files file row events blocks (b ∷ told.1) l w told.2 in (
      map a_block told.1 ++ cut.0,
      cut.1,
      λ g e.
          from.1
          ∙ ap (λ x. option_or (first_in store events) (option_or x from.0)) (stop_first store f blocks b told.1 told.0 told.2)
          ∙ by g (first_in store events) (first_in_blocks store blocks) (first_block_fault store b) (first_in_blocks store told.1) from.0 (sym (first_stopped store events blocks b) ∙ e),
    )
  where
    by : (g : ReadingFault) (a b s c d : Option ReadingFault) → option_or (option_or a b) (option_or s None) ≡ Some g → option_or a (option_or (option_or b (option_or s c)) d) ≡ Some g
    by g (Some a) b s c d e = e
    by g None (Some b) s c d e = e
    by g None None (Some s) c d e = e
    by g None None None c d e = absurd cc

-- the block at which it stopped stands behind the tables of what was taken
stop_tables : (store : SeenStore) (files : Files) (file row : ℕ) (events : List Event) (blocks : List Block) (b : Block) (l : file < length store.files) → 1 ≤ row → row ≤ 2 ^ 40 → (w : GoesFrom store files file row events)
    → (walked_file store files file row).faults ≡ [] → (more : List Block) → blocks_of store (walked_file store files file row) ≡ blocks ++ b ∷ more
    → ((g : ReadingFault) → first_in_blocks store (blocks_in events ++ (blocks ++ b ∷ [])) ≡ Some g → first_fault store files ≡ Some g)
    → (rest : Tables) × AreTables store files (map (block_table store) (blocks_in events ++ (blocks ++ b ∷ [])) ++ rest)
stop_tables store files file row events blocks b l s few w none more at first = by (read_as_sized store store.size file row (walked_file store files file row).records s few)
  where
    cut : blocks ++ b ∷ more ≡ (blocks ++ b ∷ []) ++ more
    cut = sym (append_assoc blocks (b ∷ []) more)

    by_front : (bs : List Block) → bs ≡ blocks ++ b ∷ [] → IsLongFile store (bs ++ more) (sized_blocks l w) → AreTables store files (map (block_table store) (blocks_in events ++ bs) ++ [])
    by_front [] e long = absurd (some blocks e)
      where
        some : (xs : List Block) → [] ≡ xs ++ b ∷ [] → ⊥
        some [] e = absurd cc
        some (x ∷ xs) e = absurd cc
    by_front (c ∷ cs) e long =
        let same : c ≡ long.front = head_block long.front_is in
        let f : (g : ReadingFault) × (first_block_fault store c ≡ Some g) × (block_table store c ≡ Err g) = faulty store c (λ h. long.front_fails (subst (λ x. first_block_fault store x ≡ None) same h)) in
        let us : Tables = map (block_table store) (blocks_in events ++ c ∷ cs) ++ [] in
        let here : us ≡ before l w ++ Err f.0 ∷ (map (block_table store) cs ++ []) =
        ap (λ xs. xs ++ []) (map-append (block_table store) (blocks_in events) (c ∷ cs))
        ∙ append_assoc (before l w) (map (block_table store) (c ∷ cs)) []
        ∙ ap (λ t. before l w ++ t ∷ (map (block_table store) cs ++ [])) f.2 in
        let refused : first_refused us ≡ option_or (first_in_blocks store (blocks_in events)) (Some f.0) = ap first_refused here ∙ refused_behind store (blocks_in events) (Err f.0 ∷ (map (block_table store) cs ++ [])) in
        let seen : first_in_blocks store (blocks_in events ++ c ∷ cs) ≡ option_or (first_in_blocks store (blocks_in events)) (Some f.0) =
        first_in_append store (blocks_in events) (c ∷ cs) ∙ ap (λ x. option_or (first_in_blocks store (blocks_in events)) (option_or x (first_in_blocks store cs))) f.1 in
        of_long l w (c ∷ (cs ++ more)) long none us f.0 (map (block_table store) cs ++ []) here
        (met (first_in_blocks store (blocks_in events)) f.0 (λ g h. first g (ap (λ xs. first_in_blocks store (blocks_in events ++ xs)) (sym e) ∙ seen ∙ h)) ∙ sym refused)
      where
        met : (a : Option ReadingFault) (f : ReadingFault) → ((g : ReadingFault) → option_or a (Some f) ≡ Some g → first_fault store files ≡ Some g) → first_fault store files ≡ option_or a (Some f)
        met None f h = h f refl
        met (Some x) f h = h x refl

    by : (sized_blocks l w ≡ blocks_of store (walked_file store files file row)) ⊎ IsLongFile store (blocks_of store (walked_file store files file row)) (sized_blocks l w)
        → (rest : Tables) × AreTables store files (map (block_table store) (blocks_in events ++ (blocks ++ b ∷ [])) ++ rest)
    by (inl same) = (map (block_table store) more ++ behind l w, ap up_to_fault (as_read l w (blocks ++ b ∷ []) more none (same ∙ at ∙ cut)))
    by (inr long) = ([], by_front (blocks ++ b ∷ []) refl (subst (λ bs. IsLongFile store bs (sized_blocks l w)) (at ∙ cut) long))

block_taken : (events : List Event) (blocks : List Block) (b : Block) → blocks_in ((events ++ map a_block blocks) ++ a_block b ∷ []) ≡ blocks_in events ++ (blocks ++ b ∷ [])
block_taken events blocks b = blocks_append (events ++ map a_block blocks) (a_block b ∷ []) ∙ ap (λ bs. bs ++ b ∷ []) (blocks_taken events blocks) ∙ append_assoc (blocks_in events) blocks (b ∷ [])

stop_tables_met : (store : SeenStore) (held : Option Files) (file row : ℕ) (events : List Event) (blocks : List Block) (b : Block) → file < length store.files → 1 ≤ row → row ≤ 2 ^ 40
    → IfSome held (λ files. GoesFrom store files file row events)
    → OfFile store held file row (λ f. (f.faults ≡ []) × (more : List Block) × (blocks_of store f ≡ blocks ++ b ∷ more))
    → IfSome held (λ files. (more : List Event) × (all_events store files ≡ (events ++ map a_block blocks) ++ a_block b ∷ more)
    × ((g : ReadingFault) → first_in store ((events ++ map a_block blocks) ++ a_block b ∷ []) ≡ Some g → first_fault store files ≡ Some g))
    → IfSome held (λ files. (rest : Tables) × AreTables store files (map (block_table store) (blocks_in ((events ++ map a_block blocks) ++ a_block b ∷ [])) ++ rest))
stop_tables_met store None file row events blocks b l s few w told met = tt
stop_tables_met store (Some files) file row events blocks b l s few w told met =
    subst (λ bs. (rest : Tables) × AreTables store files (map (block_table store) bs ++ rest)) (sym (block_taken events blocks b))
    (stop_tables store files file row events blocks b l s few w told.0 told.1 told.2
    (λ g e. met.2 g (ap (first_in_blocks store) (block_taken events blocks b) ∙ e)))

pub stops_in_file : (P : List Event → Type 0) (Q : List Event → Event → Type 0) (store : SeenStore) (held : Option Files) (file row : ℕ) → file < length store.files → (w : WalkedTo P store held file row)
    → ((es : List Event) → P es → StopsInFile Q store held file row es) → StopsAt Q store held (file + 1)
stops_in_file P Q store held file row l w stop =
    let f : StopsInFile Q store held file row w.events = stop w.events w.taken in
    record {
      events = w.events ++ map a_block f.blocks;
      event = a_block f.block;
      file = file;
      first = row;
      row = f.row;
      stopped = f.stopped;
      walks = walk_more 0 1 1 w.events (map a_block f.blocks) file row row file row f.row w.walks f.walks;
      next = (file, row, f.row + length f.block.records, f.next);
      below = omega arith;
      told = stop_met store held file row w.events f.blocks f.block l w.goes f.told;
      tables = stop_tables_met store held file row w.events f.blocks f.block l (walk_grows 0 1 1 w.events file row row w.walks)
          (below f.row (2 ^ 40) row (walk_grows file row row (map a_block f.blocks) file row f.row f.walks) f.next.2) w.goes f.told (stop_met store held file row w.events f.blocks f.block l w.goes f.told);
    }
  where
    below : (r m k : ℕ) → k ≤ r → r < m → k ≤ m
    below r m k a b = omega arith

end_met : (store : SeenStore) (held : Option Files) (file row n : ℕ) (events : List Event) (blocks : List Block) → IfSome held (λ files. GoesFrom store files (file + 1) (row + n) ((events ++ map a_block blocks) ++ an_end file n ∷ []))
    → IfSome held (λ files. (more : List Event) × (all_events store files ≡ (events ++ map a_block blocks) ++ an_end file n ∷ more)
    × ((g : ReadingFault) → first_in store ((events ++ map a_block blocks) ++ an_end file n ∷ []) ≡ Some g → first_fault store files ≡ Some g))
end_met store None file row n events blocks w = tt
end_met store (Some files) file row n events blocks w =
    let next : List Event = events_from store files (file + 1) (row + n) (drop (file + 1) store.files) in
    let ended : List Event = (events ++ map a_block blocks) ++ an_end file n ∷ [] in
    let met : Option ReadingFault = first_met_from (cut_of store) store files (file + 1) (row + n) (drop (file + 1) store.files) in
    (next, w.events ∙ append_assoc (events ++ map a_block blocks) (an_end file n ∷ []) next, λ g e. w.first ∙ or_some (first_in store ended) met g e)

end_tables : (store : SeenStore) (held : Option Files) (file row n : ℕ) (events : List Event) (blocks : List Block) → IfSome held (λ files. GoesFrom store files (file + 1) (row + n) ((events ++ map a_block blocks) ++ an_end file n ∷ []))
    → IfSome held (λ files. (rest : Tables) × AreTables store files (map (block_table store) (blocks_in ((events ++ map a_block blocks) ++ an_end file n ∷ [])) ++ rest))
end_tables store None file row n events blocks w = tt
end_tables store (Some files) file row n events blocks w =
    (flat_map (walked_tables store) (walk_from store files (file + 1) (row + n) (drop (file + 1) store.files)), ap up_to_fault w.tables)

-- the taker stopped at the end of a file
pub stops_at_end : (P Q : List Event → Type 0) (R : List Event → Event → Type 0) (store : SeenStore) (held : Option Files) (file row n : ℕ) → file < length store.files → (w : WalkedTo P store held file row)
    → ((es : List Event) → P es → WholeFile Q store held file row n es) → ((es : List Event) → Q es → R es (an_end file n)) → StopsAt R store held (file + 1)
stops_at_end P Q R store held file row n l w whole stopped =
    let f : WholeFile Q store held file row n w.events = whole w.events w.taken in
    record {
      events = w.events ++ map a_block f.blocks;
      event = an_end file n;
      file = file;
      first = row;
      row = row + n;
      stopped = stopped (w.events ++ map a_block f.blocks) f.takes.taken;
      walks = walk_more 0 1 1 w.events (map a_block f.blocks) file row row file row (row + n) w.walks f.takes.walks;
      next = (file + 1, row + n, row + n, ended_walk row (row + n) n file refl);
      below = omega arith;
      told = end_met store held file row n w.events f.blocks (to_file store held file row n w.events f.blocks l f.few w.goes f.told);
      tables = end_tables store held file row n w.events f.blocks (to_file store held file row n w.events f.blocks l f.few w.goes f.told);
    }

-- all files
all_met : (store : SeenStore) (held : Option Files) (row : ℕ) (events : List Event) → IfSome held (λ files. GoesFrom store files (length store.files) row events)
    → IfSome held (λ files. (events ≡ all_events store files) × (blocks_in events ≡ all_blocks store files) × (file_faults_from store files 0 1 store.files ≡ []) × (first_fault store files ≡ first_in store events))
all_met store None row events w = tt
all_met store (Some files) row events w =
    let none : drop (length store.files) store.files ≡ [] = drop-length store.files in
    let at : ℕ = length store.files in (
      sym (w.events ∙ ap (λ names. events ++ events_from store files at row names) none ∙ append-nil events),
      sym (w.blocks ∙ ap (λ names. blocks_in events ++ flat_map (walked_blocks (in_blocks store.size)) (walk_from store files at row names)) none ∙ append-nil (blocks_in events)),
      w.own ∙ ap (file_faults_from store files at row) none,
      w.first ∙ ap (λ names. option_or (first_in store events) (first_met_from (cut_of store) store files at row names)) none ∙ or_none (first_in store events),
    )

all_tables : (store : SeenStore) (held : Option Files) (row : ℕ) (events : List Event) → IfSome held (λ files. GoesFrom store files (length store.files) row events)
    → IfSome held (λ files. AreTables store files (map (block_table store) (blocks_in events)))
all_tables store None row events w = tt
all_tables store (Some files) row events w =
    ap up_to_fault (w.tables
    ∙ ap (λ names. map (block_table store) (blocks_in events) ++ flat_map (walked_tables store) (walk_from store files (length store.files) row names)) (drop-length store.files)
    ∙ append-nil (map (block_table store) (blocks_in events)))

pub walks_all : (P : List Event → Type 0) (store : SeenStore) (held : Option Files) (file row : ℕ) → file ≡ length store.files → row ≤ 2 ^ 40 → WalkedTo P store held file row → WalksAll P store held
walks_all P store held file row e few w =
    let v : WalkedTo P store held (length store.files) row = subst (λ k. WalkedTo P store held k row) e w in
    record { events = v.events; row = row; taken = v.taken; walks = v.walks; few = few; told = all_met store held row v.events v.goes; tables = all_tables store held row v.events v.goes }
