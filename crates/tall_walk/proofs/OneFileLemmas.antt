-- From what was left of a file to a file of the walk.
use Rattle.std.proofs.Common.{ℕ, ◌≡◌, ◌∙◌, ◌<◌, ◌≤◌, ◌+◌, ◌^◌, inl, inr, List, [], ◌∷◌, ◌++◌, sym, ap, subst, refl, arith, length, map}
use Rattle.std.specs.Prelude.{◌*◌, ◌-◌, Bool, true, Option, Some, None, IfSome, IsSomeAnd, option_map}
use Rattle.std.specs.Option.{option_or}
use Rattle.std.proofs.lemmas.List.{append_assoc, append-nil, map-append}
use Rattle.tall_outside.specs.declared.shelf.Shelf as shelf
use Rattle.tall_outside.specs.Shelf.{Files, file_in}
use Rattle.tall_cut.specs.Asked.{size_in}
use Rattle.tall_cut.specs.declared.feed.OpenedFile as opened
use Rattle.tall_cut.specs.Cuts.{IsEnded, left_by, rows_of}
use Rattle.tall_cut.specs.Finding.{raw_count, records_of, source_left}
use Rattle.tall_cut.specs.Left.{feed_left}
use Rattle.tall_cut.specs.Rows.{Fields, NoneLeft, TakesMany}
use Rattle.tall_value.specs.declared.faults.ReadingKind.TheVariants.{NoFile}
use Rattle.tall_store.specs.declared.file_end.FileEnd.{FileEnd}
use Rattle.tall_store.specs.declared.file_end.FileEnd.TheVariants.{Whole, Reading, Failed, TooLarge, Memory}
use Rattle.tall_store.specs.declared.faults.ReadingFault.{ReadingFault}
use Rattle.tall_store.specs.Blocks.{Block, first_block_fault, first_in_blocks}
use Rattle.tall_store.specs.declared.file_rows.FileBlock.{FileBlock}
use Rattle.tall_store.specs.declared.file_rows.FileRows.{FileRows}
use Rattle.tall_store.specs.declared.file_rows.FileStep.TheVariants as step
use Rattle.tall_store.specs.FileSteps.{Steps, file_of, first_row, next_row, rows_left, size_of_block}
use Rattle.tall_store.specs.FileEnds.{EndLonger, EndTooLong, IsAtFront, OpensFile, RefusesFile, fault_at, name_of_file, too_many, walked_file}
use Rattle.tall_store.specs.ReadingOrder.{first_reading_fault}
use Rattle.tall_store.specs.Stores.{SeenStore}
use Rattle.tall_store.specs.Walk.{WalkedFile, file_faults}
use Rattle.tall_walk.specs.declared.ends.FileOutcome.{FileOutcome}
use Rattle.tall_walk.specs.declared.ends.FileOutcome.TheVariants.{Ended, Stopped}
use Rattle.tall_walk.specs.Events.{Event, IsWalk, a_block, block_of}
use Rattle.tall_walk.specs.OneFile.{EndBehind, Going, GoesOn, IfEnd, IsOfFile, MeetsNext, OfFile, StopsIn, TakesUpTo, TellsFile, TellsLeft, blocks_of, cut_from, first_of}
use Rattle.tall_walk.proofs.Cuts.{goes_all, goes_block, goes_count, goes_first, goes_most, goes_next}
use Rattle.tall_walk.proofs.Walks.{below_limit, first_in_append, limit_block, limit_first, walk_more}

-- ---- a block more

abbrev pub of_records : (file row : ℕ) → List Fields → Block
of_records file row records = record { file = file; row = row; records = records }

pub takes_first : (P : List Event → Type 0) (file first : ℕ) (before : List Event) → P before → TakesUpTo P file first before [] first
takes_first P file first before p = record { taken = subst P (sym (append-nil before)) p; walks = (refl, refl, refl) }

pub going_first : (P : List Event → Type 0) (size file first : ℕ) (before : List Event) (left : Option (List Fields)) → P before → Going P size file first first before left left
going_first P size file first before left p = record { blocks = []; takes = takes_first P file first before p; goes = goes_first size file first left }

next_walk : (file first row : ℕ) (b : Block) → b.file ≡ file → b.row ≡ row → row < 2 ^ 40 → 0 < length b.records → IsWalk file first row (a_block b ∷ []) file first (row + length b.records)
next_walk file first row b f r l some = (f, r, l, some, (refl, refl, refl))

more_blocks : (before : List Event) (blocks : List Block) (b : Block) → (before ++ map a_block blocks) ++ a_block b ∷ [] ≡ before ++ map a_block (blocks ++ b ∷ [])
more_blocks before blocks b = append_assoc before (map a_block blocks) (a_block b ∷ []) ∙ ap (λ es. before ++ es) (sym (map-append a_block blocks (b ∷ [])))

pub takes_more : (P R : List Event → Type 0) (file first row next : ℕ) (before : List Event) (blocks : List Block) (b : Block) → TakesUpTo P file first before blocks row
    → ((es : List Event) → P es → R (es ++ a_block b ∷ [])) → b.file ≡ file → b.row ≡ row → row < 2 ^ 40 → 0 < length b.records → next ≡ row + length b.records
    → TakesUpTo R file first before (blocks ++ b ∷ []) next
takes_more P R file first row next before blocks b t took f r l some n = record {
  taken = subst R (more_blocks before blocks b) (took (before ++ map a_block blocks) t.taken);
  walks = subst (λ z. IsWalk file first first (map a_block (blocks ++ b ∷ [])) file first z) (sym n)
      (subst (λ es. IsWalk file first first es file first (row + length b.records)) (sym (map-append a_block blocks (b ∷ [])))
      (walk_more file first first (map a_block blocks) (a_block b ∷ []) file first row file first (row + length b.records) t.walks (next_walk file first row b f r l some)));
}

pub going_block : (P R : List Event → Type 0) (size file first row next : ℕ) (before : List Event) (left now rest after : Option (List Fields)) (b : Block) → Going P size file first row before left now
    → ((es : List Event) → P es → R (es ++ a_block b ∷ [])) → b.file ≡ file → b.row ≡ row → row < 2 ^ 40 → 0 < length b.records → next ≡ row + length b.records
    → TakesMany now b.records rest → length b.records ≤ size → (length b.records < size → rest ≡ Some []) → after ≡ rest
    → Going R size file first next before left after
going_block P R size file first row next before left now rest after b g took f r l some n t few last same = record {
  blocks = g.blocks ++ b ∷ [];
  takes = takes_more P R file first row next before g.blocks b g.takes took f r l some n;
  goes = subst (λ a. GoesOn size file first (g.blocks ++ b ∷ []) next left a) (sym same)
      (subst (λ m. GoesOn size file first (g.blocks ++ b ∷ []) m left rest) (sym n)
      (subst (λ x. GoesOn size file first (g.blocks ++ x ∷ []) (row + length b.records) left rest) (is_block b file row f r)
      (goes_block size file first row g.blocks b.records left now rest g.goes t some few last)));
}
  where
    is_block : (b : Block) (file row : ℕ) → b.file ≡ file → b.row ≡ row → of_records file row b.records ≡ b
    is_block b file row f r = ap (λ k. of_records k row b.records) (sym f) ∙ ap (λ k. of_records b.file k b.records) (sym r)

-- ---- ends

pub left_whole : {E : Type 0} (P : List Event → Type 0) (Q : E → List Event → Event → Type 0) (size file first row n : ℕ) (before : List Event) (left now : Option (List Fields)) → Going P size file first row before left now
    → NoneLeft now → first + n ≡ row → row ≤ 2 ^ 40 → TellsLeft P Q size file first before left (Ended (Whole n))
left_whole P Q size file first row n before left now g none e l = record {
  blocks = g.blocks;
  takes = subst (λ r. TakesUpTo P file first before g.blocks r) (sym e) g.takes;
  few = subst (λ r. r ≤ 2 ^ 40) (sym e) l;
  count = goes_count size file first row n g.blocks left now g.goes none e;
  all = goes_all size file first row g.blocks left now g.goes none;
}

pub left_most : {E : Type 0} (P : List Event → Type 0) (Q : E → List Event → Event → Type 0) (size file first row : ℕ) (before : List Event) (left now : Option (List Fields)) (fault : ReadingFault) → Going P size file first row before left now
    → fault ≡ too_many file → IfSome now (λ rows. 2 ^ 40 < row + length rows) → 2 ^ 40 ≤ row → TellsLeft P Q size file first before left (Ended (Reading fault))
left_most P Q size file first row before left now fault g e over l = (
  e,
  record { blocks = g.blocks; row = row; takes = g.takes; beyond = l; rest = goes_most size file first row g.blocks left now g.goes over },
)

pub left_stopped : (P : List Event → Type 0) (R : List Event → Event → Type 0) (size file first row : ℕ) (before : List Event) (left now rest : Option (List Fields)) (b : Block) → Going P size file first row before left now
    → ((es : List Event) → P es → R es (a_block b)) → b.file ≡ file → b.row ≡ row → row < 2 ^ 40 → 0 < length b.records
    → TakesMany now b.records rest → length b.records ≤ size → (length b.records < size → rest ≡ Some [])
    → StopsIn R size file first before left
left_stopped P R size file first row before left now rest b g stopped f r l some t few last = record {
  blocks = g.blocks;
  row = row;
  block = b;
  stopped = stopped (before ++ map a_block g.blocks) g.takes.taken;
  walks = g.takes.walks;
  next = next_walk file first row b f r l some;
  rest = subst (λ x. IfSome left (λ all. (more : List Block) × (cut_from size file first all ≡ g.blocks ++ x ∷ more))) (is_block b file row f r)
      (goes_next size file first row g.blocks b.records left now rest g.goes t some few last);
}
  where
    is_block : (b : Block) (file row : ℕ) → b.file ≡ file → b.row ≡ row → of_records file row b.records ≡ b
    is_block b file row f r = ap (λ k. of_records k row b.records) (sym f) ∙ ap (λ k. of_records b.file k b.records) (sym r)

-- ---- a file of the walk

abbrev Opened : SeenStore → Option Files → (file first : ℕ) → Option (List Fields) → Type 0
Opened store held file first left = OfFile store held file first (λ f. OpensFile f left)

of_records_left : (X : List Fields → Type 0) (left : Option (List Fields)) (records : List Fields) → left ≡ Some records → IfSome left X → X records
of_records_left X None records e x = absurd cc
of_records_left X (Some rs) records e x = subst X (same rs records e) x
  where
    same : (rs records : List Fields) → Some rs ≡ Some records → rs ≡ records
    same rs records e = cc

whole_told : (store : SeenStore) (held : Option Files) (file first n : ℕ) (left : Option (List Fields)) (blocks : List Block) → Opened store held file first left
    → IfSome left (λ records. n ≡ length records) → IfSome left (λ records. cut_from (rows_of store.size) file first records ≡ blocks)
    → OfFile store held file first (λ f. (f.faults ≡ []) × (n ≡ length f.records) × (blocks_of store f ≡ blocks))
whole_told store None file first n left blocks o c a = tt
whole_told store (Some files) file first n left blocks o c a = (
  o.0,
  of_records_left (λ records. n ≡ length records) left (walked_file store files file first).records o.1 c,
  of_records_left (λ records. cut_from (rows_of store.size) file first records ≡ blocks) left (walked_file store files file first).records o.1 a,
)

-- the row numbered 2^40 comes next
limit_met : (store : SeenStore) (f : WalkedFile) (file first row size : ℕ) (blocks : List Block) (more : List Fields) → f.faults ≡ [] → blocks_of store f ≡ blocks ++ cut_from size file row more
    → IsWalk file first first (map a_block blocks) file first row → 0 < size → first ≤ 2 ^ 40 → 2 ^ 40 ≤ row → 2 ^ 40 < row + length more
    → first_of store f ≡ option_or (first_in_blocks store blocks) (Some (too_many file))
limit_met store f file first row size blocks more none e w some l beyond over =
    ap (λ fs. option_or (first_reading_fault fs) (first_in_blocks store (blocks_of store f))) none
    ∙ ap (first_in_blocks store) e
    ∙ first_in_append store blocks (cut_from size file row more)
    ∙ by (first_in_blocks store blocks) refl
  where
    both : (m n : ℕ) → m ≤ n → n ≤ m → m ≡ n
    both m n a b = omega arith

    by : (o : Option ReadingFault) → o ≡ first_in_blocks store blocks → option_or o (first_in_blocks store (cut_from size file row more)) ≡ option_or o (Some (too_many file))
    by (Some g) h = refl
    by None h = limit_first store size file row more some (both row (2 ^ 40) (below_limit store file first first blocks file first row w l (sym h)) beyond) over

most_told : (store : SeenStore) (held : Option Files) (file first row : ℕ) (left : Option (List Fields)) (blocks : List Block) → Opened store held file first left
    → IsWalk file first first (map a_block blocks) file first row → 0 < rows_of store.size → first ≤ 2 ^ 40 → 2 ^ 40 ≤ row
    → IfSome left (λ records. (more : List Fields) × (cut_from (rows_of store.size) file first records ≡ blocks ++ cut_from (rows_of store.size) file row more) × (2 ^ 40 < row + length more))
    → OfFile store held file first (λ f. (more : List Block) × (blocks_of store f ≡ blocks ++ more) × (first_of store f ≡ option_or (first_in_blocks store blocks) (Some (too_many file))))
most_told store None file first row left blocks o w some l beyond rest = tt
most_told store (Some files) file first row left blocks o w some l beyond rest =
    let f : WalkedFile = walked_file store files file first in
    let r : (more : List Fields) × (cut_from (rows_of store.size) file first f.records ≡ blocks ++ cut_from (rows_of store.size) file row more) × (2 ^ 40 < row + length more) =
    of_records_left (λ records. (more : List Fields) × (cut_from (rows_of store.size) file first records ≡ blocks ++ cut_from (rows_of store.size) file row more) × (2 ^ 40 < row + length more))
    left f.records o.1 rest in
    (cut_from (rows_of store.size) file row r.0, r.1, limit_met store f file first row (rows_of store.size) blocks r.0 o.0 r.1 w some l beyond r.2)

next_most : (store : SeenStore) (held : Option Files) (file first row : ℕ) (left : Option (List Fields)) (blocks : List Block) (g : ReadingFault) → Opened store held file first left
    → IsWalk file first first (map a_block blocks) file first row → 0 < rows_of store.size → first ≤ 2 ^ 40 → 2 ^ 40 ≤ row
    → IfSome left (λ records. (more : List Fields) × (cut_from (rows_of store.size) file first records ≡ blocks ++ cut_from (rows_of store.size) file row more) × (2 ^ 40 < row + length more))
    → OfFile store held file first (MeetsNext store first blocks g)
next_most store None file first row left blocks g o w some l beyond rest = tt
next_most store (Some files) file first row left blocks g o w some l beyond rest =
    let f : WalkedFile = walked_file store files file first in
    let r : (more : List Fields) × (cut_from (rows_of store.size) file first f.records ≡ blocks ++ cut_from (rows_of store.size) file row more) × (2 ^ 40 < row + length more) =
    of_records_left (λ records. (more : List Fields) × (cut_from (rows_of store.size) file first records ≡ blocks ++ cut_from (rows_of store.size) file row more) × (2 ^ 40 < row + length more))
    left f.records o.1 rest in
    inr (
      o.0,
      l,
      λ h.
          let b : (b : Block) × (rest : List Block) × (cut_from (rows_of store.size) file row r.0 ≡ b ∷ rest) × (first_block_fault store b ≡ None → ⊥) =
          limit_block store (rows_of store.size) file row r.0 some (both row (2 ^ 40) (below_limit store file first first blocks file first row w l h) beyond) r.2 in
          (b.0, b.1, r.1 ∙ ap (λ bs. blocks ++ bs) b.2, b.3),
    )
  where
    both : (m n : ℕ) → m ≤ n → n ≤ m → m ≡ n
    both m n a b = omega arith

stop_told : (store : SeenStore) (held : Option Files) (file first : ℕ) (left : Option (List Fields)) (blocks : List Block) (b : Block) → Opened store held file first left
    → IfSome left (λ records. (more : List Block) × (cut_from (rows_of store.size) file first records ≡ blocks ++ b ∷ more))
    → OfFile store held file first (λ f. (f.faults ≡ []) × (more : List Block) × (blocks_of store f ≡ blocks ++ b ∷ more))
stop_told store None file first left blocks b o rest = tt
stop_told store (Some files) file first left blocks b o rest =
    let f : WalkedFile = walked_file store files file first in
    let r : (more : List Block) × (cut_from (rows_of store.size) file first f.records ≡ blocks ++ b ∷ more) =
    of_records_left (λ records. (more : List Block) × (cut_from (rows_of store.size) file first records ≡ blocks ++ b ∷ more)) left f.records o.1 rest in
    (o.0, r.0, r.1)

pub tells_file : {E : Type 0} (P : List Event → Type 0) (Q : E → List Event → Event → Type 0) (store : SeenStore) (held : Option Files) (size file first : ℕ) (before : List Event) (left : Option (List Fields)) (end : FileOutcome E)
    → size ≡ rows_of store.size → 0 < size → first ≤ 2 ^ 40 → Opened store held file first left → TellsLeft P Q size file first before left end
    → TellsFile P Q store held file first before end
tells_file P Q store held size file first before left (Ended (Whole n)) e some l o t = record {
  blocks = t.blocks;
  takes = t.takes;
  few = t.few;
  told = whole_told store held file first n left t.blocks o t.count (subst (λ s. IfSome left (λ records. cut_from s file first records ≡ t.blocks)) e t.all);
}
tells_file P Q store held size file first before left (Ended (Reading g)) e some l o t = record {
  blocks = t.1.blocks;
  row = t.1.row;
  takes = t.1.takes;
  own = inr (inr t.0);
  next = next_most store held file first t.1.row left t.1.blocks g o t.1.takes.walks (subst (λ s. 0 < s) e some) l t.1.beyond
      (subst (λ s. IfSome left (λ records. (more : List Fields) × (cut_from s file first records ≡ t.1.blocks ++ cut_from s file t.1.row more) × (2 ^ 40 < t.1.row + length more))) e t.1.rest);
  told = subst (λ x. OfFile store held file first (λ f. (more : List Block) × (blocks_of store f ≡ t.1.blocks ++ more) × (first_of store f ≡ option_or (first_in_blocks store t.1.blocks) (Some x)))) (sym t.0)
      (most_told store held file first t.1.row left t.1.blocks o t.1.takes.walks (subst (λ s. 0 < s) e some) l t.1.beyond
      (subst (λ s. IfSome left (λ records. (more : List Fields) × (cut_from s file first records ≡ t.1.blocks ++ cut_from s file t.1.row more) × (2 ^ 40 < t.1.row + length more))) e t.1.rest));
}
tells_file P Q store held size file first before left (Ended Failed) e some l o t = tt
tells_file P Q store held size file first before left (Ended TooLarge) e some l o t = tt
tells_file P Q store held size file first before left (Ended Memory) e some l o t = tt
tells_file P Q store held size file first before left (Stopped x) e some l o t = record {
  blocks = t.blocks;
  row = t.row;
  block = t.block;
  stopped = t.stopped;
  walks = t.walks;
  next = t.next;
  told = stop_told store held file first left t.blocks t.block o (subst (λ s. IfSome left (λ records. (more : List Block) × (cut_from s file first records ≡ t.blocks ++ t.block ∷ more))) e t.rest);
}

-- a file that was opened is there, so one that is too large is longer than one opening may be
pub long_file : {E : Type 0} (store : SeenStore) (held : Option Files) (file first : ℕ) (left : Option (List Fields)) (size : Option ℕ) (end : FileOutcome E) → size_in held (name_of_file store file) ≡ size → Opened store held file first left
    → IfEnd end (λ x. EndLonger x size) → IfEnd end (EndTooLong held (name_of_file store file))
long_file store held file first left size (Stopped e) s o l = tt
long_file store None file first left size (Ended x) s o l = λ e. tt
long_file store (Some files) file first left size (Ended x) s o l = λ e. by (file_in files (name_of_file store file)) o.0 (subst (λ n. IfSome n (λ m. 2 ^ 50 < m)) (sym s) (l e))
  where
    by : (bytes : Option (List ℕ)) → file_faults store bytes file first ≡ [] → IfSome (option_map length bytes) (λ n. 2 ^ 50 < n) → IsSomeAnd bytes (λ b. 2 ^ 50 < length b)
    by None f l = absurd (none f)
      where
        none : fault_at NoFile file first ∷ [] ≡ [] → ⊥
        none e = cc
    by (Some b) f l = l

-- ---- a file that is not read from its first row on

next_front : (store : SeenStore) (held : Option Files) (file first : ℕ) (g : ReadingFault) → OfFile store held file first (λ f. RefusesFile f (Reading g)) → OfFile store held file first (MeetsNext store first [] g)
next_front store None file first g r = tt
next_front store (Some files) file first g r = inl (refl, r)

front_told : (store : SeenStore) (held : Option Files) (file first : ℕ) (g : ReadingFault) → OfFile store held file first (λ f. RefusesFile f (Reading g))
    → OfFile store held file first (λ f. (more : List Block) × (blocks_of store f ≡ [] ++ more) × (first_of store f ≡ option_or (first_in_blocks store []) (Some g)))
front_told store None file first g r = tt
front_told store (Some files) file first g r =
    let f : WalkedFile = walked_file store files file first in
    (blocks_of store f, refl, ap (λ fs. option_or (first_reading_fault fs) (first_in_blocks store (blocks_of store f))) r)

pub refuses_file : {E : Type 0} (P : List Event → Type 0) (Q : E → List Event → Event → Type 0) (store : SeenStore) (held : Option Files) (file first : ℕ) (before : List Event) (end : FileEnd)
    → IsAtFront file first end → OfFile store held file first (λ f. RefusesFile f end) → P before → TellsFile P Q store held file first before (Ended end)
refuses_file P Q store held file first before (Whole n) a r p = absurd a
refuses_file P Q store held file first before (Reading g) a r p = record {
  blocks = [];
  row = first;
  takes = takes_first P file first before p;
  own = own a;
  next = next_front store held file first g r;
  told = front_told store held file first g r;
}
  where
    own : IsAtFront file first (Reading g) → IsOfFile file first g
    own (inl e) = inl e
    own (inr e) = inr (inl e)
refuses_file P Q store held file first before Failed a r p = tt
refuses_file P Q store held file first before TooLarge a r p = tt
refuses_file P Q store held file first before Memory a r p = tt

-- ---- the reader's steps

pub ended_left : {S K : Type 0} {s : shelf.Ghosts S} {k : opened.Ghosts K} (r : FileRows S K s k) → IsEnded r.cutter → rows_left r ≡ Some []
ended_left r e = ap (λ p. left_by p (records_of r.cutter.delimiter (source_left feed_left r.cutter.source))) e

some_records : (b : FileBlock) → 0 < raw_count b.raw → 0 < length (block_of b).records
some_records b some = subst (λ n. 0 < n) (sym b.raw.counted) some

few_records : (b : FileBlock) (size n : ℕ) → raw_count b.raw ≤ size * 1 → size ≡ n → length (block_of b).records ≤ n
few_records b size n few e = by (length (block_of b).records) (raw_count b.raw) b.raw.counted few
  where
    by : (l c : ℕ) → l ≡ c → c ≤ size * 1 → l ≤ n
    by l c f g = omega (arith, e)

fewer_records : (b : FileBlock) (size n : ℕ) → size ≡ n → length (block_of b).records < n → raw_count b.raw < size * 1
fewer_records b size n e l = by (length (block_of b).records) (raw_count b.raw) b.raw.counted l
  where
    by : (l c : ℕ) → l ≡ c → l < n → c < size * 1
    by l c f g = omega (arith, e)

pub going_step : {S K : Type 0} {s : shelf.Ghosts S} {k : opened.Ghosts K} (P R : List Event → Type 0) (old new after : FileRows S K s k) (b : FileBlock) (size file first : ℕ) (before : List Event) (left : Option (List Fields))
    → Going P size file first (next_row old) before left (rows_left old) → ((es : List Event) → P es → R (es ++ a_block (block_of b) ∷ [])) → Steps (size_of_block old * 1) (step.Block b) old new
    → file_of old ≡ file → size_of_block old ≡ size → rows_left after ≡ rows_left new → next_row after ≡ next_row new
    → Going R size file first (next_row after) before left (rows_left after)
going_step P R old new after b size file first before left g took t f z same row =
    going_block P R size file first (next_row old) (next_row after) before left (rows_left old) (rows_left new) (rows_left after) (block_of b) g took (t.0 ∙ f) t.1
    (subst (λ n. n < 2 ^ 40) t.1 t.2) (some_records b t.3)
    (row ∙ t.6 ∙ ap (λ (n : ℕ). n + raw_count b.raw) t.1 ∙ ap (λ n. next_row old + n) (sym b.raw.counted)) t.5
    (few_records b (size_of_block old) size t.4 z) (λ l. ended_left new (t.7 (fewer_records b (size_of_block old) size z l))) same

pub stop_step : {S K : Type 0} {s : shelf.Ghosts S} {k : opened.Ghosts K} (P : List Event → Type 0) (R : List Event → Event → Type 0) (old new : FileRows S K s k) (b : FileBlock) (size file first : ℕ) (before : List Event) (left : Option (List Fields))
    → Going P size file first (next_row old) before left (rows_left old) → ((es : List Event) → P es → R es (a_block (block_of b))) → Steps (size_of_block old * 1) (step.Block b) old new
    → file_of old ≡ file → size_of_block old ≡ size → StopsIn R size file first before left
stop_step P R old new b size file first before left g stopped t f z =
    left_stopped P R size file first (next_row old) before left (rows_left old) (rows_left new) (block_of b) g stopped (t.0 ∙ f) t.1
    (subst (λ n. n < 2 ^ 40) t.1 t.2) (some_records b t.3) t.5
    (few_records b (size_of_block old) size t.4 z) (λ l. ended_left new (t.7 (fewer_records b (size_of_block old) size z l)))

pub end_step : {S K E : Type 0} {s : shelf.Ghosts S} {k : opened.Ghosts K} (P : List Event → Type 0) (Q : E → List Event → Event → Type 0) (old new : FileRows S K s k) (end told : FileEnd) (beyond : Bool) (size file first : ℕ) (before : List Event) (left : Option (List Fields))
    → Going P size file first (next_row old) before left (rows_left old) → Steps (size_of_block old * 1) (step.Ended end) old new → EndBehind end beyond told → (beyond ≡ true → 2 ^ 40 ≤ next_row old)
    → file_of old ≡ file → first_row old ≡ first → TellsLeft P Q size file first before left (Ended told)
end_step P Q old new end told beyond size file first before left g t (inr e) l f z = subst (λ x. TellsLeft P Q size file first before left (Ended x)) (sym e) tt
end_step P Q old new (Whole n) told beyond size file first before left g t (inl e) l f z =
    subst (λ x. TellsLeft P Q size file first before left (Ended x)) (sym e.0)
    (left_whole P Q size file first (next_row old) n before left (rows_left old) g t.0 (ap (λ m. m + n) (sym z) ∙ t.1) t.2)
end_step P Q old new (Reading fault) told beyond size file first before left g t (inl e) l f z =
    subst (λ x. TellsLeft P Q size file first before left (Ended x)) (sym e.0)
    (left_most P Q size file first (next_row old) before left (rows_left old) fault g (t.0 ∙ ap too_many f) t.1 (l (e.1 fault refl)))
end_step P Q old new Failed told beyond size file first before left g t (inl e) l f z = subst (λ x. TellsLeft P Q size file first before left (Ended x)) (sym e.0) tt
end_step P Q old new TooLarge told beyond size file first before left g t (inl e) l f z = subst (λ x. TellsLeft P Q size file first before left (Ended x)) (sym e.0) tt
end_step P Q old new Memory told beyond size file first before left g t (inl e) l f z = subst (λ x. TellsLeft P Q size file first before left (Ended x)) (sym e.0) tt

pub rises_from : (m old row count next : ℕ) → m ≤ old → row ≡ old → next ≡ row + count → m ≤ next
rises_from m old row count next l e n = omega arith

pub limit_reached : (row count next : ℕ) → 2 ^ 40 - row ≤ count → next ≡ row + count → 2 ^ 40 ≤ next
limit_reached row count next l e = omega arith

pub end_few : {S K : Type 0} {s : shelf.Ghosts S} {k : opened.Ghosts K} (old new : FileRows S K s k) (end told : FileEnd) (beyond : Bool) (first n : ℕ) → Steps (size_of_block old * 1) (step.Ended end) old new → EndBehind end beyond told → first_row old ≡ first
    → told ≡ Whole n → first + n ≤ 2 ^ 40
end_few old new end told beyond first n t (inr e) z w = absurd (memory (sym e ∙ w))
  where
    memory : Memory ≡ Whole n → ⊥
    memory e = cc
end_few old new (Whole m) told beyond first n t (inl e) z w =
    subst (λ x. first + x ≤ 2 ^ 40) (same (sym e.0 ∙ w)) (subst (λ x. x + m ≤ 2 ^ 40) z (subst (λ x. x ≤ 2 ^ 40) (sym t.1) t.2))
  where
    same : Whole m ≡ Whole n → m ≡ n
    same e = cc
end_few old new (Reading fault) told beyond first n t (inl e) z w = absurd (other (sym e.0 ∙ w))
  where
    other : Reading fault ≡ Whole n → ⊥
    other e = cc
end_few old new Failed told beyond first n t (inl e) z w = absurd (other (sym e.0 ∙ w))
  where
    other : Failed ≡ Whole n → ⊥
    other e = cc
end_few old new TooLarge told beyond first n t (inl e) z w = absurd (other (sym e.0 ∙ w))
  where
    other : TooLarge ≡ Whole n → ⊥
    other e = cc
end_few old new Memory told beyond first n t (inl e) z w = absurd (other (sym e.0 ∙ w))
  where
    other : Memory ≡ Whole n → ⊥
    other e = cc

pub front_few : (file row n : ℕ) (end : FileEnd) → IsAtFront file row end → end ≡ Whole n → ⊥
front_few file row n (Whole m) a e = a
front_few file row n (Reading g) a e = absurd cc
front_few file row n Failed a e = absurd cc
front_few file row n TooLarge a e = absurd cc
front_few file row n Memory a e = absurd cc
