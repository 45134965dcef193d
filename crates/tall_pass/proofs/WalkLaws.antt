-- What the walk of a pass says, from how the walk over its files ended and what its taker had.
use Rattle.std.proofs.Common.{ℕ, zero, suc, ◌≡◌, ◌≢◌, ◌∙◌, ◌<◌, ◌≤◌, ◌+◌, ◌^◌, inl, inr, List, [], ◌∷◌, ◌++◌, Ok, Err, Result, sym, ap, subst, refl, arith, length, map, get_or, take}
use Rattle.std.specs.Prelude.{◌⊎◌, Option, Some, None, IfOk, IfSome}
use Rattle.std.specs.Option.{option_or}
use Rattle.std.proofs.lemmas.List.{append-nil}
use Rattle.tall_outside.specs.Count.{Rose}
use Rattle.tall_outside.specs.OpenedNames.{Adds}
use Rattle.tall_outside.specs.Shelf.{Files, file_in}
use Rattle.tall_outside.specs.ShelfCounts.{Counts}
use Rattle.tall_semantics.specs.Deferred.{IsAmong}
use Rattle.tall_value.specs.declared.faults.ReadingKind.TheVariants.{NoFile}
use Rattle.tall_store.specs.declared.faults.ReadingFault.{ReadingFault}
use Rattle.tall_store.specs.declared.file_rows.FileBlock.{FileBlock}
use Rattle.tall_store.specs.Blocks.{Block, all_blocks, first_in_blocks}
use Rattle.tall_store.specs.FileEnds.{name_of_file}
use Rattle.tall_store.specs.Records.{data_in}
use Rattle.tall_store.specs.Stored.{file_faults_from, first_fault}
use Rattle.tall_store.specs.Walk.{file_faults}
use Rattle.tall_store.specs.Stores.{IsStore, SeenStore}
use Rattle.tall_piece.specs.declared.sums.Sums.{Sums}
use Rattle.tall_piece.specs.Joins.{AreWays}
use Rattle.tall_piece.specs.Pieces.{SumsFit}
use Rattle.tall_walk.specs.Events.{Event, IsWalk, a_block, all_events, an_end, block_of, blocks_in, events_from, first_in}
use Rattle.tall_walk.specs.OneFile.{IsOfFile, blocks_of}
use Rattle.tall_walk.specs.declared.ends.WalkEnd.{WalkEnd}
use Rattle.tall_walk.specs.declared.ends.WalkEnd.TheVariants as end
use Rattle.tall_walk.specs.Walked as walk
use Rattle.tall_walk.proofs.Walks.{blocks_append}
use Rattle.tall_pass.specs.declared.faults.PassFault.{PassFault}
use Rattle.tall_pass.specs.declared.faults.PassFault.TheVariants.{Reading, Read, TooLarge, Changed, Memory}
use Rattle.tall_pass.specs.declared.joining.Joined.{Joined}
use Rattle.tall_pass.specs.declared.walking.Walked.{Walked}
use Rattle.tall_pass.specs.Answered.{IsChange, IsExplained, IsLonger, IsNamedBelow, IsPlaced, OpensFiles}
use Rattle.tall_pass.specs.Counts.{AllCounted, AreCounted, KeepsCounts, count_at}
use Rattle.tall_pass.specs.Taken.{AreOfFiles, EndsBlocks, HasStopped, HasTaken, Inputs, IsEndIn, IsOther, OfInputs}
use Rattle.tall_pass.specs.Walking.{AreNone, AreSome, AreSumsOf, EndsReading, EndsWalk, EndsWhole, JoinsAll, NeedsTaken, WalkTells, answer_of}
use Rattle.tall_walk.specs.Placed.{IsColumn}
use Rattle.tall_walk.proofs.FaultLaws.{IsThere}
use Rattle.tall_pass.proofs.FaultLaws.{IsWithin, first_within}
use Rattle.tall_pass.proofs.TakerLaws.{end_behind, end_in}

-- ---- before the first block, and behind the last

pub starts : (w : Inputs) (first : List (Option ℕ)) (s : Sums) → ((i : ℕ) → IsAmong w.all i → i < length w.vertices) → AreWays w.vertices w.wanted → length first ≡ length w.store.files → AreNone w s
    → HasTaken w first (record { sums = s; blocks = 0 }) [] first []
starts w first s places ways counted none = record {
  places = places;
  ways = ways;
  blocks = [];
  cut = refl;
  joined = record {
    count = refl;
    some = omega arith;
    few = subst (λ n. n < 2 ^ 40) (sym none.rows) (omega arith);
    none = refl;
    fit = subst (λ n. SumsFit w.vertices n w.wanted s.sums.items) (sym none.rows) none.fit;
    sums = λ store p given. none.sums store p;
  };
  waits = tt;
  files = tt;
  counted = counted;
  ended = record { files = refl; known = λ f n h. h; each = λ f n h. inl h; ended = λ f n h. absurd h };
}

pub joins_all : (w : Inputs) (first : List (Option ℕ)) (j : Joined) (waiting : List FileBlock) (counts : List (Option ℕ)) (events : List Event) → waiting ≡ [] → HasTaken w first j waiting counts events
    → JoinsAll w first events (record { sums = j.sums; counts = counts })
joins_all w first j waiting counts events e t =
    let all : blocks_in events ≡ t.blocks = t.cut ∙ ap (λ bs. t.blocks ++ map block_of bs) e ∙ append-nil t.blocks in
    record {
      none = ap (first_in_blocks w.store) all ∙ t.joined.none;
      some = record { fit = t.joined.fit; few = t.joined.few };
      sums = subst (λ bs. AreSumsOf w bs j.sums) (sym all) t.joined.sums;
      ended = t.ended;
    }

-- ---- places of events

walk_up : (file first row : ℕ) (es : List Event) (k m n : ℕ) → IsWalk file first row es k m n → file ≤ k
walk_up file first row [] k m n w = same file k w.0
  where
    same : (m n : ℕ) → m ≡ n → m ≤ n
    same m n e = omega (arith, e)
walk_up file first row (a_block b ∷ es) k m n w = walk_up file first (row + length b.records) es k m n w.4
walk_up file first row (an_end f records ∷ es) k m n w = before file k (walk_up (file + 1) row row es k m n w.2)
  where
    before : (m n : ℕ) → m + 1 ≤ n → m ≤ n
    before m n l = omega (arith, l)

pub ends_below : (file first row : ℕ) (es : List Event) (k m n : ℕ) → IsWalk file first row es k m n → (f c : ℕ) → IsEndIn es f c → f < k
ends_below file first row [] k m n w f c e = absurd e
ends_below file first row (a_block b ∷ es) k m n w f c e = ends_below file first (row + length b.records) es k m n w.4 f c e
ends_below file first row (an_end g records ∷ es) k m n w f c (inl e) = below f g file k (sym e.0) w.0 (walk_up (file + 1) row row es k m n w.2)
  where
    below : (f g file k : ℕ) → f ≡ g → g ≡ file → file + 1 ≤ k → f < k
    below f g file k a b l = omega (arith, a, b, l)
ends_below file first row (an_end g records ∷ es) k m n w f c (inr e) = ends_below (file + 1) row row es k m n w.2 f c e

of_walk : (file first row : ℕ) (es : List Event) (k m n : ℕ) → IsWalk file first row es k m n → AreOfFiles (k + 1) (blocks_in es)
of_walk file first row [] k m n w = tt
of_walk file first row (a_block b ∷ es) k m n w = (below b.file file k w.0 (walk_up file first (row + length b.records) es k m n w.4), of_walk file first (row + length b.records) es k m n w.4)
  where
    below : (f file k : ℕ) → f ≡ file → file ≤ k → f < k + 1
    below f file k e l = omega (arith, e, l)
of_walk file first row (an_end f records ∷ es) k m n w = of_walk (file + 1) row row es k m n w.2

split : (m n : ℕ) → m ≤ n → (m ≡ n) ⊎ (m + 1 ≤ n)
split zero zero l = inl refl
split zero (suc n) l = inr (omega arith)
split (suc m) zero l = absurd (omega (arith, l))
split (suc m) (suc n) l = by (split m n (less m n l))
  where
    less : (m n : ℕ) → suc m ≤ suc n → m ≤ n
    less m n l = omega (arith, l)

    more : (m n : ℕ) → m + 1 ≤ n → suc m + 1 ≤ suc n
    more m n l = omega (arith, l)

    by : (m ≡ n) ⊎ (m + 1 ≤ n) → (suc m ≡ suc n) ⊎ (suc m + 1 ≤ suc n)
    by (inl e) = inl (ap (λ (k : ℕ). suc k) e)
    by (inr l) = inr (more m n l)

all_ended : (file first row : ℕ) (es : List Event) (k m n : ℕ) → IsWalk file first row es k m n → (f : ℕ) → file ≤ f → f < k → (c : ℕ) × IsEndIn es f c
all_ended file first row [] k m n w f l u = absurd (none file k f w.0 l u)
  where
    none : (file k f : ℕ) → file ≡ k → file ≤ f → f < k → ⊥
    none file k f e l u = omega (arith, e, l, u)
all_ended file first row (a_block b ∷ es) k m n w f l u = all_ended file first (row + length b.records) es k m n w.4 f l u
all_ended file first row (an_end g records ∷ es) k m n w f l u = by (split file f l) (λ h. all_ended (file + 1) row row es k m n w.2 f h u)
  where
    by : (file ≡ f) ⊎ (file + 1 ≤ f) → (file + 1 ≤ f → (c : ℕ) × IsEndIn es f c) → (c : ℕ) × IsEndIn (an_end g records ∷ es) f c
    by (inl e) go = (records, inl (w.0 ∙ e, refl))
    by (inr h) go = ((go h).0, inr (go h).1)

-- ---- the number of a file's records

no_ends : (bs : List Block) (f n : ℕ) → IsEndIn (map a_block bs) f n → ⊥
no_ends [] f n e = e
no_ends (b ∷ bs) f n e = no_ends bs f n e

-- the records of the file at a place behind these
abbrev IsCountFrom : SeenStore → Files → (file : ℕ) → List (List ℕ) → (f n : ℕ) → Type 0
IsCountFrom store files file names f n = (i : ℕ) × (f ≡ file + i) × (n ≡ length (data_in store (file_in files (get_or names i []))))

abbrev count_of : SeenStore → Files → List ℕ → ℕ
count_of store files name = length (data_in store (file_in files name))

abbrev blocks_here : SeenStore → Files → (file row : ℕ) → List ℕ → List Block
blocks_here store files file row name = blocks_of store (record { file = file; row = row; faults = file_faults store (file_in files name) file row; records = data_in store (file_in files name) })

counts_from : (store : SeenStore) (files : Files) (file row : ℕ) (names : List (List ℕ)) (f n : ℕ) → IsEndIn (events_from store files file row names) f n → IsCountFrom store files file names f n
counts_from store files file row [] f n e = absurd e
counts_from store files file row (name ∷ names) f n e =
    by (end_in (map a_block (blocks_here store files file row name) ++ an_end file (count_of store files name) ∷ []) (events_from store files (file + 1) (row + count_of store files name) names) f n e)
    (λ h. counts_from store files (file + 1) (row + count_of store files name) names f n h)
  where
    next : (file f i : ℕ) → f ≡ (file + 1) + i → f ≡ file + suc i
    next file f i e = omega (arith, e)

    zero_more : (file f : ℕ) → file ≡ f → f ≡ file + 0
    zero_more file f e = omega (arith, e)

    here : IsEndIn (map a_block (blocks_here store files file row name)) f n ⊎ IsEndIn (an_end file (count_of store files name) ∷ []) f n → IsCountFrom store files file (name ∷ names) f n
    here (inl h) = absurd (no_ends (blocks_here store files file row name) f n h)
    here (inr (inl h)) = (0, zero_more file f h.0, sym h.1)
    here (inr (inr h)) = absurd h

    by : IsEndIn (map a_block (blocks_here store files file row name) ++ an_end file (count_of store files name) ∷ []) f n ⊎ IsEndIn (events_from store files (file + 1) (row + count_of store files name) names) f n
        → (IsEndIn (events_from store files (file + 1) (row + count_of store files name) names) f n → IsCountFrom store files (file + 1) names f n) → IsCountFrom store files file (name ∷ names) f n
    by (inl h) go = here (end_in (map a_block (blocks_here store files file row name)) (an_end file (count_of store files name) ∷ []) f n h)
    by (inr h) go = (suc (go h).0, next file f (go h).0 (go h).1, (go h).2)

pub ends_told : (store : SeenStore) (files : Files) (f n : ℕ) → IsEndIn (all_events store files) f n → n ≡ length (data_in store (file_in files (name_of_file store f)))
ends_told store files f n e =
    let at : IsCountFrom store files 0 store.files f n = counts_from store files 0 1 store.files f n e in
    subst (λ i. n ≡ length (data_in store (file_in files (get_or store.files i [])))) (sym (at.1 ∙ from_zero at.0)) at.2
  where
    from_zero : (i : ℕ) → 0 + i ≡ i
    from_zero i = omega arith

-- ---- what is known at the end

-- all files were walked over, and all of it is joined
pub record SaysAll (w : Inputs) (first : List (Option ℕ)) (held : Option Files) (r : Walked) : Type 0 where
  pub events : List Event
  pub row : ℕ
  pub joins : JoinsAll w first events r
  pub walks : IsWalk 0 1 1 events (length w.store.files) row row
  pub told : IfSome held (λ files. (events ≡ all_events w.store files) × (blocks_in events ≡ all_blocks w.store files) × (first_fault w.store files ≡ first_in w.store events))

-- a reading fault, of a block or of a file itself
pub record SaysReading (w : Inputs) (held : Option Files) (opened : ℕ) (how : WalkEnd PassFault) (g : ReadingFault) : Type 0 where
  pub below : g.file < opened
  pub of : IsThere g.kind ⊎ (how ≡ end.Reading g)
  pub column : IsColumn g.kind (length w.store.names) g.column
  pub told : IfSome held (λ files. first_fault w.store files ≡ Some g)

pub record SaysChanged (w : Inputs) (first : List (Option ℕ)) (held : Option Files) (opened file before now : ℕ) : Type 0 where
  pub below : file < opened
  pub known : count_at first file ≡ Some before
  pub other : before ≢ now
  pub told : IfSome held (λ files. now ≡ length (data_in w.store (file_in files (name_of_file w.store file))))

abbrev pub Says : Inputs → List (Option ℕ) → Option Files → (opened : ℕ) → WalkEnd PassFault → Result Walked PassFault → Type 0
Says w first held opened how (Ok r) = SaysAll w first held r
Says w first held opened how (Err (Reading g)) = SaysReading w held opened how g
Says w first held opened how (Err (Read file)) = (how ≡ end.Read file) × (file < opened)
Says w first held opened how (Err (TooLarge file)) = (how ≡ end.TooLarge file) × (file < opened)
Says w first held opened how (Err (Changed file before now)) = SaysChanged w first held opened file before now
Says w first held opened how (Err Memory) = Unit {0}

-- where the shelf tells
told_more : (held : Option Files) (A B : Files → Type 0) → ((files : Files) → A files → B files) → IfSome held A → IfSome held B
told_more None A B f t = tt
told_more (Some files) A B f t = f files t

of_more : (m n : ℕ) (bs : List Block) → m ≤ n → AreOfFiles m bs → AreOfFiles n bs
of_more m n [] l o = tt
of_more m n (b ∷ bs) l o = (more b.file m n o.0 l, of_more m n bs l o.1)
  where
    more : (f m n : ℕ) → f < m → m ≤ n → f < n
    more f m n a b = omega (arith, a, b)

of_append : (n : ℕ) (bs cs : List Block) → AreOfFiles n bs → AreOfFiles n cs → AreOfFiles n (bs ++ cs)
of_append n [] cs a b = b
of_append n (c ∷ bs) cs a b = (a.0, of_append n bs cs a.1 b)

-- blocks end it
says_blocks : (w : Inputs) (first : List (Option ℕ)) (held : Option Files) (opened : ℕ) (how : WalkEnd PassFault) (bs : List Block) (e : PassFault) → IsStore w.store → AreOfFiles opened bs
    → IfSome held (λ files. (g : ReadingFault) → first_in_blocks w.store bs ≡ Some g → first_fault w.store files ≡ Some g) → EndsBlocks w.store bs e → Says w first held opened how (Err e)
says_blocks w first held opened how bs (Reading g) is of told h =
    let i : IsWithin (length w.store.names) opened g = first_within w.store opened bs g is of h in
    record {
      below = i.file;
      of = inl i.there;
      column = i.column;
      told = told_more held (λ files. (g : ReadingFault) → first_in_blocks w.store bs ≡ Some g → first_fault w.store files ≡ Some g) (λ files. first_fault w.store files ≡ Some g) (λ files t. t g h) told;
    }
says_blocks w first held opened how bs (Read file) is of told h = absurd h
says_blocks w first held opened how bs (TooLarge file) is of told h = absurd h
says_blocks w first held opened how bs (Changed file before now) is of told h = absurd h
says_blocks w first held opened how bs Memory is of told h = tt

own_column : (file row names : ℕ) (g : ReadingFault) → IsOfFile file row g → IsColumn g.kind names g.column
own_column file row names g (inl e) = subst (λ (x : ReadingFault). IsColumn x.kind names x.column) (sym e) tt
own_column file row names g (inr (inl e)) = subst (λ (x : ReadingFault). IsColumn x.kind names x.column) (sym e) tt
own_column file row names g (inr (inr e)) = subst (λ (x : ReadingFault). IsColumn x.kind names x.column) (sym e) tt

-- ---- where it stopped

of_stop : (events : List Event) (event : Event) (file first row k m n : ℕ) → IsWalk 0 1 1 events file first row → IsWalk file first row (event ∷ []) k m n → AreOfFiles (file + 1) (blocks_in (events ++ event ∷ []))
of_stop events event file first row k m n w v = subst (AreOfFiles (file + 1)) (sym (blocks_append events (event ∷ []))) (of_append (file + 1) (blocks_in events) (blocks_in (event ∷ [])) (of_walk 0 1 1 events file first row w) (by event v))
  where
    below : (f file : ℕ) → f ≡ file → f < file + 1
    below f file e = omega (arith, e)

    by : (event : Event) → IsWalk file first row (event ∷ []) k m n → AreOfFiles (file + 1) (blocks_in (event ∷ []))
    by (a_block b) v = (below b.file file v.0, tt)
    by (an_end f c) v = tt

says_changed : (w : Inputs) (first : List (Option ℕ)) (held : Option Files) (opened file before now : ℕ) (events : List Event) (event : Event) (at from row k m n : ℕ) → IsOther first events event file before now
    → IsWalk 0 1 1 events at from row → IsWalk at from row (event ∷ []) k m n → at < opened
    → IfSome held (λ files. (more : List Event) × (all_events w.store files ≡ events ++ event ∷ more)) → SaysChanged w first held opened file before now
says_changed w first held opened file before now events event at from row k m n o walks next below told =
    let ends : IsWalk at from row (an_end file now ∷ []) k m n = subst (λ ev. IsWalk at from row (ev ∷ []) k m n) o.0 next in
    record {
      below = subst (λ x. x < opened) (sym ends.0) below;
      known = known o.2 ends.0;
      other = o.1;
      told = told_more held (λ files. (more : List Event) × (all_events w.store files ≡ events ++ event ∷ more)) (λ files. now ≡ length (data_in w.store (file_in files (name_of_file w.store file))))
          (λ files t. ends_told w.store files file now (subst (λ es. IsEndIn es file now) (sym t.1) (end_behind events (event ∷ t.0) file now (subst (λ ev. IsEndIn (ev ∷ t.0) file now) (sym o.0) (inl (refl, refl)))))) told;
    }
  where
    twice : (f k : ℕ) → f ≡ k → f < k → ⊥
    twice f k e l = omega (arith, e, l)

    known : (count_at first file ≡ Some before) ⊎ IsEndIn events file before → file ≡ at → count_at first file ≡ Some before
    known (inl h) e = h
    known (inr h) e = absurd (twice file at e (ends_below 0 1 1 events at from row walks file before h))

says_stopped : (w : Inputs) (first : List (Option ℕ)) (held : Option Files) (opened : ℕ) (how : WalkEnd PassFault) (Q : List Event → Event → Type 0) (e : PassFault) → IsStore w.store
    → ((es : List Event) (ev : Event) → Q es ev → HasStopped w.store first e es ev) → walk.StopsAt Q w.store held opened → Says w first held opened how (Err e)
says_stopped w first held opened how Q (Reading g) is stops s =
    let bs : List Block = blocks_in (s.events ++ s.event ∷ []) in
    let i : IsWithin (length w.store.names) opened g =
    first_within w.store opened bs g is (of_more (s.file + 1) opened bs (next s.file opened s.below) (of_stop s.events s.event s.file s.first s.row s.next.0 s.next.1 s.next.2 s.walks s.next.3)) (stops s.events s.event s.stopped) in
    record {
      below = i.file;
      of = inl i.there;
      column = i.column;
      told = told_more held
          (λ files. (more : List Event) × (all_events w.store files ≡ s.events ++ s.event ∷ more) × ((g : ReadingFault) → first_in w.store (s.events ++ s.event ∷ []) ≡ Some g → first_fault w.store files ≡ Some g))
          (λ files. first_fault w.store files ≡ Some g) (λ files t. t.2 g (stops s.events s.event s.stopped)) s.told;
    }
  where
    next : (m n : ℕ) → m < n → m + 1 ≤ n
    next m n l = omega (arith, l)
says_stopped w first held opened how Q (Read file) is stops s = absurd (stops s.events s.event s.stopped)
says_stopped w first held opened how Q (TooLarge file) is stops s = absurd (stops s.events s.event s.stopped)
says_stopped w first held opened how Q (Changed file before now) is stops s =
    says_changed w first held opened file before now s.events s.event s.file s.first s.row s.next.0 s.next.1 s.next.2 (stops s.events s.event s.stopped) s.walks s.next.3 s.below
    (told_more held
    (λ files. (more : List Event) × (all_events w.store files ≡ s.events ++ s.event ∷ more) × ((g : ReadingFault) → first_in w.store (s.events ++ s.event ∷ []) ≡ Some g → first_fault w.store files ≡ Some g))
    (λ files. (more : List Event) × (all_events w.store files ≡ s.events ++ s.event ∷ more)) (λ files t. (t.0, t.1)) s.told)
says_stopped w first held opened how Q Memory is stops s = tt

abbrev MeetsTold : SeenStore → List Event → ReadingFault → Files → Type 0
MeetsTold store events g files = (more : List Event) × (all_events store files ≡ events ++ more) × (first_fault store files ≡ option_or (first_in store events) (Some g))

-- ---- all ends

module _ (w : Inputs) (first : List (Option ℕ)) (P : List Event → Type 0) (held : Option Files) (is : IsStore w.store) (inside : (es : List Event) → P es → AreOfFiles (length w.store.files) (blocks_in es)) where
  says_whole : (r : Result Walked PassFault) → walk.WalksAll P w.store held → EndsWhole P w first r → Says w first held (length w.store.files) end.Whole r
  says_whole (Ok r) a e = record {
    events = a.events;
    row = a.row;
    joins = e a.events a.taken;
    walks = a.walks;
    told = told_more held
        (λ files. (a.events ≡ all_events w.store files) × (blocks_in a.events ≡ all_blocks w.store files) × (file_faults_from w.store files 0 1 w.store.files ≡ []) × (first_fault w.store files ≡ first_in w.store a.events))
        (λ files. (a.events ≡ all_events w.store files) × (blocks_in a.events ≡ all_blocks w.store files) × (first_fault w.store files ≡ first_in w.store a.events)) (λ files t. (t.0, t.1, t.3)) a.told;
  }
  says_whole (Err e) a h =
      says_blocks w first held (length w.store.files) end.Whole (blocks_in a.events) e is (inside a.events a.taken)
      (told_more held
      (λ files. (a.events ≡ all_events w.store files) × (blocks_in a.events ≡ all_blocks w.store files) × (file_faults_from w.store files 0 1 w.store.files ≡ []) × (first_fault w.store files ≡ first_in w.store a.events))
      (λ files. (g : ReadingFault) → first_in w.store a.events ≡ Some g → first_fault w.store files ≡ Some g) (λ files t g f. t.3 ∙ f) a.told)
      (h a.events a.taken)

  says_reading : (opened : ℕ) (g : ReadingFault) (r : Result Walked PassFault) → walk.MeetsFault P w.store held g → g.file < opened → EndsReading P w (Reading g) r → Says w first held opened (end.Reading g) r
  says_reading opened g (Ok r) a l e = absurd e
  says_reading opened g (Err e) a l h = by (h a.events a.taken)
    where
      next : (m n : ℕ) → m < n → m + 1 ≤ n
      next m n l = omega (arith, l)

      own : first_in w.store a.events ≡ None → Says w first held opened (end.Reading g) (Err (Reading g))
      own none = record {
        below = l;
        of = inr refl;
        column = own_column g.file a.first (length w.store.names) g a.own;
        told = told_more held (MeetsTold w.store a.events g) (λ files. first_fault w.store files ≡ Some g) (λ files t. t.2 ∙ ap (λ o. option_or o (Some g)) none) a.told;
      }

      by : EndsBlocks w.store (blocks_in a.events) e ⊎ ((e ≡ Reading g) × (first_in w.store a.events ≡ None)) → Says w first held opened (end.Reading g) (Err e)
      by (inl f) =
          says_blocks w first held opened (end.Reading g) (blocks_in a.events) e is (of_more (g.file + 1) opened (blocks_in a.events) (next g.file opened l) (of_walk 0 1 1 a.events g.file a.first a.row a.walks))
          (told_more held (MeetsTold w.store a.events g) (λ files. (x : ReadingFault) → first_in w.store a.events ≡ Some x → first_fault w.store files ≡ Some x) (λ files t x f. t.2 ∙ ap (λ o. option_or o (Some g)) f) a.told) f
      by (inr f) = subst (λ x. Says w first held opened (end.Reading g) (Err x)) (sym f.0) (own f.1)

  pub says : (Q : PassFault → List Event → Event → Type 0) (before now : Option (List (List ℕ))) (how : WalkEnd PassFault) (r : Result Walked PassFault) → ((e : PassFault) (es : List Event) (ev : Event) → Q e es ev → HasStopped w.store first e es ev)
      → (walked : walk.Walked P Q w.store held before now how) → EndsWalk P w first how r → Says w first held walked.opened how r
  says Q before now end.Whole r stops v e = subst (λ n. Says w first held n end.Whole r) (sym v.tells.1) (says_whole r v.tells.0 e)
  says Q before now (end.Reading g) r stops v e = says_reading v.opened g r v.tells.0 v.tells.1 e
  says Q before now (end.Stopped x) r stops v e = subst (Says w first held v.opened (end.Stopped x)) (sym e) (says_stopped w first held v.opened (end.Stopped x) (Q x) x is (stops x) v.tells)
  says Q before now (end.Read file) r stops v e = subst (Says w first held v.opened (end.Read file)) (sym e) (refl, v.tells)
  says Q before now (end.TooLarge file) r stops v e = subst (Says w first held v.opened (end.TooLarge file)) (sym e) (refl, v.tells)
  says Q before now end.Memory r stops v e = subst (Says w first held v.opened end.Memory) (sym e) tt

-- ---- the clauses

module _ (w : Inputs) (first : List (Option ℕ)) (held : Option Files) (opened : ℕ) (how : WalkEnd PassFault) where
  pub changed : (r : Result Walked PassFault) → Says w first held opened how r → IsChange first (answer_of r)
  changed (Ok r) s = tt
  changed (Err (Reading g)) s = tt
  changed (Err (Read file)) s = tt
  changed (Err (TooLarge file)) s = tt
  changed (Err (Changed file before now)) s = (s.known, s.other)
  changed (Err Memory) s = tt

  named : (r : Result Walked PassFault) → Says w first held opened how r → IsNamedBelow opened (answer_of r)
  named (Ok r) s = tt
  named (Err (Reading g)) s = s.below
  named (Err (Read file)) s = s.1
  named (Err (TooLarge file)) s = s.1
  named (Err (Changed file before now)) s = s.below
  named (Err Memory) s = tt

  pub opens : (before now : Option (List (List ℕ))) (r : Result Walked PassFault) → opened ≤ length w.store.files → Adds (take opened w.store.files) before now → Says w first held opened how r
      → OpensFiles w.store.files (answer_of r) before now
  opens before now r l a s = (opened, l, a, named r s)

  pub explained : (a b : Counts) (r : Result Walked PassFault) → walk.IsExplained how a b → Says w first held opened how r → IsExplained (answer_of r) a b
  explained a b (Ok r) h s = tt
  explained a b (Err (Reading g)) h s = by s.of
    where
      by : IsThere g.kind ⊎ (how ≡ end.Reading g) → g.kind ≡ NoFile → Rose a.misses b.misses
      by (inl t) k = absurd (subst IsThere k t)
      by (inr e) k = subst (λ x. walk.IsExplained x a b) e h k
  explained a b (Err (Read file)) h s = subst (λ x. walk.IsExplained x a b) s.0 h
  explained a b (Err (TooLarge file)) h s = subst (λ x. walk.IsExplained x a b) s.0 h
  explained a b (Err (Changed file before now)) h s = tt
  explained a b (Err Memory) h s = tt

  pub longer : (files : Files) (r : Result Walked PassFault) → held ≡ Some files → walk.IsLonger w.store held how → Says w first held opened how r → IsLonger w.store files (answer_of r)
  longer files (Ok r) e h s = tt
  longer files (Err (Reading g)) e h s = tt
  longer files (Err (Read file)) e h s = tt
  longer files (Err (TooLarge file)) e h s = subst (λ (x : WalkEnd PassFault). walk.IsLonger w.store (Some files) x) s.0 (subst (λ o. walk.IsLonger w.store o how) e h)
  longer files (Err (Changed file before now)) e h s = tt
  longer files (Err Memory) e h s = tt

  pub placed : (r : Result Walked PassFault) → Says w first held opened how r → IsPlaced w.store (answer_of r)
  placed (Ok r) s = tt
  placed (Err (Reading g)) s = s.column
  placed (Err (Read file)) s = tt
  placed (Err (TooLarge file)) s = tt
  placed (Err (Changed file before now)) s = tt
  placed (Err Memory) s = tt

  pub some_sums : (r : Result Walked PassFault) → Says w first held opened how r → IfOk r (λ x. AreSome w x.sums)
  some_sums (Ok r) s = s.joins.some
  some_sums (Err e) s = tt

  pub kept : (r : Result Walked PassFault) → length first ≡ length w.store.files → Says w first held opened how r → IfOk r (λ x. KeepsCounts first x.counts × AllCounted x.counts)
  kept (Ok r) n s = (record { files = s.joins.ended.files; known = s.joins.ended.known }, all)
    where
      all : (file : ℕ) → file < length r.counts → (c : ℕ) × (count_at r.counts file ≡ Some c)
      all file l =
          let e : (c : ℕ) × IsEndIn s.events file c = all_ended 0 1 1 s.events (length w.store.files) s.row s.row s.walks file (omega arith) (subst (λ m. file < m) (s.joins.ended.files ∙ n) l) in
          (e.0, s.joins.ended.ended file e.0 e.1)
  kept (Err e) n s = tt

  pub told : (files : Files) (r : Result Walked PassFault) → held ≡ Some files → Says w first held opened how r → WalkTells w files first r
  told files (Ok r) e s = (t.2 ∙ s.joins.none, subst (λ bs. AreSumsOf w bs r.sums) t.1 s.joins.sums, right)
    where
      t : (s.events ≡ all_events w.store files) × (blocks_in s.events ≡ all_blocks w.store files) × (first_fault w.store files ≡ first_in w.store s.events)
      t = subst (λ o. IfSome o (λ files. (s.events ≡ all_events w.store files) × (blocks_in s.events ≡ all_blocks w.store files) × (first_fault w.store files ≡ first_in w.store s.events))) e s.told

      by : (f n : ℕ) → AreCounted files w.store first → (count_at first f ≡ Some n) ⊎ IsEndIn s.events f n → n ≡ length (data_in w.store (file_in files (name_of_file w.store f)))
      by f n known (inl h) = known f n h
      by f n known (inr h) = ends_told w.store files f n (subst (λ es. IsEndIn es f n) t.0 h)

      right : AreCounted files w.store first → AreCounted files w.store r.counts
      right known f n h = by f n known (s.joins.ended.each f n h)
  told files (Err (Reading g)) e s = subst (λ o. IfSome o (λ files. first_fault w.store files ≡ Some g)) e s.told
  told files (Err (Read file)) e s = tt
  told files (Err (TooLarge file)) e s = tt
  told files (Err (Changed file before now)) e s = λ known. s.other (known file before s.known ∙ sym (subst (λ o. IfSome o (λ files. now ≡ length (data_in w.store (file_in files (name_of_file w.store file))))) e s.told))
  told files (Err Memory) e s = tt

-- ---- what the taker has behind the walk

pub needs : {E : Type 0} (P : List Event → Type 0) (Q : E → List Event → Event → Type 0) (store : SeenStore) (held : Option Files) (before now : Option (List (List ℕ))) (how : WalkEnd E) → walk.Walked P Q store held before now how → NeedsTaken P how
needs P Q store held before now end.Whole v = (v.tells.0.events, v.tells.0.taken)
needs P Q store held before now (end.Reading g) v = (v.tells.0.events, v.tells.0.taken)
needs P Q store held before now (end.Stopped e) v = tt
needs P Q store held before now (end.Read file) v = tt
needs P Q store held before now (end.TooLarge file) v = tt
needs P Q store held before now end.Memory v = tt

-- ---- what is given by name

pub same_inputs : (o : Option Inputs) (v w : Inputs) → o ≡ Some v → o ≡ Some w → v ≡ w
same_inputs o v w a b = by (sym a ∙ b)
  where
    by : Some v ≡ Some w → v ≡ w
    by e = cc

pub inside_of : (o : Option Inputs) (v w : Inputs) (first : List (Option ℕ)) (j : Joined) (waiting : List FileBlock) (counts : List (Option ℕ)) (es : List Event) → o ≡ Some w → o ≡ Some v → HasTaken v first j waiting counts es
    → AreOfFiles (length w.store.files) (blocks_in es)
inside_of o v w first j waiting counts es e f t = subst (λ (x : Inputs). AreOfFiles (length x.store.files) (blocks_in es)) (same_inputs o v w f e) t.files

pub stops_of : (o : Option Inputs) (w : Inputs) (first : List (Option ℕ)) (x : PassFault) (es : List Event) (ev : Event) → o ≡ Some w → OfInputs o (λ v. HasStopped v.store first x es ev) → HasStopped w.store first x es ev
stops_of o w first x es ev e h = subst (λ p. OfInputs p (λ v. HasStopped v.store first x es ev)) e h

pub starts_at : (w : Inputs) (first counts : List (Option ℕ)) (s : Sums) (waiting : List FileBlock) → ((i : ℕ) → IsAmong w.all i → i < length w.vertices) → AreWays w.vertices w.wanted → length counts ≡ length w.store.files → AreNone w s
    → waiting ≡ [] → first ≡ counts → HasTaken w first (record { sums = s; blocks = 0 }) waiting counts []
starts_at w first counts s waiting places ways counted none e k =
    subst (λ f. HasTaken w f (record { sums = s; blocks = 0 }) waiting counts []) (sym k)
    (subst (λ ws. HasTaken w counts (record { sums = s; blocks = 0 }) ws counts []) (sym e) (starts w counts s places ways counted none))

-- ---- behind the walk

module _ (P : List Event → Type 0) (how : WalkEnd PassFault) (w : Inputs) (first : List (Option ℕ)) where
  pub whole_joined : (r : Walked) → how ≡ end.Whole → ((events : List Event) → P events → JoinsAll w first events r) → EndsWalk P w first how (Ok r)
  whole_joined r e h = subst (λ x. EndsWalk P w first x (Ok r)) (sym e) h

  pub whole_ended : (f : PassFault) → how ≡ end.Whole → ((events : List Event) → P events → EndsBlocks w.store (blocks_in events) f) → EndsWalk P w first how (Err f)
  whole_ended f e h = subst (λ x. EndsWalk P w first x (Err f)) (sym e) h

  pub reading_ended : (g : ReadingFault) (f : PassFault) → how ≡ end.Reading g → ((events : List Event) → P events → EndsBlocks w.store (blocks_in events) f) → EndsWalk P w first how (Err f)
  reading_ended g f e h = subst (λ x. EndsWalk P w first x (Err f)) (sym e) (λ events p. inl (h events p))

  pub reading_alone : (g : ReadingFault) → how ≡ end.Reading g → ((events : List Event) → P events → first_in w.store events ≡ None) → EndsWalk P w first how (Err (Reading g))
  reading_alone g e h = subst (λ x. EndsWalk P w first x (Err (Reading g))) (sym e) (λ events p. inr (refl, h events p))

-- what joining all says of those that are given
pub joins_given : (o : Option Inputs) (v w : Inputs) (first : List (Option ℕ)) (j : Joined) (waiting : List FileBlock) (counts : List (Option ℕ)) (events : List Event) → o ≡ Some w → waiting ≡ [] → o ≡ Some v → HasTaken v first j waiting counts events
    → JoinsAll w first events (record { sums = j.sums; counts = counts })
joins_given o v w first j waiting counts events e none f t =
    subst (λ (x : Inputs). JoinsAll x first events (record { sums = j.sums; counts = counts })) (same_inputs o v w f e) (joins_all v first j waiting counts events none t)

pub ends_given : (o : Option Inputs) (v w : Inputs) (bs : List Block) (f : PassFault) → o ≡ Some w → o ≡ Some v → EndsBlocks v.store bs f → EndsBlocks w.store bs f
ends_given o v w bs f e g h = subst (λ (x : Inputs). EndsBlocks x.store bs f) (same_inputs o v w g e) h
