-- The map phase, from what the walk over the files took.
use Rattle.std.proofs.Common.{ℕ, zero, suc, ◌≡◌, ◌∙◌, ◌+◌, ◌<◌, ◌≤◌, inl, inr, arith, length, take, List, [], ◌∷◌, ◌++◌, Ok, Err, Result, sym, ap, subst, refl, map}
use Rattle.std.specs.Prelude.{◌⊎◌, IfSome, Option, Some, None, Vec}
use Rattle.std.specs.Borrow.{Bor}
use Rattle.std.specs.List.{AllZip}
use Rattle.std.proofs.lemmas.List.{append_assoc, append-nil, length-append, map-append}
use Rattle.std.proofs.lemmas.Option.{none-some}
use Rattle.tall_grammar.specs.Trees.{SeenFunction}
use Rattle.tall_local.specs.Calls.{CallResult, behind_pairs, call_map}
use Rattle.tall_local.specs.Pairs.{Pair}
use Rattle.tall_local.specs.Refusals.{Stop}
use Rattle.tall_outside.specs.OpenedNames.{Adds}
use Rattle.tall_outside.specs.Shelf.{Files}
use Rattle.tall_outside.specs.ShelfCounts.{Counts}
use Rattle.tall_script.specs.MapReduce.{go_on_with, map_phase}
use Rattle.tall_script.specs.MapReduceLaws.{joined_results, mapped_block}
use Rattle.tall_script.specs.ReadingFaults.{stop_of_reading}
use Rattle.tall_script.specs.States.{Store}
use Rattle.tall_store.specs.declared.faults.ReadingFault.{ReadingFault}
use Rattle.tall_store.specs.declared.file_rows.FileBlock.{FileBlock}
use Rattle.tall_store.specs.Blocks.{Block, block_table, block_tables, first_block_fault}
use Rattle.tall_store.specs.Stores.{IsStore, SeenStore}
use Rattle.tall_walk.specs.Events.{AreTables, Event, Tables, a_block, an_end, block_of, blocks_in, up_to_fault}
use Rattle.tall_walk.specs.OneFile.{IsOfFile}
use Rattle.tall_walk.specs.Placed.{IsColumn}
use Rattle.tall_walk.specs.declared.ends.WalkEnd.{WalkEnd}
use Rattle.tall_walk.specs.declared.ends.WalkEnd.TheVariants as end
use Rattle.tall_walk.specs.Walked.{MeetsFault, StopsAt, Walked, WalksAll}
use Rattle.tall_walk.specs.Walked as walk
use Rattle.tall_walk.proofs.FaultLaws.{IsOfData, IsThere, block_fault}
use Rattle.tall_walk.proofs.Walks.{blocks_append}
use Rattle.tall_mapred.specs.declared.calls.CallPiece.{CallPiece}
use Rattle.tall_mapred.specs.declared.faults.MapFault.{MapFault}
use Rattle.tall_mapred.specs.declared.faults.MapFault.TheVariants as map
use Rattle.tall_mapred.specs.Answers.{IsExplained, IsLonger, IsPlaced, NamesOne, OpensFiles, answer_of}
use Rattle.tall_mapred.specs.Pieces.{ComesFrom, IsBlockPiece, IsFaultOfOne, IsOfPhase}
use Rattle.tall_mapred.specs.Takers.{EndsReading, EndsTaken, EndsWalk, EndsWhole, MakesPieces, MapsTaken, NeedsTaken, Stops, Taking}
use Rattle.tall_mapred.specs.Phases.{AreWaiting, EndsMap, EndsWith, Given, HasMapped, HasTaken, IsWaiting, Maps, Wants, files_given, map_wants}
use Rattle.tall_mapred.proofs.PieceLaws.{fault_of_phase, map_comes}
use Rattle.tall_mapred.proofs.WindowLaws.{HasFault, fault_among}

-- ---- blocks more

with_end : (events : List Event) (file n : ℕ) → blocks_in (events ++ an_end file n ∷ []) ≡ blocks_in events
with_end events file n = blocks_append events (an_end file n ∷ []) ∙ append-nil (blocks_in events)

wants_append : (d : Store) (f : SeenFunction) (bs cs : List Block) (rest : Wants) → map_wants d f (bs ++ cs) ++ rest ≡ map_wants d f bs ++ (map_wants d f cs ++ rest)
wants_append d f bs cs rest =
    ap (λ ts. map (mapped_block d f) ts ++ rest) (map-append (block_table d.store) bs cs)
    ∙ ap (λ ws. ws ++ rest) (map-append (mapped_block d f) (map (block_table d.store) bs) (map (block_table d.store) cs))
    ∙ append_assoc (map_wants d f bs) (map_wants d f cs) rest

none_waits : (files : ℕ) → AreWaiting files []
none_waits files i b e = absurd (none-some b e)

one_more_waits : (files : ℕ) (bs : List FileBlock) (b : FileBlock) → AreWaiting files bs → IsWaiting files b → AreWaiting files (bs ++ b ∷ [])
one_more_waits files [] b w is zero c e = subst (IsWaiting files) (same b c e) is
  where
    same : (b c : FileBlock) → Some b ≡ Some c → b ≡ c
    same b c e = cc
one_more_waits files [] b w is (suc i) c e = absurd (none-some c e)
one_more_waits files (x ∷ bs) b w is zero c e = w 0 c e
one_more_waits files (x ∷ bs) b w is (suc i) c e = one_more_waits files bs b (λ j y at. w (suc j) y at) is i c e

-- a block more waits
with_block : (g : Given) (pairs : List Pair) (waiting longer : List FileBlock) (events : List Event) (b : FileBlock) → HasTaken g pairs waiting (blocks_in events) → IsWaiting (length g.store.files) b → longer ≡ waiting ++ b ∷ []
    → HasTaken g pairs longer (blocks_in (events ++ a_block (block_of b) ∷ []))
with_block g pairs waiting longer events b t is e = record {
  front = t.front;
  cut = blocks_append events (a_block (block_of b) ∷ [])
      ∙ ap (λ bs. bs ++ block_of b ∷ []) t.cut
      ∙ append_assoc t.front (map block_of waiting) (block_of b ∷ [])
      ∙ ap (λ bs. t.front ++ bs) (sym (map-append block_of waiting (b ∷ [])) ∙ ap (map block_of) (sym e));
  mapped = t.mapped;
  waits = subst (AreWaiting (length g.store.files)) (sym e) (one_more_waits (length g.store.files) waiting b t.waits is);
}

-- the calls for the blocks that waited were made
none_waiting : (g : Given) (old new : List Pair) (waiting none : List FileBlock) (blocks : List Block) → HasTaken g old waiting blocks → none ≡ []
    → ((d : Store) → d.store ≡ g.store → (rest : Wants) → joined_results (map_wants d g.function (map block_of waiting) ++ rest) old ≡ joined_results rest new) → HasTaken g new none blocks
none_waiting g old new waiting none blocks t e next = record {
  front = blocks;
  cut = sym (append-nil blocks) ∙ ap (λ bs. blocks ++ map block_of bs) (sym e);
  mapped = λ d same rest. ap (λ bs. joined_results (map_wants d g.function bs ++ rest) []) t.cut
      ∙ ap (λ ws. joined_results ws []) (wants_append d g.function t.front (map block_of waiting) rest)
      ∙ t.mapped d same (map_wants d g.function (map block_of waiting) ++ rest)
      ∙ next d same rest;
  waits = subst (AreWaiting (length g.store.files)) (sym e) (none_waits (length g.store.files));
}

-- one of the blocks that waited ends the phase
ends_among : (g : Given) (old : List Pair) (waiting : List FileBlock) (blocks : List Block) (fault : MapFault) → HasTaken g old waiting blocks → IsOfPhase g.store fault
    → ((d : Store) → d.store ≡ g.store → (rest : Wants) → EndsWith d (joined_results (map_wants d g.function (map block_of waiting) ++ rest) old) fault) → EndsMap g blocks fault
ends_among g old waiting blocks fault t of next = (
  of,
  λ d same rest. subst (λ x. EndsWith d x fault)
      (sym (ap (λ bs. joined_results (map_wants d g.function bs ++ rest) []) t.cut
      ∙ ap (λ ws. joined_results ws []) (wants_append d g.function t.front (map block_of waiting) rest)
      ∙ t.mapped d same (map_wants d g.function (map block_of waiting) ++ rest)))
      (next d same rest),
)

-- ---- the pieces of a window of blocks

block_pieces_come : (d : Store) (store : SeenStore) (f : SeenFunction) (bs : List FileBlock) (ps : List CallPiece) → d.store ≡ store → AllZip (IsBlockPiece store f) bs ps → AllZip (ComesFrom d) (map_wants d f (map block_of bs)) ps
block_pieces_come d store f [] [] same are = tt
block_pieces_come d store f [] (p ∷ ps) same are = absurd are
block_pieces_come d store f (b ∷ bs) [] same are = absurd are
block_pieces_come d store f (b ∷ bs) (p ∷ ps) same are = (map_comes d store f (block_of b) p same are.0, block_pieces_come d store f bs ps same are.1)

fault_of_blocks : (store : SeenStore) (f : SeenFunction) (bs : List FileBlock) (ps : List CallPiece) (fault : MapFault) → AreWaiting (length store.files) bs → AllZip (IsBlockPiece store f) bs ps → IsFaultOfOne ps fault → IsOfPhase store fault
fault_of_blocks store f bs ps fault waits are is =
    let h : HasFault (IsBlockPiece store f) bs fault = fault_among (IsBlockPiece store f) bs ps fault are is in
    fault_of_phase store f (block_of h.x) h.piece fault (waits h.place h.x h.at).0 h.is h.of

-- ---- the taker

room : (most n : ℕ) → n ≡ 0 → 0 < most → n + 1 ≤ most
room most n z l = omega (arith, z, l)

module _ {Y E : Type 0} (o : Option Given) (asks : Bor (List FileBlock) → Type 0) (gives : Bor (List FileBlock) → Result (Vec CallPiece Y) E → Type 0) (most : ℕ) where
  pub starts : (g : Given) (pairs : List Pair) (window : List FileBlock) → o ≡ Some g → MakesPieces g asks gives → 0 < most → most ≤ 128 → pairs ≡ [] → window ≡ [] → Taking o asks gives most 1 pairs window []
  starts g pairs window is makes some few no_pairs no_blocks = record {
    given = g;
    is = is;
    makes = makes;
    fits = room most (length window) (ap length no_blocks) some;
    some = some;
    few = few;
    taken = record {
      front = [];
      cut = ap (map block_of) (sym no_blocks);
      mapped = λ d same rest. ap (joined_results rest) (sym no_pairs);
      waits = subst (AreWaiting (length g.store.files)) (sym no_blocks) (none_waits (length g.store.files));
    };
  }

  pub no_room : (pairs : List Pair) (window : List FileBlock) (events : List Event) → Taking o asks gives most 1 pairs window events → Taking o asks gives most 0 pairs window events
  no_room pairs window events t = record { given = t.given; is = t.is; makes = t.makes; fits = less (length window) t.fits; some = t.some; few = t.few; taken = t.taken }
    where
      less : (n : ℕ) → n + 1 ≤ most → n + 0 ≤ most
      less n l = omega (arith, l)

  pub still_room : (pairs : List Pair) (window : List FileBlock) (events : List Event) → length window < most → Taking o asks gives most 0 pairs window events → Taking o asks gives most 1 pairs window events
  still_room pairs window events l t = record { given = t.given; is = t.is; makes = t.makes; fits = next (length window) l; some = t.some; few = t.few; taken = t.taken }
    where
      next : (n : ℕ) → n < most → n + 1 ≤ most
      next n l = omega (arith, l)

  pub one_waits : (pairs : List Pair) (window longer : List FileBlock) (events : List Event) (b : FileBlock) → IsWaiting (files_given o) b → longer ≡ window ++ b ∷ [] → Taking o asks gives most 1 pairs window events
      → Taking o asks gives most 0 pairs longer (events ++ a_block (block_of b) ∷ [])
  one_waits pairs window longer events b is e t = record {
    given = t.given;
    is = t.is;
    makes = t.makes;
    fits = same (length window) (length longer) (ap length e ∙ length-append window (b ∷ [])) t.fits;
    some = t.some;
    few = t.few;
    taken = with_block t.given pairs window longer events b t.taken (subst (λ n. IsWaiting n b) (ap files_given t.is) is) e;
  }
    where
      same : (n m : ℕ) → m ≡ n + 1 → n + 1 ≤ most → m + 0 ≤ most
      same n m e l = omega (arith, e, l)

  pub one_ended : (pairs : List Pair) (window : List FileBlock) (events : List Event) (file n : ℕ) → Taking o asks gives most 1 pairs window events → Taking o asks gives most 1 pairs window (events ++ an_end file n ∷ [])
  one_ended pairs window events file n t = record {
    given = t.given;
    is = t.is;
    makes = t.makes;
    fits = t.fits;
    some = t.some;
    few = t.few;
    taken = subst (HasTaken t.given pairs window) (sym (with_end events file n)) t.taken;
  }

  short : (m n : ℕ) → m ≡ n → n + 0 ≤ most → most ≤ 128 → m ≤ 128
  short m n e l few = omega (arith, e, l, few)

  -- the call may be made
  pub may_call : (pairs : List Pair) (blocks : Bor (List FileBlock)) (window : List FileBlock) (events : List Event) → blocks.now ≡ window → Taking o asks gives most 0 pairs window events → asks blocks
  may_call pairs blocks window events e t =
      t.makes.may blocks (subst (AreWaiting (length t.given.store.files)) (sym e) t.taken.waits) (short (length blocks.now) (length window) (ap length e) t.fits t.few)

  -- what it gives
  call_gives : (pairs : List Pair) (blocks : Bor (List FileBlock)) (window : List FileBlock) (events : List Event) (pieces : Vec CallPiece Y) → blocks.now ≡ window → (t : Taking o asks gives most 0 pairs window events) → gives blocks (Ok pieces)
      → AllZip (IsBlockPiece t.given.store t.given.function) window pieces.items
  call_gives pairs blocks window events pieces e t g =
      subst (λ bs. AllZip (IsBlockPiece t.given.store t.given.function) bs pieces.items) e
      (t.makes.does blocks (Ok pieces) (subst (AreWaiting (length t.given.store.files)) (sym e) t.taken.waits) (short (length blocks.now) (length window) (ap length e) t.fits t.few) g)

  pub worked_off : (old new : List Pair) (blocks : Bor (List FileBlock)) (window none : List FileBlock) (events : List Event) (pieces : Vec CallPiece Y) → blocks.now ≡ window → gives blocks (Ok pieces) → none ≡ []
      → ((d : Store) (wants : Wants) → AllZip (ComesFrom d) wants pieces.items → (rest : Wants) → joined_results (wants ++ rest) old ≡ joined_results rest new)
      → Taking o asks gives most 0 old window events → Taking o asks gives most 1 new none events
  worked_off old new blocks window none events pieces e g no_blocks appends t =
      let are : AllZip (IsBlockPiece t.given.store t.given.function) window pieces.items = call_gives old blocks window events pieces e t g in
      record {
        given = t.given;
        is = t.is;
        makes = t.makes;
        fits = room most (length none) (ap length no_blocks) t.some;
        some = t.some;
        few = t.few;
        taken = none_waiting t.given old new window none (blocks_in events) t.taken no_blocks
            (λ d same rest. appends d (map_wants d t.given.function (map block_of window)) (block_pieces_come d t.given.store t.given.function window pieces.items same are) rest);
      }

  pub worked_to_a_fault : (old : List Pair) (blocks : Bor (List FileBlock)) (window : List FileBlock) (events : List Event) (pieces : Vec CallPiece Y) (fault : MapFault) → blocks.now ≡ window → gives blocks (Ok pieces)
      → ((d : Store) (wants : Wants) → AllZip (ComesFrom d) wants pieces.items → (rest : Wants) → EndsWith d (joined_results (wants ++ rest) old) fault) → IsFaultOfOne pieces.items fault
      → Taking o asks gives most 0 old window events → EndsTaken o events fault
  worked_to_a_fault old blocks window events pieces fault e g ends of t =
      let are : AllZip (IsBlockPiece t.given.store t.given.function) window pieces.items = call_gives old blocks window events pieces e t g in
      subst (λ p. EndsTaken p events fault) (sym t.is)
      (ends_among t.given old window (blocks_in events) fault t.taken (fault_of_blocks t.given.store t.given.function window pieces.items fault t.taken.waits are of)
      (λ d same rest. ends d (map_wants d t.given.function (map block_of window)) (block_pieces_come d t.given.store t.given.function window pieces.items same are) rest))

  -- for want of memory
  pub memory_ends : (room : ℕ) (pairs : List Pair) (window : List FileBlock) (events more : List Event) (fault : MapFault) → fault ≡ map.Memory → Taking o asks gives most room pairs window events → EndsTaken o more fault
  memory_ends room pairs window events more fault e t = subst (λ p. EndsTaken p more fault) (sym t.is) (subst (EndsMap t.given (blocks_in more)) (sym e) (tt, λ d same rest. tt))

  -- all that was taken is appended
  pub all_appended : (pairs : List Pair) (window : List FileBlock) (events : List Event) → window ≡ [] → Taking o asks gives most 1 pairs window events → MapsTaken o events pairs
  all_appended pairs window events no_blocks t =
      subst (λ p. MapsTaken p events pairs) (sym t.is) (subst (HasMapped t.given pairs) (sym (t.taken.cut ∙ ap (λ bs. t.taken.front ++ map block_of bs) no_blocks ∙ append-nil t.taken.front)) t.taken.mapped)

-- ---- tables up to a fault

abbrev by_stop : Option Stop → List Pair → (List Pair → Result (List Pair) Stop) → Result (List Pair) Stop
by_stop stop ps f = elim stop [ None ↦ f ps | Some s ↦ Err s ]

same_further : (stop : Option Stop) (ps : List Pair) (f g : List Pair → Result (List Pair) Stop) → f ps ≡ g ps → by_stop stop ps f ≡ by_stop stop ps g
same_further None ps f g same = same
same_further (Some s) ps f g same = refl

further : (c : CallResult) (f g : List Pair → Result (List Pair) Stop) → ((ps : List Pair) → f ps ≡ g ps) → go_on_with c f ≡ go_on_with c g
further c f g same = same_further c.stop c.pairs f g (same c.pairs)

up_to : (d : Store) (f : SeenFunction) (ts : Tables) (pairs : List Pair) → joined_results (map (mapped_block d f) ts) pairs ≡ joined_results (map (mapped_block d f) (up_to_fault ts)) pairs
up_to d f [] pairs = refl
up_to d f (Err g ∷ ts) pairs = refl
up_to d f (Ok t ∷ ts) pairs = further (behind_pairs pairs (call_map f t [])) (joined_results (map (mapped_block d f) ts)) (joined_results (map (mapped_block d f) (up_to_fault ts))) (λ more. up_to d f ts more)

-- a law of tall_script
abbrev pub MapsApart : Type 0
MapsApart = (d : Store) (f : SeenFunction) (blocks : Tables) (pairs : List Pair) → map_phase d f blocks pairs ≡ joined_results (map (mapped_block d f) blocks) pairs

-- the map phase over tables that are those of all blocks up to the first fault
phase_of : MapsApart → (d : Store) (f : SeenFunction) (store : SeenStore) (files : Files) (ts : Tables) → d.store ≡ store → AreTables store files ts → map_phase d f (block_tables d.store files) [] ≡ joined_results (map (mapped_block d f) ts) []
phase_of apart d f store files ts same tables =
    apart d f (block_tables d.store files) []
    ∙ ap (λ s. joined_results (map (mapped_block d f) (block_tables s files)) []) same
    ∙ up_to d f (block_tables store files) []
    ∙ ap (λ xs. joined_results (map (mapped_block d f) xs) []) tables
    ∙ sym (up_to d f ts [])

of_store : (d : Store) (f : SeenFunction) (store : SeenStore) (bs : List Block) → d.store ≡ store → map (mapped_block d f) (map (block_table store) bs) ≡ map_wants d f bs
of_store d f store bs same = ap (λ s. map (mapped_block d f) (map (block_table s) bs)) (sym same)

-- ---- the map phase, from blocks

maps_all : MapsApart → (d : Store) (f : SeenFunction) (store : SeenStore) (files : Files) (blocks : List Block) (pairs : List Pair) → d.store ≡ store → ((rest : Wants) → joined_results (map_wants d f blocks ++ rest) [] ≡ joined_results rest pairs)
    → AreTables store files (map (block_table store) blocks) → map_phase d f (block_tables d.store files) [] ≡ Ok pairs
maps_all apart d f store files blocks pairs same mapped tables =
    phase_of apart d f store files (map (block_table store) blocks) same tables
    ∙ ap (λ ws. joined_results ws []) (of_store d f store blocks same ∙ sym (append-nil (map_wants d f blocks)))
    ∙ mapped []

meets_reading : MapsApart → (d : Store) (f : SeenFunction) (store : SeenStore) (files : Files) (blocks : List Block) (pairs : List Pair) (fault : ReadingFault) → d.store ≡ store
    → ((rest : Wants) → joined_results (map_wants d f blocks ++ rest) [] ≡ joined_results rest pairs) → AreTables store files (map (block_table store) blocks ++ Err fault ∷ [])
    → map_phase d f (block_tables d.store files) [] ≡ Err (stop_of_reading d fault)
meets_reading apart d f store files blocks pairs fault same mapped tables =
    phase_of apart d f store files (map (block_table store) blocks ++ Err fault ∷ []) same tables
    ∙ ap (λ ws. joined_results ws []) (map-append (mapped_block d f) (map (block_table store) blocks) (Err fault ∷ []) ∙ ap (λ ws. ws ++ Err (stop_of_reading d fault) ∷ []) (of_store d f store blocks same))
    ∙ mapped (Err (stop_of_reading d fault) ∷ [])

ends_at : MapsApart → (d : Store) (f : SeenFunction) (store : SeenStore) (files : Files) (blocks : List Block) (rest : Tables) (fault : MapFault) → d.store ≡ store
    → ((more : Wants) → EndsWith d (joined_results (map_wants d f blocks ++ more) []) fault) → AreTables store files (map (block_table store) blocks ++ rest) → EndsWith d (map_phase d f (block_tables d.store files) []) fault
ends_at apart d f store files blocks rest fault same ends tables =
    subst (λ x. EndsWith d x fault)
    (sym (phase_of apart d f store files (map (block_table store) blocks ++ rest) same tables
    ∙ ap (λ ws. joined_results ws []) (map-append (mapped_block d f) (map (block_table store) blocks) rest ∙ ap (λ ws. ws ++ map (mapped_block d f) rest) (of_store d f store blocks same))))
    (ends (map (mapped_block d f) rest))

-- ---- where the shelf tells

told_of : (held : Option Files) (files : Files) (P : Files → Type 0) → IfSome held P → held ≡ Some files → P files
told_of None files P o h = absurd (none-some files h)
told_of (Some fs) files P o h = subst P (same h) o
  where
    same : Some fs ≡ Some files → fs ≡ files
    same e = cc

told_more : (held : Option Files) (A B : Files → Type 0) → ((files : Files) → A files → B files) → IfSome held A → IfSome held B
told_more None A B f t = tt
told_more (Some files) A B f t = f files t

-- ---- what an answer says

abbrev EndsPhase : SeenStore → SeenFunction → MapFault → Files → Type 0
EndsPhase store f e files = (d : Store) → d.store ≡ store → EndsWith d (map_phase d f (block_tables d.store files) []) e

-- a fault in what was taken
pub record SaysTaken (store : SeenStore) (f : SeenFunction) (held : Option Files) (e : MapFault) : Type 0 where
  pub of : IsOfPhase store e
  pub told : IfSome held (EndsPhase store f e)

-- a reading fault of a file itself
pub record SaysReading (store : SeenStore) (f : SeenFunction) (held : Option Files) (opened : ℕ) (how : WalkEnd MapFault) (g : ReadingFault) : Type 0 where
  pub is : how ≡ end.Reading g
  pub below : g.file < opened
  pub first : ℕ
  pub own : IsOfFile g.file first g
  pub told : IfSome held (EndsPhase store f (map.Reading g))

-- a fault of a file
abbrev SaysFile : SeenStore → SeenFunction → Option Files → (opened : ℕ) → WalkEnd MapFault → MapFault → Type 0
SaysFile store f held opened how (map.At line row kind) = ⊥
SaysFile store f held opened how (map.Reading g) = SaysReading store f held opened how g
SaysFile store f held opened how (map.Read file) = (how ≡ end.Read file) × (file < opened)
SaysFile store f held opened how (map.TooLarge file) = (how ≡ end.TooLarge file) × (file < opened)
SaysFile store f held opened how map.Memory = Unit {0}

abbrev pub Says : SeenStore → SeenFunction → Option Files → (opened : ℕ) → WalkEnd MapFault → Result (List Pair) MapFault → Type 0
Says store f held opened how (Ok pairs) = IfSome held (λ files. (d : Store) → d.store ≡ store → map_phase d f (block_tables d.store files) [] ≡ Ok pairs)
Says store f held opened how (Err e) = SaysTaken store f held e ⊎ SaysFile store f held opened how e

module _ (apart : MapsApart) (o : Option Given) (g : Given) (at : o ≡ Some g) (held : Option Files) where
  -- of blocks that are the first of all
  taken_says : (opened : ℕ) (how : WalkEnd MapFault) (events : List Event) (e : MapFault) → EndsTaken o events e → IfSome held (λ files. (rest : Tables) × AreTables g.store files (map (block_table g.store) (blocks_in events) ++ rest))
      → Says g.store g.function held opened how (Err e)
  taken_says opened how events e ends tables =
      let h : EndsMap g (blocks_in events) e = subst (λ p. EndsTaken p events e) at ends in
      inl (record {
        of = h.0;
        told = told_more held (λ files. (rest : Tables) × AreTables g.store files (map (block_table g.store) (blocks_in events) ++ rest)) (EndsPhase g.store g.function e)
            (λ files t d same. ends_at apart d g.function g.store files (blocks_in events) t.0 e same (h.1 d same) t.1) tables;
      })

  mapped_at : (events : List Event) (pairs : List Pair) → MapsTaken o events pairs → (d : Store) → d.store ≡ g.store → (rest : Wants) → joined_results (map_wants d g.function (blocks_in events) ++ rest) [] ≡ joined_results rest pairs
  mapped_at events pairs m d same rest = (let h : HasMapped g pairs (blocks_in events) = subst (λ p. MapsTaken p events pairs) at m in h d same rest)

  says_whole : (P : List Event → Type 0) (opened : ℕ) (r : Result (List Pair) MapFault) → WalksAll P g.store held → EndsWhole P o r → Says g.store g.function held opened end.Whole r
  says_whole P opened (Ok pairs) w ends =
      told_more held (λ files. AreTables g.store files (map (block_table g.store) (blocks_in w.events))) (λ files. (d : Store) → d.store ≡ g.store → map_phase d g.function (block_tables d.store files) [] ≡ Ok pairs)
      (λ files t d same. maps_all apart d g.function g.store files (blocks_in w.events) pairs same (mapped_at w.events pairs (ends w.events w.taken) d same) t) w.tables
  says_whole P opened (Err e) w ends =
      taken_says opened end.Whole w.events e (ends w.events w.taken)
      (told_more held (λ files. AreTables g.store files (map (block_table g.store) (blocks_in w.events))) (λ files. (rest : Tables) × AreTables g.store files (map (block_table g.store) (blocks_in w.events) ++ rest))
      (λ files t. ([], subst (AreTables g.store files) (sym (append-nil (map (block_table g.store) (blocks_in w.events)))) t)) w.tables)

  says_reading : (P : List Event → Type 0) (opened : ℕ) (f : ReadingFault) (r : Result (List Pair) MapFault) → MeetsFault P g.store held f → f.file < opened → EndsReading P o (map.Reading f) r → Says g.store g.function held opened (end.Reading f) r
  says_reading P opened f (Ok pairs) w below ends = absurd ends
  says_reading P opened f (Err e) w below ends = by (ends w.events w.taken)
    where
      by : EndsTaken o w.events e ⊎ ((e ≡ map.Reading f) × (pairs : List Pair) × MapsTaken o w.events pairs) → Says g.store g.function held opened (end.Reading f) (Err e)
      by (inl h) =
          taken_says opened (end.Reading f) w.events e h
          (told_more held (λ files. AreTables g.store files (map (block_table g.store) (blocks_in w.events) ++ Err f ∷ [])) (λ files. (rest : Tables) × AreTables g.store files (map (block_table g.store) (blocks_in w.events) ++ rest))
          (λ files t. (Err f ∷ [], t)) w.tables)
      by (inr h) = subst (λ x. Says g.store g.function held opened (end.Reading f) (Err x)) (sym h.0) (inr (record {
        is = refl;
        below = below;
        first = w.first;
        own = w.own;
        told = told_more held (λ files. AreTables g.store files (map (block_table g.store) (blocks_in w.events) ++ Err f ∷ [])) (EndsPhase g.store g.function (map.Reading f))
            (λ files t d same. meets_reading apart d g.function g.store files (blocks_in w.events) h.1 f same (mapped_at w.events h.1 h.2 d same) t) w.tables;
      }))

  says_stopped : (opened : ℕ) (e : MapFault) → StopsAt (Stops o e) g.store held opened → Says g.store g.function held opened (end.Stopped e) (Err e)
  says_stopped opened e s = taken_says opened (end.Stopped e) (s.events ++ s.event ∷ []) e s.stopped s.tables

  pub says : (P : List Event → Type 0) (before now : Option (List (List ℕ))) (how : WalkEnd MapFault) (r : Result (List Pair) MapFault) → (w : Walked P (λ e before event. Stops o e before event) g.store held before now how) → EndsWalk P o how r
      → Says g.store g.function held w.opened how r
  says P before now end.Whole r w ends = says_whole P w.opened r w.tells.0 ends
  says P before now (end.Reading f) r w ends = says_reading P w.opened f r w.tells.0 w.tells.1 ends
  says P before now (end.Stopped e) r w ends = subst (Says g.store g.function held w.opened (end.Stopped e)) (sym ends) (says_stopped w.opened e w.tells)
  says P before now (end.Read file) r w ends = subst (Says g.store g.function held w.opened (end.Read file)) (sym ends) (inr (refl, w.tells))
  says P before now (end.TooLarge file) r w ends = subst (Says g.store g.function held w.opened (end.TooLarge file)) (sym ends) (inr (refl, w.tells))
  says P before now end.Memory r w ends = subst (Says g.store g.function held w.opened end.Memory) (sym ends) (inr tt)

-- what the taker has to have taken behind the walk
pub needs : {E : Type 0} (P R : List Event → Type 0) (Q : E → List Event → Event → Type 0) (store : SeenStore) (held : Option Files) (before now : Option (List (List ℕ))) (how : WalkEnd E) → ((events : List Event) → P events → R events)
    → Walked P Q store held before now how → NeedsTaken R how
needs P R Q store held before now end.Whole f w = (w.tells.0.events, f w.tells.0.events w.tells.0.taken)
needs P R Q store held before now (end.Reading g) f w = (w.tells.0.events, f w.tells.0.events w.tells.0.taken)
needs P R Q store held before now (end.Stopped e) f w = tt
needs P R Q store held before now (end.Read file) f w = tt
needs P R Q store held before now (end.TooLarge file) f w = tt
needs P R Q store held before now end.Memory f w = tt

-- what was taken with room in the window was taken
pub ends_sooner : (P R : List Event → Type 0) (o : Option Given) (how : WalkEnd MapFault) (r : Result (List Pair) MapFault) → ((events : List Event) → P events → R events) → EndsWalk R o how r → EndsWalk P o how r
ends_sooner P R o end.Whole (Ok pairs) f ends = λ events t. ends events (f events t)
ends_sooner P R o end.Whole (Err e) f ends = λ events t. ends events (f events t)
ends_sooner P R o (end.Reading g) (Ok pairs) f ends = absurd ends
ends_sooner P R o (end.Reading g) (Err e) f ends = λ events t. ends events (f events t)
ends_sooner P R o (end.Stopped e) r f ends = ends
ends_sooner P R o (end.Read file) r f ends = ends
ends_sooner P R o (end.TooLarge file) r f ends = ends
ends_sooner P R o end.Memory r f ends = ends

-- ---- why a phase ends, of its own

phase_names : (store : SeenStore) (e : MapFault) (n : ℕ) → IsOfPhase store e → NamesOne (Err e) n
phase_names store (map.At line row kind) n of = tt
phase_names store (map.Reading g) n of = tt
phase_names store (map.Read file) n of = absurd of
phase_names store (map.TooLarge file) n of = absurd of
phase_names store map.Memory n of = tt

block_data : (store : SeenStore) (g : ReadingFault) → IsStore store → (of : IsOfPhase store (map.Reading g)) → IsOfData (length store.names) of.0.file g
block_data store g is of = at (first_block_fault store of.0) (block_fault store of.0 is) of.2
  where
    at : (o : Option ReadingFault) → IfSome o (IsOfData (length store.names) of.0.file) → o ≡ Some g → IsOfData (length store.names) of.0.file g
    at None i e = absurd (none-some g e)
    at (Some f) i e = subst (IsOfData (length store.names) of.0.file) (same e) i
      where
        same : Some f ≡ Some g → f ≡ g
        same e = cc

phase_explained : (store : SeenStore) (e : MapFault) (before after : Counts) → IsStore store → IsOfPhase store e → IsExplained (Err e) before after
phase_explained store (map.At line row kind) before after is of = tt
phase_explained store (map.Reading g) before after is of = λ none. absurd (subst IsThere none (block_data store g is of).there)
phase_explained store (map.Read file) before after is of = absurd of
phase_explained store (map.TooLarge file) before after is of = absurd of
phase_explained store map.Memory before after is of = tt

phase_longer : (store : SeenStore) (files : Files) (e : MapFault) → IsOfPhase store e → IsLonger store files (Err e)
phase_longer store files (map.At line row kind) of = tt
phase_longer store files (map.Reading g) of = tt
phase_longer store files (map.Read file) of = absurd of
phase_longer store files (map.TooLarge file) of = absurd of
phase_longer store files map.Memory of = tt

phase_placed : (store : SeenStore) (e : MapFault) → IsStore store → IsOfPhase store e → IsPlaced store (Err e)
phase_placed store (map.At line row kind) is of = tt
phase_placed store (map.Reading g) is of = let f : IsOfData (length store.names) of.0.file g = block_data store g is of in (subst (λ n. n < length store.files) (sym f.file_is) of.1, f.column)
phase_placed store (map.Read file) is of = tt
phase_placed store (map.TooLarge file) is of = tt
phase_placed store map.Memory is of = tt

own_placed : (store : SeenStore) (file row : ℕ) (g : ReadingFault) (opened : ℕ) → IsOfFile file row g → g.file < opened → opened ≤ length store.files → IsPlaced store (Err (map.Reading g))
own_placed store file row g opened own l within = (less g.file opened (length store.files) l within, by own)
  where
    less : (a b c : ℕ) → a < b → b ≤ c → a < c
    less a b c l m = omega (arith, l, m)

    by : IsOfFile file row g → IsColumn g.kind (length store.names) g.column
    by (inl e) = subst (λ (x : ReadingFault). IsColumn x.kind (length store.names) x.column) (sym e) tt
    by (inr (inl e)) = subst (λ (x : ReadingFault). IsColumn x.kind (length store.names) x.column) (sym e) tt
    by (inr (inr e)) = subst (λ (x : ReadingFault). IsColumn x.kind (length store.names) x.column) (sym e) tt

-- ---- the clauses

module _ (store : SeenStore) (f : SeenFunction) (held : Option Files) (opened : ℕ) (how : WalkEnd MapFault) where
  names : (r : Result (List Pair) MapFault) → Says store f held opened how r → NamesOne (answer_of r) opened
  names (Ok pairs) s = tt
  names (Err e) (inl s) = phase_names store e opened s.of
  names (Err (map.At line row kind)) (inr s) = tt
  names (Err (map.Reading g)) (inr s) = tt
  names (Err (map.Read file)) (inr s) = s.1
  names (Err (map.TooLarge file)) (inr s) = s.1
  names (Err map.Memory) (inr s) = tt

  pub opens : (before now : Option (List (List ℕ))) (r : Result (List Pair) MapFault) → opened ≤ length store.files → Adds (take opened store.files) before now → Says store f held opened how r → OpensFiles store.files (answer_of r) before now
  opens before now r within adds s = record { opened = opened; within = within; opens = adds; named = names r s }

  pub explained : (a b : Counts) (r : Result (List Pair) MapFault) → IsStore store → walk.IsExplained how a b → Says store f held opened how r → IsExplained (answer_of r) a b
  explained a b (Ok pairs) is h s = tt
  explained a b (Err e) is h (inl s) = phase_explained store e a b is s.of
  explained a b (Err (map.At line row kind)) is h (inr s) = tt
  explained a b (Err (map.Reading g)) is h (inr s) = subst (λ (x : WalkEnd MapFault). walk.IsExplained x a b) s.is h
  explained a b (Err (map.Read file)) is h (inr s) = subst (λ (x : WalkEnd MapFault). walk.IsExplained x a b) s.0 h
  explained a b (Err (map.TooLarge file)) is h (inr s) = subst (λ (x : WalkEnd MapFault). walk.IsExplained x a b) s.0 h
  explained a b (Err map.Memory) is h (inr s) = tt

  pub longer : (files : Files) (r : Result (List Pair) MapFault) → held ≡ Some files → walk.IsLonger store held how → Says store f held opened how r → IsLonger store files (answer_of r)
  longer files (Ok pairs) e h s = tt
  longer files (Err x) e h (inl s) = phase_longer store files x s.of
  longer files (Err (map.At line row kind)) e h (inr s) = tt
  longer files (Err (map.Reading g)) e h (inr s) = tt
  longer files (Err (map.Read file)) e h (inr s) = tt
  longer files (Err (map.TooLarge file)) e h (inr s) = subst (λ (x : WalkEnd MapFault). walk.IsLonger store (Some files) x) s.0 (subst (λ o. walk.IsLonger store o how) e h)
  longer files (Err map.Memory) e h (inr s) = tt

  pub placed : (r : Result (List Pair) MapFault) → IsStore store → opened ≤ length store.files → Says store f held opened how r → IsPlaced store (answer_of r)
  placed (Ok pairs) is within s = tt
  placed (Err e) is within (inl s) = phase_placed store e is s.of
  placed (Err (map.At line row kind)) is within (inr s) = tt
  placed (Err (map.Reading g)) is within (inr s) = own_placed store g.file s.first g opened s.own s.below within
  placed (Err (map.Read file)) is within (inr s) = tt
  placed (Err (map.TooLarge file)) is within (inr s) = tt
  placed (Err map.Memory) is within (inr s) = tt

  pub told : (files : Files) (r : Result (List Pair) MapFault) → held ≡ Some files → Says store f held opened how r → (d : Store) → d.store ≡ store → Maps files d f r
  told files (Ok pairs) e s d same = told_of held files (λ files. (d : Store) → d.store ≡ store → map_phase d f (block_tables d.store files) [] ≡ Ok pairs) s e d same
  told files (Err (map.At line row kind)) e (inl s) d same = told_of held files (EndsPhase store f (map.At line row kind)) s.told e d same
  told files (Err (map.At line row kind)) e (inr s) d same = absurd s
  told files (Err (map.Reading g)) e (inl s) d same = told_of held files (EndsPhase store f (map.Reading g)) s.told e d same
  told files (Err (map.Reading g)) e (inr s) d same = told_of held files (EndsPhase store f (map.Reading g)) s.told e d same
  told files (Err (map.Read file)) e s d same = tt
  told files (Err (map.TooLarge file)) e s d same = tt
  told files (Err map.Memory) e s d same = tt
