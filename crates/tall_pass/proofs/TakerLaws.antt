-- What a taker has behind a block or the end of a file more.
use Rattle.std.proofs.Common.{ℕ, ◌≡◌, ◌≢◌, ◌∙◌, ◌<◌, ◌≤◌, ◌^◌, inl, inr, List, [], ◌∷◌, ◌++◌, sym, ap, subst, refl, arith, length, map}
use Rattle.std.specs.Prelude.{◌⊎◌, Option, Some, Result, Ok, Vec}
use denote.Ref.{Bor}
use Rattle.std.proofs.lemmas.List.{append-nil, append_assoc, map-append}
use Rattle.tall_store.specs.Blocks.{Block}
use Rattle.tall_store.specs.declared.file_rows.FileBlock.{FileBlock}
use Rattle.tall_piece.specs.declared.pieces.Piece.{Piece}
use Rattle.tall_walk.specs.Events.{Event, a_block, an_end, block_of, blocks_in}
use Rattle.tall_walk.proofs.Walks.{blocks_append}
use Rattle.tall_pass.specs.declared.faults.PassFault.{PassFault}
use Rattle.tall_pass.specs.declared.faults.PassFault.TheVariants.{Reading, Read, TooLarge, Changed, Memory}
use Rattle.tall_pass.specs.declared.joining.Joined.{Joined}
use Rattle.tall_pass.specs.Counts.{count_at}
use Rattle.tall_pass.specs.Takers.{MakesPieces}
use Rattle.tall_pass.specs.Taken.{AreEnded, AreOfFiles, ArePieces, AreWaiting, EndsBlocks, HasJoined, HasStopped, HasTaken, Inputs, IsEndIn, IsJoining, IsNoted, IsOther, IsWaiting, OfInputs}

-- ---- one more in a list

pub waiting-snoc : (files : ℕ) (bs : List FileBlock) (b : FileBlock) → AreWaiting files bs → IsWaiting files b → AreWaiting files (bs ++ b ∷ [])
waiting-snoc files [] b w is = (is, tt)
waiting-snoc files (c ∷ bs) b w is = (w.0, waiting-snoc files bs b w.1 is)

of_files-snoc : (files : ℕ) (bs : List Block) (b : Block) → AreOfFiles files bs → b.file < files → AreOfFiles files (bs ++ b ∷ [])
of_files-snoc files [] b o l = (l, tt)
of_files-snoc files (c ∷ bs) b o l = (o.0, of_files-snoc files bs b o.1 l)

-- ---- ends of files among events

pub end_in : (es fs : List Event) (f n : ℕ) → IsEndIn (es ++ fs) f n → IsEndIn es f n ⊎ IsEndIn fs f n
end_in [] fs f n e = inr e
end_in (a_block b ∷ es) fs f n e = end_in es fs f n e
end_in (an_end file records ∷ es) fs f n (inl e) = inl (inl e)
end_in (an_end file records ∷ es) fs f n (inr e) = by (end_in es fs f n e)
  where
    by : IsEndIn es f n ⊎ IsEndIn fs f n → (((file ≡ f) × (records ≡ n)) ⊎ IsEndIn es f n) ⊎ IsEndIn fs f n
    by (inl e) = inl (inr e)
    by (inr e) = inr e

pub end_front : (es fs : List Event) (f n : ℕ) → IsEndIn es f n → IsEndIn (es ++ fs) f n
end_front [] fs f n e = absurd e
end_front (a_block b ∷ es) fs f n e = end_front es fs f n e
end_front (an_end file records ∷ es) fs f n (inl e) = inl e
end_front (an_end file records ∷ es) fs f n (inr e) = inr (end_front es fs f n e)

pub end_behind : (es fs : List Event) (f n : ℕ) → IsEndIn fs f n → IsEndIn (es ++ fs) f n
end_behind [] fs f n e = e
end_behind (a_block b ∷ es) fs f n e = end_behind es fs f n e
end_behind (an_end file records ∷ es) fs f n e = inr (end_behind es fs f n e)

ended_block : (first now : List (Option ℕ)) (events : List Event) (b : Block) → AreEnded first events now → AreEnded first (events ++ a_block b ∷ []) now
ended_block first now events b e = record {
  files = e.files;
  known = e.known;
  each = λ f n h. each f n (e.each f n h);
  ended = λ f n h. ended f n (end_in events (a_block b ∷ []) f n h);
}
  where
    each : (f n : ℕ) → (count_at first f ≡ Some n) ⊎ IsEndIn events f n → (count_at first f ≡ Some n) ⊎ IsEndIn (events ++ a_block b ∷ []) f n
    each f n (inl h) = inl h
    each f n (inr h) = inr (end_front events (a_block b ∷ []) f n h)

    ended : (f n : ℕ) → IsEndIn events f n ⊎ IsEndIn (a_block b ∷ []) f n → count_at now f ≡ Some n
    ended f n (inl h) = e.ended f n h
    ended f n (inr h) = absurd h

ended_file : (first now new : List (Option ℕ)) (events : List Event) (file records : ℕ) → AreEnded first events now → IsNoted file records now new → AreEnded first (events ++ an_end file records ∷ []) new
ended_file first now new events file records e noted = record {
  files = noted.files ∙ e.files;
  known = λ f n h. noted.known f n (e.known f n h);
  each = λ f n h. each f n (noted.each f n h);
  ended = λ f n h. ended f n (end_in events (an_end file records ∷ []) f n h);
}
  where
    old : (f n : ℕ) → (count_at first f ≡ Some n) ⊎ IsEndIn events f n → (count_at first f ≡ Some n) ⊎ IsEndIn (events ++ an_end file records ∷ []) f n
    old f n (inl h) = inl h
    old f n (inr h) = inr (end_front events (an_end file records ∷ []) f n h)

    each : (f n : ℕ) → (count_at now f ≡ Some n) ⊎ ((f ≡ file) × (n ≡ records)) → (count_at first f ≡ Some n) ⊎ IsEndIn (events ++ an_end file records ∷ []) f n
    each f n (inl h) = old f n (e.each f n h)
    each f n (inr h) = inr (end_behind events (an_end file records ∷ []) f n (inl (sym h.0, sym h.1)))

    last : (f n : ℕ) → IsEndIn (an_end file records ∷ []) f n → count_at new f ≡ Some n
    last f n (inl h) = ap (count_at new) (sym h.0) ∙ noted.noted ∙ ap Some h.1
    last f n (inr h) = absurd h

    ended : (f n : ℕ) → IsEndIn events f n ⊎ IsEndIn (an_end file records ∷ []) f n → count_at new f ≡ Some n
    ended f n (inl h) = noted.known f n (e.ended f n h)
    ended f n (inr h) = last f n h

-- ---- a block more

pub takes_block : (w : Inputs) (first : List (Option ℕ)) (j : Joined) (waiting longer : List FileBlock) (counts : List (Option ℕ)) (events : List Event) (b : FileBlock) → HasTaken w first j waiting counts events
    → IsWaiting (length w.store.files) b → longer ≡ waiting ++ b ∷ [] → HasTaken w first j longer counts (events ++ a_block (block_of b) ∷ [])
takes_block w first j waiting longer counts events b t is e = record {
  places = t.places;
  ways = t.ways;
  blocks = t.blocks;
  cut = blocks_append events (a_block (block_of b) ∷ [])
      ∙ ap (λ bs. bs ++ block_of b ∷ []) t.cut
      ∙ append_assoc t.blocks (map block_of waiting) (block_of b ∷ [])
      ∙ ap (λ bs. t.blocks ++ bs) (sym (map-append block_of waiting (b ∷ [])) ∙ ap (map block_of) (sym e));
  joined = t.joined;
  waits = subst (AreWaiting (length w.store.files)) (sym e) (waiting-snoc (length w.store.files) waiting b t.waits is);
  files = subst (AreOfFiles (length w.store.files)) (sym (blocks_append events (a_block (block_of b) ∷ []))) (of_files-snoc (length w.store.files) (blocks_in events) (block_of b) t.files is.0);
  counted = t.counted;
  ended = ended_block first counts events (block_of b) t.ended;
}

pub takes_end : (w : Inputs) (first : List (Option ℕ)) (j : Joined) (waiting : List FileBlock) (counts new : List (Option ℕ)) (events : List Event) (file records : ℕ) → HasTaken w first j waiting counts events
    → IsNoted file records counts new → HasTaken w first j waiting new (events ++ an_end file records ∷ [])
takes_end w first j waiting counts new events file records t noted =
    let same : blocks_in (events ++ an_end file records ∷ []) ≡ blocks_in events = blocks_append events (an_end file records ∷ []) ∙ append-nil (blocks_in events) in
    record {
      places = t.places;
      ways = t.ways;
      blocks = t.blocks;
      cut = same ∙ t.cut;
      joined = t.joined;
      waits = t.waits;
      files = subst (AreOfFiles (length w.store.files)) (sym same) t.files;
      counted = t.counted;
      ended = ended_file first counts new events file records t.ended noted;
    }

-- it has fewer files than places, so each may be noted
pub counted_files : (w : Inputs) (first : List (Option ℕ)) (j : Joined) (waiting : List FileBlock) (counts : List (Option ℕ)) (events : List Event) (file : ℕ) → HasTaken w first j waiting counts events → file < length w.store.files
    → file < length counts
counted_files w first j waiting counts events file t l = subst (λ n. file < n) (sym (t.ended.files ∙ t.counted)) l

-- another number than that which was noted
pub other_file : (w : Inputs) (first : List (Option ℕ)) (j : Joined) (waiting : List FileBlock) (counts : List (Option ℕ)) (events : List Event) (file before now : ℕ) → HasTaken w first j waiting counts events
    → count_at counts file ≡ Some before → before ≢ now → IsOther first events (an_end file now) file before now
other_file w first j waiting counts events file before now t e ne = (refl, ne, t.ended.each file before e)

-- ---- the blocks that wait are worked off

pub are_joining : (w : Inputs) (first : List (Option ℕ)) (j : Joined) (waiting : List FileBlock) (counts : List (Option ℕ)) (events : List Event) (pieces : List Piece) → HasTaken w first j waiting counts events
    → ArePieces w j.blocks (map block_of waiting) pieces → IsJoining w (blocks_in events) j pieces
are_joining w first j waiting counts events pieces t are = record {
  front = t.blocks;
  rest = map block_of waiting;
  cut = t.cut;
  joined = t.joined;
  right = subst (λ n. ArePieces w n (map block_of waiting) pieces) t.joined.count are;
}

pub few_joined : (w : Inputs) (first : List (Option ℕ)) (j : Joined) (waiting : List FileBlock) (counts : List (Option ℕ)) (events : List Event) → HasTaken w first j waiting counts events → j.blocks < 2 ^ 40
few_joined w first j waiting counts events t = by j.blocks j.sums.rows (2 ^ 40) t.joined.some t.joined.few
  where
    by : (n r m : ℕ) → n ≤ r → r < m → n < m
    by n r m a b = omega arith

pub all_worked : (w : Inputs) (first : List (Option ℕ)) (j new : Joined) (waiting none : List FileBlock) (counts : List (Option ℕ)) (events : List Event) → HasTaken w first j waiting counts events → none ≡ [] → HasJoined w (blocks_in events) new
    → HasTaken w first new none counts events
all_worked w first j new waiting none counts events t e has = record {
  places = t.places;
  ways = t.ways;
  blocks = blocks_in events;
  cut = sym (append-nil (blocks_in events)) ∙ ap (λ bs. blocks_in events ++ map block_of bs) (sym e);
  joined = has;
  waits = subst (AreWaiting (length w.store.files)) (sym e) tt;
  files = t.files;
  counted = t.counted;
  ended = t.ended;
}

-- a fault of blocks stops the taker at the last of them
pub stops_at : (w : Inputs) (counts : List (Option ℕ)) (before : List Event) (event : Event) (e : PassFault) → EndsBlocks w.store (blocks_in (before ++ event ∷ [])) e → HasStopped w.store counts e before event
stops_at w counts before event (Reading g) h = h
stops_at w counts before event (Read file) h = h
stops_at w counts before event (TooLarge file) h = h
stops_at w counts before event (Changed file first now) h = absurd h
stops_at w counts before event Memory h = tt

-- ---- the pieces of the blocks that wait

module _ {Y E : Type 0} (w : Inputs) (asks : Bor (List FileBlock) → ℕ → Type 0) (gives : Bor (List FileBlock) → ℕ → Result (Vec Piece Y) E → Type 0) (first : List (Option ℕ)) (j : Joined) (waiting : List FileBlock)
    (counts : List (Option ℕ)) (events : List Event) (blocks : Bor (List FileBlock)) (e : blocks.now ≡ waiting) (makes : MakesPieces w asks gives) (t : HasTaken w first j waiting counts events) where
  pub may_be_made : asks blocks j.blocks
  may_be_made = makes.may blocks j.blocks (subst (AreWaiting (length w.store.files)) (sym e) t.waits) (few_joined w first j waiting counts events t)

  pub are_made : (ps : Vec Piece Y) → gives blocks j.blocks (Ok ps) → ArePieces w j.blocks (map block_of waiting) ps.items
  are_made ps h = subst (λ bs. ArePieces w j.blocks (map block_of bs) ps.items) e (makes.does blocks j.blocks (Ok ps) (subst (AreWaiting (length w.store.files)) (sym e) t.waits) (few_joined w first j waiting counts events t) h)

-- ---- why it stops

pub stopped_memory : (o : Option Inputs) (v : Inputs) (counts : List (Option ℕ)) (e : PassFault) (before : List Event) (event : Event) → o ≡ Some v → e ≡ Memory → OfInputs o (λ w. HasStopped w.store counts e before event)
stopped_memory o v counts e before event f m =
    subst (λ p. OfInputs p (λ w. HasStopped w.store counts e before event)) (sym f) (subst (λ x. HasStopped v.store counts x before event) (sym m) tt)

pub stopped_blocks : (o : Option Inputs) (v : Inputs) (counts : List (Option ℕ)) (e : PassFault) (before : List Event) (event : Event) → o ≡ Some v → EndsBlocks v.store (blocks_in (before ++ event ∷ [])) e
    → OfInputs o (λ w. HasStopped w.store counts e before event)
stopped_blocks o v counts e before event f h = subst (λ p. OfInputs p (λ w. HasStopped w.store counts e before event)) (sym f) (stops_at v counts before event e h)
