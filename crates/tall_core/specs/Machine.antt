-- The machine of the board: places that are claimed, worked on and published, one event at a time.
use Rattle.std.specs.Prelude.{◌≡◌, ℕ, ◌+◌, ◌<◌, ◌≤◌, Bool, true, false, ◌&&◌, ◌⊎◌, List, [], ◌∷◌, ◌++◌, length, replicate, Option, Some, None, is_none, option_map, unwrap_or, slice_get, slice_set, Result, Ok, Err, if◌then◌else◌, nat_eq, nat_lt}
use Rattle.std.specs.List.{list_all}
use Rattle.tall_core.specs.declared.event.Held.{Held}
use Rattle.tall_core.specs.declared.event.Event.{Event}
use Rattle.tall_core.specs.declared.event.Event.TheVariants.{Claim, ClaimPast, Lay, Publish}

-- how many places there are and how many of them were claimed, for each worker the place that it holds, and for each place its piece
pub record State (P : Type 0) : Type 0 where
  pub places : ℕ
  pub next : ℕ
  pub held : List (Option (Held P))
  pub published : List (Option P)

abbrev pub state : {P : Type 0} → ℕ → ℕ → List (Option (Held P)) → List (Option P) → State P
state places next held published = record { places = places; next = next; held = held; published = published }

-- a place that is held, with its piece once it is laid
abbrev pub holding : {P : Type 0} → ℕ → Option P → Held P
holding place piece = record { place = place; piece = piece }

abbrev pub start : {P : Type 0} → ℕ → ℕ → State P
start places workers = record { places = places; next = 0; held = replicate workers None; published = replicate places None }

-- what is known of a worker: it holds nothing; it holds this place and has laid no piece; it holds this place, with this piece
abbrev pub is_idle : {P : Type 0} → Option (Option (Held P)) → Bool
is_idle (Some None) = true
is_idle _ = false

abbrev pub vacant_at : {P : Type 0} → ℕ → Option P → Option ℕ
vacant_at place None = Some place
vacant_at place (Some piece) = None

abbrev pub vacant_place : {P : Type 0} → Option (Option (Held P)) → Option ℕ
vacant_place (Some (Some h)) = vacant_at h.place h.piece
vacant_place _ = None

abbrev pub laid_at : {P : Type 0} → ℕ → Option P → Option (ℕ × P)
laid_at place None = None
laid_at place (Some piece) = Some (place, piece)

abbrev pub laid_piece : {P : Type 0} → Option (Option (Held P)) → Option (ℕ × P)
laid_piece (Some (Some h)) = laid_at h.place h.piece
laid_piece _ = None

-- the state where a worker took the next place, laid a piece on a place, and published a piece
abbrev pub claimed : {P : Type 0} → State P → ℕ → State P
claimed s worker = state s.places (s.next + 1) (slice_set s.held worker (Some (holding s.next None))) s.published

abbrev pub laid : {P : Type 0} → State P → ℕ → P → ℕ → State P
laid s worker piece place = state s.places s.next (slice_set s.held worker (Some (holding place (Some piece)))) s.published

abbrev pub published : {P : Type 0} → State P → ℕ → ℕ × P → State P
published s worker x = state s.places s.next (slice_set s.held worker None) (slice_set s.published x.0 (Some x.1))

-- the state after an event, where the state allows it
abbrev pub after : {P : Type 0} → State P → Event P → Option (State P)
after s (Claim worker) = if is_idle (slice_get s.held worker) && nat_lt s.next s.places then Some (claimed s worker) else None
after s (ClaimPast worker) = if is_idle (slice_get s.held worker) && nat_eq s.next s.places then Some s else None
after s (Lay worker piece) = option_map (laid s worker piece) (vacant_place (slice_get s.held worker))
after s (Publish worker) = option_map (published s worker) (laid_piece (slice_get s.held worker))

-- an event that the state does not allow changes nothing
abbrev pub next_state : {P : Type 0} → State P → Event P → State P
next_state s event = unwrap_or (after s event) s

abbrev pub run : {P : Type 0} → State P → List (Event P) → State P
run s [] = s
run s (event ∷ events) = run (next_state s event) events

-- what was asked for is handed back exactly where the state does not allow it
abbrev pub Answers : {P E : Type 0} → Option (State P) → E → Result Unit E → State P → State P → Type 0
Answers None asked result old new = (result ≡ Err asked) × (new ≡ old)
Answers (Some s) asked result old new = (result ≡ Ok tt) × (new ≡ s)

-- each place was claimed, and no worker holds one
abbrev pub is_done : {P : Type 0} → State P → Bool
is_done s = nat_eq s.next s.places && list_all is_none s.held

-- the piece that an event lays for a place, where it is allowed and lays one
abbrev pub lays_on : {P : Type 0} → ℕ → P → Option ℕ → List P
lays_on place piece None = []
lays_on place piece (Some at) = if nat_eq at place then piece ∷ [] else []

abbrev pub lays : {P : Type 0} → ℕ → State P → Event P → List P
lays place s (Claim worker) = []
lays place s (ClaimPast worker) = []
lays place s (Lay worker piece) = lays_on place piece (vacant_place (slice_get s.held worker))
lays place s (Publish worker) = []

-- all pieces that events lay for a place, in their order
abbrev pub laid_for : {P : Type 0} → ℕ → State P → List (Event P) → List P
laid_for place s [] = []
laid_for place s (event ∷ events) = lays place s event ++ laid_for place (next_state s event) events

-- worker w holds the place
abbrev pub HoldsPlace : {P : Type 0} → State P → ℕ → ℕ → Type 0
HoldsPlace {P} s worker place = (h : Held P) × (slice_get s.held worker ≡ Some (Some h)) × (h.place ≡ place)

-- each place below `next` is held by one worker or published, and not both; no other place is
pub record EachOnce {P : Type 0} (s : State P) : Type 0 where
  pub few : s.next ≤ s.places
  pub size : length s.published ≡ s.places
  pub below : (worker place : ℕ) → HoldsPlace s worker place → place < s.next
  pub apart : (one other place : ℕ) → HoldsPlace s one place → HoldsPlace s other place → one ≡ other
  pub vacant : (worker place : ℕ) → HoldsPlace s worker place → slice_get s.published place ≡ Some None
  pub fresh : (place : ℕ) → s.next ≤ place → place < s.places → slice_get s.published place ≡ Some None
  pub once : (place : ℕ) → place < s.next → ((worker : ℕ) × HoldsPlace s worker place) ⊎ ((piece : P) × (slice_get s.published place ≡ Some (Some piece)))

-- a state that allowed events lead to, from the start with so many places and workers
pub data Reached {P : Type 0} (places workers : ℕ) : State P → Type 0 where
  begins : (s : State P) → s ≡ start places workers → Reached places workers s
  does : (s t : State P) (event : Event P) → Reached places workers s → after s event ≡ Some t → Reached places workers t
