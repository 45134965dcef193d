-- The rule of the table under the board, and what its steps tell.
-- Word 0 counts the places that were drawn, word 1 those that were published. A seat that has drawn a place has its slot.
use Rattle.std.specs.Prelude.{◌≡◌, ℕ, zero, suc, ◌+◌, ◌-◌, ◌/◌, ◌^◌, ◌<◌, ◌≤◌, min, max, true, false, ◌||◌, ◌⊎◌, List, [], ◌∷◌, map, length, Option, Some, None, slice_index, if◌then◌else◌}
use mathlib.Core.Option.{none, some}
use lib.ListN.{get_elem?}
use Rattle.atomic_table.specs.Table.{State, Step, Me, rest}
use Rattle.tall_core.specs.declared.event.Held.{Held}
use Rattle.tall_core.specs.Machine.{state, holding, Reached}
use Rattle.tall_core.specs.Machine as machine
use Rattle.tall_board.specs.declared.view.View.{View}

abbrev pub drawn : {P : Type 0} → State (Option P) View → ℕ
drawn s = slice_index s.words 0

abbrev pub published : {P : Type 0} → State (Option P) View → ℕ
published s = slice_index s.words 1

-- the view of the first seat
abbrev pub first_view : View
first_view = record { room = 2 ^ 32; seen = 0; told = false; ticket = None }

-- after a claim, after a claim past the end, and after a publication
abbrev pub with_ticket : View → ℕ → View
with_ticket v place = record { room = v.room; seen = place + 1; told = v.told; ticket = Some place }

abbrev pub told_none : View → View
told_none v = record { room = v.room; seen = v.seen; told = true; ticket = v.ticket }

abbrev pub idle : View → View
idle v = record { room = v.room; seen = v.seen; told = v.told; ticket = None }

-- a split halves the room, and a join adds it
abbrev pub half_of : View → View
half_of v = record { room = v.room / 2; seen = v.seen; told = v.told; ticket = None }

abbrev pub rest_of : View → View
rest_of v = record { room = v.room - v.room / 2; seen = v.seen; told = v.told; ticket = None }

abbrev pub joined : View → View → View
joined v w = record { room = v.room + w.room; seen = max v.seen w.seen; told = v.told || w.told; ticket = v.ticket }

abbrev pub spent : View
spent = record { room = 0; seen = 0; told = false; ticket = None }

-- a number for each view, added up
abbrev pub total : (View → ℕ) → List View → ℕ
total f [] = 0
total f (v ∷ vs) = f v + total f vs

abbrev pub held : Option ℕ → ℕ
held None = 0
held (Some place) = 1

abbrev pub left_room : View → ℕ
left_room v = if v.told then 0 else v.room

-- the seat i holds the place
abbrev pub Holds : List View → ℕ → ℕ → Type 0
Holds views i place = (v : View) × (get_elem? views i ≡ some v) × (v.ticket ≡ Some place)

-- what is known of a view, of n places where t were drawn
pub record Fits (n t : ℕ) (v : View) : Type 0 where
  pub spent_idle : v.room ≡ 0 → v.ticket ≡ None
  pub told_late : v.told ≡ true → n ≤ t
  pub told_idle : v.told ≡ true → v.ticket ≡ None
  pub seen_drawn : v.seen ≤ min t n

-- the machine's state that a table shows, where each seat's laid piece is given: only the seat itself sees it
abbrev pub held_with : {P : Type 0} → Option ℕ → Option P → Option (Held P)
held_with None laid = None
held_with (Some place) laid = Some (holding place laid)

abbrev pub holders : {P : Type 0} → (ℕ → Option P) → List View → List (Option (Held P))
holders laid [] = []
holders laid (v ∷ vs) = held_with v.ticket (laid 0) ∷ holders (λ i. laid (suc i)) vs

abbrev pub at_home : {P : Type 0} → mathlib.Core.Option.Option (Option P) → Option P
at_home none = None
at_home (some x) = x

abbrev pub shown : {P : Type 0} → ℕ → (ℕ → Option P) → State (Option P) View → machine.State P
shown n laid s = state n (min (drawn s) n) (holders laid s.views) (map at_home s.homes)

-- no seat has laid a piece
abbrev pub nothing_laid : {P : Type 0} → ℕ → Option P
nothing_laid i = None

-- one seat has laid a piece
abbrev pub laid_by : {P : Type 0} → ℕ → P → ℕ → Option P
laid_by zero piece zero = Some piece
laid_by zero piece (suc i) = None
laid_by (suc j) piece zero = None
laid_by (suc j) piece (suc i) = laid_by j piece i

-- The rule
--   reached: what the table shows is a state of the machine that allowed events lead to
--   counted: the places published and the places held are those that were drawn
--   out, home: a slot is out exactly where a seat holds its place
--   rooms, able: the rooms add up to 2^32, and the ticket word never wraps
pub record Kept {P : Type 0} (right : ℕ → P → Type 0) (n : ℕ) (s : State (Option P) View) : Type 0 where
  pub two : length s.words ≡ 2
  pub reached : Reached n (length s.views) (shown n nothing_laid s)
  pub counted : published s + total (λ v. held v.ticket) s.views ≡ min (drawn s) n
  pub out : (i place : ℕ) → Holds s.views i place → get_elem? s.homes place ≡ some none
  pub home : (place : ℕ) → place < n → ((i : ℕ) × Holds s.views i place) ⊎ ((x : Option P) × (get_elem? s.homes place ≡ some (some x)))
  pub right_home : (place : ℕ) (piece : P) → get_elem? s.homes place ≡ some (some (Some piece)) → right place piece
  pub rooms : total (λ v. v.room) s.views ≡ 2 ^ 32
  pub able : drawn s + total left_room s.views ≤ n + 2 ^ 32
  pub fits : (i : ℕ) (v : View) → get_elem? s.views i ≡ some v → Fits n (drawn s) v

-- a claim: the number found is the seat's place, with its slot, or the seat is told that no place is left
abbrev pub Claimed : {P : Type 0} → Step (Option P) → Me (Option P) View → ℕ → Me (Option P) View → Type 0
Claimed step me found new = (found < step.slots → (new ≡ (with_ticket me.0 found, (found, None) ∷ me.1)) × (me.0.seen ≤ found)) × (step.slots ≤ found → new ≡ (told_none me.0, me.1))

-- a publication: the seat's slot comes home
abbrev pub Published : {P : Type 0} → Step (Option P) → Me (Option P) View → ℕ → Me (Option P) View → Type 0
Published step me found new = new ≡ (idle me.0, rest me.1)
