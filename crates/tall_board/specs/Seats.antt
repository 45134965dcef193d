-- What contracts see of a seat.
use Rattle.std.specs.Prelude.{◌≡◌, ℕ, [], ◌∷◌, Some, None}
use Rattle.tall_board.specs.declared.view.View.{View}
use Rattle.tall_board.specs.declared.board.BoardSeat.{BoardSeat}

-- its room, the number that the ticket word has reached, whether it was told None, and its ticket out
abbrev pub view_of : {P : Type 0} → BoardSeat P → View
view_of seat = seat.seat.me.0

-- it holds no place
abbrev pub IsIdle : {P : Type 0} → BoardSeat P → Type 0
IsIdle seat = (seat.seat.me.1 ≡ []) × (seat.seat.me.0.ticket ≡ None)

-- it holds this place, and its piece is not laid yet
abbrev pub HasPlace : {P : Type 0} → BoardSeat P → ℕ → Type 0
HasPlace seat place = (seat.seat.me.1 ≡ (place, None) ∷ []) × (seat.seat.me.0.ticket ≡ Some place)
