-- Where a byte of a script stands.
use Rattle.std.specs.Prelude.{ℕ, ◌+◌, ◌==◌, ◌&&◌, true, List, if◌then◌else◌}
use Rattle.std.specs.List.{fold}
use Rattle.tall_lex.specs.declared.places.Spot.{Spot}
use Rattle.tall_lex.specs.Bytes.{is_space}

-- the first byte of a script: line 1, place 1, and no byte before it in its line
abbrev pub beginning : Spot
beginning = record { line = 1; place = 1; bare = true }

-- the spot behind a byte that stands at a spot: behind a line feed a line begins
abbrev pub behind : Spot → ℕ → Spot
behind spot b =
    if b == 10 then record { line = spot.line + 1; place = 1; bare = true }
    else record { line = spot.line; place = spot.place + 1; bare = spot.bare && is_space b }

-- the spot behind a text that stands at a spot
abbrev pub past : Spot → List ℕ → Spot
past spot text = fold behind spot text
