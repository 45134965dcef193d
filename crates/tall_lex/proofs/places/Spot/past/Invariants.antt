use Rattle.std.proofs.Common.{◌≡◌, ◌+◌, ◌<◌, ◌≤◌, drop}
use Rattle.tall_lex.specs.Places.{past}
use Rattle.tall_lex.proofs.places.Spot.past.Given as goal

-- the spot behind what is left, from here, is the one behind all, from the start
abbrev pub invariant-loop-byte : goal.invariant-loop-byte
invariant-loop-byte l = record {
  after : past l.spot (drop l.byte-index l.text) ≡ past l.fn.self l.text;
  line : l.spot.line ≤ l.fn.self.line + l.byte-index;
  place : l.spot.place ≤ l.fn.self.place + l.byte-index;
  counted : 0 < l.spot.place;
}
