use Rattle.std.proofs.Common.{◌≡◌, ◌<◌, ◌^◌, drop, take, true}
use Rattle.std.specs.List.{list_all}
use Rattle.std.specs.Char.{is_ascii_digit}
use Rattle.tall_num.specs.Spelling.{digits_onto}
use Rattle.tall_num.proofs.text.short_number.Given as goal

abbrev pub invariant-loop-byte : goal.invariant-loop-byte
invariant-loop-byte l =
    (digits_onto l.number (drop l.byte-index l.text) ≡ digits_onto 0 l.text)
    × (l.number < 10 ^ l.byte-index)
    × (list_all is_ascii_digit (take l.byte-index l.text) ≡ true)
