use Rattle.std.specs.Prelude.{vec_len, vec_capacity}
use Rattle.std.proofs.Common.{◌≡◌, ◌≤◌, ◌+◌, ◌-◌, ◌++◌, length, take}
use Rattle.tall_texts.specs.Texts.{further}
use Rattle.tall_texts.proofs.texts.append.Given as goal

abbrev pub invariant-loop-end : goal.invariant-loop-end
invariant-loop-end l =
    (l.ends.items ≡ l.initial.ends.items ++ further l.before (take l.end-index l.more_ends))
    × (vec_len l.ends + (length l.more_ends - l.end-index) ≤ vec_capacity l.ends)
