use Rattle.std.proofs.Common.{◌≡◌, ◌++◌, [], get_or, length, take}
use Rattle.tall_cut.specs.Blocks.{ends_from, joined}
use Rattle.tall_cut.proofs.copying.add_fields.Given as goal

abbrev pub invariant-loop-k : goal.invariant-loop-k
invariant-loop-k l = record {
  bytes : l.bytes.items ≡ l.initial.bytes.items ++ joined (take l.k (get_or l.from l.i []));
  ends : l.ends.items ≡ l.initial.ends.items ++ ends_from (length l.initial.bytes.items) (take l.k (get_or l.from l.i []));
}
