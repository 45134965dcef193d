use Rattle.std.proofs.Common.{◌≡◌, ◌≤◌, ◌+◌, ◌-◌, ◌++◌, length, take}
use Rattle.std.specs.Prelude.{vec_capacity, vec_len}
use Rattle.csv.specs.Records.{fields_of}
use Rattle.tall_cut.specs.Blocks.{ends_from, joined}
use Rattle.tall_cut.proofs.block.add_ends.Given as goal

abbrev pub invariant-loop-k : goal.invariant-loop-k
invariant-loop-k l = record {
  inside : l.end ≤ l.fn.to;
  end : l.fn.from + length (joined (take l.k (fields_of l.row))) ≡ l.end;
  room : vec_len l.ends + (length (fields_of l.row) - l.k) ≤ vec_capacity l.ends;
  ends : l.ends.items ≡ l.initial.ends.items ++ ends_from l.fn.from (take l.k (fields_of l.row));
}
