use Rattle.std.specs.Prelude.{vec_len, vec_capacity}
use Rattle.std.proofs.Common.{◌≡◌, ◌++◌, map}
use Rattle.tall_store.specs.Stored.{cells_at}
use Rattle.tall_store.specs.Reads.{column_faults}
use Rattle.tall_store.specs.Parts.{part_records}
use Rattle.tall_store.proofs.PartRows.{rest_of}
use Rattle.tall_store.proofs.columns.read_values.Given as goal

-- no field before this one has a fault, and the values are theirs
abbrev pub invariant-loop-i : goal.invariant-loop-i
invariant-loop-i g l = record {
  room : vec_capacity l.values ≡ l.part.rows;
  len : vec_len l.values ≡ l.i;
  missing : l.missing ≡ l.store.missing;
  faults : column_faults l.store (rest_of l.part l.i) l.place ≡ column_faults l.store (part_records l.part) l.place;
  cells : map g.R.Out.Operand.shown l.values.items ++ cells_at l.store (rest_of l.part l.i) l.place ≡ cells_at l.store (part_records l.part) l.place;
}
