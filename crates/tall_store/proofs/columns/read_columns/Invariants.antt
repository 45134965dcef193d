use Rattle.std.proofs.Common.{◌≡◌, None, length, map, take, drop}
use Rattle.tall_column.specs.Tables.{HasHeight}
use Rattle.tall_store.specs.Stored.{variable_of}
use Rattle.tall_store.specs.Reads.{first_of_columns, first_width_fault}
use Rattle.tall_store.specs.Parts.{part_records}
use Rattle.tall_store.proofs.columns.read_columns.Given as goal

abbrev pub invariant-loop-place : goal.invariant-loop-place
invariant-loop-place l = record {
  faults : first_of_columns l.store (part_records l.part) l.fault (drop l.place-index l.store.selected)
      ≡ first_of_columns l.store (part_records l.part) (first_width_fault l.store (part_records l.part)) l.store.selected;
  table : l.fault ≡ None → l.table ≡ map (variable_of l.store (part_records l.part)) (take l.place-index l.store.selected);
  height : HasHeight (length (part_records l.part)) l.table;
}
