use Rattle.std.proofs.Common.{◌≡◌, ◌++◌}
use Rattle.tall_store.specs.Formats.{class_of_format}
use Rattle.tall_store.specs.Stores.{format_at}
use Rattle.tall_store.specs.Stored.{cells_at}
use Rattle.tall_store.specs.Reads.{column_faults}
use Rattle.tall_store.specs.Parts.{part_records}
use Rattle.tall_store.proofs.PartRows.{rest_of}
use Rattle.tall_store.proofs.columns.read_texts.Given as goal

-- no field before this one has a fault, and the column has their cells
abbrev pub invariant-loop-i : goal.invariant-loop-i
invariant-loop-i l = record {
  class : l.column.class ≡ class_of_format (format_at l.store l.place);
  faults : column_faults l.store (rest_of l.part l.i) l.place ≡ column_faults l.store (part_records l.part) l.place;
  cells : l.column.cells ++ cells_at l.store (rest_of l.part l.i) l.place ≡ cells_at l.store (part_records l.part) l.place;
}
