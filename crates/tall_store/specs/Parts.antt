-- The records of a part of a block.
use Rattle.std.specs.Prelude.{List, take}
use Rattle.tall_store.specs.declared.part.Part.{Part}
use Rattle.tall_store.specs.Records.{DataRecord, numbered_records}

abbrev pub part_records : Part → List DataRecord
part_records part = numbered_records part.file part.first_row (take part.rows part.block.now)
