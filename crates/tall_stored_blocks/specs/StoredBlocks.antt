-- The blocks of a datastore's files as blocks of a graph's stored columns, and the columns of datastores as one function.
use Rattle.std.specs.Prelude.{ℕ, List, [], map, get_or, slice_get, Option, None, Some}
use Rattle.tall_outside.specs.Shelf.{Files}
use Rattle.tall_value.specs.Columns.{numbered}
use Rattle.tall_semantics.specs.Outcomes.{Outcome, rows}
use Rattle.tall_semantics.specs.Talls.{Columns}
use Rattle.tall_blocks.specs.Blocks.{Block}
use Rattle.tall_store.specs.Blocks as store
use Rattle.tall_store.specs.Records.{numbered_records}
use Rattle.tall_store.specs.Stores.{SeenStore}
use Rattle.tall_store.specs.Stored.{cells_at}
use Rattle.tall_stored.specs.StoredColumns.{Store, column_outcome}

-- ---- columns

abbrev pub column_of : Files → (place : ℕ) → Option Store → (variable : ℕ) → Outcome
column_of files place None variable = rows []
column_of files place (Some d) variable = column_outcome files place d variable

-- the columns of the datastores of a list; of no datastore there are no rows
abbrev pub columns_of : Files → List Store → Columns
columns_of files stores place variable = column_of files place (slice_get stores place) variable

-- ---- blocks

-- the rows of a block of records: of the variable at a place of the selection, with the numbers of the records. It is asked
-- for variables of the block's datastore alone
abbrev pub block_of : SeenStore → store.Block → Block
block_of d block s variable = numbered block.row (cells_at d (numbered_records block.file block.row block.records) (get_or d.selected variable 0))

abbrev pub blocks_of : SeenStore → List store.Block → List Block
blocks_of d blocks = map (block_of d) blocks
