-- What the definitions see of a value that is kept.
use Rattle.tall_value.specs.OwnedCells.{owned_seen}
use Rattle.tall_column.specs.declared.table.Value.{Value}
use Rattle.tall_column.specs.declared.table.Value.TheVariants.{Scalar, Column, Table}
use Rattle.tall_local.specs.Memory.{Memory, scalar, column, table}

abbrev pub value_seen : Value → Memory
value_seen (Scalar o) = scalar (owned_seen o)
value_seen (Column c) = column c
value_seen (Table t) = table t
