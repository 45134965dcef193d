use Rattle.std.proofs.Common.{◌≡◌, drop}
use Rattle.tall_column.specs.Tables.{column_named}
use Rattle.tall_column.proofs.table.find.Given as goal

-- no column before this one has the name
abbrev pub invariant-loop-i : goal.invariant-loop-i
invariant-loop-i l = column_named l.name (drop l.i l.columns) ≡ column_named l.name l.columns
