use Rattle.std.proofs.Common.{take}
use Rattle.tall_kv.specs.Stores.{rows_pairs}
use Rattle.tall_kv.proofs.ByKeyLemmas.{IsGrouped}
use Rattle.tall_kv.proofs.groups.group.Given as goal

abbrev pub invariant-loop-row : goal.invariant-loop-row
invariant-loop-row l = IsGrouped l.rows.values.class l.rows.keys.class (take l.row (rows_pairs l.rows)) l.keys l.met.keys l.columns.items
