use Rattle.std.proofs.Common.{◌≡◌, ◌≤◌, length, map, take}
use Rattle.tall_value.specs.declared.class.Class.TheVariants as class
use Rattle.tall_group.specs.Summaries.{count_at}
use Rattle.tall_group.proofs.group_columns.counts.Given as goal

abbrev pub invariant-loop-i : goal.invariant-loop-i
invariant-loop-i g l =
    (l.column ≡ record { class = class.Double; cells = map (count_at g.S.GroupState.rows g.S.GroupState.nothing l.fn.states) (take l.i l.fn.places) }) × (l.i-end ≡ length l.fn.places) × (l.i ≤ l.i-end)
