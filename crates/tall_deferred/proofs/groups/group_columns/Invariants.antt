use Rattle.std.specs.Prelude.{◌≡◌, ℕ, ◌++◌, length, map, drop, take}
use Rattle.tall_semantics.specs.Deferred.{AllBelow, IsMeaning}
use Rattle.tall_semantics.specs.Talls.{Tall, Columns}
use Rattle.tall_local.specs.Lists.{each_of}
use Rattle.tall_script.specs.ScriptValues.{parts_of}
use Rattle.tall_deferred.specs.Groups.{group_vertices}
use Rattle.tall_deferred.specs.Lists.{followed}
use Rattle.tall_deferred.specs.Values.{at_seen}
use Rattle.tall_deferred.proofs.GroupLaws.{part_column}
use Rattle.tall_deferred.proofs.groups.group_columns.Given as goal

-- the columns so far, in front of those of the rest
abbrev pub invariant-loop-part : goal.invariant-loop-part
invariant-loop-part l = record {
  grown : l.graph ≡ l.fn.graph ++ take l.part (group_vertices (at_seen l.at) l.method l.args);
  within : AllBelow (length l.graph) l.nodes.items;
  count : length l.nodes.items ≡ l.part;
  given : (columns : Columns) (f : ℕ → Tall) → IsMeaning columns l.graph f
      → followed (map f l.nodes.items) (each_of (part_column (at_seen l.at) l.method l.args f) (drop l.part (parts_of l.method))) ≡ each_of (part_column (at_seen l.at) l.method l.args f) (parts_of l.method);
}
