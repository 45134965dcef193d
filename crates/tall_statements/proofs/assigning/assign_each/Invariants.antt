use Rattle.std.specs.Prelude.{◌≡◌, ℕ, [], drop, map}
use Rattle.std.specs.Vec.Iter.{into_iter_items}
use Rattle.tall_semantics.specs.Deferred.{IsMeaning}
use Rattle.tall_semantics.specs.Talls.{Columns, Tall}
use Rattle.tall_deferred.specs.Values.{shared_seen}
use Rattle.tall_script.specs.Statements.{set_names}
use Rattle.tall_environment.specs.Environments.{state_at}
use Rattle.tall_statements.proofs.assigning.assign_each.Given as goal

-- the names and values from here on leave what all leave
abbrev pub invariant-loop-name : goal.invariant-loop-name
invariant-loop-name l =
    (l.environment ≡ record l.fn.environment { names = l.environment.names })
    × ((columns : Columns) (f : ℕ → Tall) → IsMeaning columns l.fn.environment.graph f
    → set_names l.shown (drop l.name-index l.names) (map shared_seen (into_iter_items l.values)) l.text.items (state_at f l.environment) ≡ set_names l.shown l.names (map shared_seen l.fn.values.items) [] (state_at f l.fn.environment))
