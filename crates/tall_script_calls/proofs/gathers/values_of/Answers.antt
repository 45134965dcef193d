use Rattle.std.specs.Prelude.{length, map}
use Rattle.std.specs.List.{All, flat_map}
use Rattle.std.specs.Vec.Iter.{into_iter_items}
use Rattle.std.proofs.Common.{subst}
use Rattle.std.proofs.lemmas.List.Elements.{All-head, All-tail}
use Rattle.tall_deferred.specs.Values.{IsValue}
use Rattle.tall_script_calls.specs.GatheredValues.{memories_by, nodes_in, single_in}
use Rattle.tall_script_calls.proofs.GatherLists.{first_column, more_put}
use Rattle.tall_script_calls.proofs.gathers.values_of.Goals as goal

pub value_of-requires : goal.value_of-requires
value_of-requires c =
    All-head (IsValue (length c.args.graph.now)) c.in-Some.value (into_iter_items c.next_value.new.values) (subst (All (IsValue (length c.args.graph.now))) c.in-Some.ensures.some c.loop-value.invariant.0)

pub loop-value-preserved : goal.loop-value-preserved
loop-value-preserved c =
    let rest = into_iter_items c.next_value.new.values in
    let single = single_in c.args.graph.now in (
      All-tail (IsValue (length c.args.graph.now)) c.in-Some.value rest (subst (All (IsValue (length c.args.graph.now))) c.in-Some.ensures.some c.loop-value.invariant.0),
      λ g e.
          let h = c.loop-value.invariant.1 g e in
          let columns = first_column g (into_iter_items c.loop-value.columns) (into_iter_items c.loop-value.values) rest c.in-Some.value c.in-Some.ensures.some h.0 in
          let told = c.in_ok-one.ensures g (map g (flat_map nodes_in rest)) columns in
          more_put single g (into_iter_items c.value_of.new.columns) c.loop-value.found.items c.push.new.self.items c.in_ok-one.one (into_iter_items c.loop-value.values) rest c.in-Some.value
          (memories_by single g c.args.values.items) c.in-Some.ensures.some c.in_ok-push.ensures.items told h.1,
    )
