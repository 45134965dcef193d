use Rattle.std.proofs.Common.{◌∙◌, sym, ap, subst, arith}
use Rattle.tall_value.specs.Cells.{seen}
use Rattle.tall_kv.specs.ByKey.{with_value_at}
use Rattle.tall_kv.specs.Stores.{rows_pairs}
use Rattle.tall_kv.proofs.ByKeyLemmas.{IsGrouped, all_grouped, have_the_class, more_grouped, place_within, take_next}
use Rattle.tall_kv.proofs.groups.group.Goals as goal

pub add_value-requires-clause-place : goal.add_value-requires-clause-place
add_value-requires-clause-place c =
    place_within _ _ _ _ _ _ (seen c.pair-key.result.0) c.in_ok-place.is_new c.in_ok-place.place c.loop-row.invariant c.in_ok-place.ensures.new c.in_ok-place.ensures.place

pub add_value-requires-clause-classes : goal.add_value-requires-clause-classes
add_value-requires-clause-classes c k d h = have_the_class _ _ _ _ _ _ c.loop-row.invariant k d h ∙ sym c.class-in-loop-row.ensures

pub loop-row-preserved : goal.loop-row-preserved
loop-row-preserved c =
    let rows = c.args.rows.now in
    let keys = c.add_key.new.keys in
    let met = c.place.new.met.keys in
    let columns = c.add_value.new.columns.items in
    subst (λ ps. IsGrouped rows.values.class rows.keys.class ps keys met columns) (sym (take_next (rows_pairs rows) c.loop-row.row _ c.pair-key.ensures.pair))
    (more_grouped _ _ _ _ keys _ met _ columns _ c.in_ok-place.is_new c.in_ok-place.place c.loop-row.invariant c.in_ok-place.ensures.new c.in_ok-place.ensures.place c.in_ok-add_key.ensures
    c.in_ok-place.ensures.keys
    (c.in_ok-add_value.ensures ∙ ap (λ class. with_value_at class c.loop-row.columns.items c.in_ok-place.place c.in_ok-place.is_new (seen c.pair-key.result.1)) c.class-in-loop-row.ensures)
    c.pair-key.ensures.value)

pub returns : goal.returns
returns c =
    all_grouped _ _ c.loop-row.row (rows_pairs c.args.rows.now) _ _ _ c.loop-row.invariant
    (let all = c.len-row-end.ensures.pairs in let end = c.loop-row-test.false in omega (arith, all, end))
