use Rattle.std.specs.Prelude.{◌+◌, [], ◌∷◌, drop, map}
use Rattle.std.proofs.Common.{ap, rules, sym, ◌∙◌}
use Rattle.std.specs.Vec.Iter.{into_iter_items}
use Rattle.tall_local.specs.Names.{put_name}
use Rattle.tall_deferred.specs.declared.values.ScriptValue.TheVariants as kept
use Rattle.tall_deferred.specs.Values.{shared_seen}
use Rattle.tall_script.specs.Statements.{set_names}
use Rattle.tall_environment.specs.Environments.{state_at}
use Rattle.tall_environment.proofs.ArgumentLaws.{item_drop, nothing_left}
use Rattle.tall_statements.proofs.Naming.{named_more, names_end, names_more, values_end}
use Rattle.tall_statements.proofs.assigning.assign_each.Goals as goal

pub loop-name-preserved : goal.loop-name-preserved
loop-name-preserved c =
    let k = c.loop-name.name-index in
    let n = c.as_str.result.now in (
      names_more c.args.environment.now c.loop-name.environment c.assign.new.environment (put_name n (kept.Memory c.in-Some.value) c.loop-name.environment.names) c.loop-name.invariant.0 c.in_ok-assign.ensures.ok,
      λ columns f m.
          named_more f c.args.shown columns n (drop (k + 1) c.args.names.now) (drop k c.args.names.now) c.in-Some.value (into_iter_items c.next_value.new.values) (into_iter_items c.loop-name.values)
          c.loop-name.text.items c.assign.new.text.items c.args.environment.now c.loop-name.environment c.assign.new.environment (set_names c.args.shown c.args.names.now (map shared_seen c.args.values.items) [] (state_at f c.args.environment.now))
          c.loop-name.invariant.0 (item_drop c.args.names.now k c.name-item.result c.loop-name-test.true c.name-item.is ∙ ap (λ m. m ∷ drop (k + 1) c.args.names.now) (sym c.as_str.ensures)) c.in-Some.ensures.some c.in_ok-assign.ensures.ok (c.in_ok-assign.ensures.text columns f) m (c.loop-name.invariant.1 columns f),
    )

pub returns-clause-named : goal.returns-clause-named
returns-clause-named c = λ columns f m.
    names_end f c.args.shown (drop c.loop-name.name-index c.args.names.now) (into_iter_items c.loop-name.values) c.loop-name.text.items c.loop-name.environment (set_names c.args.shown c.args.names.now (map shared_seen c.args.values.items) [] (state_at f c.args.environment.now))
    (nothing_left c.args.names.now c.loop-name.name-index (search rules)) (c.loop-name.invariant.1 columns f m)

pub returns-in_default-clause-named : goal.returns-in_default-clause-named
returns-in_default-clause-named c = λ columns f m.
    values_end f c.args.shown (drop c.loop-name.name-index c.args.names.now) (into_iter_items c.loop-name.values) c.loop-name.text.items c.loop-name.environment (set_names c.args.shown c.args.names.now (map shared_seen c.args.values.items) [] (state_at f c.args.environment.now))
    c.in_default.ensures.none (c.loop-name.invariant.1 columns f m)
