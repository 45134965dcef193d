use Rattle.std.specs.Prelude.{◌++◌, false, true, length, map}
use Rattle.std.proofs.Common.{ap, subst, sym, ◌∙◌}
use Rattle.tall_semantics.specs.Deferred.{AllBelow}
use Rattle.tall_semantics.specs.ShapesInOrder.{IsMade}
use Rattle.tall_sources.specs.Sources.{store_in}
use Rattle.tall_script.specs.Gathers.{gather_all}
use Rattle.tall_environment.specs.declared.failures.Refusal.TheVariants as r
use Rattle.tall_environment.specs.Environments.{state_at}
use Rattle.tall_environment.specs.Expressions.{memories_at, values_at}
use Rattle.tall_environment.specs.MoveLaws.{moves_none}
use Rattle.tall_script_calls.specs.GatherFailures.{IsFailureOf}
use Rattle.tall_script_calls.specs.GatheredValues.{memories_by, openings_by, single_in}
use Rattle.tall_script_calls.proofs.GatherAnswers.{answered_failure, answered_memory, answered_values, memory, refused, roots_are, sense_before, tested_all}
use Rattle.tall_script_calls.proofs.GatherFailureLaws.{Stops, blamed, same_graph, same_stores}
use Rattle.tall_script_calls.proofs.GatherTells.{opens_from, refused_is}
use Rattle.tall_script_calls.proofs.GatheredLaws.{roots_below}
use Rattle.tall_script_calls.proofs.gathers.gather_all.Goals as goal

pub returns-then-not-may_gather_all-clause-moves : goal.returns-then-not-may_gather_all-clause-moves
returns-then-not-may_gather_all-clause-moves g c = moves_none g.S.Shelf c.args.environment.now c.args.shelf.now

pub returns-then-not-may_gather_all-clause-tells : goal.returns-then-not-may_gather_all-clause-tells
returns-then-not-may_gather_all-clause-tells g c = λ files held columns f sense.
    refused (memories_at f) (gather_all c.args.line (values_at f c.args.values.items) (state_at f c.args.environment.now)) (state_at f c.args.environment.now) c.args.line r.BadClass
    (refused_is c.args.line f c.args.values.items (state_at f c.args.environment.now) (tested_all c.as_slice.result.now c.args.values.items c.may_gather_all.result false c.as_slice.ensures.value c.may_gather_all.ensures c.if-not-may_gather_all.true))

pub returns-in_default-clause-moves : goal.returns-in_default-clause-moves
returns-in_default-clause-moves g c = moves_none g.S.Shelf c.args.environment.now c.args.shelf.now

pub returns-in_default-clause-tells : goal.returns-in_default-clause-tells
returns-in_default-clause-tells g c = λ files held columns f sense.
    memory (memories_at f) (gather_all c.args.line (values_at f c.args.values.items) (state_at f c.args.environment.now)) (state_at f c.args.environment.now) (opens_from c.args.line (values_at f c.args.values.items) (state_at f c.args.environment.now))

pub columns_of-requires-clause-roots : goal.columns_of-requires-clause-roots
columns_of-requires-clause-roots g c κs within =
    subst (AllBelow (length c.args.environment.now.graph)) (sym (roots_are c.as_slice-3.result.now c.in-Ok.roots.items c.as_slice-2.result.now c.args.values.items c.as_slice-3.ensures.value c.in-Ok.ensures c.as_slice-2.ensures.value))
    (roots_below (length c.args.environment.now.graph) c.args.values.items c.requires.within)

pub returns-in-Ok-values_of-clause-tells : goal.returns-in-Ok-values_of-clause-tells
returns-in-Ok-values_of-clause-tells g c = λ files held columns f sense.
    let same = c.columns_of.ensures.same in
    let opened = c.args.environment.now.opened ++ openings_by c.args.environment.now c.as_slice-3.result.now in
    let told = c.in-Ok-columns_of.ensures.told files held columns f (sense_before files c.args.environment.now c.columns_of.new.environment columns f opened same sense) in
    let graph = c.graph-in-Ok-columns_of.ensures ∙ same_graph c.args.environment.now c.columns_of.new.environment opened same in
    answered_values c.args.line files c.args.environment.now c.columns_of.new.environment columns f c.args.values.items c.as_slice-3.result.now
    (tested_all c.as_slice.result.now c.args.values.items c.may_gather_all.result true c.as_slice.ensures.value c.may_gather_all.ensures c.if-not-may_gather_all.false)
    (roots_are c.as_slice-3.result.now c.in-Ok.roots.items c.as_slice-2.result.now c.args.values.items c.as_slice-3.ensures.value c.in-Ok.ensures c.as_slice-2.ensures.value) (subst IsMade c.graph.ensures c.keeps_its_rules.ensures.made) c.requires.within same sense
    c.in-Ok-values_of.found c.in-Ok-columns_of.columns.items told c.in-Ok-columns_of.ensures.columns.many (λ h e. c.in-Ok-values_of.ensures h e ∙ ap (λ vs. memories_by (single_in vs) h c.args.values.items) graph)

pub returns-in-Ok-columns_of-clause-tells : goal.returns-in-Ok-columns_of-clause-tells
returns-in-Ok-columns_of-clause-tells g c = λ files held columns f sense.
    answered_memory c.args.line files c.args.environment.now c.columns_of.new.environment columns f c.args.values.items c.as_slice-3.result.now
    (tested_all c.as_slice.result.now c.args.values.items c.may_gather_all.result true c.as_slice.ensures.value c.may_gather_all.ensures c.if-not-may_gather_all.false)
    (roots_are c.as_slice-3.result.now c.in-Ok.roots.items c.as_slice-2.result.now c.args.values.items c.as_slice-3.ensures.value c.in-Ok.ensures c.as_slice-2.ensures.value) (subst IsMade c.graph.ensures c.keeps_its_rules.ensures.made) c.requires.within c.columns_of.ensures.same sense

pub returns-clause-tells : goal.returns-clause-tells
returns-clause-tells g c = λ files held columns f sense.
    let same = c.columns_of.ensures.same in
    let opened = c.args.environment.now.opened ++ openings_by c.args.environment.now c.as_slice-3.result.now in
    let told = c.in-Err.ensures.told files held columns f (sense_before files c.args.environment.now c.columns_of.new.environment columns f opened same sense) in
    answered_failure c.args.line files c.args.environment.now c.columns_of.new.environment columns f c.args.values.items c.as_slice-3.result.now
    (tested_all c.as_slice.result.now c.args.values.items c.may_gather_all.result true c.as_slice.ensures.value c.may_gather_all.ensures c.if-not-may_gather_all.false)
    (roots_are c.as_slice-3.result.now c.in-Ok.roots.items c.as_slice-2.result.now c.args.values.items c.as_slice-3.ensures.value c.in-Ok.ensures c.as_slice-2.ensures.value) (subst IsMade c.graph.ensures c.keeps_its_rules.ensures.made) c.requires.within same sense
    c.in-Err.fault c.failure_of.result told (subst (λ stores. Stops stores c.in-Err.fault c.failure_of.result) (same_stores c.args.environment.now c.columns_of.new.environment opened same) c.failure_of.ensures.stops)

pub returns-clause-blames : goal.returns-clause-blames
returns-clause-blames g c =
    let opened = c.args.environment.now.opened ++ openings_by c.args.environment.now c.as_slice-3.result.now in
    blamed g.S.Shelf (map store_in c.args.environment.now.stores) c.args.shelf.now c.columns_of.new.shelf c.in-Err.fault c.failure_of.result
    (subst (λ stores. IsFailureOf (map store_in stores) c.in-Err.fault c.failure_of.result) (same_stores c.args.environment.now c.columns_of.new.environment opened c.columns_of.ensures.same) c.failure_of.ensures.failed) c.in-Err.ensures.caused c.in-Err.ensures.possible
