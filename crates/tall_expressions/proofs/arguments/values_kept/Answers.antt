use Rattle.std.proofs.Common.{ap, ◌∙◌, ◌∷◌}
use Rattle.std.specs.Vec.Iter.{into_iter_items}
use Rattle.tall_local.specs.Arguments.{value_given}
use Rattle.tall_local.specs.Lists.{all_of}
use Rattle.tall_evaluate.specs.Senses.{argument_seen}
use Rattle.tall_deferred.specs.Values.{value_at}
use Rattle.tall_environment.specs.Values.{arguments_at}
use Rattle.tall_expressions.proofs.ArgumentLaws.{no_value, none_left, one_more_fits, value_more}
use Rattle.tall_expressions.proofs.arguments.values_kept.Goals as goal

pub returns-in-Colon-clause-given : goal.returns-in-Colon-clause-given
returns-in-Colon-clause-given c = λ f.
    no_value f c.loop-arg.values.items (into_iter_items c.loop-arg.rest) (into_iter_items c.next_argument.new.args) c.in-Some.arg (all_of value_given (arguments_at f c.args.args.items))
    c.in-Some.ensures.some (ap (λ a. value_given (argument_seen (value_at f) a)) c.in-Colon.is) (c.loop-arg.invariant.1 f)

pub returns-in-Function-clause-given : goal.returns-in-Function-clause-given
returns-in-Function-clause-given c = λ f.
    no_value f c.loop-arg.values.items (into_iter_items c.loop-arg.rest) (into_iter_items c.next_argument.new.args) c.in-Some.arg (all_of value_given (arguments_at f c.args.args.items))
    c.in-Some.ensures.some (ap (λ a. value_given (argument_seen (value_at f) a)) c.in-Function.is) (c.loop-arg.invariant.1 f)

pub loop-arg-preserved : goal.loop-arg-preserved
loop-arg-preserved c =
    let rest = into_iter_items c.next_argument.new.args in
    let is = c.in-Some.ensures.some ∙ ap (λ a. a ∷ rest) c.in-Given.is in
    let pushed = c.added.ensures c.if-not-added.false in (
      λ n fit. one_more_fits n c.loop-arg.values.items c.added.new.values.items (into_iter_items c.loop-arg.rest) rest c.in-Given.value is pushed (c.loop-arg.invariant.0 n fit),
      λ f.
          value_more f c.loop-arg.values.items (into_iter_items c.loop-arg.rest) rest c.in-Given.value c.added.new.values.items (all_of value_given (arguments_at f c.args.args.items)) is pushed
          (c.loop-arg.invariant.1 f),
    )

pub returns-clause-within : goal.returns-clause-within
returns-clause-within c = λ n fit. (c.loop-arg.invariant.0 n fit).1

pub returns-clause-given : goal.returns-clause-given
returns-clause-given c = λ f.
    none_left f c.loop-arg.values.items (into_iter_items c.loop-arg.rest) (all_of value_given (arguments_at f c.args.args.items)) c.in_default.ensures.none (c.loop-arg.invariant.1 f)
