use Rattle.std.specs.Prelude.{◌+◌, [], ◌∷◌, drop, map}
use Rattle.std.proofs.Common.{rules, sym, subst, ap}
use Rattle.std.specs.List.{All}
use Rattle.std.proofs.lemmas.List.Elements.{All-nil, All-cons, All-append}
use Rattle.tall_local.specs.Arguments.{value_given}
use Rattle.tall_local.specs.Lists.{all_of}
use Rattle.tall_evaluate.specs.Senses.{ArgumentFits, ArgumentsFit, argument_seen}
use Rattle.tall_deferred.specs.Values.{IsLent, IsValue, lent_at, value_at}
use Rattle.tall_environment.specs.Values.{arguments_at}
use Rattle.tall_environment.proofs.ArgumentLaws.{ended, item_drop, next_given, nothing_left, stopped}
use Rattle.tall_environment.proofs.arguments.values_lent.Goals as goal

pub returns-in-Colon-clause-given : goal.returns-in-Colon-clause-given
returns-in-Colon-clause-given c = λ f.
    let k = c.loop-arg.arg-index in
    stopped f (drop k c.args.args.now) (drop (k + 1) c.args.args.now) c.arg-item.result (map (lent_at f) c.loop-arg.values.items) (all_of value_given (arguments_at f c.args.args.now))
    (item_drop c.args.args.now k c.arg-item.result c.loop-arg-test.true c.arg-item.is) (ap (λ a. value_given (argument_seen (value_at f) a)) c.in-Colon.is) (c.loop-arg.invariant.1 f)

pub returns-in-Function-clause-given : goal.returns-in-Function-clause-given
returns-in-Function-clause-given c = λ f.
    let k = c.loop-arg.arg-index in
    stopped f (drop k c.args.args.now) (drop (k + 1) c.args.args.now) c.arg-item.result (map (lent_at f) c.loop-arg.values.items) (all_of value_given (arguments_at f c.args.args.now))
    (item_drop c.args.args.now k c.arg-item.result c.loop-arg-test.true c.arg-item.is) (ap (λ a. value_given (argument_seen (value_at f) a)) c.in-Function.is) (c.loop-arg.invariant.1 f)

pub loop-arg-preserved : goal.loop-arg-preserved
loop-arg-preserved c =
    let k = c.loop-arg.arg-index in
    let x = c.arg-item.result in
    let is = item_drop c.args.args.now k x c.loop-arg-test.true c.arg-item.is in
    let pushed = c.added.ensures c.if-not-added.false in (
      λ n fit.
          let h = c.loop-arg.invariant.0 n fit in
          let fits = subst (ArgumentsFit (IsValue n)) is h.0 in
          let v = subst (ArgumentFits (IsValue n)) c.in-Given.is fits.0 in
          (fits.1, subst (All (IsLent n)) (sym pushed) (All-append (IsLent n) c.loop-arg.values.items (c.lend.result ∷ []) h.1 (All-cons (IsLent n) c.lend.result [] (c.lend.ensures.within n v) (All-nil (IsLent n))))),
      λ f.
          next_given f (drop k c.args.args.now) (drop (k + 1) c.args.args.now) x c.loop-arg.values.items c.added.new.values.items c.lend.result c.in-Given.value (all_of value_given (arguments_at f c.args.args.now))
          pushed (c.lend.ensures.value f) is c.in-Given.is (c.loop-arg.invariant.1 f),
    )

pub returns-clause-within : goal.returns-clause-within
returns-clause-within c = λ n fit. (c.loop-arg.invariant.0 n fit).1

pub returns-clause-given : goal.returns-clause-given
returns-clause-given c = λ f.
    ended f (drop c.loop-arg.arg-index c.args.args.now) (map (lent_at f) c.loop-arg.values.items) (all_of value_given (arguments_at f c.args.args.now))
    (nothing_left c.args.args.now c.loop-arg.arg-index (search rules)) (c.loop-arg.invariant.1 f)
