use Rattle.std.proofs.Common.{subst, map}
use Rattle.tall_local.specs.Expressions.{answered}
use Rattle.tall_local.specs.Locals.{held_index}
use Rattle.tall_evaluate.specs.Senses.{DoesValue, argument_seen}
use Rattle.tall_fun.specs.Scopes.{scope_senses}
use Rattle.tall_fun.specs.Values.{held_seen}
use Rattle.tall_fun.proofs.ScopeLaws.{answered_does}
use Rattle.tall_fun.proofs.scope.ScopeLanguage.index.Goals as goal

pub returns-clause-does : goal.returns-clause-does
returns-clause-does c =
    let h : DoesValue scope_senses (λ i u. answered c.args.place.line u (held_index (held_seen c.args.whole) (map (argument_seen held_seen) c.as_slice.result.now))) c.args.self.now c.args.self.now c.at_line.result
    = answered_does c.args.place.line (held_index (held_seen c.args.whole) (map (argument_seen held_seen) c.as_slice.result.now)) c.args.self.now c.at_line.result
    (c.at_line.ensures (held_index (held_seen c.args.whole) (map (argument_seen held_seen) c.as_slice.result.now)) c.indexed.ensures) in
    subst (λ xs. DoesValue scope_senses (λ i u. answered c.args.place.line u (held_index (held_seen c.args.whole) (map (argument_seen held_seen) xs))) c.args.self.now c.args.self.now c.at_line.result)
    c.as_slice.ensures.value h
