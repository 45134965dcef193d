use Rattle.std.proofs.Common.{subst}
use Rattle.tall_local.specs.Expressions.{answered}
use Rattle.tall_local.specs.Locals.{with_memory}
use Rattle.tall_local.specs.MemoryIndexing.{memory_member}
use Rattle.tall_evaluate.specs.Senses.{DoesValue}
use Rattle.tall_fun.specs.Scopes.{scope_senses}
use Rattle.tall_fun.specs.Values.{held_seen}
use Rattle.tall_fun.proofs.ScopeLaws.{answered_does}
use Rattle.tall_fun.proofs.scope.ScopeLanguage.member.Goals as goal

pub returns-clause-does : goal.returns-clause-does
returns-clause-does c =
    let h : DoesValue scope_senses (λ i u. answered c.args.place.line u (with_memory (held_seen c.args.whole) (λ v. memory_member v c.as_str.result.now))) c.args.self.now c.args.self.now c.at_line.result
    = answered_does c.args.place.line (with_memory (held_seen c.args.whole) (λ v. memory_member v c.as_str.result.now)) c.args.self.now c.at_line.result
    (c.at_line.ensures (with_memory (held_seen c.args.whole) (λ v. memory_member v c.as_str.result.now)) c.member_of.ensures) in
    subst (λ n. DoesValue scope_senses (λ i u. answered c.args.place.line u (with_memory (held_seen c.args.whole) (λ v. memory_member v n))) c.args.self.now c.args.self.now c.at_line.result) c.as_str.ensures h
