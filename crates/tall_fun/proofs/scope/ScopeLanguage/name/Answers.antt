use Rattle.std.proofs.Common.{subst}
use Rattle.tall_local.specs.Expressions.{answered}
use Rattle.tall_local.specs.Locals.{read_local}
use Rattle.tall_local.specs.Names.{named}
use Rattle.tall_evaluate.specs.Senses.{Finds}
use Rattle.tall_fun.specs.Scopes.{scope_senses}
use Rattle.tall_fun.proofs.ScopeLaws.{name_finds}
use Rattle.tall_fun.proofs.scope.ScopeLanguage.name.Goals as goal

pub returns : goal.returns
returns c =
    let h : Finds scope_senses (λ i u. answered c.args.line u (read_local c.as_str.result.now (named u.names c.as_str.result.now))) c.args.self.now c.at_line.result
    = name_finds c.args.line c.as_str.result.now c.args.self.now c.at_line.result
    (c.at_line.ensures (read_local c.as_str.result.now (named c.args.self.now.names.now c.as_str.result.now)) c.value_named.ensures) in
    subst (λ n. Finds scope_senses (λ i u. answered c.args.line u (read_local n (named u.names n))) c.args.self.now c.at_line.result) c.as_str.ensures h
