use Rattle.std.proofs.Common.{subst}
use Rattle.std.specs.Prelude.{Ok}
use Rattle.tall_value.specs.Cells.{text}
use Rattle.tall_local.specs.Expressions.{answered}
use Rattle.tall_local.specs.Locals.{value}
use Rattle.tall_local.specs.Memory.{scalar}
use Rattle.tall_evaluate.specs.Senses.{Finds}
use Rattle.tall_fun.specs.Scopes.{scope_senses}
use Rattle.tall_fun.proofs.ScopeLaws.{answered_finds}
use Rattle.tall_fun.proofs.scope.ScopeLanguage.text.Goals as goal

pub returns : goal.returns
returns c =
    let h : Finds scope_senses (λ i u. answered 0 u (Ok (value (scalar (text c.as_str.result.now))))) c.args.self.now c.at_line.result
    = answered_finds 0 (Ok (value (scalar (text c.as_str.result.now)))) c.args.self.now c.at_line.result
    (c.at_line.ensures (Ok (value (scalar (text c.as_str.result.now)))) c.kept_scalar.ensures) in
    subst (λ t. Finds scope_senses (λ i u. answered 0 u (Ok (value (scalar (text t))))) c.args.self.now c.at_line.result) c.as_str.ensures h
