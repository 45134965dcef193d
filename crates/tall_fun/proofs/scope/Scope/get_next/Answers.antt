use Rattle.std.proofs.Common.{◌∙◌, ◌≤◌, sym, subst, refl, map}
use Rattle.std.specs.Prelude.{Ok, Err}
use Rattle.tall_value.specs.Cells.{seen}
use Rattle.tall_local.specs.Locals.{value}
use Rattle.tall_local.specs.Memory.{scalar}
use Rattle.tall_local.specs.Refusals.{bad_argument}
use Rattle.tall_evaluate.specs.Senses.{argument_seen}
use Rattle.tall_fun.specs.Values.{held_seen}
use Rattle.tall_fun.proofs.ScopeLaws.{bad_is, not_only, none_left, next_given}
use Rattle.tall_fun.proofs.scope.Scope.get_next.Goals as goal

pub returns-then-not-is_only_iterator : goal.returns-then-not-is_only_iterator
returns-then-not-is_only_iterator c =
    not_only c.args.line (map (argument_seen held_seen) c.args.args.now) c.args.self.now c.at_line.result (sym c.is_only_iterator.ensures ∙ c.if-not-is_only_iterator.true)
    (c.at_line.ensures (Err bad_argument) bad_is)

pub returns-then-self-len : goal.returns-then-self-len
returns-then-self-len c =
    none_left c.args.line (map (argument_seen held_seen) c.args.args.now) c.args.self.now _ (sym c.is_only_iterator.ensures ∙ c.if-not-is_only_iterator.false)
    (subst (λ n. n ≤ c.args.self.now.given) c.len.ensures c.if-self-len.true) refl

pub returns : goal.returns
returns c =
    next_given c.args.line (map (argument_seen held_seen) c.args.args.now) c.args.self.now _ c.at_line-value.result (seen c.get.result) (sym c.is_only_iterator.ensures ∙ c.if-not-is_only_iterator.false)
    refl c.get.ensures.cell (c.at_line-value.ensures (Ok (value (scalar (seen c.get.result)))) c.kept_scalar.ensures)
