use Rattle.std.proofs.Common.{sym, ap, ◌∙◌}
use Rattle.tall_value.specs.Cells.{amount}
use Rattle.tall_value.specs.CellOperators.{compared}
use Rattle.tall_operators.proofs.comparisons.order.Goals as goal

pub returns : goal.returns
returns g c =
    c.compared.ensures ∙ ap (λ o. compared o c.amount-2.result) c.amount.ensures
    ∙ ap (λ o. compared (amount (g.A.Operand.shown c.args.a)) o) c.amount-2.ensures
    ∙ sym (g.met.A.Operand.numeric c.args.a (g.B.Operand.shown c.args.b))
