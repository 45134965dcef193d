use Rattle.std.proofs.Common.{◌∙◌, ◌==◌, ap, drop}
use Rattle.std.specs.List.{list_all}
use Rattle.tall_num.proofs.Sizes.{zero_rest}
use Rattle.tall_num.proofs.size.is_zero_from.Goals as goal

pub returns-then-are_zeros : goal.returns-then-are_zeros
returns-then-are_zeros c =
    zero_rest c.args.decimal.now.whole.now c.args.decimal.now.fraction.now c.args.point c.are_zeros-then-are_zeros.result
    (c.if-are_zeros.ensures ∙ ap (list_all (λ b. b == 48)) c.digits_from.ensures)
    (c.are_zeros-then-are_zeros.ensures
    ∙ ap (list_all (λ b. b == 48)) c.digits_from-then-are_zeros.ensures
    ∙ ap (λ n. list_all (λ b. b == 48) (drop n c.args.decimal.now.fraction.now)) c.saturating_sub.ensures)
