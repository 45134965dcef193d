use Rattle.std.proofs.Common.{◌*◌, ◌^◌, ◌∙◌, ap, take}
use Rattle.tall_num.specs.Sizes.{capped}
use Rattle.tall_num.specs.Spelling.{digits_onto}
use Rattle.tall_num.proofs.Sizes.{size_join}
use Rattle.tall_num.proofs.size.size_before.Goals as goal

pub returns : goal.returns
returns c =
    let front = c.read_onto-front.ensures ∙ ap (λ t. capped (digits_onto 0 t)) c.digits_before.ensures.digits in
    let number =
    c.read_onto-number.ensures
    ∙ ap (λ t. capped (digits_onto c.read_onto-front.result t)) c.digits_before-2.ensures.digits
    ∙ ap (λ n. capped (digits_onto c.read_onto-front.result (take n c.args.decimal.now.fraction.now))) c.saturating_sub.ensures in
    c.with_zeros.ensures
    ∙ ap (λ n. capped (c.read_onto-number.result * 10 ^ n)) c.saturating_sub-2.ensures
    ∙ size_join c.args.decimal.now.whole.now c.args.decimal.now.fraction.now c.args.point c.read_onto-front.result c.read_onto-number.result front number
