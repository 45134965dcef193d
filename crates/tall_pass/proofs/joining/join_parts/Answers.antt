use Rattle.std.proofs.Common.{◌<◌, ◌+◌, ◌^◌, refl, rules}
use Rattle.tall_pass.proofs.JoiningLaws.{one_joined}
use Rattle.tall_pass.proofs.joining.join_parts.Goals as goal

pub returns-in-Ok-clause-goes : goal.returns-in-Ok-clause-goes
returns-in-Ok-clause-goes c =
    let few : c.args.joined.sums.rows + c.args.parts.rows < 2 ^ 40 = search rules in
    λ w blocks b has right. one_joined w blocks b c.args.joined c.args.parts c.in-Ok.sums (c.args.joined.blocks + 1) has right few c.in-Ok.ensures.rows c.in-Ok.ensures.fit c.in-Ok.ensures.step refl
