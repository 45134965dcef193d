use Rattle.std.proofs.Common.{◌≡◌, ◌+◌, rules}
use Rattle.tall_group.proofs.UniqueLemmas.{joined_unique}
use Rattle.tall_group.proofs.unique.UniqueFold.join.Goals as goal

pub returns-clause-cells : goal.returns-clause-cells
returns-clause-cells c cs ds u v =
    let n : c.in_ok-self.field-0 ≡ c.args.self.now.nans + c.args.later.nans = search rules in
    joined_unique c.args.self.now c.args.later c.place_keys.new.self _ cs ds _ c.requires c.in_ok-place_keys.ensures.class c.in_ok-place_keys.ensures.places n u v
