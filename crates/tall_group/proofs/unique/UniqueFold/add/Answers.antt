use Rattle.std.proofs.Common.{◌≡◌, sym, ◌∙◌}
use Rattle.tall_group.proofs.UniqueLemmas.{more_unique}
use Rattle.tall_group.proofs.unique.UniqueFold.add.Goals as goal

pub returns-clause-cells : goal.returns-clause-cells
returns-clause-cells c cs u = more_unique c.args.self.now c.place.new.self cs _ _ (sym c.is_nan.ensures ∙ c.if-is_nan.false) c.requires c.in_ok-place.ensures.class c.in_ok-place.ensures.key u
