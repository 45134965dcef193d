use Rattle.std.proofs.Common.{◌≡◌, ◌∙◌, ap, ◌++◌, subst, sym}
use Rattle.std.specs.List.{All}
use Rattle.tall_value.specs.Classes.{kind_of}
use Rattle.tall_group.specs.Keys.{nans_of}
use Rattle.tall_group.proofs.UniqueLemmas.{unique_cells}
use Rattle.tall_group.proofs.unique.UniqueFold.finish.Goals as goal

pub returns-clause-cells : goal.returns-clause-cells
returns-clause-cells c cs u =
    let s = c.in_ok-column.ensures in
    c.in_ok-add_nans.ensures.cells
    ∙ (ap (λ k. c.in_ok-column.field-0.column.cells ++ nans_of (kind_of k) c.args.self.nans) s.class ∙ unique_cells c.args.self cs _ _ s.sorted s.kinds u)
