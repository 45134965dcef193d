use Rattle.std.specs.Prelude.{[]}
use Rattle.std.proofs.Common.{◌∙◌}
use Rattle.tall_part.proofs.block.distinct_part.Goals as goal

pub returns : goal.returns
returns c = (c.add_column.ensures.class ∙ c.new-fold.ensures.class ∙ c.class.ensures, c.in_ok-add_column.ensures.cells [] c.new-fold.ensures.none)
