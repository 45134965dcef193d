use Rattle.std.proofs.Common.{◌≡◌, ◌∙◌, [], ◌++◌}
use Rattle.std.proofs.lemmas.Result.{IfOk-at_ok}
use Rattle.tall_group.specs.UniqueFolds.{IsUniqueOf}
use Rattle.tall_functions.proofs.DistinctLemmas.{distinct_is}
use Rattle.tall_functions.proofs.distinct.distinct_cells.Goals as goal

pub returns : goal.returns
returns c =
    let x = c.args.x.now in
    let added = IfOk-at_ok (λ u. IsUniqueOf c.add_column.new.self ([] ++ x.cells)) c.in_ok-add_column.was (c.add_column.ensures.cells [] c.new-fold.ensures.none) in
    distinct_is x _ c.finish.result (c.add_column.ensures.class ∙ (c.new-fold.ensures.class ∙ c.class.ensures)) c.finish.ensures.class (c.finish.ensures.cells x.cells added)
