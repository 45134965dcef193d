use Rattle.tall_part.proofs.BlockLaws.{distinct_some, group_some, head_rows, head_some, reduction_some, tail_rows, tail_some}
use Rattle.std.specs.Prelude.{ℕ, ◌-◌}
use Rattle.std.proofs.Common.{ap, ◌∙◌}
use Rattle.tall_part.proofs.part.EndPart.of_columns.Goals as goal

pub returns-in-Reduce-clause-some : goal.returns-in-Reduce-clause-some
returns-in-Reduce-clause-some c =
    reduction_some c.args.operation c.in-Reduce.reduction c.args.first.now.class c.args.last.now.class c.args.first.now.cells c.reduction_part.result c.in-Reduce.is c.reduction_part.ensures

pub returns-in-Head-clause-some : goal.returns-in-Head-clause-some
returns-in-Head-clause-some c =
    head_some c.args.operation c.in-Head.k 0 c.args.first.now.class c.args.last.now.class c.args.numbers.now c.args.first.now.cells c.ends_part.result c.in-Head.is c.ends_part.ensures

pub returns-in-Head-clause-rows : goal.returns-in-Head-clause-rows
returns-in-Head-clause-rows c rs ss x y z =
    head_rows c.args.operation c.in-Head.k c.args.first.now.class c.args.last.now.class c.args.numbers.now c.args.first.now.cells c.ends_part.result c.in-Head.is c.ends_part.ensures rs ss x z

pub returns-in-Tail-clause-some : goal.returns-in-Tail-clause-some
returns-in-Tail-clause-some c =
    tail_some c.args.operation c.in-Tail.k c.kept_rows-from.result.0 c.args.first.now.class c.args.last.now.class c.args.numbers.now c.args.first.now.cells c.ends_part-in-Tail.result c.in-Tail.is c.ends_part-in-Tail.ensures

pub returns-in-Tail-clause-rows : goal.returns-in-Tail-clause-rows
returns-in-Tail-clause-rows c rs ss x y z =
    tail_rows c.args.operation c.in-Tail.k c.kept_rows-from.result.0 c.args.first.now.class c.args.last.now.class c.args.numbers.now c.args.first.now.cells c.ends_part-in-Tail.result c.in-Tail.is
    (c.kept_rows-from.ensures.from ∙ ap (λ (n : ℕ). n - c.in-Tail.k) c.len.ensures) c.ends_part-in-Tail.ensures rs ss x z

pub returns-in-Distinct-clause-some : goal.returns-in-Distinct-clause-some
returns-in-Distinct-clause-some c =
    distinct_some c.args.operation c.args.first.now.class c.args.last.now.class c.args.first.now.cells c.distinct_part.result c.in-Distinct.is c.distinct_part.ensures

pub returns-in-Group-clause-some : goal.returns-in-Group-clause-some
returns-in-Group-clause-some c =
    group_some c.args.operation c.in-Group.method c.args.first.now.class c.args.last.now.class c.args.first.now.cells c.args.last.now.cells c.group_part.result c.in-Group.is c.group_part.ensures
