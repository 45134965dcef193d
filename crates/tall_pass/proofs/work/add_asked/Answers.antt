use Rattle.std.proofs.Common.{arith, sym, ◌∙◌}
use Rattle.std.specs.Prelude.{length}
use Rattle.tall_plan.proofs.MarkLaws.{args_below}
use Rattle.tall_pass.proofs.WorkLaws.{operands_asked}
use Rattle.tall_pass.proofs.work.add_asked.Goals as goal

pub add_with_rows-requires : goal.add_with_rows-requires
add_with_rows-requires c =
    args_below c.args.graph.now c.args.n c.args_of.result.now c.requires c.args_of.ensures (length c.args.graph.now) c.keeps_its_rules.ensures.ordered
    (let l = c.requires in omega (arith, l))

pub returns-in_ok-add_with_rows : goal.returns-in_ok-add_with_rows
returns-in_ok-add_with_rows c =
    operands_asked c.args.graph.now c.args.store c.args.level c.args.n c.args_of.result.now c.args.asked.now.items c.add_with_rows.new.found.items
    c.requires (sym c.is_own.ensures ∙ c.if-is_own.false) c.args_of.ensures c.in_ok-add_with_rows.ensures
