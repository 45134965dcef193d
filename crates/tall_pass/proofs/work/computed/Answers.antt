use Rattle.std.proofs.Common.{◌∙◌}
use Rattle.tall_plan.proofs.PlanLaws.{needed_there}
use Rattle.tall_pass.proofs.work.computed.Goals as goal

pub add_with_rows-requires : goal.add_with_rows-requires
add_with_rows-requires c = needed_there c.args.graph.now c.as_slice-2.result.now c.as_slice-3.result.now (c.as_slice-3.ensures.value ∙ c.in_ok-needed.ensures)
