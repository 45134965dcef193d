use Rattle.std.specs.Prelude.{option_map}
use Rattle.tall_semantics.specs.Faults.{fault_seen}
use Rattle.tall_piece.proofs.StepLaws.{can_join, sums_fit, sums_step}
use Rattle.tall_piece.proofs.sums.Sums.join.Goals as goal

pub join_all-requires : goal.join_all-requires
join_all-requires c = can_join c.args.self.rows c.args.block.rows c.args.self.sums.items c.args.block.parts.items c.requires

pub returns-clause-fit : goal.returns-clause-fit
returns-clause-fit c vs ws f g =
    sums_fit vs c.args.self.rows c.args.block.rows ws c.args.self.sums.items c.args.block.parts.items c.in_ok-sums.sums.items c.in_ok-sums.ensures f g c.requires.4

pub returns-clause-step : goal.returns-clause-step
returns-clause-step c vs store all wanted p k h made e sums piece =
    sums_step p made k h e c.args.self.rows c.args.block.rows (option_map fault_seen c.args.self.fault) (option_map fault_seen c.earlier.result) (option_map fault_seen c.args.block.fault)
    c.args.self.sums.items c.args.block.parts.items c.in_ok-sums.sums.items sums piece c.earlier.ensures c.in_ok-sums.ensures c.requires.4
