use Rattle.tall_parse.proofs.function_steps.+steps.Given as goal

abbrev pub decreases-steps : goal.decreases-steps
decreases-steps l = l.blocks
