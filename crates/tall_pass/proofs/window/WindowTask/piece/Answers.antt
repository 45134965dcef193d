use Rattle.tall_pass.proofs.TruncatedWays.{are_ways}
use Rattle.tall_pass.proofs.window.WindowTask.piece.Goals as goal

pub block_piece-requires-clause-ways : goal.block_piece-requires-clause-ways
block_piece-requires-clause-ways c = are_ways c.args.self.now.shared.graph.now c.args.self.now.shared.wanted.now c.args.self.now.ways
