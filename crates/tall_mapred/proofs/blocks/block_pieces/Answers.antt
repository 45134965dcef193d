use Rattle.tall_grammar.specs.Views.{routine_of}
use Rattle.tall_mapred.specs.Pieces.{IsBlockPiece}
use Rattle.tall_mapred.proofs.WindowLaws.{whole_answer}
use Rattle.tall_mapred.proofs.blocks.block_pieces.Goals as goal

pub returns : goal.returns
returns g c = whole_answer (IsBlockPiece c.args.shared.now.store.now (routine_of c.args.shared.now.function.now)) c.args.blocks.now c.work.result c.work.ensures.all c.work.ensures.right
