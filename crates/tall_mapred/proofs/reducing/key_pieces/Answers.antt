use Rattle.tall_grammar.specs.Views.{routine_of}
use Rattle.tall_mapred.specs.Pieces.{IsReducePiece}
use Rattle.tall_mapred.proofs.WindowLaws.{window_answer}
use Rattle.tall_mapred.proofs.reducing.key_pieces.Goals as goal

pub returns : goal.returns
returns g c = window_answer (IsReducePiece (routine_of c.args.function.now)) c.args.groups.now c.args.first c.args.count c.work.result c.requires.within c.work.ensures.all c.work.ensures.right
