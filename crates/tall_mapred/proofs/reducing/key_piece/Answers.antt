use Rattle.tall_grammar.specs.Views.{routine_of}
use Rattle.tall_value.specs.Cells.{seen}
use Rattle.tall_mapred.proofs.PieceLaws.{group_at}
use Rattle.tall_mapred.proofs.WindowLaws.{key_piece_at}
use Rattle.tall_mapred.proofs.reducing.key_piece.Goals as goal

pub returns : goal.returns
returns c =
    key_piece_at (routine_of c.args.function.now) c.args.groups.now c.args.i (record { key = seen c.key-key.result; values = c.values.result.now }) c.reduce_piece.result
    (group_at c.args.groups.now c.args.i (seen c.key-key.result) c.values.result.now c.key-key.ensures c.values.ensures) c.reduce_piece.ensures
