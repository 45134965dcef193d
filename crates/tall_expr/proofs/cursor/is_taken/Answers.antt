use Rattle.std.proofs.Common.{◌∙◌}
use Rattle.tall_expr.proofs.Turns.{among}
use Rattle.tall_expr.proofs.cursor.is_taken.Goals as goal

pub returns : goal.returns
returns c = c.contains.ensures ∙ among c.args.text.now c.args.names.now.keys
