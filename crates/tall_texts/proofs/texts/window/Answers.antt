use Rattle.std.proofs.Common.{arith}
use Rattle.tall_texts.proofs.Windows.{begin-ordered, begin-within}
use Rattle.tall_texts.proofs.texts.window.Goals as goal

pub returns-clause-ordered : goal.returns-clause-ordered
returns-clause-ordered c =
    omega (arith, c.begin-start.ensures, c.begin-end.ensures, begin-ordered c.args.bytes.now 0 c.args.ends.now c.args.from c.args.to c.requires.cut c.requires.ordered)

pub returns-clause-inside : goal.returns-clause-inside
returns-clause-inside c = omega (arith, c.begin-end.ensures, begin-within c.args.bytes.now 0 c.args.ends.now c.args.to c.requires.cut)
