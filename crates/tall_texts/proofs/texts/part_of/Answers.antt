use Rattle.tall_texts.proofs.Windows.{part-cut, part-texts}
use Rattle.tall_texts.proofs.texts.part_of.Goals as goal

pub invariant_of-result : goal.invariant_of-result
invariant_of-result c =
    part-cut c.args.bytes.now c.args.ends.now c.in_ok-bytes.bytes.items c.in_ok-ends.ends.items c.args.from c.args.to c.window-start.result.0 c.window-start.result.1
    c.requires.cut c.requires.ordered c.requires.within c.window-start.ensures.first c.window-start.ensures.last c.in_ok-bytes.ensures.items c.in_ok-ends.ensures

pub returns : goal.returns
returns c =
    part-texts c.args.bytes.now c.args.ends.now c.in_ok-bytes.bytes.items c.in_ok-ends.ends.items c.args.from c.args.to c.window-start.result.0 c.window-start.result.1
    c.requires.cut c.requires.ordered c.requires.within c.window-start.ensures.first c.window-start.ensures.last c.in_ok-bytes.ensures.items c.in_ok-ends.ensures
