use Rattle.std.proofs.Common.{arith, length, ◌≤◌, get_or}
use Rattle.tall_texts.proofs.TextLemmas.{text_here}
use Rattle.tall_texts.proofs.texts.append.Goals as goal

pub overflow_add-before : goal.overflow_add-before
overflow_add-before c =
    let within : get_or c.args.more_ends.now c.loop-end.end-index 0 ≤ length c.args.more.now =
    (text_here c.args.more.now 0 c.args.more_ends.now c.loop-end.end-index c.requires c.loop-end-test.true).1 in
    omega (arith, within, c.len-before.ensures, c.in_ok-extend_from_slice.ensures.len, c.extend_from_slice.new.self.small, c.extend_from_slice.new.self.ok)
