use Rattle.std.proofs.Common.{arith}
use Rattle.std.proofs.lemmas.List.{length-take}
use Rattle.tall_scan.proofs.Fronts.{front_left}
use Rattle.tall_scan.proofs.source.Source.begin.Goals as goal

pub returns-clause-left : goal.returns-clause-left
returns-clause-left g c =
    let inside = rw c.as_slice.ensures.value at c.mark_len-at.ensures.inside in
    let rest = rw c.as_slice.ensures.value at c.mark_len-at.ensures.rest in
    let few = c.in_ok-filled.ensures.inside in
    let some = c.in_ok-buffer.ensures in
    let room = c.read_front.ensures.room in
    let size = length-take c.in_ok-filled.filled c.read_front.new.buffer.items in
    rw c.if-self.false (front_left (g.R.Read.remaining c.args.self.now.reader) (g.R.Read.remaining c.read_front.new.reader) c.read_front.new.buffer.items c.mark_len-at.result c.in_ok-filled.filled
    (omega arith) (omega arith) c.in_ok-filled.ensures.front c.in_ok-filled.ensures.end rest)
