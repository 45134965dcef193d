use Rattle.tall_scan.proofs.Texts.{line_feed_first}
use Rattle.tall_scan.proofs.text.TextRead.read.Goals as goal

pub returns-then-self-clause-bytes : goal.returns-then-self-clause-bytes
returns-then-self-clause-bytes c =
    rw c.if-self.true (line_feed_first c.args.buf.now c.args.self.now.rest.now _ c.is_empty.ensures c.if-is_empty.false, λ z. cc z)
