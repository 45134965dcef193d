use Rattle.std.proofs.Common.{ap, sym}
use Rattle.tall_texts.specs.Texts.{begin_at}
use Rattle.tall_texts.proofs.TextLemmas.{begin-prev}
use Rattle.tall_texts.proofs.texts.begin.Goals as goal

pub returns-then-at-eq0 : goal.returns-then-at-eq0
returns-then-at-eq0 c = ap (λ i. begin_at 0 c.args.ends.now i) (sym c.if-at-eq0.true)

pub returns-else-at-eq0 : goal.returns-else-at-eq0
returns-else-at-eq0 c = begin-prev c.args.ends.now c.args.at c.requires c.if-at-eq0.false
