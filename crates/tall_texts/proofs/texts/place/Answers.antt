use Rattle.std.proofs.Common.{ap, sym, ◌∙◌, subst, arith, get_or}
use Rattle.std.specs.Prelude.{Some}
use Rattle.std.specs.List.{slice_range}
use Rattle.std.specs.Str.{IsUtf8}
use Rattle.tall_texts.proofs.TextLemmas.{text_here}
use Rattle.tall_texts.proofs.texts.place.Goals as goal

pub returns-clause-ordered : goal.returns-clause-ordered
returns-clause-ordered c =
    omega (arith, c.begin-start.ensures, (text_here c.args.bytes.now 0 c.args.ends.now c.args.at c.requires.cut c.requires.within).0)

pub returns-clause-inside : goal.returns-clause-inside
returns-clause-inside c = (text_here c.args.bytes.now 0 c.args.ends.now c.args.at c.requires.cut c.requires.within).1

pub returns-clause-utf8 : goal.returns-clause-utf8
returns-clause-utf8 c =
    subst (λ s. IsUtf8 (slice_range c.args.bytes.now s (get_or c.args.ends.now c.args.at 0))) (sym c.begin-start.ensures)
    (text_here c.args.bytes.now 0 c.args.ends.now c.args.at c.requires.cut c.requires.within).2

pub returns-clause-is : goal.returns-clause-is
returns-clause-is c =
    (text_here c.args.bytes.now 0 c.args.ends.now c.args.at c.requires.cut c.requires.within).3
    ∙ ap (λ s. Some (slice_range c.args.bytes.now s (get_or c.args.ends.now c.args.at 0))) (sym c.begin-start.ensures)
