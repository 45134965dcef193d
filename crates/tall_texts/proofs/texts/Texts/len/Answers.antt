use Rattle.std.proofs.Common.{ap, sym, ◌∙◌, length}
use Rattle.tall_texts.proofs.TextLemmas.{length-texts}
use Rattle.tall_texts.proofs.texts.Texts.len.Goals as goal

pub returns : goal.returns
returns c =
    ap length c.as_slice.ensures.value ∙ sym (length-texts c.self.inside.bytes.items 0 c.self.inside.ends.items) ∙ ap length c.self.view_is
