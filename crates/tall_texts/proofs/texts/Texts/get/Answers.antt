use Rattle.std.proofs.Common.{ap, arith, length}
use Rattle.tall_texts.proofs.TextLemmas.{length-texts}
use Rattle.tall_texts.proofs.texts.Texts.get.Goals as goal

pub text_at-requires-clause-within : goal.text_at-requires-clause-within
text_at-requires-clause-within c =
    omega (arith, c.requires, ap length c.as_slice-2.ensures.value, length-texts c.self.inside.bytes.items 0 c.self.inside.ends.items, ap length c.self.view_is)
