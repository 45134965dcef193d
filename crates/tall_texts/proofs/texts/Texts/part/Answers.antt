use Rattle.std.proofs.Common.{arith, length, ap, sym, ◌∙◌, map}
use Rattle.std.proofs.lemmas.List.{length-map}
use Rattle.std.specs.List.{slice_range}
use Rattle.tall_value.specs.Cells.{text}
use Rattle.tall_texts.specs.Texts.{texts_from}
use Rattle.tall_texts.proofs.Lists.{range-map}
use Rattle.tall_texts.proofs.TextLemmas.{length-texts}
use Rattle.tall_texts.proofs.texts.Texts.part.Goals as goal

pub part_of-requires-clause-within : goal.part_of-requires-clause-within
part_of-requires-clause-within c =
    omega (arith, c.requires.within, length-map c.args.self.now (λ s. text s), ap length c.as_slice-2.ensures.value, length-texts c.self.inside.bytes.items 0 c.self.inside.ends.items, ap length c.self.view_is)

pub returns : goal.returns
returns c =
    ap (map (λ s. text s))
    (c.in_ok-texts.ensures ∙ ap (λ b. slice_range (texts_from b 0 c.as_slice-2.result.now) c.args.from c.args.to) c.as_slice.ensures.value
    ∙ ap (λ e. slice_range (texts_from c.self.inside.bytes.items 0 e) c.args.from c.args.to) c.as_slice-2.ensures.value
    ∙ ap (λ v. slice_range v c.args.from c.args.to) c.self.view_is)
    ∙ sym (range-map (λ s. text s) c.args.self.now c.args.from c.args.to)
