use Rattle.std.proofs.Common.{ap, ◌∙◌, ◌++◌, length}
use Rattle.std.specs.Prelude.{is_ok, if◌then◌else◌}
use Rattle.tall_texts.specs.Texts.{further}
use Rattle.tall_texts.proofs.TextLemmas.{appended-cut, appended-texts}
use Rattle.tall_texts.proofs.texts.Texts.add_all.Goals as goal

pub invariant_of-self : goal.invariant_of-self
invariant_of-self c =
    let bytes = c.self.inside.bytes.items in
    let ends = c.self.inside.ends.items in
    appended-cut (is_ok c.append.result) bytes ends c.more.inside.bytes.items c.more.inside.ends.items c.append.new.bytes.items c.append.new.ends.items
    c.self.invariant c.more.invariant
    (c.append.ensures.bytes ∙ ap (λ m. if is_ok c.append.result then bytes ++ m else bytes) c.as_slice.ensures.value)
    (c.append.ensures.ends ∙ ap (λ m. if is_ok c.append.result then ends ++ further (length bytes) m else ends) c.as_slice-2.ensures.value)

pub returns : goal.returns
returns c =
    let bytes = c.self.inside.bytes.items in
    let ends = c.self.inside.ends.items in
    appended-texts c.append.result bytes ends c.more.inside.bytes.items c.more.inside.ends.items c.append.new.bytes.items c.append.new.ends.items
    c.args.self.now c.args.more.now c.self.invariant c.self.view_is c.more.view_is
    (c.append.ensures.bytes ∙ ap (λ m. if is_ok c.append.result then bytes ++ m else bytes) c.as_slice.ensures.value)
    (c.append.ensures.ends ∙ ap (λ m. if is_ok c.append.result then ends ++ further (length bytes) m else ends) c.as_slice-2.ensures.value)
