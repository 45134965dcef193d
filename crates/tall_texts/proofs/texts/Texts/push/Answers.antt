use Rattle.std.specs.Prelude.{is_ok}
use Rattle.tall_texts.proofs.TextLemmas.{result-cut, result-texts}
use Rattle.tall_texts.proofs.texts.Texts.push.Goals as goal

pub invariant_of-self : goal.invariant_of-self
invariant_of-self c =
    result-cut (is_ok c.add_bytes.result) c.self.inside.bytes.items c.self.inside.ends.items c.as_bytes.result.now c.add_bytes.new.bytes.items c.add_bytes.new.ends.items
    c.self.invariant c.as_bytes.ensures.utf8 c.add_bytes.ensures.bytes c.add_bytes.ensures.ends

pub returns : goal.returns
returns c =
    result-texts c.add_bytes.result c.self.inside.bytes.items c.self.inside.ends.items c.as_bytes.result.now c.add_bytes.new.bytes.items c.add_bytes.new.ends.items
    c.args.self.now c.args.text.now c.self.invariant c.self.view_is c.as_bytes.ensures.value c.add_bytes.ensures.bytes c.add_bytes.ensures.ends
