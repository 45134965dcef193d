use Rattle.std.proofs.Common.{◌≡◌, ◌+◌, ◌≤◌, length, drop, length-drop, rules, arith, sym, ap, ◌∙◌}
use Rattle.std.proofs.lemmas.List.{nil_from_length, drop-drop}
use Rattle.tall_outside.specs.GrowShelf.{bytes_of, growth_of}
use Rattle.tall_outside.proofs.Files.{front_and_rest}
use Rattle.tall_outside.proofs.grow_shelf.GrowShelfShelf.read.Goals as goal

pub returns-clause-bytes : goal.returns-clause-bytes
returns-clause-bytes c =
    let bytes = bytes_of (growth_of c.args.self.now) c.args.self.now.part in
    let at = c.args.self.now.at in
    let n = c.min-count.result in
    let here : c.left-left.result.now ≡ drop at bytes = search rules in
    let within : n ≤ length c.left-left.result.now = omega arith in
    let on : drop (at + n) bytes ≡ drop n c.left-left.result.now = sym (drop-drop n at bytes) ∙ ap (drop n) (sym here) in (
      rw (on, ← here) (front_and_rest c.left-left.result.now c.copy_from_slice.new.self (drop n c.args.buf.now) n (search rules) within),
      λ none room. on ∙ nil_from_length _ (rw length-drop (omega arith)),
    )
