use Rattle.std.proofs.Common.{◌≡◌, ◌+◌, ◌≤◌, length, drop, length-drop, rules, arith, sym, ap, ◌∙◌}
use Rattle.std.proofs.lemmas.List.{nil_from_length}
use Rattle.tall_outside.specs.MemShelf.{left_in, file_at}
use Rattle.tall_outside.proofs.Files.{left_in-add, front_and_rest}
use Rattle.tall_outside.proofs.calm_shelf.CalmShelfShelf.read.Goals as goal

pub returns-clause-bytes : goal.returns-clause-bytes
returns-clause-bytes c =
    let file = file_at c.args.self.now.files.now c.args.self.now.place in
    let at = c.args.self.now.at in
    let n = c.min-count.result in
    let here : c.left_at-left.result.now ≡ left_in file at = search rules in
    let within : n ≤ length c.left_at-left.result.now = omega arith in
    let on : left_in file (at + n) ≡ drop n c.left_at-left.result.now = left_in-add file at n ∙ ap (drop n) (sym here) in (
      rw (on, ← here) (front_and_rest c.left_at-left.result.now c.copy_from_slice.new.self (drop n c.args.buf.now) n (search rules) within),
      λ none room. on ∙ nil_from_length _ (rw length-drop (omega arith)),
    )
