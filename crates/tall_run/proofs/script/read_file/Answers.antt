use Rattle.std.proofs.Common.{◌≡◌, ◌∙◌, ap, length, refl, rules, subst, sym, take}
use Rattle.std.specs.Prelude.{IfSome}
use Rattle.tall_outside.specs.Count.{Rose}
use Rattle.tall_steps.specs.Ends.{unread}
use Rattle.tall_run.specs.Scripts.{IsFileEnd}
use Rattle.tall_steps.proofs.Progressing.{ended_as}
use Rattle.tall_run.proofs.Evaluating.{file_ends, file_script, file_told}
use Rattle.tall_run.proofs.script.read_file.Goals as goal

pub returns-in-Ok-clause-script : goal.returns-in-Ok-clause-script
returns-in-Ok-clause-script g c =
    let same : c.as_slice.result.now ≡ c.in-Ok.text.items = search rules in
    file_script c.parse_script.result c.as_slice.result.now (g.S.Shelf.came c.read_text.new.shelf) c.parse_script.ensures.script (ap length same ∙ c.in-Ok.ensures.came c.requires.front)

pub returns-in-Ok-clause-told : goal.returns-in-Ok-clause-told
returns-in-Ok-clause-told g c =
    let same : c.as_slice.result.now ≡ c.in-Ok.text.items = search rules in
    file_told c.parse_script.result (g.S.Shelf.left c.args.shelf.now) c.as_slice.result.now
    (subst (λ t. IfSome (g.S.Shelf.left c.args.shelf.now) (λ bytes. t ≡ take 1048577 bytes)) (sym same) c.in-Ok.ensures.text) c.parse_script.ensures.script

pub returns-in-Ok-clause-ends : goal.returns-in-Ok-clause-ends
returns-in-Ok-clause-ends g c =
    let same : c.as_slice.result.now ≡ c.in-Ok.text.items = search rules in
    file_ends g.S.Shelf c.args.name.now c.parse_script.result c.args.shelf.now c.read_text.new.shelf c.as_slice.result.now
    (subst (λ t. IfSome (g.S.Shelf.left c.args.shelf.now) (λ bytes. t ≡ take 1048577 bytes)) (sym same) c.in-Ok.ensures.text)
    (ap length same ∙ c.in-Ok.ensures.came c.requires.front) c.parse_script.ensures.refusal

pub returns-in-Err-Failed-clause-ends : goal.returns-in-Err-Failed-clause-ends
returns-in-Err-Failed-clause-ends g c =
    let rose : Rose (g.S.Shelf.faults c.args.shelf.now) (g.S.Shelf.faults c.read_text.new.shelf) = search rules in
    ended_as (IsFileEnd g.S.Shelf c.args.name.now c.args.shelf.now c.read_text.new.shelf) (unread c.args.name.now) c.with_line.result (refl, rose)
    (c.with_line.ensures (unread c.args.name.now) refl c.cannot_read_line.ensures)
