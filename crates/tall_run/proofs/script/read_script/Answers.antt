use Rattle.std.proofs.Common.{refl, rules, subst, sym}
use Rattle.tall_outside.specs.Count.{Rose}
use Rattle.tall_outside.specs.ShelfCounts.{IsLater, shelf_counts}
use Rattle.tall_outside.specs.declared.shelf.Opening.TheVariants as o
use Rattle.tall_script.specs.AllowedOpenings.{script_openings}
use Rattle.tall_steps.specs.Ends.{WasOpened, no_script, unread}
use Rattle.tall_steps.specs.Progress.{OpensAtMost}
use Rattle.tall_run.specs.Scripts.{IsScriptEnd}
use Rattle.tall_steps.proofs.Progressing.{ended_as}
use Rattle.tall_run.proofs.Evaluating.{logged, logged_name, no_script_end, opened_ends, opened_told, unread_end}
use Rattle.tall_run.proofs.script.read_script.Goals as goal

pub returns-in-Opened-clause-told : goal.returns-in-Opened-clause-told
returns-in-Opened-clause-told g c =
    opened_told c.read_file.result (g.S.Shelf.held c.args.shelf.now) c.args.name.now (g.S.Shelf.left c.open.new.self) c.in-Opened.ensures.answer c.read_file.ensures.told

pub returns-in-Opened-clause-ends : goal.returns-in-Opened-clause-ends
returns-in-Opened-clause-ends g c =
    let later : IsLater (shelf_counts g.S.Shelf c.args.shelf.now) (shelf_counts g.S.Shelf c.open.new.self) = search rules in
    opened_ends g.S.Shelf c.args.name.now c.args.shelf.now c.open.new.self c.read_file.new.shelf c.read_file.result later
    (subst (λ n. WasOpened (g.S.Shelf.opened c.args.shelf.now) n c.args.name.now) (sym c.read_file.ensures.opened)
    (logged_name c.args.name.now (g.S.Shelf.opened c.args.shelf.now) (g.S.Shelf.opened c.open.new.self) o.Opened (λ e. absurd cc) c.in-Opened.ensures.told))
    c.in-Opened.ensures.held c.in-Opened.ensures.answer c.read_file.ensures.ends

pub returns-in-Opened-clause-opens : goal.returns-in-Opened-clause-opens
returns-in-Opened-clause-opens g c =
    subst (λ n. OpensAtMost (script_openings c.args.name.now) (g.S.Shelf.opened c.args.shelf.now) n) (sym c.read_file.ensures.opened)
    (logged c.args.name.now (g.S.Shelf.opened c.args.shelf.now) (g.S.Shelf.opened c.open.new.self) o.Opened c.in-Opened.ensures.told)

pub returns-in-NoSuch-clause-ends : goal.returns-in-NoSuch-clause-ends
returns-in-NoSuch-clause-ends g c =
    let rose : Rose (g.S.Shelf.misses c.args.shelf.now) (g.S.Shelf.misses c.open.new.self) = search rules in
    ended_as (IsScriptEnd g.S.Shelf c.args.name.now c.args.shelf.now c.open.new.self) (no_script c.args.name.now) c.with_line.result
    (no_script_end g.S.Shelf c.args.name.now c.args.shelf.now c.open.new.self rose c.in-NoSuch.ensures.answer.0)
    (c.with_line.ensures (no_script c.args.name.now) refl c.no_script_line.ensures)

pub returns-in-Failed-clause-ends : goal.returns-in-Failed-clause-ends
returns-in-Failed-clause-ends g c =
    let rose : Rose (g.S.Shelf.faults c.args.shelf.now) (g.S.Shelf.faults c.open.new.self) = search rules in
    ended_as (IsScriptEnd g.S.Shelf c.args.name.now c.args.shelf.now c.open.new.self) (unread c.args.name.now) c.with_line-in-Failed.result
    (unread_end g.S.Shelf c.args.name.now c.args.shelf.now c.open.new.self rose
    (logged_name c.args.name.now (g.S.Shelf.opened c.args.shelf.now) (g.S.Shelf.opened c.open.new.self) o.Failed (λ e. absurd cc) c.in-Failed.ensures.told))
    (c.with_line-in-Failed.ensures (unread c.args.name.now) refl c.cannot_read_line.ensures)

pub returns-in-NoSuch-clause-opens : goal.returns-in-NoSuch-clause-opens
returns-in-NoSuch-clause-opens g c = logged c.args.name.now (g.S.Shelf.opened c.args.shelf.now) (g.S.Shelf.opened c.open.new.self) o.NoSuch c.in-NoSuch.ensures.told

pub returns-in-Failed-clause-opens : goal.returns-in-Failed-clause-opens
returns-in-Failed-clause-opens g c = logged c.args.name.now (g.S.Shelf.opened c.args.shelf.now) (g.S.Shelf.opened c.open.new.self) o.Failed c.in-Failed.ensures.told

pub returns-in-Memory-clause-opens : goal.returns-in-Memory-clause-opens
returns-in-Memory-clause-opens g c = logged c.args.name.now (g.S.Shelf.opened c.args.shelf.now) (g.S.Shelf.opened c.open.new.self) o.Memory c.in-Memory.ensures.told
