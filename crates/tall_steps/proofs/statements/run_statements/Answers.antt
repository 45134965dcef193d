use Rattle.std.proofs.Common.{◌≡◌, ◌∙◌, refl, ap, rules, arith, subst, sym}
use Rattle.std.specs.Prelude.{Ok, Err}
use Rattle.std.specs.Io.KnownBytes.{Appends}
use Rattle.tall_outside.specs.ShelfCounts.{shelf_counts}
use Rattle.tall_script.specs.Runs.{run}
use Rattle.tall_script.specs.States.{times_allowed}
use Rattle.tall_steps.specs.Ends.{AddsFront, AreQuiet}
use Rattle.tall_steps.specs.Progress.{OpensAtMost}
use Rattle.tall_steps.specs.Sessions.{left_in, program_in, setting_in, state_in}
use Rattle.tall_steps.specs.Steps.{LeavesLess, TellsText}
use Rattle.tall_steps.specs.declared.endings.Step.TheVariants.{Finished}
use Rattle.tall_steps.proofs.Progressing.{ends_run, explained_later, grows_both, has_end, later_both, more, next_of, none_left, opened_at_end, opened_so_far, opens_for, opens_shown, part_front, quiet_next, shows_for, starts, written_front}
use Rattle.tall_steps.proofs.statements.run_statements.Goals as goal

pub loop-text-init : goal.loop-text-init
loop-text-init g c = record {
  program = refl;
  runs = search rules;
  held = refl;
  grows = search rules;
  later = search rules;
  written = search rules;
  told = λ files tells sense means.
      starts files (program_in c.args.session.now) (left_in c.args.session.now) (state_in sense c.args.session.now) (g.O.Sink.written c.args.out.now) (g.S.Shelf.opened c.args.shelf.now)
      (ap left_in c.requires) (ap (state_in sense) c.requires);
  quiet = λ q. (refl, subst AreQuiet (sym (ap left_in c.requires)) q);
}

pub loop-text-preserved : goal.loop-text-preserved
loop-text-preserved g c =
    let inv = c.loop-text.invariant in
    let less = subst (λ o. LeavesLess (left_in c.loop-text.session) (left_in c.step.new.self) (Ok o)) c.in-Ok-Text.field-0-is c.in-Ok-Text.ensures.less in
    let w : Appends (g.O.Sink.written c.loop-text.out) (g.O.Sink.written c.write_all.new.out) c.in-Ok-Text.text.items = search rules in
    record {
      program = c.step.ensures.program ∙ inv.program;
      runs = c.in-Ok-Text.ensures.goes_on ∙ inv.runs;
      held = c.step.ensures.held ∙ inv.held;
      grows = grows_both (g.S.Shelf.opened c.args.shelf.now) (g.S.Shelf.opened c.loop-text.shelf) (g.S.Shelf.opened c.step.new.shelf) inv.grows c.step.ensures.grows;
      later = later_both (shelf_counts g.S.Shelf c.args.shelf.now) (shelf_counts g.S.Shelf c.loop-text.shelf) (shelf_counts g.S.Shelf c.step.new.shelf) inv.later c.step.ensures.later;
      written = omega (arith, inv.written, c.write_all.ensures.later);
      told = λ files tells sense means.
          let t = inv.held ∙ tells in
          let h = subst (λ o. TellsText (setting_in files c.loop-text.session) (left_in c.loop-text.session) (left_in c.step.new.self) (state_in sense c.loop-text.session) (state_in sense c.step.new.self) (Ok o))
          c.in-Ok-Text.field-0-is (c.in-Ok-Text.ensures.text files t sense means) in
          let r = inv.told files tells sense (c.step.ensures.meant files sense means) in
          more files (program_in c.args.session.now) (left_in c.loop-text.session) (left_in c.step.new.self) (state_in sense c.loop-text.session) (state_in sense c.step.new.self) c.in-Ok-Text.text.items
          (g.O.Sink.written c.args.out.now) (g.O.Sink.written c.loop-text.out) (g.O.Sink.written c.write_all.new.out)
          (g.S.Shelf.opened c.args.shelf.now) (g.S.Shelf.opened c.loop-text.shelf) (g.S.Shelf.opened c.step.new.shelf)
          r (shows_for files (program_in c.loop-text.session) (program_in c.args.session.now) _ _ _ _ _ inv.program h) w
          (opens_shown (setting_in files c.loop-text.session) _ _ _ _ _ _ _ h (c.step.ensures.opens inv.runs files t sense means));
      quiet = λ q.
          let now = inv.quiet q in
          let n = quiet_next (left_in c.loop-text.session) (left_in c.step.new.self) less.0 less.1 now.1 in
          (c.step.ensures.quiet less.0 (left_in c.step.new.self) less.1 n.0 ∙ now.0, n.1);
    }

pub returns-in-Err-write_all-clause-front : goal.returns-in-Err-write_all-clause-front
returns-in-Err-write_all-clause-front g c = λ files tells.
    let inv = c.loop-text.invariant in
    let t = inv.held ∙ tells in
    let some = c.step.ensures.some files in
    let r = inv.told files tells some.0 (c.step.ensures.meant files some.0 some.1) in
    let h = subst (λ o. TellsText (setting_in files c.loop-text.session) (left_in c.loop-text.session) (left_in c.step.new.self) (state_in some.0 c.loop-text.session) (state_in some.0 c.step.new.self) (Ok o))
    c.in-Ok-Text.field-0-is (c.in-Ok-Text.ensures.text files t some.0 some.1) in
    let same : c.as_slice.result.now ≡ c.in-Ok-Text.text.items = search rules in
    let front : AddsFront c.as_slice.result.now (g.O.Sink.written c.loop-text.out) (g.O.Sink.written c.write_all.new.out) = c.write_all.ensures.front in
    part_front files (program_in c.args.session.now) (left_in c.loop-text.session) (left_in c.step.new.self) (state_in some.0 c.loop-text.session) (state_in some.0 c.step.new.self) c.in-Ok-Text.text.items
    (g.O.Sink.written c.args.out.now) (g.O.Sink.written c.loop-text.out) (g.O.Sink.written c.write_all.new.out) (g.S.Shelf.opened c.args.shelf.now) (g.S.Shelf.opened c.loop-text.shelf)
    r (shows_for files (program_in c.loop-text.session) (program_in c.args.session.now) _ _ _ _ _ inv.program h)
    (subst (λ x. AddsFront x (g.O.Sink.written c.loop-text.out) (g.O.Sink.written c.write_all.new.out)) same front)

pub returns-in-Err-write_all-clause-opens : goal.returns-in-Err-write_all-clause-opens
returns-in-Err-write_all-clause-opens g c = λ files tells.
    let inv = c.loop-text.invariant in
    let t = inv.held ∙ tells in
    let some = c.step.ensures.some files in
    let r = inv.told files tells some.0 (c.step.ensures.meant files some.0 some.1) in
    let less = subst (λ o. LeavesLess (left_in c.loop-text.session) (left_in c.step.new.self) (Ok o)) c.in-Ok-Text.field-0-is c.in-Ok-Text.ensures.less in
    opened_at_end files (program_in c.args.session.now) c.datastores_keep_their_places.ensures (left_in c.loop-text.session) (left_in c.step.new.self) less.0 (state_in some.0 c.loop-text.session)
    (g.O.Sink.written c.args.out.now) (g.O.Sink.written c.loop-text.out) (g.S.Shelf.opened c.args.shelf.now) (g.S.Shelf.opened c.loop-text.shelf) (g.S.Shelf.opened c.step.new.shelf) less.1 r
    (opens_for files (program_in c.loop-text.session) (program_in c.args.session.now) (left_in c.loop-text.session) (state_in some.0 c.loop-text.session) _ _ inv.program (c.step.ensures.opens inv.runs files t some.0 some.1) less.0 (left_in c.step.new.self) less.1)

pub returns-in-Ok-Finished-clause-front : goal.returns-in-Ok-Finished-clause-front
returns-in-Ok-Finished-clause-front g c = λ files tells.
    let inv = c.loop-text.invariant in
    let t = inv.held ∙ tells in
    let some = c.step.ensures.some files in
    let r = inv.told files tells some.0 (c.step.ensures.meant files some.0 some.1) in
    written_front files (program_in c.args.session.now) (left_in c.loop-text.session) (state_in some.0 c.loop-text.session)
    (g.O.Sink.written c.args.out.now) (g.O.Sink.written c.loop-text.out) (g.S.Shelf.opened c.args.shelf.now) (g.S.Shelf.opened c.loop-text.shelf) r

pub returns-in-Ok-Finished-clause-opens : goal.returns-in-Ok-Finished-clause-opens
returns-in-Ok-Finished-clause-opens g c = λ files tells.
    let inv = c.loop-text.invariant in
    let t = inv.held ∙ tells in
    let some = c.step.ensures.some files in
    let r = inv.told files tells some.0 (c.step.ensures.meant files some.0 some.1) in
    let last : c.step.result ≡ Ok Finished = search rules in
    let stays = c.step.ensures.finished inv.runs (c.step.ensures.only_finished last).1 in
    subst (λ now. OpensAtMost (λ name. times_allowed name (run files (program_in c.args.session.now)).state.opened) (g.S.Shelf.opened c.args.shelf.now) (g.S.Shelf.opened now)) (sym stays.2)
    (opened_so_far files (program_in c.args.session.now) c.datastores_keep_their_places.ensures (left_in c.loop-text.session) (state_in some.0 c.loop-text.session)
    (g.O.Sink.written c.args.out.now) (g.O.Sink.written c.loop-text.out) (g.S.Shelf.opened c.args.shelf.now) (g.S.Shelf.opened c.loop-text.shelf) r)

pub returns-in-Err-clause-ended : goal.returns-in-Err-clause-ended
returns-in-Err-clause-ended g c =
    let inv = c.loop-text.invariant in
    has_end c.in-Err.ending
    (λ e is. (
      is.0,
      explained_later g.S.Shelf e c.args.shelf.now c.loop-text.shelf c.step.new.shelf inv.later inv.grows inv.held is.1,
      λ files tells.
          let t = inv.held ∙ tells in
          let some = c.step.ensures.some files in
          let r = inv.told files tells some.0 (c.step.ensures.meant files some.0 some.1) in
          ends_run files (program_in c.loop-text.session) (program_in c.args.session.now) (left_in c.loop-text.session) (state_in some.0 c.loop-text.session)
          (g.O.Sink.written c.args.out.now) (g.O.Sink.written c.loop-text.out) (g.S.Shelf.opened c.args.shelf.now) (g.S.Shelf.opened c.loop-text.shelf) e inv.program r (is.2 files t some.0 some.1),
    ))
    c.in-Err.ensures.ends

pub returns-in-Err-clause-front : goal.returns-in-Err-clause-front
returns-in-Err-clause-front g c = λ files tells.
    let inv = c.loop-text.invariant in
    let t = inv.held ∙ tells in
    let some = c.step.ensures.some files in
    let r = inv.told files tells some.0 (c.step.ensures.meant files some.0 some.1) in
    written_front files (program_in c.args.session.now) (left_in c.loop-text.session) (state_in some.0 c.loop-text.session)
    (g.O.Sink.written c.args.out.now) (g.O.Sink.written c.loop-text.out) (g.S.Shelf.opened c.args.shelf.now) (g.S.Shelf.opened c.loop-text.shelf) r

pub returns-in-Err-clause-opens : goal.returns-in-Err-clause-opens
returns-in-Err-clause-opens g c = λ files tells.
    let inv = c.loop-text.invariant in
    let t = inv.held ∙ tells in
    let some = c.step.ensures.some files in
    let r = inv.told files tells some.0 (c.step.ensures.meant files some.0 some.1) in
    let n = next_of (left_in c.loop-text.session) (λ none. let over : Err c.in-Err.ending ≡ Ok Finished = sym c.in-Err.is ∙ (c.step.ensures.finished inv.runs none).0 in absurd cc) in
    opened_at_end files (program_in c.args.session.now) c.datastores_keep_their_places.ensures (left_in c.loop-text.session) n.1 n.0 (state_in some.0 c.loop-text.session)
    (g.O.Sink.written c.args.out.now) (g.O.Sink.written c.loop-text.out) (g.S.Shelf.opened c.args.shelf.now) (g.S.Shelf.opened c.loop-text.shelf) (g.S.Shelf.opened c.step.new.shelf) n.2 r
    (opens_for files (program_in c.loop-text.session) (program_in c.args.session.now) (left_in c.loop-text.session) (state_in some.0 c.loop-text.session) _ _ inv.program (c.step.ensures.opens inv.runs files t some.0 some.1) n.0 n.1 n.2)

pub returns-in-Err-clause-quiet : goal.returns-in-Err-clause-quiet
returns-in-Err-clause-quiet g c = λ q.
    let inv = c.loop-text.invariant in
    let n = next_of (left_in c.loop-text.session) (λ none. let over : Err c.in-Err.ending ≡ Ok Finished = sym c.in-Err.is ∙ (c.step.ensures.finished inv.runs none).0 in absurd cc) in
    let now = inv.quiet q in
    c.step.ensures.quiet n.0 n.1 n.2 (quiet_next (left_in c.loop-text.session) n.1 n.0 n.2 now.1).0 ∙ now.0

pub returns-in-Err-write_all-clause-grows : goal.returns-in-Err-write_all-clause-grows
returns-in-Err-write_all-clause-grows g c =
    grows_both (g.S.Shelf.opened c.args.shelf.now) (g.S.Shelf.opened c.loop-text.shelf) (g.S.Shelf.opened c.step.new.shelf) c.loop-text.invariant.grows c.step.ensures.grows

pub returns-in-Err-clause-grows : goal.returns-in-Err-clause-grows
returns-in-Err-clause-grows g c =
    grows_both (g.S.Shelf.opened c.args.shelf.now) (g.S.Shelf.opened c.loop-text.shelf) (g.S.Shelf.opened c.step.new.shelf) c.loop-text.invariant.grows c.step.ensures.grows

pub returns-in-Ok-Finished-clause-ended : goal.returns-in-Ok-Finished-clause-ended
returns-in-Ok-Finished-clause-ended g c = λ files tells.
    let inv = c.loop-text.invariant in
    let t = inv.held ∙ tells in
    let some = c.step.ensures.some files in
    let r = inv.told files tells some.0 (c.step.ensures.meant files some.0 some.1) in
    let last : c.step.result ≡ Ok Finished = search rules in
    none_left files (program_in c.args.session.now) (left_in c.loop-text.session) (state_in some.0 c.loop-text.session) (g.O.Sink.written c.args.out.now) (g.O.Sink.written c.loop-text.out)
    (g.S.Shelf.opened c.args.shelf.now) (g.S.Shelf.opened c.loop-text.shelf) (c.step.ensures.only_finished last).1 r

pub returns-in-Ok-Finished-clause-grows : goal.returns-in-Ok-Finished-clause-grows
returns-in-Ok-Finished-clause-grows g c =
    grows_both (g.S.Shelf.opened c.args.shelf.now) (g.S.Shelf.opened c.loop-text.shelf) (g.S.Shelf.opened c.step.new.shelf) c.loop-text.invariant.grows c.step.ensures.grows
