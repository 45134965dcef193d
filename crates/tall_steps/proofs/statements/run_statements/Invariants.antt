use Rattle.std.proofs.Common.{◌≡◌, ◌≤◌, length, false}
use Rattle.std.specs.Prelude.{Some}
use Rattle.tall_outside.specs.Shelf.{Files}
use Rattle.tall_outside.specs.ShelfCounts.{IsLater, shelf_counts}
use Rattle.tall_steps.specs.Ends.{AreQuiet, Grows}
use Rattle.tall_steps.specs.Progress.{Reached}
use Rattle.tall_steps.specs.Sessions.{MayMean, Sense, left_in, program_in, state_in}
use Rattle.tall_steps.proofs.statements.run_statements.Given as goal

-- the text so far, before what the statements that are left show, is that of the whole run
abbrev pub invariant-loop-text : goal.invariant-loop-text
invariant-loop-text g l = record {
  program : program_in l.session ≡ program_in l.initial.session;
  runs : l.session.has_ended ≡ false;
  held : g.S.Shelf.held l.shelf ≡ g.S.Shelf.held l.initial.shelf;
  grows : Grows (g.S.Shelf.opened l.initial.shelf) (g.S.Shelf.opened l.shelf);
  later : IsLater (shelf_counts g.S.Shelf l.initial.shelf) (shelf_counts g.S.Shelf l.shelf);
  written : g.O.Sink.faults l.initial.out ≤ g.O.Sink.faults l.out;
  told : (files : Files) → g.S.Shelf.held l.initial.shelf ≡ Some files → (sense : Sense) → MayMean files l.session sense
      → Reached files (program_in l.initial.session) (left_in l.session) (state_in sense l.session) (g.O.Sink.written l.initial.out) (g.O.Sink.written l.out) (g.S.Shelf.opened l.initial.shelf) (g.S.Shelf.opened l.shelf);
  quiet : AreQuiet (program_in l.initial.session).statements → (l.shelf ≡ l.initial.shelf) × AreQuiet (left_in l.session);
}

abbrev pub decreases-loop-text : goal.decreases-loop-text
decreases-loop-text g l = length (left_in l.session)
