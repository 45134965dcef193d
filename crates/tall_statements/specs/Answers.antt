-- What a statement in code says of a statement of the definitions.
use Rattle.std.specs.Prelude.{◌≡◌, ◌≤◌, ℕ, length, None, Some, Result, Ok, Err, Vec, IfOk, IfErr}
use Rattle.tall_outside.specs.declared.shelf.Shelf as shelf
use Rattle.tall_outside.specs.Shelf.{Files}
use Rattle.tall_outside.specs.ShelfCounts.{IsLater, shelf_counts}
use Rattle.tall_local.specs.Refusals.{Stop}
use Rattle.tall_semantics.specs.Deferred.{IsMeaning}
use Rattle.tall_semantics.specs.Talls.{Columns, Tall}
use Rattle.tall_stored.specs.StoredColumns.{AreStored}
use Rattle.tall_script.specs.States.{State}
use Rattle.tall_script.specs.Statements.{Done, fails, shows}
use Rattle.tall_script.specs.StatesFollow.{done_state}
use Rattle.tall_environment.specs.declared.failures.Failure.{Failure}
use Rattle.tall_environment.specs.Environments.{CallsAreAtMost, IsLast, SeenEnvironment, numbered, state_at}
use Rattle.tall_environment.specs.Expressions.{IsSense, OpensOn}
use Rattle.tall_environment.specs.Failures.{Blames, IsInside, stop_of}
use Rattle.tall_environment.specs.Moves.{HaveDistinctFiles, Opens}

-- what a statement leaves of an environment and of the shelf: all but the names only grows
pub record Goes {S : Type 0} (s : shelf.Ghosts S) (old new : SeenEnvironment) (before now : S) : Type 0 where
  pub size : length old.graph ≤ length new.graph
  -- what values mean later they meant before
  pub stored : (files : Files) (columns : Columns) → AreStored files new.stores new.graph columns → AreStored files old.stores old.graph columns
  pub meant : (columns : Columns) (f : ℕ → Tall) → IsMeaning columns new.graph f → IsMeaning columns old.graph f
  pub held : s.held now ≡ s.held before
  pub counts : IsLater (shelf_counts s before) (shelf_counts s now)
  pub opens : Opens s old new before now

-- the text and the state that the definitions leave, or their stop; another failure tells nothing
abbrev pub Agrees : {Z : Type 0} → Done → Result (Vec ℕ Z) Failure → State Tall → Type 0
Agrees want (Ok text) t = want ≡ shows text.items t
Agrees want (Err e) t = (stop : Stop) → stop_of e ≡ Some stop → want ≡ fails stop t

-- the same, and where no definition has the failure, the definitions may go on and open more
pub record Answers {Z : Type 0} (want : Done) (r : Result (Vec ℕ Z) Failure) (t : State Tall) : Type 0 where
  pub agrees : Agrees want r t
  pub unfinished : (e : Failure) → r ≡ Err e → stop_of e ≡ None → OpensOn t (done_state want)

-- where the shelf tells its files: whatever the values mean, the statement does what it does in the definitions
abbrev pub TellsDone : {S Z : Type 0} → shelf.Ghosts S → (before : S) → (Files → State Tall → Done) → (old new : SeenEnvironment) → Result (Vec ℕ Z) Failure → Type 0
TellsDone s before want old new r = (files : Files) → s.held before ≡ Some files → (columns : Columns) (f : ℕ → Tall)
    → IsSense files new columns f → Answers (want files (state_at f old)) r (state_at f new)

-- ---- parts of a statement

-- what follows the last expression: the graph and what was opened stay, and the shelf is not asked
pub record Ends {Z : Type 0} (want : (ℕ → Tall) → State Tall → Done) (old new : SeenEnvironment) (r : Result (Vec ℕ Z) Failure) : Type 0 where
  pub graph : new.graph ≡ old.graph
  pub opened : new.opened ≡ old.opened
  pub stored : (files : Files) (columns : Columns) → AreStored files new.stores old.graph columns → AreStored files old.stores old.graph columns
  pub distinct : HaveDistinctFiles old.stores → HaveDistinctFiles new.stores
  pub calls : (n : ℕ) → CallsAreAtMost (numbered n) old.stores → CallsAreAtMost (numbered n) new.stores
  pub inside : IfErr r IsInside
  pub tells : (columns : Columns) (f : ℕ → Tall) → IsMeaning columns old.graph f → Answers (want f (state_at f old)) r (state_at f new)

-- a part was run between two moments of the shelf, and the expression with the number n was the last
pub record Runs {S Z : Type 0} (s : shelf.Ghosts S) (n : ℕ) (want : Files → (ℕ → Tall) → State Tall → Done) (old new : SeenEnvironment) (before now : S) (r : Result (Vec ℕ Z) Failure) : Type 0 where
  pub goes : Goes s old new before now
  pub last : IfOk r (λ _. IsLast n new)
  pub tells : (files : Files) → s.held before ≡ Some files → (columns : Columns) (f : ℕ → Tall)
      → IsSense files new columns f → Answers (want files f (state_at f old)) r (state_at f new)
  pub blames : IfErr r (λ e. Blames s e before now)
