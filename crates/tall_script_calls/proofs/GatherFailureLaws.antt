-- What a failure of a gather names and blames follows from its fault.
use Rattle.std.specs.Prelude.{◌≡◌, ◌<◌, ℕ, List, Option, None, Some, Err, length, option_map, slice_get}
use Rattle.std.proofs.Common.{refl, sym, ap, subst, ◌∙◌}
use Rattle.tall_outside.specs.declared.shelf.Shelf as shelf
use Rattle.tall_outside.specs.Count.{Rose}
use Rattle.tall_outside.specs.Shelf.{Files, openings_of}
use Rattle.tall_value.specs.declared.faults.Fault as value
use Rattle.tall_semantics.specs.Deferred.{least_in}
use Rattle.tall_semantics.specs.Faults.{Fault}
use Rattle.tall_semantics.specs.Talls.{Tall}
use Rattle.tall_store.specs.FileEnds.{IsTooLong, name_of_file}
use Rattle.tall_store.specs.Stores.{SeenStore}
use Rattle.tall_store.specs.declared.faults.ReadingFault.{ReadingFault}
use Rattle.tall_stored.specs.StoredColumns.{Store, fault_of_reading}
use Rattle.tall_local.specs.Refusals.{Stop, stop_at}
use Rattle.tall_script.specs.ReadingFaults.{reading_in, stop_of_fault, stop_of_reading}
use Rattle.tall_script.specs.States.{Openings}
use Rattle.tall_gather.specs.Gathered.{TellsGather}
use Rattle.tall_gather.specs.Going.{IsCaused}
use Rattle.tall_gather.specs.Going as going
use Rattle.tall_gather.specs.declared.faults.GatherFault.{GatherFault}
use Rattle.tall_gather.specs.declared.faults.GatherFault.TheVariants as fault
use Rattle.tall_environment.specs.declared.failures.Failure.{Failure}
use Rattle.tall_environment.specs.declared.failures.Failure.TheVariants as failure
use Rattle.tall_environment.specs.Failures.{Blames, IsOpened, stop_of}
use Rattle.tall_environment.specs.Environments.{SeenEnvironment}
use Rattle.tall_environment.specs.MoveLaws.{inside_blames}
use Rattle.tall_script_calls.specs.GatherFailures.{IsChanged, IsFailureOf, IsNameOf, IsRead, IsTooLarge, MayBeTold}
use Rattle.tall_script_calls.proofs.ReadingLaws.{reading_blames}

-- ---- causes

module _ {S : Type 0} (s : shelf.Ghosts S) (list : List SeenStore) (before now : S) where
  opened : (store file : ℕ) (name : List ℕ) → IsNameOf list store file name → going.IsOpened s list store file before now → IsOpened s name before now
  opened store file name is o names all told end = subst (λ x. openings_of x names < openings_of x all) (sym (is o.0 o.1)) (o.3 names all told end)

  read : (store file : ℕ) (x : Failure) → IsRead list store file x → IsCaused s list (fault.Read store file) before now → Blames s x before now
  read store file (failure.Refused line e) k h = absurd k
  read store file (failure.Read name) k h = (h.0, opened store file name k h.1)
  read store file (failure.TooLarge name) k h = absurd k
  read store file (failure.Changed name first last) k h = absurd k
  read store file failure.Memory k h = tt

  too_large : (store file : ℕ) (x : Failure) → IsTooLarge list store file x → IsCaused s list (fault.TooLarge store file) before now
      → Blames s x before now
  too_large store file (failure.Refused line e) k h = absurd k
  too_large store file (failure.Read name) k h = absurd k
  too_large store file (failure.TooLarge name) k h = (
    h.0,
    opened store file name k h.1,
    λ files told. subst (IsTooLong files) (sym (k h.1.0 h.1.1)) (subst (λ d. going.IsLongFile files d file) h.1.1 (h.2 files told)),
  )
  too_large store file (failure.Changed name first last) k h = absurd k
  too_large store file failure.Memory k h = tt

  changed : (store file m n : ℕ) (x : Failure) → IsChanged list store file m n x → IsCaused s list (fault.Changed store file m n) before now
      → ((files : Files) → s.held before ≡ Some files → ⊥) → Blames s x before now
  changed store file m n (failure.Refused line e) k h never = absurd k
  changed store file m n (failure.Read name) k h never = absurd k
  changed store file m n (failure.TooLarge name) k h never = absurd k
  changed store file m n (failure.Changed name first last) k h never = (λ e. h.0 (sym k.1 ∙ (e ∙ k.2)), opened store file name k.0 h.1, never)
  changed store file m n failure.Memory k h never = tt

  pub blamed : (e : GatherFault) (x : Failure) → IsFailureOf list e x → IsCaused s list e before now
      → ((files : Files) → s.held before ≡ Some files → MayBeTold e) → Blames s x before now
  blamed (fault.Data f) x k h may = inside_blames s before now x k
  blamed (fault.Reading store g) x k h may = reading_blames s before now g.kind h.missed x k
  blamed (fault.Read store file) x k h may = read store file x k h
  blamed (fault.TooLarge store file) x k h may = too_large store file x k h
  blamed (fault.Changed store file m n) x k h may = changed store file m n x k h may
  blamed fault.Memory x k h may = inside_blames s before now x k

-- ---- stops

pub no_stop : {P : Type 0} (stop : Stop) → ◌≡◌ {A = Option Stop} None (Some stop) → P
no_stop stop e = absurd (cc)

-- the least fault is that of a reading, on the line of its datastore's call
pub reading_stop : (stores : List Store) (store : ℕ) (d : Store) (g : ReadingFault) (least : Option Fault) (stop : Stop) → slice_get stores store ≡ Some d
    → least ≡ Some (fault_of_reading store d.at g) → stop_of_reading d g ≡ stop → option_map (stop_of_fault stores) least ≡ Some stop
reading_stop stores store d g least stop there is named =
    ap (option_map (stop_of_fault stores)) is
    ∙ (ap (λ x. Some (stop_at d.at.line (reading_in x g.kind g.file (fault_of_reading store d.at g)))) there ∙ ap Some named)

-- ---- as of the datastores before the call

abbrev pub Stops : List Store → GatherFault → Failure → Type 0
Stops stores e x = (f : ℕ → Tall) (roots : List ℕ) (stop : Stop) → TellsGather stores f roots (Err e) → stop_of x ≡ Some stop → option_map (stop_of_fault stores) (least_in f roots) ≡ Some stop

pub same_stores : (old new : SeenEnvironment) (opened : List Openings) → new ≡ record old { opened = opened } → new.stores ≡ old.stores
same_stores old new opened h = ap (λ (e : SeenEnvironment). e.stores) h

pub same_graph : (old new : SeenEnvironment) (opened : List Openings) → new ≡ record old { opened = opened } → new.graph ≡ old.graph
same_graph old new opened h = ap (λ (e : SeenEnvironment). e.graph) h
