-- An answer that breaks off is one of a gather.
use Rattle.std.specs.Prelude.{◌≡◌, refl, ◌⊎◌, ℕ, Option, None, Some, List, Err}
use Rattle.std.proofs.Common.{ap, inl, inr, sym, subst, ◌∙◌}
use Rattle.tall_outside.specs.Shelf.{Files}
use Rattle.tall_outside.specs.declared.shelf.Shelf as shelf
use Rattle.tall_outside.specs.ShelfCounts.{shelf_counts}
use Rattle.tall_store.specs.Stores.{SeenStore}
use Rattle.tall_semantics.specs.Faults.{reading}
use Rattle.tall_semantics.specs.Deferred.{Vertex, AreThere, IsMeaning, IsOrdered, least_in}
use Rattle.tall_stored.specs.StoredColumns.{AreStored, Store, fault_of_reading}
use Rattle.tall_gather.specs.declared.candidate.Candidate.{Candidate}
use Rattle.tall_gather.specs.declared.candidate.Candidate.TheVariants as candidate
use Rattle.tall_gather.specs.Candidates.{candidate_seen}
use Rattle.tall_gather.specs.Going.{IsBlamed, IsCaused}
use Rattle.tall_semantics.specs.Talls.{Columns, Tall}
use Rattle.tall_gather.specs.declared.faults.GatherFault.{GatherFault}
use Rattle.tall_gather.specs.declared.faults.GatherFault.TheVariants.{Data, Reading, Read, TooLarge, Changed, Memory}
use Rattle.tall_gather.specs.Gathered.{TellsGather, end_of}
use Rattle.tall_gather.specs.Told.{IsFree}
use Rattle.tall_gather.proofs.ReadingLaws.{reading_called}

pub free : (e : GatherFault) (list : List Store) (f : ℕ → Tall) (roots : List ℕ) → IsFree e → TellsGather list f roots (Err e)
free (Data x) list f roots h = absurd h
free (Reading store g) list f roots h = absurd h
free (Read store file) list f roots h = tt
free (TooLarge store file) list f roots h = tt
free (Changed store file first now) list f roots h = h
free Memory list f roots h = tt

pub told_end : (files : Files) (list : List Store) (columns : Columns) (vs : List Vertex) (f : ℕ → Tall) → IsMeaning columns vs f → IsOrdered vs → AreStored files list vs columns → (roots : List ℕ) → AreThere vs roots → (c : Candidate)
    → least_in f roots ≡ Some (candidate_seen c) → TellsGather list f roots (Err (end_of c))
told_end files list columns vs f meaning ordered stored_are roots there (candidate.Data x) e = e
told_end files list columns vs f meaning ordered stored_are roots there (candidate.Reading r) e =
    let w = reading_called files list columns vs f meaning ordered stored_are roots there (candidate_seen (candidate.Reading r)) r.fault.kind r.fault.file e refl in
    let called : fault_of_reading r.store w.0.at r.fault ≡ candidate_seen (candidate.Reading r) =
    ap (λ n. record { number = n; row = Some r.fault.row; column = r.fault.column; store = r.store; cause = reading r.fault.kind r.fault.file; line = w.0.at.line }) (sym w.2)
    ∙ ap (λ l. record { number = r.number; row = Some r.fault.row; column = r.fault.column; store = r.store; cause = reading r.fault.kind r.fault.file; line = l }) (sym w.3) in
    (w.0, w.1, e ∙ ap Some (sym called))

caused_by : {S : Type 0} (s : shelf.Ghosts S) (list : List SeenStore) (c : Candidate) (before now : S) → IsBlamed list (Some c) (shelf_counts s before) (shelf_counts s now) → IsCaused s list (end_of c) before now
caused_by s list (candidate.Data x) before now h = tt
caused_by s list (candidate.Reading r) before now h = h

pub caused_end : {S : Type 0} (s : shelf.Ghosts S) (list : List SeenStore) (found : Option Candidate) (c : Candidate) (before now : S) → found ≡ Some c → (found ≡ None) ⊎ IsBlamed list found (shelf_counts s before) (shelf_counts s now) → IsCaused s list (end_of c) before now
caused_end s list found c before now e (inl none) = (let q : None ≡ Some c = sym none ∙ e in absurd (cc))
caused_end s list found c before now e (inr h) = caused_by s list c before now (subst (λ x. IsBlamed list x (shelf_counts s before) (shelf_counts s now)) e h)
