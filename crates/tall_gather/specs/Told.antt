-- How far a gather has come where the shelf tells its files: what is known is what is defined, and the candidate is the least
-- fault of the ranks so far.
use Rattle.std.specs.Prelude.{◌≡◌, ◌≤◌, ◌*◌, ℕ, true, Option, Some, Result, Ok, Err, List, slice_get, ⊤}
use Rattle.tall_outside.specs.Shelf.{Files}
use Rattle.tall_semantics.specs.Faults.{Fault, earlier}
use Rattle.tall_semantics.specs.Talls.{Columns, Tall}
use Rattle.tall_semantics.specs.ShapesInOrder.{shape_at}
use Rattle.tall_semantics.specs.Deferred.{Vertex, IsAmong, IsMeaning, own_in}
use Rattle.tall_semantics.specs.Least.{IsLeast}
use Rattle.tall_semantics.specs.Levels.{IsWork, UpTo}
use Rattle.tall_semantics.specs.Numbered.{nodes_by}
use Rattle.tall_semantics.specs.Plans.{is_scan_at, needed_of}
use Rattle.tall_semantics.specs.Ranks.{ranks_in}
use Rattle.tall_store.specs.Stores.{SeenStore}
use Rattle.tall_stored.specs.StoredColumns.{AreStored, Store}
use Rattle.tall_fuse.specs.Kept.{carry}
use Rattle.tall_fuse.specs.declared.known.Known.{Known}
use Rattle.tall_plan.specs.declared.passes.Pass.{Pass}
use Rattle.tall_pass.specs.Counts.{AreCounted}
use Rattle.tall_pass.specs.PassPlans.{IsBelowAt}
use Rattle.tall_pass.specs.Told.{AreRight, defined_carry}
use Rattle.tall_gather.specs.declared.candidate.Candidate.{Candidate}
use Rattle.tall_gather.specs.declared.faults.GatherFault.{GatherFault}
use Rattle.tall_gather.specs.declared.faults.GatherFault.TheVariants.{Data, Reading, Read, TooLarge, Changed, Memory}
use Rattle.tall_gather.specs.Candidates.{seen}
use Rattle.tall_gather.specs.Progress.{InPasses}

-- the datastores are those of the list with the numbers of their calls, and the columns are those of the files
pub record IsTold (files : Files) (stores : List Store) (columns : Columns) (vs : List Vertex) (f : ℕ → Tall) (list : List SeenStore) : Type 0 where
  pub same : (s : ℕ) (x : SeenStore) → slice_get list s ≡ Some x → (d : Store) × (slice_get stores s ≡ Some d) × (d.store ≡ x)
  pub stored : AreStored files stores vs columns
  pub meaning : IsMeaning columns vs f

abbrev pub ranked_nodes : List Vertex → (ℕ → Tall) → Rattle.tall_semantics.specs.Levels.Nodes
ranked_nodes vs f = nodes_by vs f (ranks_in vs f)

-- the numbers of records that are known are right
abbrev pub AreCountedAll : Files → List SeenStore → List (List (Option ℕ)) → Type 0
AreCountedAll files list counts = (s : ℕ) (x : SeenStore) (ns : List (Option ℕ)) → slice_get list s ≡ Some x → slice_get counts s ≡ Some ns → AreCounted files x ns

-- after the ranks up to r
pub record Holds (files : Files) (stores : List Store) (vs : List Vertex) (f : ℕ → Tall) (roots : List ℕ) (list : List SeenStore) (r : ℕ) (c : Option Fault) (known : Known) (counts : List (List (Option ℕ))) : Type 0 where
  pub candidate : IsLeast (own_in vs f) (UpTo (ranked_nodes vs f) (IsAmong (needed_of vs roots)) r) c
  pub right : AreRight vs f files stores known
  pub carried : (i b : ℕ) → IsAmong (needed_of vs roots) i → is_scan_at (slice_get vs i) ≡ true → 2 * (shape_at vs i).chain ≤ r → IsBelowAt vs c i → carry known i b ≡ defined_carry vs f files stores i b
  pub counted : AreCountedAll files list counts

-- behind a pass that answered p, of work below the candidate c
pub record PassHolds (files : Files) (stores : List Store) (vs : List Vertex) (f : ℕ → Tall) (roots : List ℕ) (list : List SeenStore) (pass : Pass) (c p : Option Fault) (old new : Known) (counts : List (List (Option ℕ))) : Type 0 where
  pub fault : IsLeast (own_in vs f) (λ i. IsWork (ranked_nodes vs f) (IsAmong (needed_of vs roots)) (2 * pass.level) c i × IsAmong pass.work.items i) p
  pub right : AreRight vs f files stores new
  pub carried : (i b : ℕ) → IsAmong pass.work.items i → is_scan_at (slice_get vs i) ≡ true → (shape_at vs i).chain ≡ pass.level → IsBelowAt vs c i → IsBelowAt vs p i → carry new i b ≡ defined_carry vs f files stores i b
  pub carries_stay : (i b : ℕ) → carry old i b ≡ defined_carry vs f files stores i b → carry new i b ≡ defined_carry vs f files stores i b
  pub counted : AreCountedAll files list counts

-- an answer that breaks off tells nothing but that it is not for the files
abbrev pub IsFree : GatherFault → Type 0
IsFree (Data f) = ⊥
IsFree (Reading store f) = ⊥
IsFree (Read store file) = ⊤
IsFree (TooLarge store file) = ⊤
IsFree (Changed store file first now) = ⊥
IsFree Memory = ⊤

abbrev pub TellsPass : Files → List Store → List Vertex → (ℕ → Tall) → (roots : List ℕ) → List SeenStore → Pass → (c : Option Fault) → (old new : Known) → (counts : List (List (Option ℕ))) → Result (Option Candidate) GatherFault → Type 0
TellsPass files stores vs f roots list pass c old new counts (Ok p) = PassHolds files stores vs f roots list pass c (seen p) old new counts
TellsPass files stores vs f roots list pass c old new counts (Err e) = IsFree e

-- ---- the passes of a level

-- behind the first n passes, of which those of level k answered faults whose least is q
pub record LevelHolds (files : Files) (stores : List Store) (vs : List Vertex) (f : ℕ → Tall) (roots : List ℕ) (list : List SeenStore) (k : ℕ) (ps : List Pass) (n : ℕ) (c q : Option Fault) (old new : Known) (counts : List (List (Option ℕ))) : Type 0 where
  pub fault : IsLeast (own_in vs f) (λ i. IsWork (ranked_nodes vs f) (IsAmong (needed_of vs roots)) (2 * k) c i × InPasses k ps n i) q
  pub right : AreRight vs f files stores new
  pub carried : (i b : ℕ) → InPasses k ps n i → is_scan_at (slice_get vs i) ≡ true → (shape_at vs i).chain ≡ k → IsBelowAt vs c i → IsBelowAt vs q i → carry new i b ≡ defined_carry vs f files stores i b
  pub carries_stay : (i b : ℕ) → carry old i b ≡ defined_carry vs f files stores i b → carry new i b ≡ defined_carry vs f files stores i b
  pub counted : AreCountedAll files list counts

-- behind a rank whose faults have p as the least: what holds of it with the earlier of p and the candidate c
abbrev pub TellsRank : Files → List Store → List Vertex → (ℕ → Tall) → (roots : List ℕ) → List SeenStore → (r : ℕ) → (c : Option Fault) → Known → (counts : List (List (Option ℕ))) → Result (Option Candidate) GatherFault → Type 0
TellsRank files stores vs f roots list r c known counts (Ok p) = Holds files stores vs f roots list r (earlier (seen p) c) known counts
TellsRank files stores vs f roots list r c known counts (Err e) = IsFree e

-- behind some ranks, with the candidate p
abbrev pub TellsLevel : Files → List Store → List Vertex → (ℕ → Tall) → (roots : List ℕ) → List SeenStore → (r : ℕ) → Known → (counts : List (List (Option ℕ))) → Result (Option Candidate) GatherFault → Type 0
TellsLevel files stores vs f roots list r known counts (Ok p) = Holds files stores vs f roots list r (seen p) known counts
TellsLevel files stores vs f roots list r known counts (Err e) = IsFree e
