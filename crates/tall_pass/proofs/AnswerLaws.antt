-- What a pass answers, from its walk and from what its sums come to.
use Rattle.std.proofs.Common.{ℕ, ◌≡◌, ◌∙◌, List, [], ◌∷◌, Err, sym, subst, refl, length}
use Rattle.std.specs.Prelude.{Option, None, option_map}
use Rattle.tall_outside.specs.Shelf.{Files}
use Rattle.tall_semantics.specs.Faults.{Fault, fault_seen}
use Rattle.tall_semantics.specs.Talls.{Columns, Tall}
use Rattle.tall_semantics.specs.Deferred.{Vertex}
use Rattle.tall_semantics.specs.Numbered.{AreNumbered}
use Rattle.tall_semantics.specs.ShapesInOrder.{IsMade}
use Rattle.tall_store.specs.Blocks as store
use Rattle.tall_store.specs.Stored.{first_fault}
use Rattle.tall_store.specs.Stores.{IsStore, SeenStore}
use Rattle.tall_stored.specs.StoredColumns.{Store}
use Rattle.tall_fuse.specs.declared.known.Known.{Known}
use Rattle.tall_plan.specs.declared.passes.Pass.{Pass}
use Rattle.tall_piece.specs.declared.sums.Sums.{Sums}
use Rattle.tall_piece.specs.declared.wanted.Wanted.{Wanted}
use Rattle.tall_piece.specs.Passes.{PassOver, outcomes}
use Rattle.tall_piece.specs.Pieces.{AreSums}
use Rattle.tall_pass.specs.declared.faults.PassFault.{PassFault}
use Rattle.tall_pass.specs.declared.faults.PassFault.TheVariants.{Reading, Read, TooLarge, Changed, Memory}
use Rattle.tall_pass.specs.Answered.{IsUnchanged}
use Rattle.tall_pass.specs.Counts.{AreCounted, KeepsCounts}
use Rattle.tall_pass.specs.Finished.{Covers, IsFinished}
use Rattle.tall_pass.specs.Fitting.{AreFit, CanRun}
use Rattle.tall_pass.specs.PassPlans.{FitsStore}
use Rattle.tall_pass.specs.Taken.{inputs}
use Rattle.tall_pass.specs.Told.{IsDone, IsGiven, Tells}
use Rattle.tall_pass.specs.Walking.{AreSumsOf, WalkTells}
use Rattle.tall_pass.specs.Work.{IsOverFiles, computed_of, pass_over, wanted_of}
use Rattle.tall_pass.proofs.BlockLaws.{blocks_given, due_carries, old_carries, outcomes_are, own_work}
use Rattle.tall_pass.proofs.OverLaws.{over_files}

pub unchanged : (k : Known) → IsUnchanged k k
unchanged k = record { results = λ i. refl; carries = λ i b. refl }

pub keeps : (counts : List (Option ℕ)) → KeepsCounts counts counts
keeps counts = record { files = refl; known = λ f n e. e }

-- the walk ended with a fault
pub tells_fault : (files : Files) (stores : List Store) (vs : List Vertex) (f : ℕ → Tall) (roots : List ℕ) (c : Option Fault) (pass : Pass) (seen : SeenStore) (known new : Known) (all : List ℕ) (wanted : List Wanted) (counts : List (Option ℕ)) (e : PassFault)
    → AreCounted files seen counts → WalkTells (inputs seen vs known all wanted) files counts (Err e) → Tells files stores vs f roots c pass seen (Err e) new
tells_fault files stores vs f roots c pass seen known new all wanted counts (Reading g) counted t = t
tells_fault files stores vs f roots c pass seen known new all wanted counts (Read file) counted t = tt
tells_fault files stores vs f roots c pass seen known new all wanted counts (TooLarge file) counted t = tt
tells_fault files stores vs f roots c pass seen known new all wanted counts (Changed file first now) counted t = t counted
tells_fault files stores vs f roots c pass seen known new all wanted counts Memory counted t = tt

-- it is done
pub tells_done : (files : Files) (stores : List Store) (d : Store) (columns : Columns) (vs : List Vertex) (f : ℕ → Tall) (roots : List ℕ) (c : Option Fault) (pass : Pass) (seen : SeenStore) (known new : Known) (counts : List (Option ℕ)) (all : List ℕ) (wanted : List Wanted)
    (s : Sums) (p : Option Fault)
    → IsGiven files stores d columns vs f roots c pass seen known counts → IsMade vs → AreNumbered vs → IsStore seen → CanRun vs pass known → AreFit vs known → FitsStore vs pass.store seen
    → all ≡ computed_of vs pass → wanted ≡ wanted_of vs pass → Covers vs pass wanted → first_fault seen files ≡ None → AreSumsOf (inputs seen vs known all wanted) (store.all_blocks seen files) s
    → ((at : ℕ) (places : List ℕ) (o : PassOver vs at places wanted) → AreSums o (length (outcomes o)) s.rows (option_map fault_seen s.fault) s.sums.items → IsFinished o p known new)
    → IsDone files stores vs f roots c pass seen p new
tells_done files stores d columns vs f roots c pass seen known new counts all wanted s p given made numbered is ready fit fits all_is wanted_is covers whole sums told =
    let q : IsOverFiles files stores d columns vs f roots c pass all wanted = over_files files stores d columns vs f roots c pass seen known counts made numbered is given whole all wanted all_is wanted_is in
    let o : PassOver vs pass.store all wanted = pass_over q in
    let same : length (outcomes o) ≡ length (store.all_blocks seen files) = outcomes_are files stores d columns vs f roots c pass seen known counts all wanted q given made all_is ready fit fits in
    let end : IsFinished o p known new =
    told pass.store all o (subst (λ n. AreSums o n s.rows (option_map fault_seen s.fault) s.sums.items) (sym same) (sums pass.store o (blocks_given files stores d columns vs f roots c pass seen known counts all wanted q given made all_is ready fit fits))) in
    record {
      whole = whole;
      fault = own_work files stores d columns vs f roots c pass seen known counts all wanted q given made all_is ready fit fits p end.fault;
      results = λ i r is e. end.results i r ((covers.results i).0 (is.0, tt)) is.1 e;
      carries = λ i b is.
          end.carries i b ((covers.carries i).0 (is.0, is.1, is.2, tt)) is.3 (λ x e. old_carries files stores d columns vs f roots c pass seen known counts all wanted q given made all_is ready fit fits p b i x is e)
          ∙ due_carries files stores d columns vs f roots c pass seen known counts all wanted q given made all_is ready fit fits p b i is;
    }
