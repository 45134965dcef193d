-- What holds behind the first passes of a level, in the terms of the loop over them.
use Rattle.std.specs.Prelude.{◌≡◌, ℕ, ◌+◌, ◌*◌, ◌-◌, ◌⊎◌, Option, Some, List, ◌∷◌, [], ◌++◌, take, slice_get}
use Rattle.std.proofs.Common.{sym, subst, ◌∙◌}
use Rattle.tall_outside.specs.declared.shelf.Shelf as shelf
use Rattle.tall_outside.specs.Shelf.{Files}
use Rattle.tall_outside.specs.ShelfCounts.{shelf_counts}
use Rattle.tall_semantics.specs.Faults.{Fault, earlier}
use Rattle.tall_semantics.specs.Talls.{Columns, Tall}
use Rattle.tall_semantics.specs.ShapesInOrder.{IsMade}
use Rattle.tall_semantics.specs.Deferred.{Vertex, IsOrdered}
use Rattle.tall_semantics.specs.Numbered.{AreNumbered}
use Rattle.tall_store.specs.Stores.{SeenStore}
use Rattle.tall_stored.specs.StoredColumns.{Store}
use Rattle.tall_fuse.specs.declared.known.Known.{Known}
use Rattle.tall_plan.specs.declared.passes.Pass.{Pass}
use Rattle.tall_gather.specs.declared.candidate.Candidate.{Candidate}
use Rattle.tall_gather.specs.Candidates.{seen}
use Rattle.tall_gather.specs.Going.{IsBlamed, Went, level_openings, pass_openings}
use Rattle.tall_gather.specs.Progress.{HaveCounts, IsPassed, LevelPassed}
use Rattle.tall_gather.specs.Told.{Holds, IsTold, LevelHolds, PassHolds}
use Rattle.tall_gather.proofs.GoingLaws.{blamed_before, blamed_earlier, blamed_later, level_more, level_skip, went_then, went_within}
use Rattle.tall_gather.proofs.LevelPasses.{held_before, level_added, level_skipped, told_more, told_skipped}

pub record SoFar {S : Type 0} (s : shelf.Ghosts S) (stores : List SeenStore) (vs : List Vertex) (roots : List ℕ) (k : ℕ) (ps : List Pass) (c : Option Fault) (shelf0 : S) (known0 : Known) (counts0 : List (List (Option ℕ))) (n : ℕ) (now : S) (known : Known) (counts : List (List (Option ℕ))) (found : Option Candidate) : Type 0 where
  pub files : HaveCounts counts stores
  pub went : Went s (level_openings stores k (take n ps)) shelf0 now
  pub blamed : IsBlamed stores found (shelf_counts s shelf0) (shelf_counts s now)
  pub passed : LevelPassed vs roots k ps n c (seen found) known0 known
  pub told : (files : Files) → s.held shelf0 ≡ Some files → (list : List Store) (columns : Columns) (f : ℕ → Tall) → IsTold files list columns vs f stores → Holds files list vs f roots stores (2 * k - 1) c known0 counts0 → LevelHolds files list vs f roots stores k ps n c (seen found) known0 known counts

module _ {S : Type 0} (s : shelf.Ghosts S) (stores : List SeenStore) (vs : List Vertex) (made : IsMade vs) (ordered : IsOrdered vs) (numbered : AreNumbered vs) (roots : List ℕ) (k : ℕ) (ps : List Pass) (c : Option Fault) (shelf0 : S) (known0 : Known) (counts0 : List (List (Option ℕ))) (n : ℕ) (p : Pass) (at : slice_get ps n ≡ Some p) (next : take (n + 1) ps ≡ take n ps ++ p ∷ []) where
  pub so_skip : (now : S) (known : Known) (counts : List (List (Option ℕ))) (found : Option Candidate) → (p.level ≡ k → ⊥) → SoFar s stores vs roots k ps c shelf0 known0 counts0 n now known counts found → SoFar s stores vs roots k ps c shelf0 known0 counts0 (n + 1) now known counts found
  so_skip now known counts found e so = record {
    files = so.files;
    went = went_within s (level_openings stores k (take n ps)) (level_openings stores k (take (n + 1) ps)) shelf0 now (λ name. level_skip stores k ps n p name next) so.went;
    blamed = so.blamed;
    passed = level_skipped vs roots k ps n c (seen found) known0 known p at e so.passed;
    told = λ files h list columns f told holds. told_skipped columns vs f made ordered numbered roots files list stores told k ps c n (seen found) known0 known counts p at e (so.told files h list columns f told holds);
  }

  -- what is told of the pass
  abbrev pub OneTold : (mid new : Known) (counts after : List (List (Option ℕ))) → S → Option Candidate → Type 0
  OneTold mid new counts after now x = (files : Files) → s.held now ≡ Some files → (list : List Store) (columns : Columns) (f : ℕ → Tall) → IsTold files list columns vs f stores → Holds files list vs f roots stores (2 * p.level - 1) c mid counts → PassHolds files list vs f roots stores p c (seen x) mid new after

  pub so_more : (now later : S) (mid new : Known) (counts after : List (List (Option ℕ))) (found x r : Option Candidate) → p.level ≡ k → SoFar s stores vs roots k ps c shelf0 known0 counts0 n now mid counts found
      → HaveCounts after stores → IsPassed vs roots p c (seen x) mid new → Went s (pass_openings stores p.store) now later → IsBlamed stores x (shelf_counts s now) (shelf_counts s later) → OneTold mid new counts after now x
      → seen r ≡ earlier (seen found) (seen x) → (r ≡ found) ⊎ (r ≡ x) → SoFar s stores vs roots k ps c shelf0 known0 counts0 (n + 1) later new after r
  so_more now later mid new counts after found x r l so files one went blamed told e which = record {
    files = files;
    went = went_within s (λ name. level_openings stores k (take n ps) name + pass_openings stores p.store name) (level_openings stores k (take (n + 1) ps)) shelf0 later (λ name. level_more stores k ps n p name next l)
        (went_then s (level_openings stores k (take n ps)) (pass_openings stores p.store) shelf0 now later so.went went);
    blamed = blamed_earlier stores found x r (shelf_counts s shelf0) (shelf_counts s later) which
        (blamed_later stores found (shelf_counts s shelf0) (shelf_counts s now) (shelf_counts s later) so.blamed went.later)
        (blamed_before stores x (shelf_counts s shelf0) (shelf_counts s now) (shelf_counts s later) so.went.later blamed);
    passed = subst (λ y. LevelPassed vs roots k ps (n + 1) c y known0 new) (sym e) (level_added vs roots k ps n c (seen found) (seen x) known0 mid new p at l so.passed one);
    told = λ fs h list columns f t holds.
        let before = so.told fs h list columns f t holds in
        let mid_holds = held_before columns vs f made ordered numbered roots fs list stores t k ps c n (seen found) known0 mid counts0 counts holds before in
        let here = told fs (so.went.held ∙ h) list columns f t (subst (λ j. Holds fs list vs f roots stores (2 * j - 1) c mid counts) (sym l) mid_holds) in
        subst (λ y. LevelHolds fs list vs f roots stores k ps (n + 1) c y known0 new after) (sym e) (told_more columns vs f made ordered numbered roots fs list stores t k ps c n (seen found) (seen x) known0 mid new counts after p at l before here);
  }
