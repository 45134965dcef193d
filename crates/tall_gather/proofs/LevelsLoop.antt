-- What holds behind the first levels, in the terms of the loop over them.
use Rattle.std.specs.Prelude.{◌≡◌, refl, ℕ, zero, suc, ◌<◌, ◌≤◌, ◌+◌, ◌*◌, ◌-◌, ◌⊎◌, Option, None, Some, List}
use Rattle.std.proofs.Common.{ap, sym, subst, ◌∙◌, arith, inl, inr}
use Rattle.tall_outside.specs.declared.shelf.Shelf as shelf
use Rattle.tall_outside.specs.Shelf.{Files}
use Rattle.tall_outside.specs.ShelfCounts.{shelf_counts}
use Rattle.tall_semantics.specs.Faults.{Fault, earlier}
use Rattle.tall_semantics.specs.Talls.{Columns, Tall}
use Rattle.tall_semantics.specs.Deferred.{Vertex}
use Rattle.tall_store.specs.Stores.{SeenStore}
use Rattle.tall_stored.specs.StoredColumns.{Store}
use Rattle.tall_fuse.specs.declared.known.Known.{Known}
use Rattle.tall_plan.specs.declared.passes.Pass.{Pass}
use Rattle.tall_gather.specs.declared.candidate.Candidate.{Candidate}
use Rattle.tall_gather.specs.Candidates.{IsOfData, seen}
use Rattle.tall_gather.specs.Going.{IsBlamed, Went, level_openings, levels_openings}
use Rattle.tall_gather.specs.Progress.{HaveCounts, IsAfter}
use Rattle.tall_gather.specs.Told.{AreCountedAll, Holds, IsTold}
use Rattle.tall_gather.proofs.GoingLaws.{blamed_before, blamed_later, went_none, went_then}
use Rattle.tall_gather.proofs.LevelSteps.{blamed_data}

pub record AllSoFar {S : Type 0} (s : shelf.Ghosts S) (stores : List SeenStore) (vs : List Vertex) (roots : List ℕ) (ps : List Pass) (shelf0 : S) (counts0 : List (List (Option ℕ))) (n : ℕ) (now : S) (known : Known) (counts : List (List (Option ℕ))) (candidate : Option Candidate) : Type 0 where
  pub files : HaveCounts counts stores
  pub after : IsAfter vs roots (2 * n + 1) (seen candidate) known
  pub went : Went s (levels_openings stores n ps) shelf0 now
  pub blamed : IsBlamed stores candidate (shelf_counts s shelf0) (shelf_counts s now)
  pub told : (files : Files) → s.held shelf0 ≡ Some files → (list : List Store) (columns : Columns) (f : ℕ → Tall) → IsTold files list columns vs f stores → AreCountedAll files stores counts0 → Holds files list vs f roots stores (2 * n + 1) (seen candidate) known counts

pub rank_below : (n : ℕ) → 2 * (n + 1) - 1 ≡ 2 * n + 1
rank_below n = omega arith

module _ {S : Type 0} (s : shelf.Ghosts S) (stores : List SeenStore) (vs : List Vertex) (roots : List ℕ) (ps : List Pass) (shelf0 : S) (counts0 : List (List (Option ℕ))) (n : ℕ) (now later : S) (known after : Known) (counts next : List (List (Option ℕ))) (candidate p : Option Candidate) where
  pub one_more : AllSoFar s stores vs roots ps shelf0 counts0 n now known counts candidate → HaveCounts next stores → IsAfter vs roots (2 * (n + 1) + 1) (seen p) after → Went s (level_openings stores (n + 1) ps) now later → (p ≡ candidate) ⊎ IsBlamed stores p (shelf_counts s now) (shelf_counts s later)
      → ((files : Files) → s.held now ≡ Some files → (list : List Store) (columns : Columns) (f : ℕ → Tall) → IsTold files list columns vs f stores → Holds files list vs f roots stores (2 * (n + 1) - 1) (seen candidate) known counts → Holds files list vs f roots stores (2 * (n + 1) + 1) (seen p) after next)
      → AllSoFar s stores vs roots ps shelf0 counts0 (n + 1) later after next p
  one_more so files is went blamed told = record {
    files = files;
    after = is;
    went = subst (λ k. Went s (levels_openings stores k ps) shelf0 later) (suc_is n) (went_then s (levels_openings stores n ps) (level_openings stores (n + 1) ps) shelf0 now later so.went went);
    blamed = by blamed;
    told = λ fs h list columns f t counted. told fs (so.went.held ∙ h) list columns f t (subst (λ r. Holds fs list vs f roots stores r (seen candidate) known counts) (sym (rank_below n)) (so.told fs h list columns f t counted));
  }
    where
      suc_is : (n : ℕ) → suc n ≡ n + 1
      suc_is n = omega arith

      by : (p ≡ candidate) ⊎ IsBlamed stores p (shelf_counts s now) (shelf_counts s later) → IsBlamed stores p (shelf_counts s shelf0) (shelf_counts s later)
      by (inl e) = subst (λ x. IsBlamed stores x (shelf_counts s shelf0) (shelf_counts s later)) (sym e) (blamed_later stores candidate (shelf_counts s shelf0) (shelf_counts s now) (shelf_counts s later) so.blamed went.later)
      by (inr b) = blamed_before stores p (shelf_counts s shelf0) (shelf_counts s now) (shelf_counts s later) so.went.later b

earlier_nothing : (q : Option Fault) → earlier q None ≡ q
earlier_nothing None = refl
earlier_nothing (Some x) = refl

module _ {S : Type 0} (s : shelf.Ghosts S) (stores : List SeenStore) (vs : List Vertex) (roots : List ℕ) (ps : List Pass) (shelf0 : S) (counts0 : List (List (Option ℕ))) where
  pub levels_first : (known0 known : Known) (candidate : Option Candidate) → HaveCounts counts0 stores → IsAfter vs roots 1 (earlier (seen candidate) None) known → IsOfData candidate
      → ((files : Files) (list : List Store) (columns : Columns) (f : ℕ → Tall) → IsTold files list columns vs f stores → AreCountedAll files stores counts0 → Holds files list vs f roots stores 1 (earlier (seen candidate) None) known counts0)
      → AllSoFar s stores vs roots ps shelf0 counts0 0 shelf0 known counts0 candidate
  levels_first known0 known candidate have after data_alone told = record {
    files = have;
    after = subst (λ x. IsAfter vs roots 1 x known) (earlier_nothing (seen candidate)) after;
    went = went_none s shelf0;
    blamed = blamed_data stores candidate (shelf_counts s shelf0) (shelf_counts s shelf0) data_alone;
    told = λ files h list columns f t counted. subst (λ x. Holds files list vs f roots stores 1 x known counts0) (earlier_nothing (seen candidate)) (told files list columns f t counted);
  }

pub levels_within : (list : List SeenStore) (ps : List Pass) (n g : ℕ) (name : List ℕ) → n < g → levels_openings list n ps name + level_openings list (n + 1) ps name ≤ levels_openings list g ps name
levels_within list ps n zero name l = omega (arith, l)
levels_within list ps n (suc g) name l =
    let one : levels_openings list (suc g) ps name ≡ levels_openings list g ps name + level_openings list (g + 1) ps name = refl in
    elim (Rattle.tall_semantics.proofs.LevelLaws.compare n g) [
      | inl less ↦ (let h = levels_within list ps n g name less in omega (arith, h, one))
      | inr (inl more) ↦ absurd (omega (arith, l, more))
      | inr (inr same) ↦ (let h : levels_openings list n ps name + level_openings list (n + 1) ps name ≡ levels_openings list g ps name + level_openings list (g + 1) ps name = ap (λ m. levels_openings list m ps name + level_openings list (m + 1) ps name) same in omega (arith, h, one))
    ]
