-- The passes of a gather: level by level, datastore by datastore, none where there is no work.
use Rattle.std.specs.Prelude.{ℕ, zero, suc, ◌+◌, ◌==◌, if◌then◌else◌, List, [], ◌∷◌, ◌++◌}

pub record Pass : Type 0 where
  pub store : ℕ
  pub level : ℕ
  pub work : List ℕ

abbrev pub pass_of : (store level : ℕ) → List ℕ → List Pass
pass_of store level [] = []
pass_of store level (w ∷ ws) = record { store = store; level = level; work = w ∷ ws } ∷ []

-- the passes of a level, over n datastores; `work` tells the work by datastore and level
unfoldable pub passes_at : ((store level : ℕ) → List ℕ) → (level n : ℕ) → List Pass
passes_at work k zero = []
passes_at work k (suc n) = passes_at work k n ++ pass_of n k (work n k)

-- the passes of the levels from 1 to k
unfoldable pub passes_up_to : ((store level : ℕ) → List ℕ) → (n k : ℕ) → List Pass
passes_up_to work n zero = []
passes_up_to work n (suc k) = passes_up_to work n k ++ passes_at work (suc k) n

-- how many of the passes are over the datastore
abbrev pub of_store : ℕ → List Pass → ℕ
of_store store [] = 0
of_store store (p ∷ ps) = (if p.store == store then 1 else 0) + of_store store ps
