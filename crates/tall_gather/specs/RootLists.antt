-- The columns of the first roots.
use Rattle.std.specs.Prelude.{◌≡◌, ℕ, Some, List, length, slice_get}
use Rattle.tall_dense.specs.Columns.{SeenColumn}
use Rattle.tall_semantics.specs.Deferred.{Vertex}
use Rattle.tall_fuse.specs.declared.known.Known.{Known}
use Rattle.tall_gather.specs.Gathered.{IsRootColumn}

pub record RootColumns (vs : List Vertex) (roots : List ℕ) (known : Known) (n : ℕ) (columns : List SeenColumn) : Type 0 where
  pub many : length columns ≡ n
  pub each : (j i : ℕ) (x : SeenColumn) → slice_get roots j ≡ Some i → slice_get columns j ≡ Some x → IsRootColumn vs roots known i x
