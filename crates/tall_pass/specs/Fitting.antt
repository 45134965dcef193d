-- What is known whatever a shelf tells: results that are there, with their classes, heights and numbers of rows.
use Rattle.std.specs.Prelude.{◌≡◌, ◌<◌, ◌^◌, ◌&&◌, not, ℕ, Bool, true, false, List, length, Option, Some}
use Rattle.tall_value.specs.Cells.{Seen}
use Rattle.tall_dense.specs.Columns.{class_of_cell}
use Rattle.tall_semantics.specs.Faults.{Fault}
use Rattle.tall_semantics.specs.Spaces.{Space, is_single, has_rows}
use Rattle.tall_semantics.specs.Shapes.{Shape}
use Rattle.tall_semantics.specs.ShapesInOrder.{shape_at}
use Rattle.tall_semantics.specs.Deferred.{Vertex}
use Rattle.tall_fuse.specs.Results.{Found}
use Rattle.tall_fuse.specs.Kept.{carry, found}
use Rattle.tall_fuse.specs.declared.known.Known.{Known}
use Rattle.tall_plan.specs.declared.passes.Pass.{Pass}
use Rattle.tall_pass.specs.PassPlans.{IsLower, IsPassBelow}

-- one row for a scalar, else fewer than 2^40
abbrev pub IsHeight : (is_scalar : Bool) → ℕ → Type 0
IsHeight true n = n ≡ 1
IsHeight false n = n < 2 ^ 40

-- the numbers of its rows stand beside a column that is neither a scalar nor has a datastore's rows
abbrev pub has_numbers : Space → Bool
has_numbers s = not (is_single s) && not (has_rows s)

abbrev pub AreNumbers : (numbered : Bool) → (numbers cells : ℕ) → Type 0
AreNumbers true n k = n ≡ k
AreNumbers false n k = n ≡ 0

pub record IsFit (s : Shape) (r : Found) : Type 0 where
  pub class : r.column.class ≡ s.class
  pub height : IsHeight (is_single s.space) (length r.column.cells)
  pub numbers : AreNumbers (has_numbers s.space) (length r.rows) (length r.column.cells)

-- all that is known fits its node
pub record AreFit (vs : List Vertex) (k : Known) : Type 0 where
  pub results : (i : ℕ) (r : Found) → found k i ≡ Some r → IsFit (shape_at vs i) r
  pub carries : (i b : ℕ) (c : Seen) → carry k i b ≡ Some c → class_of_cell c ≡ (shape_at vs i).class

-- the pass is one of a plan, below some candidate, and what is needed of lower levels is known
pub record IsReady (vs : List Vertex) (roots : List ℕ) (c : Option Fault) (pass : Pass) (k : Known) : Type 0 where
  pub planned : IsPassBelow vs roots c pass
  pub lower : (i : ℕ) → IsLower vs roots c pass.level i → (r : Found) × (found k i ≡ Some r)

abbrev pub CanRun : List Vertex → Pass → Known → Type 0
CanRun vs pass k = (roots : List ℕ) × (c : Option Fault) × IsReady vs roots c pass k
