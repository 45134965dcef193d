-- The work on a block node by node.
use Rattle.std.specs.Prelude.{◌≡◌, ℕ, nat_lt, Bool, true, Option, None, Some, List, take, slice_get}
use Rattle.std.specs.List.{filter}
use Rattle.tall_value.specs.Cells.{Seen}
use Rattle.tall_semantics.specs.Deferred.{Vertex, IsAmong}
use Rattle.tall_semantics.specs.Numbered.{number_at}
use Rattle.tall_semantics.specs.Plans.{is_scan_at}
use Rattle.tall_blocks.specs.Pieces.{is_below_missing}

-- the number is below this one, if there is one
abbrev pub is_under : Option ℕ → ℕ → Bool
is_under (Some k) n = nat_lt n k
is_under None n = true

-- what is looked at among the first places of the work
abbrev pub looked_first : List Vertex → (carry : ℕ → Option Seen) → (work : List ℕ) → (count : ℕ) → List ℕ
looked_first vs carry work count = filter (λ i. is_below_missing vs carry work (number_at (slice_get vs i))) (take count work)

-- i is of the work, its operands that are cut are done, and where it is a scan its carry is known
pub record IsNext (vs : List Vertex) (cut : ℕ → Bool) (carry : ℕ → Option Seen) (work done : List ℕ) (i : ℕ) : Type 0 where
  pub among : IsAmong work i
  pub within : (j : ℕ) → IsAmong done j → IsAmong work j
  pub operands : (a : ℕ) (v : Vertex) → slice_get vs i ≡ Some v → IsAmong v.args a → cut a ≡ true → IsAmong done a
  pub carried : is_scan_at (slice_get vs i) ≡ true → (c : Seen) × (carry i ≡ Some c)
