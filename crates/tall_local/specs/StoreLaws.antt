-- What is kept of the pairs of a store: each key is one that a store takes, all keys have one class and all values have one,
-- and there are fewer than 2^40.
use Rattle.std.specs.Prelude.{◌≡◌, ◌<◌, ◌^◌, true, length, List}
use Rattle.std.specs.List.{All}
use Rattle.tall_local.specs.CallLaws.{HaveOneClass}
use Rattle.tall_local.specs.Pairs.{Pair, is_key}

abbrev pub HasKey : Pair → Type 0
HasKey p = is_key p.key ≡ true

pub record IsStore (ps : List Pair) : Type 0 where
  pub keys : All HasKey ps
  pub classes : HaveOneClass ps
  pub room : length ps < 2 ^ 40
