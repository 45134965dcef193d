-- Blocks of a file that is taken as a whole, and the pairs of the two phases of mapreduce.
use Rattle.std.specs.Prelude.{List, Result, Ok, Err}
use Rattle.tall_local.specs.Pairs.{Pair}
use Rattle.tall_local.specs.Refusals.{Stop}
use Rattle.tall_local.specs.StoreLaws.{IsStore}

-- pairs as a store keeps them, unless a fault comes
abbrev pub IsStoreOrStop : Result (List Pair) Stop → Type 0
IsStoreOrStop (Ok pairs) = IsStore pairs
IsStoreOrStop (Err stop) = Unit {0}
