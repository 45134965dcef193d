-- When a file is longer than the limit.
use Rattle.std.proofs.Common.{◌<◌, ◌^◌, ℕ, List, Option, None, Some, arith}
use Rattle.std.specs.Prelude.{IfSome}
use Rattle.tall_cut.specs.Feed.{Inside}

-- more came than the limit: the file is longer than it
pub is_longer : (size : Option ℕ) (came limit : ℕ) (left : Option (List ℕ)) → Inside size came left → came < 2 ^ 64 → limit < came
    → IfSome size (λ n. limit < n)
is_longer None came limit left h fits large = tt
is_longer (Some size) came limit None h fits large = absurd h
is_longer (Some size) came limit (Some xs) h fits large = omega (arith, h)
