-- With no open file a read gives no byte.
use Rattle.std.proofs.Common.{◌≡◌, ℕ, List, [], Option, Some, None, Result, Ok, Err, IfOk, length, take, arith, length-append, ap}
use Rattle.std.specs.Io.{ReadsAtMost}
use Rattle.std.specs.Io.KnownBytes.{ReadConsumes}

pub nothing_read : {E : Type 0} (result : Result ℕ E) (new : Option (List ℕ)) (buf : List ℕ)
    → ReadsAtMost result buf → ReadConsumes (Some []) new result buf → IfOk result (λ n. n ≡ 0)
nothing_read (Err e) new buf within reads = tt
nothing_read (Ok n) None buf within reads = absurd reads.0
nothing_read (Ok n) (Some rest) buf within reads = omega (arith, within.1, ap length reads.0, length-append (take n buf) rest)
