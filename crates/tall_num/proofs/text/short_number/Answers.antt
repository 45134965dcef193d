use Rattle.std.proofs.Common.{arith, ◌<◌, ◌^◌}
use Rattle.tall_num.proofs.Digits.{below_seventeen}
use Rattle.tall_num.proofs.text.short_number.Goals as goal

pub overflow_mul-number : goal.overflow_mul-number
overflow_mul-number c =
    let small : c.loop-byte.number < 10 ^ 17 = below_seventeen _ _ c.loop-byte.invariant.1 (omega arith) in omega arith

pub overflow_add-number : goal.overflow_add-number
overflow_add-number c =
    let small : c.loop-byte.number < 10 ^ 17 = below_seventeen _ _ c.loop-byte.invariant.1 (omega arith) in omega arith
