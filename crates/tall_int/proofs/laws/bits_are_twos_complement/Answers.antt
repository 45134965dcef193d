use Rattle.tall_int.proofs.TwosLemmas.{and_bits, or_bits, xor_bits}
use Rattle.tall_int.proofs.laws.bits_are_twos_complement.Goals as goal

pub returns-clause-both : goal.returns-clause-both
returns-clause-both c = and_bits

pub returns-clause-either : goal.returns-clause-either
returns-clause-either c = or_bits

pub returns-clause-one : goal.returns-clause-one
returns-clause-one c = xor_bits
