use Rattle.tall_num.proofs.Derived.{derived_is_read}
use Rattle.tall_num.proofs.Sound.{read_is_derived}
use Rattle.tall_num.proofs.laws.fields_follow_the_grammar.Goals as goal

pub returns-clause-derived : goal.returns-clause-derived
returns-clause-derived c = derived_is_read

pub returns-clause-read : goal.returns-clause-read
returns-clause-read c = read_is_derived
