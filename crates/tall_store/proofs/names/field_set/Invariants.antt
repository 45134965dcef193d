use Rattle.csv.specs.Records.{fields_of}
use Rattle.tall_store.proofs.TakenNames.{AreFields}
use Rattle.tall_store.proofs.names.field_set.Given as goal

abbrev pub invariant-loop-k : goal.invariant-loop-k
invariant-loop-k l = AreFields l.set (fields_of l.fields) l.k
