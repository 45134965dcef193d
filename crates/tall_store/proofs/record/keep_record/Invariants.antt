use Rattle.std.proofs.Common.{◌≡◌, [], get_or, take}
use Rattle.csv.specs.Records.{fields_of, partial_of}
use Rattle.tall_store.proofs.record.keep_record.Given as goal

abbrev pub invariant-loop-k : goal.invariant-loop-k
invariant-loop-k l = record {
  fields : fields_of l.kept ≡ take l.k (get_or l.records l.i []);
  partial : partial_of l.kept ≡ [];
}
