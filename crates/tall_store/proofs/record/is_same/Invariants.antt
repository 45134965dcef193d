use Rattle.std.proofs.Common.{◌≡◌, get_or, []}
use Rattle.csv.specs.Records.{fields_of}
use Rattle.tall_store.specs.Headers.{is_same_record}
use Rattle.tall_store.proofs.Finding.{same_from}
use Rattle.tall_store.proofs.record.is_same.Given as goal

-- the fields before this one are equal
abbrev pub invariant-loop-k : goal.invariant-loop-k
invariant-loop-k l =
    same_from (get_or l.records 0 []) (fields_of l.fields) l.k ≡ is_same_record (get_or l.records 0 []) (fields_of l.fields)
