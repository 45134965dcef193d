use Rattle.std.proofs.Common.{◌≡◌, ◌+◌, drop, length}
use Rattle.csv.specs.Records.{fields_of}
use Rattle.tall_store.specs.Names.{header_names, names_from}
use Rattle.tall_store.specs.NamesSoFar.{IsNaming}
use Rattle.tall_store.proofs.names.header_names.Given as goal

abbrev pub invariant-loop-k : goal.invariant-loop-k
invariant-loop-k l = record {
  names : names_from (fields_of l.fields) l.naming.names.items (l.k + 1) (drop l.k (fields_of l.fields)) ≡ header_names (fields_of l.fields);
  naming : IsNaming l.naming;
  fields : l.naming.fields.now ≡ l.fields;
  count : length l.naming.names.items ≡ l.k;
}
