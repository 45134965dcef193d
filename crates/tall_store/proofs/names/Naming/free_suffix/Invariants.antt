use Rattle.std.proofs.Common.{◌≡◌, ◌+◌, ◌-◌, length}
use Rattle.csv.specs.Records.{fields_of}
use Rattle.tall_store.specs.Names.{is_suffix_taken, least_free, suffix_of}
use Rattle.tall_store.proofs.names.Naming.free_suffix.Given as goal

abbrev pub invariant-loop-k : goal.invariant-loop-k
invariant-loop-k l =
    least_free (is_suffix_taken (fields_of l.self.fields.now) l.self.names.items l.name) ((length (fields_of l.self.fields.now) + length l.self.names.items + 1) - l.k) l.k
    ≡ suffix_of (fields_of l.self.fields.now) l.self.names.items l.name
