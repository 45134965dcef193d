use Rattle.std.proofs.Common.{rules}
use Rattle.csv.specs.Records.{fields_of}
use Rattle.tall_store.proofs.TakenNames.{fields_more}
use Rattle.tall_store.proofs.names.field_set.Goals as goal

pub loop-k-preserved : goal.loop-k-preserved
loop-k-preserved c =
    fields_more c.loop-k.set c.add_field.new.set (fields_of c.args.fields.now) c.field_at.result.now c.loop-k.k (search rules) c.field_at.ensures c.in_ok-add_field.ensures
    c.loop-k.invariant
