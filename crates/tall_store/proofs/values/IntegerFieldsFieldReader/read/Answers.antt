use Rattle.tall_store.proofs.FieldReaders.{integer_read}
use Rattle.tall_store.proofs.values.IntegerFieldsFieldReader.read.Goals as goal

pub returns : goal.returns
returns g c =
    integer_read g.I.Integer.KIND g.I.IntClass.MIN g.I.IntClass.MAX g.I.IntClass.number c.args.missing.now c.args.bytes.now c.read_integer.result
    g.met.I.Integer.least_is g.met.I.Integer.greatest_is c.read_integer.ensures
