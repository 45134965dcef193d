use Rattle.tall_value.specs.Classes.{kind_of}
use Rattle.tall_group.proofs.table.KeyTable.truncate.Goals as goal

pub invariant_of-self : goal.invariant_of-self
invariant_of-self c = c.truncate.ensures.table (kind_of c.self.inside.class) c.self.invariant
