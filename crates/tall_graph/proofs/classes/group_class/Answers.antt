use Rattle.std.proofs.Common.{rules}
use Rattle.tall_graph.specs.Vertices.{part_seen}
use Rattle.tall_graph.proofs.GroupClasses.{group_made}
use Rattle.tall_graph.proofs.classes.group_class.Goals as goal

pub returns-in-Ok : goal.returns-in-Ok
returns-in-Ok c = group_made c.args.m (part_seen c.args.part) c.args.key c.args.column c.in-Ok.k c.class.result c.column_class.result (search rules) c.class.ensures c.column_class.ensures
