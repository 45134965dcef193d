use Rattle.std.proofs.Common.{rules, ap}
use Rattle.csv.specs.Records.{fields_of}
use Rattle.tall_store.proofs.TakenNames.{known_push}
use Rattle.tall_store.proofs.names.Naming.push.Goals as goal

pub returns-clause-naming : goal.returns-clause-naming
returns-clause-naming c =
    known_push (fields_of c.args.self.now.fields.now) _ c.args.self.now.field_set _ c.args.self.now.names.items c.set_next.new.self.names.items _ c.args.self.now.next _ c.args.name
    c.requires c.in_ok-set_next.ensures.next (ap fields_of c.in_ok-set_next.ensures.same.0) c.in_ok-set_next.ensures.same.1 c.in_ok-set_next.ensures.same.2 (search rules)
