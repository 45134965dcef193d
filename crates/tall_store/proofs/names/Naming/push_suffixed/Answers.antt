use Rattle.std.proofs.Common.{◌++◌, ◌∷◌, [], ap, ◌∙◌}
use Rattle.csv.specs.Records.{fields_of}
use Rattle.tall_store.proofs.TakenNames.{known_suffixed, on_ok}
use Rattle.tall_store.proofs.names.Naming.push_suffixed.Goals as goal

pub free_suffix-requires-clause-passed : goal.free_suffix-requires-clause-passed
free_suffix-requires-clause-passed c = c.requires.naming.passed c.args.name.now c.args.start c.requires.start

pub returns-clause-naming : goal.returns-clause-naming
returns-clause-naming c =
    on_ok c.set_next.result c.set_next.ensures.next (λ updated. known_suffixed (fields_of c.args.self.now.fields.now) (fields_of c.push.new.self.fields.now)
    (fields_of c.set_next.new.self.fields.now) c.args.self.now.field_set c.push.new.self.field_set c.set_next.new.self.field_set c.args.self.now.names.items
    c.push.new.self.names.items c.set_next.new.self.names.items c.args.self.now.next c.push.new.self.next c.set_next.new.self.next c.args.name.now c.args.start
    c.in_ok-suffix.suffix c.requires.naming c.requires.start c.in_ok-suffix.ensures.suffix c.in_ok-push.ensures.naming (ap fields_of c.in_ok-push.ensures.fields)
    (c.in_ok-push.ensures.names ∙ ap (λ x. c.args.self.now.names.items ++ x ∷ []) c.in_ok-suffixed.ensures) updated
    (ap fields_of c.set_next.ensures.same.0) c.set_next.ensures.same.1 c.set_next.ensures.same.2)
