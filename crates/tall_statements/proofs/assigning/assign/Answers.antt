use Rattle.std.specs.Prelude.{◌≡◌, ◌++◌}
use Rattle.std.proofs.Common.{subst, sym}
use Rattle.tall_semantics.specs.Deferred.{IsMeaning}
use Rattle.tall_script.specs.Statements.{shown_text}
use Rattle.tall_deferred.specs.Values.{value_at}
use Rattle.tall_statements.proofs.Naming.{on_ok}
use Rattle.tall_statements.proofs.assigning.assign.Goals as goal

pub returns-clause-text : goal.returns-clause-text
returns-clause-text c = λ columns f m. on_ok (c.show.new.text.items ≡ c.args.text.now.items ++ shown_text c.args.shown c.args.name.now (value_at f c.args.value)) c.assign.result (c.in_ok-show.ensures columns f (subst (λ g. IsMeaning columns g f) (sym c.graph.ensures) m))
