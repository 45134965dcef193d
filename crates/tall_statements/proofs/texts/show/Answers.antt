use Rattle.std.proofs.Common.{sym, subst}
use Rattle.tall_deferred.specs.Values.{value_at}
use Rattle.tall_print.specs.Appended.{AppendsOrKeeps}
use Rattle.tall_script.specs.Statements.{shown_text}
use Rattle.tall_statements.proofs.texts.show.Goals as goal

pub returns-then-shown : goal.returns-then-shown
returns-then-shown c = λ columns f m.
    subst (λ b. AppendsOrKeeps c.print.result c.args.text.now.items c.print.new.text.items (shown_text b c.args.name.now (value_at f c.args.value.now))) (sym c.if-shown.true) (c.print.ensures columns f m)
