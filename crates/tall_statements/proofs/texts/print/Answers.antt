use Rattle.std.proofs.Common.{◌∙◌, ap, length, subst, sym}
use Rattle.tall_local.specs.Printing.{value_text}
use Rattle.tall_script.specs.ScriptValues.{class_of_tall}
use Rattle.tall_deferred.specs.Values.{IsValue, value_at}
use Rattle.tall_print.specs.Appended.{AppendsOrKeeps}
use Rattle.tall_statements.proofs.TextLaws.{tall_text}
use Rattle.tall_statements.proofs.texts.print.Goals as goal

pub returns-in-Tall : goal.returns-in-Tall
returns-in-Tall c = λ columns f m.
    subst (λ t. AppendsOrKeeps c.print_kind-in-Tall.result c.args.text.now.items c.print_kind-in-Tall.new.text.items t)
    (tall_text c.args.name.now c.tall_kind.result.now columns c.args.graph.now f c.in-Tall.node c.class_of.result c.keeps_its_rules.ensures.made m (subst (λ v. IsValue (length c.args.graph.now) v) c.in-Tall.is c.requires) c.class_of.ensures c.tall_kind.ensures
    ∙ ap (λ v. value_text class_of_tall c.args.name.now (value_at f v)) (sym c.in-Tall.is)) c.print_kind-in-Tall.ensures
