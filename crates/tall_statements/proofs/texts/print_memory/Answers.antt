use Rattle.std.proofs.Common.{◌∙◌, ap, subst, sym}
use Rattle.tall_local.specs.Printing.{memory_text}
use Rattle.tall_memory.specs.Values.{value_seen}
use Rattle.tall_print.specs.Appended.{AppendsOrKeeps}
use Rattle.tall_statements.proofs.TextLaws.{same_text}
use Rattle.tall_statements.proofs.texts.print_memory.Goals as goal

pub returns-in-Value : goal.returns-in-Value
returns-in-Value c = subst (λ t. AppendsOrKeeps c.print_value.result c.args.text.now.items c.print_value.new.text.items t) (same_text c.args.name.now c.in-Value.value ∙ ap (λ v. memory_text c.args.name.now (value_seen v)) (sym c.in-Value.is)) c.print_value.ensures
