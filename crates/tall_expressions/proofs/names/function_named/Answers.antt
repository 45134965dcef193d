use Rattle.std.proofs.Common.{◌∙◌, sym}
use Rattle.tall_expressions.proofs.NameLaws.{of_values_named}
use Rattle.tall_expressions.proofs.names.function_named.Goals as goal

pub returns-in-Some : goal.returns-in-Some
returns-in-Some c = of_values_named c.args.name.now c.in-Some.f (sym c.in-Some.is ∙ c.value_function_named.ensures)
