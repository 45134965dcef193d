use Rattle.tall_semantics.specs.Equality.{same_space, same_tree}
use Rattle.tall_semantics.proofs.EqualityLaws.{trees_decided, spaces_decided}
use Rattle.tall_semantics.proofs.FormLaws.{exact, longer}
use Rattle.tall_semantics.proofs.laws.numbers_are_equal_for_equal_trees.Goals as goal

pub returns-clause-forms : goal.returns-clause-forms
returns-clause-forms c = exact same_tree trees_decided

pub returns-clause-spaces : goal.returns-clause-spaces
returns-clause-spaces c = exact same_space spaces_decided

pub returns-clause-kept_forms : goal.returns-clause-kept_forms
returns-clause-kept_forms c = longer same_tree trees_decided

pub returns-clause-kept_spaces : goal.returns-clause-kept_spaces
returns-clause-kept_spaces c = longer same_space spaces_decided
