-- Words for the parts of a statement.
use Rattle.std.specs.Prelude.{◌≡◌, ℕ, List, Option, None, Some, Result, Ok, Err, slice_get}
use Rattle.tall_grammar.specs.Trees.{Tree, tree}
use Rattle.tall_grammar.specs.Trees as trees
use Rattle.tall_local.specs.Refusals.{Refusal}
use Rattle.tall_script.specs.States.{Store}
use Rattle.tall_deferred.specs.declared.faults.ValueFault.{ValueFault}
use Rattle.tall_deferred.specs.Faults.{IsDue}

-- the name that an expression is
abbrev pub name_alone : Tree → Option (List ℕ)
name_alone (tree n l (trees.number d)) = None
name_alone (tree n l (trees.text t)) = None
name_alone (tree n l (trees.name x)) = Some x
name_alone (tree n l (trees.list es)) = None
name_alone (tree n l (trees.handle x)) = None
name_alone (tree n l (trees.prefixed op e)) = None
name_alone (tree n l (trees.joined op e g)) = None
name_alone (tree n l (trees.member e x)) = None
name_alone (tree n l (trees.call e args)) = None

-- the place of the datastore that is wanted, or the refusal
abbrev pub IsPlaceOf : List Store → Result Store Refusal → Result ℕ ValueFault → Type 0
IsPlaceOf stores want (Ok place) = (d : Store) × (slice_get stores place ≡ Some d) × (want ≡ Ok d)
IsPlaceOf stores want (Err e) = IsDue want e
