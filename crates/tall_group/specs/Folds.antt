-- Groups so far, by a key and with a method.
use Rattle.std.specs.Prelude.{◌≡◌, IsOk, List}
use Rattle.std.specs.List.{All}
use Rattle.tall_value.specs.declared.class.Class.{Class}
use Rattle.tall_value.specs.declared.functions.Method.{Method}
use Rattle.tall_value.specs.Cells.{Seen}
use Rattle.tall_value.specs.Classes.{kind_of}
use Rattle.tall_value.specs.Columns.{HasKind}
use Rattle.tall_value.specs.FunctionClasses.{method_kind}
use Rattle.tall_group.specs.GroupFolds.{AreGroupsOf, form_of, served}
use Rattle.tall_group.specs.declared.fold.GroupFold.{GroupFold}

-- the class of the keys
abbrev pub class_of_keys : GroupFold → Class
class_of_keys fold = fold.keys.class

-- the class of the data
abbrev pub class_of_data : GroupFold → Class
class_of_data fold = fold.value

-- the method
abbrev pub method_of_groups : GroupFold → Method
method_of_groups fold = fold.method

-- both are of one method and of the same classes
pub record AreAlike (fold other : GroupFold) : Type 0 where
  pub keys : class_of_keys fold ≡ class_of_keys other
  pub data_class : class_of_data fold ≡ class_of_data other
  pub method : method_of_groups fold ≡ method_of_groups other

-- the fold is one of these rows, in this order: their keys and their data, which are of a class that the method takes
pub record IsGroupFoldOf (fold : GroupFold) (keys data' : List Seen) : Type 0 where
  pub takes : IsOk (method_kind (method_of_groups fold) (kind_of (class_of_data fold)))
  pub groups : AreGroupsOf (kind_of (class_of_data fold)) fold.keys.cells fold.states keys data'
  pub served_by : served fold.states ≡ form_of (method_of_groups fold) (kind_of (class_of_data fold))
  pub key_kinds : All (HasKind (kind_of (class_of_keys fold))) keys
  pub data_kinds : All (HasKind (kind_of (class_of_data fold))) data'
