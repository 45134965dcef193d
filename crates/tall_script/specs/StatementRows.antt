-- Property statements, by computation.
use Rattle.std.specs.Prelude.{◌≡◌, refl, pos, [], Some, None, Ok, Err, codes}
use Rattle.tall_cut.specs.declared.cutter.ReadSize.TheVariants.{Rows}
use Rattle.tall_value.specs.Cells.{double}
use Rattle.tall_local.specs.Constants.{constant_named}
use Rattle.tall_local.specs.Memory.{scalar}
use Rattle.tall_local.specs.Refusals.{bad_argument, undefined}
use Rattle.tall_local.specs.Values.{in_memory}
use Rattle.tall_script.specs.Datastores.{changed}
use Rattle.tall_script.specs.ScriptLanguage.{read_name}
use Rattle.tall_script.specs.States.{Store}
use Rattle.tall_script.specs.Statements.{changed_store, datastore_named}

-- true.ReadSize = 1;
property_of_a_constant : datastore_named [] (codes "true") (read_name (codes "true") None) ≡ Err bad_argument
unfolding constant_named
property_of_a_constant = refl

-- y.ReadSize = 1;
property_of_no_name : datastore_named [] (codes "y") (read_name (codes "y") None) ≡ Err (undefined (codes "y"))
unfolding constant_named
property_of_no_name = refl

-- ds.ReadSize = 1; the number and the line stay those of the call
another_size : (d : Store) → changed_store (codes "ReadSize") (in_memory (scalar (double (Some (pos 1))))) d ≡ Ok (record { at = d.at; store = record d.store { size = Rows 1 } })
unfolding changed
another_size d = refl
