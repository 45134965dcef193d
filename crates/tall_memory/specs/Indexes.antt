-- What a clause sees of an index.
use Rattle.std.specs.Prelude.{Option, None, Some}
use Rattle.tall_local.specs.Arguments as arguments
use Rattle.tall_local.specs.Memory.{Memory}
use Rattle.tall_memory.specs.declared.indexing.Index.{Index}
use Rattle.tall_memory.specs.declared.indexing.Index.TheVariants as index
use Rattle.tall_memory.specs.Values.{ref_seen}

abbrev pub index_seen : Index → Option (arguments.Index Memory)
index_seen (index.Rows v) = Some (arguments.rows_at (ref_seen v))
index_seen (index.AllVariables v) = Some (arguments.all_variables_at (ref_seen v))
index_seen index.OtherForm = None
