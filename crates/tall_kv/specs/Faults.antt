-- What a refused pair names.
use Rattle.std.specs.Prelude.{◌≡◌, Option, Some}
use Rattle.tall_local.specs.Refusals.{Refusal, bad_key, bad_value, too_many_rows, Stop, stop_at}
use Rattle.tall_kv.specs.declared.faults.PairFault.{PairFault}
use Rattle.tall_kv.specs.declared.faults.PairFault.TheVariants.{KeyClass, ValueClass, TooManyRows, Memory}
use Rattle.tall_kv.specs.declared.faults.Misfit.{Misfit}
use Rattle.tall_kv.specs.declared.faults.Misfit.TheVariants.{Key, Value, Number}

abbrev pub refusal_of : Misfit → Refusal
refusal_of Key = bad_key
refusal_of Value = bad_value
refusal_of Number = too_many_rows

-- the fault of what stops, if anything does; want of memory may come at any time
abbrev pub IsFaultOf : Option Stop → PairFault → Type 0
IsFaultOf stop (KeyClass line) = stop ≡ Some (stop_at line bad_key)
IsFaultOf stop (ValueClass line) = stop ≡ Some (stop_at line bad_value)
IsFaultOf stop (TooManyRows line) = stop ≡ Some (stop_at line too_many_rows)
IsFaultOf stop Memory = Unit {0}
