-- What a fault says that the definitions give. Want of memory may come at any time.
use Rattle.std.specs.Prelude.{◌≡◌, Result, Err}
use Rattle.tall_local.specs.Refusals.{Refusal, undefined, mixed_class, bad_class, incompatible, bad_size, bad_argument, bad_index, failed}
use Rattle.tall_deferred.specs.declared.faults.ValueFault.{ValueFault}
use Rattle.tall_deferred.specs.declared.faults.ValueFault.TheVariants as fault

abbrev pub IsDue : {A : Type 0} → Result A Refusal → ValueFault → Type 0
IsDue want (fault.Undefined name) = want ≡ Err (undefined name)
IsDue want fault.MixedClass = want ≡ Err mixed_class
IsDue want fault.BadClass = want ≡ Err bad_class
IsDue want fault.Incompatible = want ≡ Err incompatible
IsDue want fault.BadSize = want ≡ Err bad_size
IsDue want fault.BadArgument = want ≡ Err bad_argument
IsDue want fault.BadIndex = want ≡ Err bad_index
IsDue want (fault.Data row kind) = want ≡ Err (failed row kind)
IsDue want fault.Memory = Unit {0}
