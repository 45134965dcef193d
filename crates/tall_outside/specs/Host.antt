-- What is known of a file of the host: nothing of an open one, and that none is left without one.
use Rattle.std.specs.Prelude.{ℕ, List, [], Option, Some, None}

abbrev pub known_rest : {F : Type 0} → Option F → Option (List ℕ)
known_rest None = Some []
known_rest (Some file) = None
