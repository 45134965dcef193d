-- Answers for the members of a list, one after another.
use Rattle.std.specs.Prelude.{List, ◌++◌, Result, Ok, Err}

-- what is done, in front of the answers for the rest
abbrev pub followed : {B E : Type 0} → List B → Result (List B) E → Result (List B) E
followed done (Ok rest) = Ok (done ++ rest)
followed done (Err e) = Err e
