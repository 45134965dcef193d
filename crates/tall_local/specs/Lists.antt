-- Lists of answers that may be missing or refused.
use Rattle.std.specs.Prelude.{List, [], ◌∷◌, Option, None, Some, Result, Ok, Err}
use Rattle.tall_value.specs.Elementwise.{in_front}

abbrev pub in_front_of : {B : Type 0} → Option B → Option (List B) → Option (List B)
in_front_of (Some b) (Some bs) = Some (b ∷ bs)
in_front_of (Some b) None = None
in_front_of None bs = None

-- all answers; none where one is missing
abbrev pub all_of : {A B : Type 0} → (A → Option B) → List A → Option (List B)
all_of f [] = Some []
all_of f (a ∷ rest) = in_front_of (f a) (all_of f rest)

abbrev pub ahead : {B E : Type 0} → Result B E → Result (List B) E → Result (List B) E
ahead (Ok b) bs = in_front b bs
ahead (Err e) bs = Err e

-- all answers, or the first refusal
abbrev pub each_of : {A B E : Type 0} → (A → Result B E) → List A → Result (List B) E
each_of f [] = Ok []
each_of f (a ∷ rest) = ahead (f a) (each_of f rest)
