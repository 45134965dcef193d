-- What a sink has taken of a text, write by write.
use Rattle.std.proofs.Common.{ℕ, ◌+◌, ◌-◌, List, length, take, drop, subst, sym}
use Rattle.std.specs.Prelude.{Option}
use Rattle.std.specs.Io.KnownBytes.{Appends}
use Rattle.std.proofs.KnownBytes.{Appends-trans}
use Rattle.std.proofs.Math.Seq.{take-add}
use Rattle.std.proofs.lemmas.List.{take_rest}

-- after the text up to a place, and so many bytes of what is left of it, the sink has the text up to the next place
pub more_taken : (a b c : Option (List ℕ)) (text : List ℕ) (at count : ℕ) → Appends a b (take at text)
    → Appends b c (take count (take (length text - at) (drop at text))) → Appends a c (take (at + count) text)
more_taken a b c text at count before now =
    subst (Appends a c) (sym (take-add at count text))
    (Appends-trans a b c _ _ before (subst (λ rest. Appends b c (take count rest)) (take_rest text at) now))
