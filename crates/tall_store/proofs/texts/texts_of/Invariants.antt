use Rattle.std.proofs.Common.{◌≡◌, ◌++◌, map, drop}
use Rattle.std.specs.Prelude.{string_bytes}
use Rattle.tall_store.proofs.texts.texts_of.Given as goal

abbrev pub invariant-loop-string : goal.invariant-loop-string
invariant-loop-string l = l.texts.items ++ map (λ s. string_bytes s) (drop l.string-index l.strings) ≡ map (λ s. string_bytes s) l.strings
