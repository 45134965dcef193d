use Rattle.std.specs.Prelude.{◌≡◌, ◌++◌, map, drop, string_bytes}
use Rattle.tall_sources.proofs.values.each_text.Given as goal

-- the texts so far, before those that are left
abbrev pub invariant-loop-place : goal.invariant-loop-place
invariant-loop-place l = map (λ s. string_bytes s) l.kept.items ++ drop l.place l.texts ≡ l.texts
