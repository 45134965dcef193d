-- Texts in one buffer: each ends where the next begins.
use Rattle.std.specs.Prelude.{ℕ, zero, suc, ◌≡◌, ◌≤◌, List, [], ◌∷◌, ◌+◌, ◌-◌, length, map}
use Rattle.std.specs.List.{slice_range}
use Rattle.std.specs.Str.{IsUtf8}

-- the texts that end at the given places, the first of which begins at `start`
abbrev pub texts_from : List ℕ → ℕ → List ℕ → List (List ℕ)
texts_from bytes start [] = []
texts_from bytes start (end ∷ ends) = slice_range bytes start end ∷ texts_from bytes end ends

-- the ends don't fall, each text is UTF-8, and the last one ends the buffer
abbrev pub IsCut : List ℕ → ℕ → List ℕ → Type 0
IsCut bytes start [] = start ≡ length bytes
IsCut bytes start (end ∷ ends) = (start ≤ end) × (end ≤ length bytes) × IsUtf8 (slice_range bytes start end) × IsCut bytes end ends

-- where the text at a place begins
abbrev pub begin_at : ℕ → List ℕ → ℕ → ℕ
begin_at start ends zero = start
begin_at start [] (suc at) = start
begin_at start (end ∷ ends) (suc at) = begin_at end ends at

-- places so much further on
abbrev pub further : ℕ → List ℕ → List ℕ
further by ends = map (λ end. by + end) ends

-- places so much nearer to the front
abbrev pub nearer : ℕ → List ℕ → List ℕ
nearer by ends = map (λ end. end - by) ends
