-- States of groups by their places.
use Rattle.std.specs.Prelude.{◌≡◌, ◌<◌, ◌+◌, ◌==◌, ℕ, ℤ, if◌then◌else◌, Option, Some, None, List, [], ◌∷◌, ◌++◌, length, get_or, map, slice_get}
use Rattle.tall_value.specs.Cells.{Seen}
use Rattle.tall_value.specs.Groups.{group_data}
use Rattle.tall_group.specs.States.{datum}

abbrev pub Data : Type 0
Data = List (Option ℤ)

-- each state is of the data at its place
abbrev pub AreOf : {S : Type 0} → (Data → S → Type 0) → (ℕ → Data) → List S → Type 0
AreOf {S} of at states = (p : ℕ) (d : S) → p < length states → of (at p) (get_or states p d)

-- one more for a place
abbrev pub if_here : ℕ → ℕ → Data → Data
if_here p q ds = if q == p then ds else []

-- those of several parts that go to a place
abbrev pub parts_at : ℕ → List ℕ → List Data → Data
parts_at p [] parts = []
parts_at p (q ∷ qs) [] = []
parts_at p (q ∷ qs) (part ∷ parts) = if_here p q part ++ parts_at p qs parts

-- each datum by itself
abbrev pub singles : List Seen → List Data
singles cs = map (λ c. datum c ∷ []) cs

-- the rows of states that go to a place
abbrev pub rows_at : {S : Type 0} → (S → ℕ) → ℕ → List ℕ → List S → ℕ
rows_at rows p [] states = 0
rows_at rows p (q ∷ qs) [] = 0
rows_at rows p (q ∷ qs) (s ∷ states) = (if q == p then rows s else 0) + rows_at rows p qs states

-- the data of a key, if there is one
abbrev pub key_data : List Seen → List Seen → Option Seen → Data
key_data keys data' (Some k) = map datum (group_data k keys data')
key_data keys data' None = []

-- the data of the key at a place
abbrev pub group_at : List Seen → List Seen → List Seen → ℕ → Data
group_at ks keys data' p = key_data keys data' (slice_get ks p)
