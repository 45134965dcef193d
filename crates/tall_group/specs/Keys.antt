-- Keys in the order in which they first came.
use Rattle.std.specs.Prelude.{◌≡◌, ◌<◌, ℕ, zero, suc, Bool, true, false, ◌||◌, if◌then◌else◌, List, [], ◌∷◌, ◌++◌, length, get_or, take}
use Rattle.std.specs.List.{list_any}
use Rattle.std.specs.declared.cmp.Ordering.TheVariants.{Less}
use Rattle.tall_value.specs.declared.class.Kind.{Kind}
use Rattle.tall_value.specs.Cells.{Seen}
use Rattle.tall_value.specs.CellOrder.{cell_order}
use Rattle.tall_value.specs.Groups.{is_of_group}
use Rattle.tall_group.specs.Numbers.{key_cell}
use Rattle.tall_group.specs.declared.numbers.Number.TheVariants.{Nan}

-- a key of the group of a cell is among the keys
abbrev pub found : Seen → List Seen → Bool
found c ks = list_any (is_of_group c) ks

-- the keys with one more, where it isn't there yet
abbrev pub with_key : List Seen → Seen → List Seen
with_key ks c = if found c ks then ks else ks ++ c ∷ []

-- the keys with a cell's, which is at a place
pub record IsPlaced (before after : List Seen) (c : Seen) (p : ℕ) : Type 0 where
  pub keys : after ≡ with_key before c
  pub within : p < length after
  pub here : (d : Seen) → is_of_group c (get_or after p d) ≡ true

-- no two of the keys are of one group
abbrev pub AreApart : List Seen → Type 0
AreApart [] = Unit {0}
AreApart (k ∷ ks) = (found k ks ≡ false) × AreApart ks

-- each cell's key is at its place
abbrev pub AreAt : List Seen → List ℕ → List Seen → Type 0
AreAt keys [] [] = Unit {0}
AreAt keys (p ∷ ps) (c ∷ cs) = (p < length keys) × ((d : Seen) → is_of_group c (get_or keys p d) ≡ true) × AreAt keys ps cs
AreAt keys ps cs = ⊥

-- the keys with those of some cells, each of which is at its place
pub record ArePlaced (before after cs : List Seen) (ps : List ℕ) : Type 0 where
  pub more : List Seen
  pub grown : after ≡ before ++ more
  pub found_in : (c : Seen) → found c after ≡ (found c before || found c cs)
  pub apart : AreApart before → AreApart after
  pub at : AreAt after ps cs

-- a list begins with another
abbrev pub Begins : {A : Type 0} → List A → List A → Type 0
Begins before after = take (length before) after ≡ before

-- the cell comes before all of the others
abbrev pub IsBelow : Seen → List Seen → Type 0
IsBelow c [] = Unit {0}
IsBelow c (d ∷ ds) = (cell_order c d ≡ Less) × IsBelow c ds

-- each cell comes before all that follow it
abbrev pub IsRising : List Seen → Type 0
IsRising [] = Unit {0}
IsRising (c ∷ cs) = IsBelow c cs × IsRising cs

-- each of the cells stands at its place among the keys
abbrev pub StandAt : List Seen → List ℕ → List Seen → Type 0
StandAt keys [] [] = Unit {0}
StandAt keys (p ∷ ps) (c ∷ cs) = (p < length keys) × ((d : Seen) → get_or keys p d ≡ c) × StandAt keys ps cs
StandAt keys ps cs = ⊥

-- the keys in rising order, with the place of each among the keys as they came
pub record AreSorted (keys : List Seen) (places : List ℕ) (sorted : List Seen) : Type 0 where
  pub rising : IsRising sorted
  pub same : (c : Seen) → found c sorted ≡ found c keys
  pub stand : StandAt keys places sorted

-- a cell so many times
abbrev pub copies : ℕ → Seen → List Seen
copies zero c = []
copies (suc n) c = c ∷ copies n c

-- so many cells that are NaN in a column of a kind: doubles alone have any
abbrev pub nans_of : Kind → ℕ → List Seen
nans_of kind n = copies n (key_cell kind Nan)
