-- Groups so far: the keys, and a state for each.
use Rattle.std.specs.Prelude.{◌≡◌, ◌<◌, ◌^◌, ℕ, List, length}
use Rattle.tall_value.specs.Cells.{Seen}
use Rattle.tall_group.specs.Keys.{found, AreApart}
use Rattle.tall_group.specs.Places.{AreOf, Data, group_at}

-- the keys and states are those of some rows: the keys and the data, which are equally many
pub record IsGroupsOf {S : Type 0} (of : Data → S → Type 0) (ks : List Seen) (states : List S) (keys data' : List Seen) : Type 0 where
  pub even : length keys ≡ length data'
  pub few : length keys < 2 ^ 40
  pub long : length states ≡ length ks
  pub apart : AreApart ks
  pub found_in : (c : Seen) → found c ks ≡ found c keys
  pub data_at : AreOf of (group_at ks keys data') states
