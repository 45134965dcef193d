-- Marks of places, and the datastores that are still to be gone over at a level.
use Rattle.std.specs.Prelude.{◌≡◌, ℕ, ◌<◌, ◌≤◌, Bool, true, false, nat_lt, if◌then◌else◌, Option, None, Some, List, get_or}
use Rattle.tall_semantics.specs.Deferred.{Vertex, IsAmong}
use Rattle.tall_semantics.specs.Plans.{is_among, is_of_level, is_work, store_at}

abbrev pub mark_at : List Bool → ℕ → Bool
mark_at marks i = get_or marks i false

-- below n, the marked places are those of the list
abbrev pub AreMarked : List Bool → ℕ → List ℕ → Type 0
AreMarked marks n xs = (i : ℕ) → i < n → mark_at marks i ≡ is_among i xs

-- ---- the datastores that are gone over at a level

-- the datastore that a value needs a pass over at this level
abbrev pub offer : List Vertex → (level : ℕ) → ℕ → Option ℕ
offer vs k i = if is_of_level vs k i then store_at vs i else None

-- the lesser of two datastores, of those from a number on
abbrev pub earlier : (from : ℕ) → Option ℕ → Option ℕ → Option ℕ
earlier m r None = r
earlier m None (Some s) = if nat_lt s m then None else Some s
earlier m (Some t) (Some s) = if nat_lt s m then Some t else if nat_lt s t then Some s else Some t

-- the first datastore from this number on that some of these values need a pass over, or there is none
abbrev pub IsNext : List Vertex → (level from : ℕ) → List ℕ → Option ℕ → Type 0
IsNext vs k m xs None = (s i : ℕ) → m ≤ s → IsAmong xs i → is_work vs s k i ≡ false
IsNext vs k m xs (Some t) =
    (m ≤ t) × ((s i : ℕ) → m ≤ s → s < t → IsAmong xs i → is_work vs s k i ≡ false) × ((i : ℕ) × IsAmong xs i × (is_work vs t k i ≡ true))
