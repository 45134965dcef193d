-- How many records each file of a datastore has, as passes count them.
use Rattle.std.specs.Prelude.{◌≡◌, ◌<◌, ℕ, List, length, get_or, Option, None, Some}
use Rattle.tall_outside.specs.Shelf.{Files, file_in}
use Rattle.tall_store.specs.FileEnds.{name_of_file}
use Rattle.tall_store.specs.Records.{data_in}
use Rattle.tall_store.specs.Stores.{SeenStore}

-- none where no pass has counted the file
abbrev pub count_at : List (Option ℕ) → (file : ℕ) → Option ℕ
count_at counts file = get_or counts file None

-- no number that is known changes
pub record KeepsCounts (old new : List (Option ℕ)) : Type 0 where
  pub files : length new ≡ length old
  pub known : (file n : ℕ) → count_at old file ≡ Some n → count_at new file ≡ Some n

abbrev pub AllCounted : List (Option ℕ) → Type 0
AllCounted counts = (file : ℕ) → file < length counts → (n : ℕ) × (count_at counts file ≡ Some n)

-- the numbers that are known are those of the data records that the files have
abbrev pub AreCounted : Files → SeenStore → List (Option ℕ) → Type 0
AreCounted files store counts = (file n : ℕ) → count_at counts file ≡ Some n → n ≡ length (data_in store (file_in files (name_of_file store file)))
