-- Records that stand one after the other in one text, with the places where fields and records end.
use Rattle.std.specs.Prelude.{◌≡◌, ◌+◌, ◌-◌, ℕ, List, [], ◌∷◌, ◌++◌, take, drop, length}
use Rattle.csv.specs.Records.{Rising, cut_from, last_end}
use Rattle.tall_cut.specs.declared.block.Block.{Block}
use Rattle.tall_scan.specs.Rows.{Fields}

-- the fields in groups that end at these places, after a start
unfoldable pub groups : ℕ → List ℕ → Fields → List Fields
groups start [] fields = []
groups start (end ∷ ends) fields = take (end - start) (drop start fields) ∷ groups end ends fields

-- the bytes of all fields, one after the other
unfoldable pub joined : Fields → List ℕ
joined [] = []
joined (field ∷ fields) = field ++ joined fields

-- where fields end that follow each other from a start
unfoldable pub ends_from : ℕ → Fields → List ℕ
ends_from start [] = []
ends_from start (field ∷ fields) = (start + length field) ∷ ends_from (start + length field) fields

-- all fields of a block
abbrev pub block_fields : Block → Fields
block_fields b = cut_from 0 b.fields.items b.bytes.items

-- the records of a block
abbrev pub block_records : Block → List Fields
block_records b = groups 0 b.ends.items (block_fields b)

-- the places rise, and stop at the end of what they cut
pub record Inside (text places ends : List ℕ) : Type 0 where
  pub fields : Rising 0 places (length text)
  pub records : Rising 0 ends (length (cut_from 0 places text))

-- and nothing comes after the last of them
pub record Closed (text places ends : List ℕ) : Type 0 where
  pub inside : Inside text places ends
  pub bytes : last_end 0 places ≡ length text
  pub fields : last_end 0 ends ≡ length (cut_from 0 places text)

abbrev pub IsInside : Block → Type 0
IsInside b = Inside b.bytes.items b.fields.items b.ends.items

-- what holds while records are added
abbrev pub IsClosed : Block → Type 0
IsClosed b = Closed b.bytes.items b.fields.items b.ends.items
