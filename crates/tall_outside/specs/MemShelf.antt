-- What a shelf in memory holds, what is left of its open file, and which calls it lets fail.
use Rattle.std.specs.Prelude.{ℕ, ◌-◌, ◌^◌, Bool, true, is_none, ◌&&◌, List, [], ◌∷◌, map, drop, Option, Some, None, slice_get, String, Vec, nat_eq, ◌≡◌, ⊤}
use Rattle.std.specs.List.{list_any}
use Rattle.std.specs.String.{string_bytes}
use Rattle.tall_outside.specs.Count.{raised}
use Rattle.tall_outside.specs.Shelf.{Files, file_in, has_failed}
use Rattle.tall_outside.specs.declared.shelf.Opening.{Opening}
use Rattle.tall_outside.specs.declared.shelf.Opening.TheVariants as o
use Rattle.tall_outside.specs.declared.mem_shelf.MemShelf.{MemShelf}

-- a list of names with their bytes, as files
abbrev pub files_in : {Y Z : Type 0} → List (String Y × Vec ℕ Z) → Files
files_in files = map (λ file. (string_bytes file.0, file.1.items)) files

-- no two files have one name
abbrev pub have_distinct_names : Files → Bool
have_distinct_names [] = true
have_distinct_names (file ∷ files) = is_none (file_in files file.0) && have_distinct_names files

-- what is left of a file after some of its bytes; nothing, where there is no file
abbrev pub left_in : {Y Z : Type 0} → Option (String Y × Vec ℕ Z) → ℕ → List ℕ
left_in None at = []
left_in (Some file) at = drop at file.1.items

-- the file at a place, where there is one
abbrev pub file_at : {Y Z : Type 0} → List (String Y × Vec ℕ Z) → Option ℕ → Option (String Y × Vec ℕ Z)
file_at files None = None
file_at files (Some i) = slice_get files i

-- the bytes of each text
abbrev pub texts_of : {Y : Type 0} → List (String Y) → List (List ℕ)
texts_of texts = map (λ text. string_bytes text) texts

-- what a shelf in memory holds and tells
pub record State : Type 0 where
  pub files : Files
  pub opened : List (List ℕ)
  pub left : List ℕ
  pub misses : ℕ
  pub faults : ℕ
  pub came : ℕ

-- how often it was called, which calls it lets fail, and how many bytes it gives at most in a read
pub record Plan : Type 0 where
  pub opens : ℕ
  pub reads : ℕ
  pub failing_opens : List ℕ
  pub failing_reads : List ℕ
  pub at_most : ℕ

abbrev pub state_of : MemShelf → State
state_of s = record {
  files = files_in s.files.items;
  opened = texts_of s.asked.items;
  left = left_in (file_at s.files.items s.place) s.at;
  misses = s.misses;
  faults = s.faults;
  came = s.came;
}

abbrev pub plan_of : MemShelf → Plan
plan_of s = record {
  opens = s.opens;
  reads = s.reads;
  failing_opens = s.failing_opens.items;
  failing_reads = s.failing_reads.items;
  at_most = s.at_most;
}

-- before any call
abbrev pub fresh : Files → State
fresh files = record { files = files; opened = []; left = []; misses = 0; faults = 0; came = 0 }

abbrev pub no_plan : Plan
no_plan = record { opens = 0; reads = 0; failing_opens = []; failing_reads = []; at_most = 2 ^ 64 - 1 }

abbrev pub fails_next_open : Plan → Bool
fails_next_open plan = list_any (λ call. nat_eq call (raised plan.opens)) plan.failing_opens

abbrev pub fails_next_read : Plan → Bool
fails_next_read plan = list_any (λ call. nat_eq call (raised plan.reads)) plan.failing_reads

-- a call of `open` answers `Failed` exactly where that was planned, unless memory was wanting
abbrev pub FailsIf : Bool → Opening → Type 0
FailsIf planned o.Memory = ⊤
FailsIf planned answer = has_failed answer ≡ planned
