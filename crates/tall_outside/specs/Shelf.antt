-- What a shelf holds, and what its answers say of it.
use Rattle.std.specs.Prelude.{◌≡◌, ℕ, ◌+◌, ◌-◌, ◌^◌, min, Bool, true, false, ◌⊎◌, List, [], ◌∷◌, ◌++◌, Option, Some, None, IfSome, IsSomeAnd, Result, Ok, Err, if◌then◌else◌, count_by, ⊤}
use Rattle.std.specs.Str.{bytes_eq}
use Rattle.tall_outside.specs.declared.shelf.Opening.{Opening}
use Rattle.tall_outside.specs.declared.shelf.Opening.TheVariants as o

-- files, each with its name and its bytes
abbrev pub Files : Type 0
Files = List (List ℕ × List ℕ)

-- the bytes of the first file of a name
abbrev pub file_in : Files → List ℕ → Option (List ℕ)
file_in [] name = None
file_in (file ∷ files) name = if bytes_eq file.0 name then Some file.1 else file_in files name

-- how often a name was opened
abbrev pub openings_of : List ℕ → List (List ℕ) → ℕ
openings_of name names = count_by (λ opened. bytes_eq opened name) names

-- the outside refused to open
abbrev pub has_failed : Opening → Bool
has_failed o.Opened = false
has_failed o.NoSuch = false
has_failed o.Failed = true
has_failed o.Memory = false

-- a name was missing
abbrev pub is_missing : Opening → Bool
is_missing o.Opened = false
is_missing o.NoSuch = true
is_missing o.Failed = false
is_missing o.Memory = false

-- what an answer of `open` says of the files that are told and of what is then left to read
abbrev pub OpenGives : Opening → Option Files → List ℕ → Option (List ℕ) → Type 0
OpenGives o.Opened held name left = IfSome held (λ files. IsSomeAnd (file_in files name) (λ bytes. left ≡ Some bytes))
OpenGives o.NoSuch held name left = IfSome held (λ files. file_in files name ≡ None) × (left ≡ Some [])
OpenGives o.Failed held name left = left ≡ Some []
OpenGives o.Memory held name left = left ≡ Some []

-- a call of `open` adds its name to those that are told; at `Memory` it may have found no room for it
abbrev pub Logs : Option (List (List ℕ)) → Option (List (List ℕ)) → List ℕ → Opening → Type 0
Logs None new name answer = ⊤
Logs (Some names) None name answer = ⊥
Logs (Some names) (Some more) name o.Memory = (more ≡ names) ⊎ (more ≡ names ++ name ∷ [])
Logs (Some names) (Some more) name _ = more ≡ names ++ name ∷ []

-- how many bytes came, after an answer of `read`
abbrev pub came_after : {E : Type 0} → ℕ → Result ℕ E → ℕ
came_after came (Ok n) = min (came + n) (2 ^ 64 - 1)
came_after came (Err e) = came
