-- A scan of 64 bytes by words: bit k of a word tells of byte k.
use Rattle.std.specs.Prelude.{◌≡◌, ◌+◌, ℕ, zero, suc, Bool, if◌then◌else◌}
use Rattle.tall_scan.specs.declared.state.ScanState.{ScanState}
use Rattle.tall_scan.specs.declared.state.ScanState.TheVariants as s
use Rattle.tall_scan.specs.declared.words.Carry.{Carry}

abbrev pub one_if : Bool → ℕ
one_if b = if b then 1 else 0

-- what stands before place k, where `first` stands before the first place
abbrev pub before : ℕ → (ℕ → ℕ) → ℕ → ℕ
before first f zero = first
before first f (suc k) = f k

-- the sum of the first n numbers
abbrev pub total : ℕ → (ℕ → ℕ) → ℕ
total zero f = 0
total (suc n) f = f 0 + total n (λ k. f (suc k))

-- a state, as a byte's bits tell it: it is between quotes, a quote behind it opens, it ends a line outside quotes
abbrev pub IsToldBy : ScanState → ℕ → ℕ → ℕ → Type 0
IsToldBy s.Between inside opens line = (inside ≡ 0) × (opens ≡ 1) × (line ≡ 1)
IsToldBy s.Quotable inside opens line = (inside ≡ 0) × (opens ≡ 1) × (line ≡ 0)
IsToldBy s.Unquoted inside opens line = (inside ≡ 0) × (opens ≡ 0) × (line ≡ 0)
IsToldBy s.Quoted inside opens line = (inside ≡ 1) × (opens ≡ 0) × (line ≡ 0)

-- the same, as one run of bytes leaves it to the next
abbrev pub Carries : ScanState → Carry → Type 0
Carries a carry = IsToldBy a carry.inside carry.opens carry.line
