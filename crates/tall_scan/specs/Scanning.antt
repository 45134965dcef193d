-- Where records end, told from the bytes alone, with no field read.
use Rattle.std.specs.Prelude.{◌+◌, ◌==◌, ◌||◌, ◌&&◌, not, ℕ, Bool, true, false, List, [], ◌∷◌, if◌then◌else◌}
use Rattle.tall_scan.specs.declared.state.ScanState.{ScanState}
use Rattle.tall_scan.specs.declared.state.ScanState.TheVariants as s

abbrev pub is_line_end : ℕ → Bool
is_line_end c = (c == 13) || (c == 10)

-- a byte that is neither a quote nor the end of a line
abbrev pub is_plain : ℕ → Bool
is_plain c = not (c == 34) && not (is_line_end c)

-- the state after a byte outside quotes that opens none: a delimiter, the end of a line, or another byte
abbrev pub unquoted : Bool → Bool → ScanState
unquoted line delimiter = if delimiter then s.Quotable else if line then s.Between else s.Unquoted

-- the state after a byte that is a quote, the end of a line, a delimiter, or none of them
abbrev pub move : ScanState → Bool → Bool → Bool → ScanState
move s.Between quote line delimiter = if line then s.Between else if quote then s.Quoted else unquoted line delimiter
move s.Quotable quote line delimiter = if quote then s.Quoted else unquoted line delimiter
move s.Unquoted quote line delimiter = unquoted line delimiter
move s.Quoted quote line delimiter = if quote then s.Quotable else s.Quoted

abbrev pub scan_step : ℕ → ScanState → ℕ → ScanState
scan_step delimiter a c = move a (c == 34) (is_line_end c) (c == delimiter)

abbrev pub is_between : ScanState → Bool
is_between s.Between = true
is_between s.Quotable = false
is_between s.Unquoted = false
is_between s.Quoted = false

-- how many records a byte ends that leads from one state to another: one where the second is between records and the first is not
abbrev pub ends_record : ScanState → ScanState → ℕ
ends_record before after = if not (is_between before) && is_between after then 1 else 0

-- the state after bytes
unfoldable pub scan_after : ℕ → ScanState → List ℕ → ScanState
scan_after delimiter a [] = a
scan_after delimiter a (c ∷ rest) = scan_after delimiter (scan_step delimiter a c) rest

-- how many records bytes end
unfoldable pub scan_ended : ℕ → ScanState → List ℕ → ℕ
scan_ended delimiter a [] = 0
scan_ended delimiter a (c ∷ rest) = ends_record a (scan_step delimiter a c) + scan_ended delimiter (scan_step delimiter a c) rest

-- how many records are begun and not ended where a text stops in a state
abbrev pub begun_in : ScanState → ℕ
begun_in a = if is_between a then 0 else 1
