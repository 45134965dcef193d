-- Pairs of keys and values in the order of their adding, and what `add` refuses. docs/LANGUAGE.md, mapreduce.
use Rattle.std.specs.Prelude.{ℕ, ◌+◌, ◌^◌, nat_lt, ◌&&◌, Bool, true, false, if◌then◌else◌, length, List, [], ◌∷◌, ◌++◌, map, Option, None, Some, Result, Ok, Err}
use Rattle.std.specs.Ordering.{is_eq}
use Rattle.std.specs.List.{filter, list_any}
use Rattle.tall_value.specs.declared.class.Class.TheVariants as class
use Rattle.tall_value.specs.declared.class.Kind.{Kind}
use Rattle.tall_value.specs.declared.class.Kind.TheVariants.{Integer, Logical, Double, Text}
use Rattle.tall_value.specs.Classes.{is_same}
use Rattle.tall_value.specs.Cells.{Seen, seen_kind, whole, logical, double, text}
use Rattle.tall_value.specs.CellOrder.{cell_order}
use Rattle.tall_column.specs.Columns.{SeenColumn, class_of_cell}
use Rattle.tall_local.specs.Refusals.{Refusal, bad_key, bad_value, too_many_rows, Stop, stop_at}
use Rattle.tall_local.specs.Memory.{Memory, scalar}

-- a pair, with the line of the `add` that added it
pub record Pair : Type 0 where
  pub key : Seen
  pub value : Seen
  pub line : ℕ

-- ---- adding

-- an integer, a number that isn't NaN, or a text
abbrev pub is_key : Seen → Bool
is_key (whole k n) = true
is_key (logical b) = false
is_key (double None) = false
is_key (double (Some n)) = true
is_key (text t) = true

abbrev pub same_kind : Kind → Kind → Bool
same_kind (Integer j) (Integer k) = is_same j k
same_kind Logical Logical = true
same_kind Double Double = true
same_kind Text Text = true
same_kind j k = false

abbrev pub same_class : Seen → Seen → Bool
same_class c d = same_kind (seen_kind c) (seen_kind d)

-- the class of the first pair's key, and of its value; any where there is no pair yet
abbrev pub key_fits : List Pair → Seen → Bool
key_fits [] c = true
key_fits (p ∷ ps) c = same_class p.key c

abbrev pub value_fits : List Pair → Seen → Bool
value_fits [] c = true
value_fits (p ∷ ps) c = same_class p.value c

-- a store has fewer than 2^40 pairs
abbrev pub is_within_store : ℕ → Bool
is_within_store n = nat_lt n (2 ^ 40)

-- one more pair is accepted
abbrev pub has_room : List Pair → Bool
has_room ps = is_within_store (length ps + 1)

-- why a pair isn't accepted, if so: for its key, for its value, or for its number
abbrev pub judged : (key value room : Bool) → Option Refusal
judged false value room = Some bad_key
judged true false room = Some bad_value
judged true true false = Some too_many_rows
judged true true true = None

-- the same of one more pair
abbrev pub misfit : List Pair → Pair → Option Refusal
misfit ps p = judged (is_key p.key && key_fits ps p.key) (value_fits ps p.value) (has_room ps)

-- with one more pair
abbrev pub with_pair : List Pair → Pair → Result (List Pair) Refusal
with_pair ps p = elim (misfit ps p) [ None ↦ Ok (ps ++ p ∷ []) | Some refusal ↦ Err refusal ]

-- by a call of `add` on a line: a key that is no scalar comes first, then a value that is none
abbrev pub added : (line : ℕ) → List Pair → Memory → Memory → Result (List Pair) Refusal
added line ps (scalar key) (scalar value) = with_pair ps (record { key = key; value = value; line = line })
added line ps (scalar key) value = Err bad_value
added line ps key value = Err bad_key

-- pairs of their own, as of a call on an empty store, behind those of a store: up to the first that doesn't fit, whose
-- `add` is the fault
pub record Appended : Type 0 where
  pub pairs : List Pair
  pub stop : Option Stop

abbrev pub append_if : Option Refusal → List Pair → Pair → (List Pair → Appended) → Appended
append_if None ps p rest = rest (ps ++ p ∷ [])
append_if (Some refusal) ps p rest = record { pairs = ps; stop = Some (stop_at p.line refusal) }

abbrev pub appended : List Pair → List Pair → Appended
appended ps [] = record { pairs = ps; stop = None }
appended ps (p ∷ more) = append_if (misfit ps p) ps p (λ qs. appended qs more)

-- ---- keys

abbrev pub is_key_of : Seen → Pair → Bool
is_key_of key p = is_eq (cell_order key p.key)

-- the keys in the order of their first adding, after those that were met
abbrev pub keys_after : List Seen → List Pair → List Seen
keys_after met [] = []
keys_after met (p ∷ ps) = if list_any (λ key. is_key_of key p) met then keys_after met ps else p.key ∷ keys_after (p.key ∷ met) ps

abbrev pub distinct_keys : List Pair → List Seen
distinct_keys ps = keys_after [] ps

abbrev pub pair_value : Pair → Seen
pair_value p = p.value

-- the values of a key, in order
abbrev pub values_of : Seen → List Pair → List Seen
values_of key ps = map pair_value (filter (is_key_of key) ps)

-- ---- as columns

-- of some cells of one class; without a cell it is a double
abbrev pub column_of_cells : List Seen → SeenColumn
column_of_cells [] = record { class = class.Double; cells = [] }
column_of_cells (c ∷ cs) = record { class = class_of_cell c; cells = c ∷ cs }

abbrev pub pair_key : Pair → Seen
pair_key p = p.key
