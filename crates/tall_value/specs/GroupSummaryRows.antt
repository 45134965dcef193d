-- Worked values of `groupsummary`: all its columns together.
use Rattle.std.specs.Prelude.{◌≡◌, refl, ℤ, pos, negsuc, Some, None, Ok, Err, [], ◌∷◌, codes}
use Rattle.tall_value.specs.declared.class.IntKind.TheVariants.{Int8}
use Rattle.tall_value.specs.declared.class.Kind.TheVariants.{Integer, Double}
use Rattle.tall_value.specs.declared.faults.FaultKind.TheVariants.{Inexact}
use Rattle.tall_value.specs.declared.functions.Method.TheVariants.{Count, Sum, SumNative, Max, Nummissing}
use Rattle.tall_value.specs.Cells.{Seen, whole, double, text}
use Rattle.tall_value.specs.Columns.{numbered}
use Rattle.tall_value.specs.GroupSummary.{summary}
use Rattle.tall_value.specs.SummaryNames.{summary_names}

abbrev number : ℤ → Seen
number n = double (Some n)

abbrev nan : Seen
nan = double None

abbrev a : Seen
a = text (codes "a")

abbrev b : Seen
b = text (codes "b")

-- groupsummary(T, g, 'nummissing', v) of the keys 'b', 'a', 'b', 'a' and 2, NaN, NaN, 2: a has 2 rows, 1 missing, and
-- b has 2 rows, 1 missing
missing_of_two_groups : summary Nummissing Double (numbered 1 (b ∷ a ∷ b ∷ a ∷ [])) (numbered 1 (number (pos 2) ∷ nan ∷ nan ∷ number (pos 2) ∷ [])) ≡ Ok (numbered 1 (a ∷ b ∷ []) ∷ numbered 1 (number (pos 2) ∷ number (pos 2) ∷ []) ∷ numbered 1 (number (pos 1) ∷ number (pos 1) ∷ []) ∷ [])
missing_of_two_groups = refl

-- groupsummary(T, g, 'sum', v) of the keys NaN, 5, NaN, 3 and 1, 2, 3, 4: the two NaN keys are one group, last
nan_keys_are_one_group : summary Sum Double (numbered 1 (nan ∷ number (pos 5) ∷ nan ∷ number (pos 3) ∷ [])) (numbered 1 (number (pos 1) ∷ number (pos 2) ∷ number (pos 3) ∷ number (pos 4) ∷ [])) ≡ Ok (((1, number (pos 3)) ∷ (2, number (pos 5)) ∷ (3, nan) ∷ []) ∷ ((1, number (pos 1)) ∷ (2, number (pos 1)) ∷ (3, number (pos 2)) ∷ []) ∷ ((1, number (pos 4)) ∷ (2, number (pos 2)) ∷ (3, number (pos 4)) ∷ []) ∷ [])
nan_keys_are_one_group = refl

-- groupsummary(T, g, 'sumnative', v) at the rows 2, 5, 7 and 9 of a datastore: the groups are numbered from 1; b has
-- 100, 100, -100
rows_are_numbered_anew : summary SumNative (Integer Int8) ((2, b) ∷ (5, b) ∷ (7, a) ∷ (9, b) ∷ []) ((2, whole Int8 (pos 100)) ∷ (5, whole Int8 (pos 100)) ∷ (7, whole Int8 (pos 5)) ∷ (9, whole Int8 (negsuc 99)) ∷ []) ≡ Ok (((1, a) ∷ (2, b) ∷ []) ∷ ((1, number (pos 1)) ∷ (2, number (pos 3)) ∷ []) ∷ ((1, whole Int8 (pos 5)) ∷ (2, whole Int8 (pos 27)) ∷ []) ∷ [])
rows_are_numbered_anew = refl

-- groupsummary(T, g): the key and GroupCount alone
no_method : summary Count Double (numbered 1 (b ∷ a ∷ b ∷ [])) [] ≡ Ok (numbered 1 (a ∷ b ∷ []) ∷ numbered 1 (number (pos 1) ∷ number (pos 2) ∷ []) ∷ [])
no_method = refl

-- groupsummary(T, g, 'sum', v): the sum of group 2 is 2^53 + 1, so no column has a value, though group 1 has its sum
one_fault_refuses_all : summary Sum Double (numbered 1 (number (pos 1) ∷ number (pos 2) ∷ number (pos 2) ∷ [])) (numbered 1 (number (pos 4) ∷ number (pos 9007199254740992) ∷ number (pos 1) ∷ [])) ≡ Err Inexact
one_fault_refuses_all = refl

-- groupsummary(T, g, 'max', v) of the same rows has values
other_method_accepts : summary Max Double (numbered 1 (number (pos 1) ∷ number (pos 2) ∷ number (pos 2) ∷ [])) (numbered 1 (number (pos 4) ∷ number (pos 9007199254740992) ∷ number (pos 1) ∷ [])) ≡ Ok (numbered 1 (number (pos 1) ∷ number (pos 2) ∷ []) ∷ numbered 1 (number (pos 1) ∷ number (pos 2) ∷ []) ∷ numbered 1 (number (pos 4) ∷ number (pos 9007199254740992) ∷ []) ∷ [])
other_method_accepts = refl

-- groupsummary(T, g, 'sum', v) of no rows: three columns without a row
summary_of_no_rows : summary Sum Double [] [] ≡ Ok ([] ∷ [] ∷ [] ∷ [])
summary_of_no_rows = refl

-- ---- names of the columns

-- groupsummary(T, 'g', 'sumnative', 'v') makes g, GroupCount, sumnative_v
names_of_columns : summary_names SumNative (codes "g") (codes "v") ≡ codes "g" ∷ codes "GroupCount" ∷ codes "sumnative_v" ∷ []
names_of_columns = refl

-- groupsummary(T, 'g') makes g, GroupCount
names_without_method : summary_names Count (codes "g") [] ≡ codes "g" ∷ codes "GroupCount" ∷ []
names_without_method = refl

-- groupsummary(T, 'v', 'nummissing', 'v') makes v, GroupCount, nummissing_v
names_of_missing : summary_names Nummissing (codes "v") (codes "v") ≡ codes "v" ∷ codes "GroupCount" ∷ codes "nummissing_v" ∷ []
names_of_missing = refl
