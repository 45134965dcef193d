-- Worked values of groups over some rows and then others: the keys 3, 1, 3, and then 1, NaN, with the data 10, 20, 30, and
-- then 40, 50.
use Rattle.std.specs.Prelude.{◌≡◌, refl, ℤ, pos, false, Bool, List, [], ◌∷◌, map}
use Rattle.tall_value.specs.declared.class.IntKind.TheVariants.{Int8}
use Rattle.tall_value.specs.Cells.{Seen, whole}
use Rattle.tall_semantics.specs.Samples.{number, nan}
use Rattle.tall_blocks.specs.Folds.{exact_sum, number_of, by_parts, class_sum}
use Rattle.tall_value.specs.Reductions.{every_cell}
use Rattle.tall_blocks.specs.GroupsOver.{groups_of, at_key, group_parts, keys_of, groups_more, groups_joined, groups_with}

abbrev keys : List Seen
keys = number (pos 3) ∷ number (pos 1) ∷ number (pos 3) ∷ []

abbrev others : List Seen
others = number (pos 1) ∷ nan ∷ []

abbrev amounts : List Seen
amounts = number (pos 10) ∷ number (pos 20) ∷ number (pos 30) ∷ []

abbrev other_amounts : List Seen
other_amounts = number (pos 40) ∷ number (pos 50) ∷ []

abbrev first_groups : List (Seen × (Bool × ℤ))
first_groups = (number (pos 1), (false, pos 20)) ∷ (number (pos 3), (false, pos 40)) ∷ []

abbrev all_groups : List (Seen × (Bool × ℤ))
all_groups = (number (pos 1), (false, pos 60)) ∷ (number (pos 3), (false, pos 40)) ∷ (nan, (false, pos 50)) ∷ []

first_part : groups_of (by_parts exact_sum) false keys amounts ≡ first_groups
first_part = refl

with_others : groups_more (by_parts exact_sum) false first_groups others other_amounts ≡ all_groups
with_others = refl

both_parts : groups_joined exact_sum first_groups (groups_of (by_parts exact_sum) false others other_amounts) ≡ all_groups
both_parts = refl

keys_first : keys_of all_groups ≡ number (pos 1) ∷ number (pos 3) ∷ nan ∷ []
keys_first = refl

-- NaN is a key like others; at a key without a group there is nothing yet
at_keys : map (at_key (false, pos 0) all_groups) (nan ∷ number (pos 2) ∷ []) ≡ (false, pos 50) ∷ (false, pos 0) ∷ []
at_keys = refl

rows_of_groups : groups_more (by_parts (number_of every_cell)) false (groups_of (by_parts (number_of every_cell)) false keys keys) others others ≡ (number (pos 1), 2) ∷ (number (pos 3), 2) ∷ (nan, 1) ∷ []
rows_of_groups = refl

-- a sum in int8 goes on from 120 to 127
in_class : groups_more (class_sum Int8) false ((number (pos 1), pos 120) ∷ []) others (whole Int8 (pos 20) ∷ whole Int8 (pos 7) ∷ []) ≡ (number (pos 1), pos 127) ∷ (nan, pos 7) ∷ []
in_class = refl

-- the same from the part of the others' rows, made without the groups so far
with_part_of_others : groups_with (by_parts exact_sum) first_groups (group_parts (by_parts exact_sum) false others other_amounts) ≡ all_groups
with_part_of_others = refl

part_in_class : groups_with (class_sum Int8) ((number (pos 1), pos 120) ∷ []) (group_parts (class_sum Int8) false others (whole Int8 (pos 20) ∷ whole Int8 (pos 7) ∷ [])) ≡ (number (pos 1), pos 127) ∷ (nan, pos 7) ∷ []
part_in_class = refl
