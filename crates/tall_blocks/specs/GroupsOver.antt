-- Groups over some rows and then others: each key with what is kept of the data of its rows, ascending by key. The key and
-- the data are columns of one table, so equally many.
use Rattle.std.specs.Prelude.{Bool, if◌then◌else◌, List, [], ◌∷◌, ◌++◌, map}
use Rattle.tall_value.specs.Cells.{Seen}
use Rattle.tall_value.specs.Groups.{group_keys, group_data, is_of_group}
use Rattle.tall_blocks.specs.Folds.{PartFold, Fold, by_parts, Kept, Part, start, more, part_of, with_part, joined}
use Rattle.tall_value.specs.Reductions.{used}

abbrev pub Groups : Fold → Type 0
Groups g = List (Seen × Kept g)

-- what is kept of the data of one group, or of any cells
abbrev pub kept_of : (g : Fold) (passes_nan : Bool) → List Seen → Kept g
kept_of g passes_nan cs = more g (start g) (used passes_nan cs)

abbrev pub groups_of : (g : Fold) (passes_nan : Bool) → (keys data' : List Seen) → Groups g
groups_of g passes_nan keys data' = map (λ key. (key, kept_of g passes_nan (group_data key keys data'))) (group_keys keys)

-- what is kept at the key, or at the start where there is no group of it
abbrev pub at_key : {S : Type 0} → S → List (Seen × S) → Seen → S
at_key s [] key = s
at_key s (e ∷ es) key = if is_of_group key e.0 then e.1 else at_key s es key

abbrev pub keys_of : {S : Type 0} → List (Seen × S) → List Seen
keys_of es = map (λ e. e.0) es

-- the groups with further rows behind those so far
abbrev pub groups_more : (g : Fold) (passes_nan : Bool) → Groups g → (keys data' : List Seen) → Groups g
groups_more g passes_nan es keys data' = map (λ key. (key, more g (at_key (start g) es key) (used passes_nan (group_data key keys data')))) (group_keys (keys_of es ++ keys))

-- the groups of some rows and those of others as the groups of both
abbrev pub groups_joined : (p : PartFold) → Groups (by_parts p) → Groups (by_parts p) → Groups (by_parts p)
groups_joined p es ds = map (λ key. (key, joined p (at_key (start (by_parts p)) es key) (at_key (start (by_parts p)) ds key))) (group_keys (keys_of es ++ keys_of ds))

-- ---- the part of a block: its keys, each with the part of its data

abbrev pub GroupParts : Fold → Type 0
GroupParts g = List (Seen × Part g)

abbrev pub group_parts : (g : Fold) (passes_nan : Bool) → (keys data' : List Seen) → GroupParts g
group_parts g passes_nan keys data' = map (λ key. (key, part_of g (used passes_nan (group_data key keys data')))) (group_keys keys)

abbrev pub groups_with : (g : Fold) → Groups g → GroupParts g → Groups g
groups_with g es parts = map (λ key. (key, with_part g (at_key (start g) es key) (at_key (part_of g []) parts key))) (group_keys (keys_of es ++ keys_of parts))
