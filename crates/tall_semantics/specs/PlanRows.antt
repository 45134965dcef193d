-- Worked plans over a list of vertices, what is read for its values, and whose rows they have.
use Rattle.std.specs.Prelude.{◌≡◌, refl, ℕ, false, true, None, Some, List, [], ◌∷◌, map}
use Rattle.tall_semantics.specs.Operations.{reads}
use Rattle.tall_semantics.specs.Spaces.{rows_of, filtered, first, store_of}
use Rattle.tall_semantics.specs.Passes.{Pass, passes_at, passes_up_to}
use Rattle.tall_semantics.specs.ShapesInOrder.{shapes_from, shape_at}
use Rattle.tall_semantics.specs.Openings.{share}
use Rattle.tall_semantics.specs.Plans.{needed_below, needed_of, store_at, collected, plan_of}
use Rattle.tall_semantics.specs.GraphSamples.{running}

abbrev pass : (store level : ℕ) → List ℕ → Pass
pass s k work = record { store = s; level = k; work = work }

-- the sum of the running sum reads datastore 0 alone
reads_one_datastore : map (λ s. reads s (shape_at running 13).tree) (0 ∷ 1 ∷ []) ≡ true ∷ false ∷ []
unfolding shapes_from
reads_one_datastore = refl

-- a constant reads none
constant_reads_none : map (λ s. reads s (shape_at running 2).tree) (0 ∷ 1 ∷ []) ≡ false ∷ false ∷ []
unfolding shapes_from
constant_reads_none = refl

rows_of_a_filter : store_of (filtered (rows_of 3) (shape_at running 3).tree) ≡ Some 3
rows_of_a_filter = refl

rows_of_a_head : store_of (first 8 (rows_of 3)) ≡ None
rows_of_a_head = refl

-- a reduction goes over its operand's rows, a constant over none
datastores_gone_over : map (store_at running) (0 ∷ 2 ∷ 4 ∷ 8 ∷ 9 ∷ 10 ∷ 13 ∷ []) ≡ Some 0 ∷ None ∷ Some 0 ∷ Some 0 ∷ Some 1 ∷ Some 0 ∷ Some 0 ∷ []
unfolding shapes_from
datastores_gone_over = refl

-- the values of the groups and the sum of the running sum: not their keys and counts, and not datastore 1
needed : needed_of running (8 ∷ 13 ∷ []) ≡ 0 ∷ 1 ∷ 2 ∷ 3 ∷ 4 ∷ 5 ∷ 8 ∷ 10 ∷ 11 ∷ 12 ∷ 13 ∷ []
unfolding needed_below
needed = refl

-- the running sum is gone through at level 2, for what each block goes on from, and computed at its own level 3
three_passes : plan_of running (8 ∷ 13 ∷ []) ≡ pass 0 1 (0 ∷ 1 ∷ 3 ∷ 4 ∷ 5 ∷ 8 ∷ 10 ∷ []) ∷ pass 0 2 (11 ∷ 12 ∷ []) ∷ pass 0 3 (12 ∷ 13 ∷ []) ∷ []
unfolding shapes_from needed_below passes_at passes_up_to
three_passes = refl

as_many_as_the_share : map (λ s. share s (map (shape_at running) (8 ∷ 13 ∷ []))) (0 ∷ 1 ∷ []) ≡ 3 ∷ 0 ∷ []
unfolding shapes_from
as_many_as_the_share = refl

-- one pass for several roots of one level, one for each datastore of a level, and none for a constant
several_roots : plan_of running (10 ∷ 4 ∷ 0 ∷ 10 ∷ []) ≡ pass 0 1 (0 ∷ 3 ∷ 4 ∷ 10 ∷ []) ∷ []
unfolding shapes_from needed_below passes_at passes_up_to
several_roots = refl

two_datastores : plan_of running (9 ∷ 10 ∷ []) ≡ pass 0 1 (0 ∷ 10 ∷ []) ∷ pass 1 1 (9 ∷ []) ∷ []
unfolding shapes_from needed_below passes_at passes_up_to
two_datastores = refl

no_pass : plan_of running (2 ∷ []) ≡ []
unfolding shapes_from needed_below passes_at passes_up_to
no_pass = refl

-- the roots with rows are filtered at their level
kept_columns : map (collected running (0 ∷ 12 ∷ 13 ∷ 9 ∷ []) 0) (1 ∷ 2 ∷ 3 ∷ []) ≡ (0 ∷ []) ∷ [] ∷ (12 ∷ []) ∷ []
unfolding shapes_from needed_below
kept_columns = refl
