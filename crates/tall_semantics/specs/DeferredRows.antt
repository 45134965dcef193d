-- Worked values of a list of vertices: x, m = max(x), y = x ./ (x - m), z = x ./ 0 over the rows 3 and 5. Numbers of
-- trees, own faults, ranks and passes of it.
use Rattle.std.specs.Prelude.{◌≡◌, refl, ℕ, pos, negsuc, ◌==◌, if◌then◌else◌, None, Some, List, [], ◌∷◌, map, get_or}
use Rattle.tall_value.specs.declared.class.Class.TheVariants as class
use Rattle.tall_value.specs.declared.faults.FaultKind.TheVariants.{Inexact, NotWhole}
use Rattle.tall_value.specs.declared.functions.Reduction.TheVariants.{Max}
use Rattle.tall_value.specs.declared.operators.Binary.TheVariants.{Add, Sub, Div}
use Rattle.tall_value.specs.Columns.{numbered}
use Rattle.tall_semantics.specs.Operations.{Tree, constant, binary, reduce, stored, operation}
use Rattle.tall_semantics.specs.Faults.{fault_at}
use Rattle.tall_semantics.specs.Outcomes.{rows, scalar, fault}
use Rattle.tall_semantics.specs.Talls.{Tall, Columns, tall, outcomes}
use Rattle.tall_semantics.specs.Forms.{form}
use Rattle.tall_semantics.specs.Deferred.{Vertex, least_in, own_in}
use Rattle.tall_semantics.specs.InOrder.{tall_in, talls_from, talls}
use Rattle.tall_semantics.specs.Numbered.{levels_in}
use Rattle.tall_semantics.specs.Passes.{passes_at, passes_up_to, of_store}
use Rattle.tall_semantics.specs.Ranks.{ranks_in}
use Rattle.tall_semantics.specs.Samples.{at, doubles, number}

abbrev columns : Columns
columns s v = rows (numbered 1 (doubles (Some (pos 3) ∷ Some (pos 5) ∷ [])))

abbrev ratios : List Vertex
ratios =
    record { at = at 3 2; made = stored 0 0 class.Double; args = [] }
    ∷ record { at = at 6 4; made = operation (reduce Max); args = 0 ∷ [] }
    ∷ record { at = at 10 6; made = operation (binary Sub); args = 0 ∷ 1 ∷ [] }
    ∷ record { at = at 11 6; made = operation (binary Div); args = 0 ∷ 2 ∷ [] }
    ∷ record { at = at 13 7; made = operation (constant (number (pos 0))); args = [] }
    ∷ record { at = at 14 7; made = operation (binary Div); args = 0 ∷ 4 ∷ [] }
    ∷ record { at = at 15 8; made = operation (reduce Max); args = 0 ∷ [] }
    ∷ []

abbrev value : ℕ → Tall
value = tall_in (talls columns ratios)

values_in_order : outcomes (talls columns ratios) ≡
    rows (numbered 1 (doubles (Some (pos 3) ∷ Some (pos 5) ∷ [])))
    ∷ scalar (number (pos 5))
    ∷ rows (numbered 1 (doubles (Some (negsuc 1) ∷ Some (pos 0) ∷ [])))
    ∷ fault (fault_at (at 11 6) (Some 1) NotWhole)
    ∷ scalar (number (pos 0))
    ∷ fault (fault_at (at 14 7) (Some 1) Inexact)
    ∷ scalar (number (pos 5))
    ∷ []
unfolding tall talls_from
values_in_order = refl

own_faults : map (own_in ratios value) (0 ∷ 3 ∷ 5 ∷ []) ≡ None ∷ Some (fault_at (at 11 6) (Some 1) NotWhole) ∷ Some (fault_at (at 14 7) (Some 1) Inexact) ∷ []
unfolding tall talls_from
own_faults = refl

least_of_roots : least_in value (5 ∷ 3 ∷ []) ≡ Some (fault_at (at 11 6) (Some 1) NotWhole)
unfolding tall talls_from
least_of_roots = refl

-- the two maxima are one tree
abbrev trees : List Tree
trees = map (λ (i : ℕ). (value i).shape.tree) (0 ∷ 1 ∷ 2 ∷ 3 ∷ 4 ∷ 5 ∷ 6 ∷ [])

forms_of_trees : map (λ x. form x trees) trees ≡ 0 ∷ 1 ∷ 2 ∷ 3 ∷ 4 ∷ 5 ∷ 1 ∷ []
unfolding tall talls_from
forms_of_trees = refl

levels_of_values : map (levels_in value) (0 ∷ 1 ∷ 2 ∷ 3 ∷ 4 ∷ 5 ∷ []) ≡ 1 ∷ 1 ∷ 2 ∷ 2 ∷ 0 ∷ 1 ∷ []
unfolding tall talls_from
levels_of_values = refl

-- the constant stands in no pass
ranks_of_values : map (ranks_in ratios value) (0 ∷ 1 ∷ 2 ∷ 3 ∷ 4 ∷ 5 ∷ []) ≡ 2 ∷ 2 ∷ 4 ∷ 4 ∷ 1 ∷ 2 ∷ []
unfolding tall talls_from
ranks_of_values = refl

-- the work of levels 1 and 2 over datastore 0; there is none over datastore 1
abbrev by_level : List (List ℕ)
by_level = [] ∷ (0 ∷ 1 ∷ 5 ∷ []) ∷ (2 ∷ 3 ∷ []) ∷ []

abbrev work : ℕ → ℕ → List ℕ
work store level = if store == 0 then get_or by_level level [] else []

passes_of_levels : passes_up_to work 2 3 ≡ record { store = 0; level = 1; work = 0 ∷ 1 ∷ 5 ∷ [] } ∷ record { store = 0; level = 2; work = 2 ∷ 3 ∷ [] } ∷ []
unfolding passes_at passes_up_to
passes_of_levels = refl

passes_over_a_datastore : map (λ s. of_store s (passes_up_to work 2 3)) (0 ∷ 1 ∷ []) ≡ 2 ∷ 0 ∷ []
unfolding passes_at passes_up_to
passes_over_a_datastore = refl

-- ---- two variables of a datastore and their sum: a sound list that keeps its numbers (src/laws.rt)

abbrev pub both_columns : Columns
both_columns s v = rows (numbered 1 (doubles (Some (pos 3) ∷ Some (pos 5) ∷ [])))

abbrev pub added : List Vertex
added =
    record { at = at 3 2; made = stored 0 0 class.Double; args = [] }
    ∷ record { at = at 3 2; made = stored 0 1 class.Double; args = [] }
    ∷ record { at = at 6 4; made = operation (binary Add); args = 0 ∷ 1 ∷ [] }
    ∷ []

sum_of_variables : outcomes (talls both_columns added) ≡
    rows (numbered 1 (doubles (Some (pos 3) ∷ Some (pos 5) ∷ [])))
    ∷ rows (numbered 1 (doubles (Some (pos 3) ∷ Some (pos 5) ∷ [])))
    ∷ rows (numbered 1 (doubles (Some (pos 6) ∷ Some (pos 10) ∷ [])))
    ∷ []
unfolding tall talls_from
sum_of_variables = refl
