-- The names of the columns that `groupsummary` makes: the key's, `GroupCount`, and with a method the method's and the
-- data's joined by `_`. MathWorks, groupsummary.
use Rattle.std.specs.Prelude.{ℕ, Option, None, Some, List, [], ◌∷◌, ◌++◌, codes}
use Rattle.tall_value.specs.declared.functions.Method.{Method}
use Rattle.tall_value.specs.declared.functions.Method.TheVariants.{Count, Sum, SumNative, Min, Max, Nnz, Nummissing}

-- the name of a method in scripts; counting alone has none
abbrev pub method_name : Method → Option (List ℕ)
method_name Count = None
method_name Sum = Some (codes "sum")
method_name SumNative = Some (codes "sumnative")
method_name Min = Some (codes "min")
method_name Max = Some (codes "max")
method_name Nnz = Some (codes "nnz")
method_name Nummissing = Some (codes "nummissing")

-- of a key's name and a data column's name
abbrev pub summary_names : Method → List ℕ → List ℕ → List (List ℕ)
summary_names m key data' = elim (method_name m) [ Some name ↦ key ∷ codes "GroupCount" ∷ (name ++ codes "_" ++ data') ∷ [] | None ↦ key ∷ codes "GroupCount" ∷ [] ]
