-- The column of distinct cells.
use Rattle.std.proofs.Common.{◌≡◌, ◌∙◌, ap}
use Rattle.std.specs.Prelude.{List, Result, Ok, Err, IfOk}
use Rattle.tall_value.specs.declared.class.Class.{Class}
use Rattle.tall_value.specs.Cells.{Seen}
use Rattle.tall_value.specs.Distinct as all
use Rattle.tall_dense.specs.Columns.{SeenColumn}
use Rattle.tall_local.specs.MemoryFunctions.{with_cells}

same_column : (x y : SeenColumn) (cells : List Seen) → y.class ≡ x.class → y.cells ≡ cells → y ≡ record { class = x.class; cells = cells }
same_column x y cells classes same =
    let make : Class → List Seen → SeenColumn = λ k l. record { class = k; cells = l } in
    ap (λ k. make k y.cells) classes ∙ ap (λ l. make x.class l) same

pub distinct_is : {E : Type 0} (x : SeenColumn) (class : Class) (result : Result SeenColumn E) → class ≡ x.class → IfOk result (λ y. y.class ≡ class) → IfOk result (λ y. y.cells ≡ all.distinct x.cells)
    → IfOk result (λ y. y ≡ with_cells all.distinct x)
distinct_is x class (Ok y) is classes cells = same_column x y (all.distinct x.cells) (classes ∙ is) cells
distinct_is x class (Err e) is classes cells = tt
