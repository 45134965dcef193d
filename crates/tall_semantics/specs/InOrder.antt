-- The values of a list of vertices by recursion, earlier vertices first, and which lists are sound: each operand stands
-- before what is made of it, and each operation is accepted. Of a sound list these values solve the equations, and so
-- does no other function on its places (src/laws.rt).
use Rattle.std.specs.Prelude.{◌≡◌, ℕ, Some, Result, Ok, Err, List, [], ◌∷◌, ◌++◌, map, get_or, slice_get}
use Rattle.tall_value.specs.declared.class.Class.TheVariants.{Text}
use Rattle.tall_semantics.specs.Outcomes.{rows}
use Rattle.tall_semantics.specs.Shapes.{ShapeRefusal}
use Rattle.tall_semantics.specs.Talls.{Tall, Columns, stored_tall, made_tall}
use Rattle.tall_semantics.specs.Deferred.{Vertex, AllBelow}

-- the value of what is refused, which no sound list has
abbrev pub blank : Tall
blank = stored_tall 0 0 Text (rows [])

abbrev pub or_blank : Result Tall ShapeRefusal → Tall
or_blank (Ok x) = x
or_blank (Err e) = blank

abbrev pub tall_in : List Tall → ℕ → Tall
tall_in ts n = get_or ts n blank

abbrev pub next_tall : Columns → List Tall → Vertex → Tall
next_tall columns ts v = or_blank (made_tall columns v.at v.made (map (tall_in ts) v.args))

unfoldable pub talls_from : Columns → List Tall → List Vertex → List Tall
talls_from columns ts [] = ts
talls_from columns ts (v ∷ vs) = talls_from columns (ts ++ next_tall columns ts v ∷ []) vs

abbrev pub talls : Columns → List Vertex → List Tall
talls columns vs = talls_from columns [] vs

abbrev pub IsAccepted : Columns → List Vertex → Vertex → Type 0
IsAccepted columns vs v = (t : Tall) × (made_tall columns v.at v.made (map (tall_in (talls columns vs)) v.args) ≡ Ok t)

abbrev pub IsSound : Columns → List Vertex → Type 0
IsSound columns vs = (i : ℕ) (v : Vertex) → slice_get vs i ≡ Some v → AllBelow i v.args × IsAccepted columns vs v
