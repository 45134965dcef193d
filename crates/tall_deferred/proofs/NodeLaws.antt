-- A node more of a graph has the value of its operation, and a refused one has none.
use Rattle.std.specs.Prelude.{◌≡◌, refl, ℕ, List, [], ◌∷◌, ◌++◌, length, map, get_or, Result, Ok, Err}
use Rattle.std.proofs.Common.{ap, sym, subst, ◌∙◌}
use Rattle.std.proofs.lemmas.Option.{slice_get-get_or}
use Rattle.tall_semantics.specs.Faults.{At}
use Rattle.tall_semantics.specs.Operations.{Op, filter, Made, stored, operation}
use Rattle.tall_semantics.specs.Shapes as shapes
use Rattle.tall_semantics.specs.Talls.{Tall, Columns, tall, made_tall, with_shape, outcome, shapes as shapes_in}
use Rattle.tall_semantics.specs.Deferred.{Vertex, AllBelow, IsMeaning}
use Rattle.tall_semantics.specs.ShapesInOrder.{made_shape, shape_at, IsMade}
use Rattle.tall_semantics.proofs.InOrderLaws.{meaning_last}
use Rattle.tall_semantics.proofs.ShapesInOrderLaws.{value_shape}
use Rattle.tall_local.specs.Refusals.{Refusal}
use Rattle.tall_script.specs.ScriptValues.{refusal_of}
use Rattle.tall_graph.specs.Later.{IsOperation}
use Rattle.tall_deferred.specs.Answers.{Means, computed_of, node_at}

abbrev tall_answer : Result Tall shapes.ShapeRefusal → Result Tall Refusal
tall_answer r = elim r [ Ok x ↦ Ok x | Err e ↦ Err (refusal_of e) ]

abbrev given : Tall → Result Tall shapes.ShapeRefusal
given t = Ok t

abbrev refused : shapes.ShapeRefusal → Result Tall shapes.ShapeRefusal
refused e = Err e

of_made : (columns : Columns) (at : At) (made : Made) (xs : List Tall) (t : Tall) → IsOperation made → made_tall columns at made xs ≡ given t → computed_of at made xs ≡ Ok t
of_made columns at (operation o) xs t is h = ap tall_answer h
of_made columns at (stored s v c) xs t is h = absurd is

-- ---- a node that is there

pub node_comes : (old new : List Vertex) (v : Vertex) (n : ℕ) → n ≡ length old → new ≡ old ++ v ∷ [] → IsOperation v.made
    → Means new node_at (λ f. computed_of v.at v.made (map f v.args)) (Ok n)
node_comes old new v n e grown is columns f m =
    subst (λ k. computed_of v.at v.made (map f v.args) ≡ Ok (f k)) (sym e)
    (of_made columns v.at v.made (map f v.args) (f (length old)) is (meaning_last columns old v f (subst (λ vs. IsMeaning columns vs f) grown m)))

-- ---- a refusal

abbrev no_vertex : Vertex
no_vertex = record { at = record { number = 0; line = 0 }; made = operation filter; args = [] }

same_shapes : (columns : Columns) (vs : List Vertex) (f : ℕ → Tall) (args : List ℕ) → IsMade vs → IsMeaning columns vs f → AllBelow (length vs) args → map (shape_at vs) args ≡ shapes_in (map f args)
same_shapes columns vs f [] made m below = refl
same_shapes columns vs f (a ∷ args) made m below =
    let there = slice_get-get_or vs a no_vertex below.0 in
    let e : shape_at vs a ≡ (f a).shape = sym (value_shape columns vs f made m a (get_or vs a no_vertex) there) in
    let es : map (shape_at vs) args ≡ shapes_in (map f args) = same_shapes columns vs f args made m below.1 in
    ap (λ s. s ∷ map (shape_at vs) args) e ∙ ap (λ ss. (f a).shape ∷ ss) es

of_shape : (at : At) (o : Op) (xs : List Tall) (e : shapes.ShapeRefusal) (r : Result shapes.Shape shapes.ShapeRefusal) → shapes.shape o (shapes_in xs) ≡ r → r ≡ Err e → tall at o xs ≡ refused e
unfolding tall
of_shape at o xs e r h k = ap (with_shape (outcome at o xs)) (h ∙ k)

none_made : (at : At) (made : Made) (xs : List Tall) (ss : List shapes.Shape) (e : shapes.ShapeRefusal) → IsOperation made → ss ≡ shapes_in xs → made_shape made ss ≡ Err e → computed_of at made xs ≡ Err (refusal_of e)
none_made at (operation o) xs ss e is same h = ap tall_answer (of_shape at o xs e (shapes.shape o ss) (ap (shapes.shape o) (sym same)) h)
none_made at (stored s v c) xs ss e is same h = absurd is

pub node_refused : (vs : List Vertex) (at : At) (made : Made) (args : List ℕ) (e : shapes.ShapeRefusal) → IsMade vs → IsOperation made → AllBelow (length vs) args → made_shape made (map (shape_at vs) args) ≡ Err e
    → (columns : Columns) (f : ℕ → Tall) → IsMeaning columns vs f → computed_of at made (map f args) ≡ Err (refusal_of e)
node_refused vs at made args e there is below h columns f m =
    none_made at made (map f args) (map (shape_at vs) args) e is (same_shapes columns vs f args there m below) h
