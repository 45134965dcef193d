-- What is refused, and what is accepted, by class and space.
use Rattle.std.specs.Prelude.{◌≡◌, refl, ℕ, Result, Ok, Err, List, [], ◌∷◌, map}
use Rattle.std.proofs.Common.{ap, sym, subst, ◌∙◌}
use Rattle.tall_value.specs.declared.class.Class.{Class}
use Rattle.tall_semantics.specs.Operations.{Op, constant, unary, binary, filter, reduce, scan, head, tail, distinct, group, Made, stored, operation}
use Rattle.tall_semantics.specs.Spaces.{Space}
use Rattle.tall_semantics.specs.Shapes.{Shape, ShapeRefusal, bad_argument, place_of, shaped}
use Rattle.tall_semantics.specs.Deferred.{Vertex, AllBelow}
use Rattle.tall_semantics.specs.ShapesInOrder.{made_shape, shape_at}
use Rattle.tall_semantics.proofs.ShapeLaws.{shape_ok, place_ok}
use Rattle.tall_graph.specs.declared.operands.Operands.{Operands}
use Rattle.tall_graph.specs.declared.operands.Operands.TheVariants as operands
use Rattle.tall_graph.specs.declared.operands.Placed.{Placed}
use Rattle.tall_graph.specs.Places.{places, AreWithin, made_place, chain_over, space_told}
use Rattle.tall_graph.specs.Accepted.{tree_made, shape_placed}

abbrev shape_err : ShapeRefusal → Result Shape ShapeRefusal
shape_err e = Err e

abbrev place_err : ShapeRefusal → Result (Class × Space) ShapeRefusal
place_err e = Err e

-- the shape of a class and a space, or the refusal
with_place : Made → List Shape → Result (Class × Space) ShapeRefusal → Result Shape ShapeRefusal
with_place made xs (Ok p) = Ok (record { class = p.0; space = p.1; tree = tree_made made xs; chain = chain_over made xs })
with_place made xs (Err e) = Err e

shaped_with : (f : Op) (xs : List Shape) (r : Result (Class × Space) ShapeRefusal) → shaped f xs r ≡ with_place (operation f) xs r
unfolding with_place
shaped_with f xs (Ok p) = refl
shaped_with f xs (Err e) = refl

made_with : (made : Made) (xs : List Shape) → made_shape made xs ≡ with_place made xs (made_place made xs)
unfolding with_place
made_with (stored s v c) [] = refl
made_with (stored s v c) (x ∷ xs) = refl
made_with (operation f) xs = shaped_with f xs (place_of f xs)

pub made_refused : (made : Made) (xs : List Shape) (e : ShapeRefusal) → made_place made xs ≡ place_err e → made_shape made xs ≡ shape_err e
unfolding with_place
made_refused made xs e h = made_with made xs ∙ ap (with_place made xs) h

pub made_accepted : (vs : List Vertex) (made : Made) (args : List ℕ) (p : Placed) → made_place made (map (shape_at vs) args) ≡ place_ok (p.class, space_told vs p.space)
    → made_shape made (map (shape_at vs) args) ≡ shape_ok (shape_placed vs made args p)
unfolding with_place
made_accepted vs made args p h = made_with made (map (shape_at vs) args) ∙ ap (with_place made (map (shape_at vs) args)) h

-- ---- operands

three : (f : Op) (x y z : Shape) (xs : List Shape) → place_of f (x ∷ y ∷ z ∷ xs) ≡ place_err bad_argument
three (constant c) x y z xs = refl
three (unary f) x y z xs = refl
three (binary f) x y z xs = refl
three filter x y z xs = refl
three (reduce r) x y z xs = refl
three (scan s) x y z xs = refl
three (head k) x y z xs = refl
three (tail k) x y z xs = refl
three distinct x y z xs = refl
three (group m part) x y z xs = refl

three_placed : (made : Made) (x y z : Shape) (xs : List Shape) → made_place made (x ∷ y ∷ z ∷ xs) ≡ place_err bad_argument
three_placed (stored s v c) x y z xs = refl
three_placed (operation f) x y z xs = three f x y z xs

pub three_refused : (vs : List Vertex) (made : Made) (args : List ℕ) → ((x : ℕ) × (y : ℕ) × (z : ℕ) × (rest : List ℕ) × (args ≡ x ∷ y ∷ z ∷ rest)) → made_shape made (map (shape_at vs) args) ≡ shape_err bad_argument
three_refused vs made args h =
    let xs = h.0 ∷ h.1 ∷ h.2 ∷ h.3 in
    subst (λ bs. made_shape made (map (shape_at vs) bs) ≡ shape_err bad_argument) (sym h.4)
    (made_refused made (map (shape_at vs) xs) bad_argument (three_placed made (shape_at vs h.0) (shape_at vs h.1) (shape_at vs h.2) (map (shape_at vs) h.3)))

pub operands_within : (n : ℕ) (args : List ℕ) (o : Operands) → args ≡ places o → AllBelow n args → AreWithin n o
operands_within n args operands.Nothing e below = tt
operands_within n args (operands.One x) e below = (subst (AllBelow n) e below).0
operands_within n args (operands.Two x y) e below = (let b = subst (AllBelow n) e below in (b.0, b.1.0))
