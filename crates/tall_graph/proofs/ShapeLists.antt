-- Shapes, trees and spaces of a list of vertices, by places, and with one vertex more.
use Rattle.std.specs.Prelude.{◌≡◌, refl, ℕ, ◌<◌, ◌+◌, ◌==◌, Some, List, [], ◌∷◌, ◌++◌, length, map, option_map, slice_get}
use Rattle.std.proofs.Common.{ap, sym, subst, ◌∙◌, arith}
use Rattle.std.proofs.lemmas.List.{length-append, length-map, map-append}
use Rattle.std.proofs.lemmas.Option.{slice_get-map, slice_get-get_or}
use Rattle.std.proofs.lemmas.Bool.Decides.{Decides-eqb}
use Rattle.std.specs.Bool.{one_answer}
use Rattle.tall_semantics.specs.Equality.{same_space, same_tree}
use Rattle.tall_semantics.specs.Forms.{form, space_number}
use Rattle.tall_semantics.specs.Shapes.{Shape}
use Rattle.tall_semantics.specs.Deferred.{Vertex}
use Rattle.tall_semantics.specs.InOrder.{blank}
use Rattle.tall_semantics.specs.ShapesInOrder.{next_shape, shapes_from, shapes_of, shape_at}
use Rattle.tall_semantics.proofs.EqualityLaws.{spaces_decided}
use Rattle.tall_semantics.proofs.FormLaws.{exact}
use Rattle.tall_graph.specs.Numbers.{IsNumber}
use Rattle.tall_graph.specs.Trees.{trees_of, spaces_of}

pub shapes_end : (ss : List Shape) (vs : List Vertex) (v : Vertex) → shapes_from ss (vs ++ v ∷ []) ≡ shapes_from ss vs ++ next_shape (shapes_from ss vs) v ∷ []
unfolding shapes_from
shapes_end ss [] v = refl
shapes_end ss (w ∷ vs) v = shapes_end (ss ++ next_shape ss w ∷ []) vs v

shapes_length : (ss : List Shape) (vs : List Vertex) → length (shapes_from ss vs) ≡ length ss + length vs
unfolding shapes_from
shapes_length ss [] = omega arith
shapes_length ss (w ∷ vs) =
    let r : length (shapes_from (ss ++ next_shape ss w ∷ []) vs) ≡ length (ss ++ next_shape ss w ∷ []) + length vs = shapes_length (ss ++ next_shape ss w ∷ []) vs in
    let a : length (ss ++ next_shape ss w ∷ []) ≡ length ss + 1 = length-append ss (next_shape ss w ∷ []) in
    omega (arith, r, a)

pub as_many : (vs : List Vertex) → length (shapes_of vs) ≡ length vs
as_many vs = let r : length (shapes_of vs) ≡ 0 + length vs = shapes_length [] vs in omega (arith, r)

pub shape_there : (vs : List Vertex) (i : ℕ) → i < length vs → slice_get (shapes_of vs) i ≡ Some (shape_at vs i)
shape_there vs i l = slice_get-get_or (shapes_of vs) i blank.shape (subst (λ n. i < n) (sym (as_many vs)) l)

pub tree_there : (vs : List Vertex) (i : ℕ) → i < length vs → slice_get (trees_of vs) i ≡ Some (shape_at vs i).tree
tree_there vs i l = slice_get-map (λ (s : Shape). s.tree) (shapes_of vs) i ∙ ap (option_map (λ (s : Shape). s.tree)) (shape_there vs i l)

pub space_there : (vs : List Vertex) (i : ℕ) → i < length vs → slice_get (spaces_of vs) i ≡ Some (shape_at vs i).space
space_there vs i l = slice_get-map (λ (s : Shape). s.space) (shapes_of vs) i ∙ ap (option_map (λ (s : Shape). s.space)) (shape_there vs i l)

pub as_many_trees : (vs : List Vertex) → length (trees_of vs) ≡ length vs
as_many_trees vs = length-map (shapes_of vs) (λ (s : Shape). s.tree) ∙ as_many vs

pub as_many_spaces : (vs : List Vertex) → length (spaces_of vs) ≡ length vs
as_many_spaces vs = length-map (shapes_of vs) (λ (s : Shape). s.space) ∙ as_many vs

pub trees_end : (vs : List Vertex) (v : Vertex) → trees_of (vs ++ v ∷ []) ≡ trees_of vs ++ (next_shape (shapes_of vs) v).tree ∷ []
trees_end vs v = ap (map (λ (s : Shape). s.tree)) (shapes_end [] vs v) ∙ map-append (λ (s : Shape). s.tree) (shapes_of vs) (next_shape (shapes_of vs) v ∷ [])

pub spaces_end : (vs : List Vertex) (v : Vertex) → spaces_of (vs ++ v ∷ []) ≡ spaces_of vs ++ (next_shape (shapes_of vs) v).space ∷ []
spaces_end vs v = ap (map (λ (s : Shape). s.space)) (shapes_end [] vs v) ∙ map-append (λ (s : Shape). s.space) (shapes_of vs) (next_shape (shapes_of vs) v ∷ [])

-- equal numbers are equal spaces
pub one_space : (vs : List Vertex) (i j m n : ℕ) → i < length vs → j < length vs → m ≡ space_number (shape_at vs i).space (spaces_of vs) → n ≡ space_number (shape_at vs j).space (spaces_of vs)
    → (m == n) ≡ same_space (shape_at vs i).space (shape_at vs j).space
one_space vs i j m n k l e f =
    let s = (shape_at vs i).space in
    let t = (shape_at vs j).space in
    let w = exact same_space spaces_decided (spaces_of vs) i j s t (space_there vs i k) (space_there vs j l) in
    one_answer (m == n) (same_space s t) (Decides-eqb m n) (λ h. e ∙ (w.1 ((spaces_decided s t).0 h) ∙ sym f), λ h. (spaces_decided s t).1 (w.0 (sym e ∙ (h ∙ f))))

pub space_numbered : (vs : List Vertex) (i n : ℕ) → i < length vs → n ≡ space_number (shape_at vs i).space (spaces_of vs) → IsNumber same_space (spaces_of vs) n (shape_at vs i).space
space_numbered vs i n l e = record { place = i; there = space_there vs i l; first = sym e }

pub tree_numbered : (vs : List Vertex) (i n : ℕ) → i < length vs → n ≡ form (shape_at vs i).tree (trees_of vs) → IsNumber same_tree (trees_of vs) n (shape_at vs i).tree
tree_numbered vs i n l e = record { place = i; there = tree_there vs i l; first = sym e }
