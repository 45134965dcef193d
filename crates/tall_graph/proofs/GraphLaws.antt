-- What a graph's invariant tells of one node.
use Rattle.std.specs.Prelude.{◌≡◌, refl, ℕ, ◌<◌, ◌≤◌, ◌+◌, ◌↔◌, true, false, if◌then◌else◌, Option, Some, List, [], length, option_map, is_some, get_or, slice_get}
use Rattle.std.proofs.Common.{ap, sym, subst, ◌∙◌, arith}
use Rattle.std.proofs.lemmas.List.{length-map}
use Rattle.std.proofs.lemmas.Option.{slice_get-map, slice_get_read}
use Rattle.tall_semantics.specs.Shapes.{Shape, level}
use Rattle.tall_semantics.specs.Spaces.{Space, single, rows_of, filtered, first, last, groups, has_rows, store_of}
use Rattle.tall_semantics.specs.Spaces as spaces
use Rattle.tall_semantics.specs.Equality.{same_tree, same_space}
use Rattle.tall_semantics.specs.Forms.{form, space_number}
use Rattle.tall_semantics.specs.Talls.{Columns, Tall}
use Rattle.tall_semantics.specs.InOrder.{tall_in, talls}
use Rattle.tall_semantics.specs.Deferred.{Vertex, IsMeaning}
use Rattle.tall_semantics.specs.ShapesInOrder.{shapes_from, shape_at, IsMade}
use Rattle.tall_semantics.proofs.EqualityLaws.{trees_decided, spaces_decided}
use Rattle.tall_semantics.proofs.FormLaws.{exact}
use Rattle.tall_semantics.proofs.InOrderLaws.{talls_mean}
use Rattle.tall_semantics.proofs.ShapesInOrderLaws.{chain_short, made_sound}
use Rattle.tall_semantics.proofs.AdditionLaws.{empty_numbered}
use Rattle.tall_graph.specs.declared.keys.FormKey.{FormKey}
use Rattle.tall_graph.specs.declared.keys.SpaceKey.{SpaceKey}
use Rattle.tall_graph.specs.declared.nodes.Node.{Node}
use Rattle.tall_graph.specs.Numbers.{Holds}
use Rattle.tall_graph.specs.Trees.{trees_of, spaces_of}
use Rattle.tall_graph.proofs.ShapeLists.{tree_there, space_there}
use Rattle.tall_graph.specs.Kept.{vertex_of, vertices, AreFacts, IsKept}

-- the rows of a space, by the datastore that it tells
rows_told : (s : Space) → has_rows s ≡ is_some (store_of s)
rows_told single = refl
rows_told (rows_of s) = refl
rows_told (filtered s m) = rows_told s
rows_told (first k s) = refl
rows_told (last k s) = refl
rows_told (spaces.distinct x) = refl
rows_told (groups m k v) = refl

pub level_with_rows : (x : Shape) (rows : Option ℕ) (chain : ℕ) → rows ≡ store_of x.space → is_some rows ≡ true → chain ≡ x.chain → chain + 1 ≡ level x
level_with_rows x rows chain r t c =
    let h : has_rows x.space ≡ true = rows_told x.space ∙ (ap is_some (sym r) ∙ t) in
    ap (λ n. n + 1) c ∙ ap (λ b. if b then x.chain + 1 else x.chain) (sym h)

pub level_without : (x : Shape) (rows : Option ℕ) (chain : ℕ) → rows ≡ store_of x.space → is_some rows ≡ false → chain ≡ x.chain → chain ≡ level x
level_without x rows chain r t c =
    let h : has_rows x.space ≡ false = rows_told x.space ∙ (ap is_some (sym r) ∙ t) in
    c ∙ ap (λ b. if b then x.chain + 1 else x.chain) (sym h)

module _ (ns : List Node) (texts : List (List ℕ)) (forms : List (FormKey × ℕ)) (spaces : List (SpaceKey × ℕ)) (kept : IsKept ns texts forms spaces) where
  within : (i : ℕ) (vs : List Vertex) → vertices ns ≡ vs → i < length vs → i < length ns
  within i vs e l = subst (λ m. i < m) (ap length (sym e) ∙ length-map ns vertex_of) l

  pub facts_read : (i m : ℕ) (n : Node) (vs : List Vertex) → vertices ns ≡ vs → i ≡ m → m < length vs → n ≡ get_or ns i n → AreFacts vs m n.facts
  facts_read i m n vs e k l r =
      let b : i < length ns = within i vs e (subst (λ j. j < length vs) (sym k) l) in
      subst (λ j. AreFacts vs j n.facts) k (subst (λ us. AreFacts us i n.facts) e (kept.facts i n (slice_get_read ns (length ns) i n refl b r)))

  pub chain_read : (i m : ℕ) (n : Node) (vs : List Vertex) → vertices ns ≡ vs → i ≡ m → m < length vs → n ≡ get_or ns i n → n.facts.chain < length vs
  chain_read i m n vs e k l r =
      let b : i < length ns = within i vs e (subst (λ j. j < length vs) (sym k) l) in
      let at : slice_get ns i ≡ Some n = slice_get_read ns (length ns) i n refl b r in
      let v : slice_get (vertices ns) i ≡ Some (vertex_of n) = slice_get-map vertex_of ns i ∙ ap (option_map vertex_of) at in
      let s : (shape_at (vertices ns) i).chain ≤ i = chain_short (vertices ns) kept.made i (vertex_of n) v in
      let c : n.facts.chain ≡ (shape_at (vertices ns) i).chain = (kept.facts i n at).chain_is in
      omega (arith, s, c, k, l)

-- ---- a graph without nodes

no_entry : {K : Type 0} (k : K) (n : ℕ) → Holds [] k n → ⊥
no_entry k n h = let e = h.1 in cc

empty : (texts : List (List ℕ)) → IsKept [] texts [] []
unfolding shapes_from
empty texts = record {
  made = λ i v e. absurd (cc);
  numbered = empty_numbered;
  facts = λ i n e. absurd (cc);
  form_table = record { known = λ i x e. absurd (cc); told = λ k n h. absurd (no_entry k n h) };
  space_table = record { known = λ i x e. absurd (cc); told = λ k n h. absurd (no_entry k n h) };
}

pub kept_empty : (ns : List Node) (texts : List (List ℕ)) (forms : List (FormKey × ℕ)) (spaces : List (SpaceKey × ℕ)) → ns ≡ [] → forms ≡ [] → spaces ≡ [] → IsKept ns texts forms spaces
kept_empty ns texts forms spaces e f s =
    subst (λ ms. IsKept ms texts forms spaces) (sym e) (subst (λ es. IsKept [] texts es spaces) (sym f) (subst (λ es. IsKept [] texts [] es) (sym s) (empty texts)))

-- ---- equations and numbers

-- values by recursion solve the equations
pub solved : (vs : List Vertex) → IsMade vs → (columns : Columns) → (f : ℕ → Tall) × IsMeaning columns vs f
solved vs made columns = (tall_in (talls columns vs), talls_mean columns vs ((made_sound columns vs).0 made))

pub forms_exact : (vs : List Vertex) (i j : ℕ) → i < length vs → j < length vs → (form (shape_at vs i).tree (trees_of vs) ≡ form (shape_at vs j).tree (trees_of vs)) ↔ ((shape_at vs i).tree ≡ (shape_at vs j).tree)
forms_exact vs i j k l = exact same_tree trees_decided (trees_of vs) i j (shape_at vs i).tree (shape_at vs j).tree (tree_there vs i k) (tree_there vs j l)

pub spaces_exact : (vs : List Vertex) (i j : ℕ) → i < length vs → j < length vs → (space_number (shape_at vs i).space (spaces_of vs) ≡ space_number (shape_at vs j).space (spaces_of vs)) ↔ ((shape_at vs i).space ≡ (shape_at vs j).space)
spaces_exact vs i j k l = exact same_space spaces_decided (spaces_of vs) i j (shape_at vs i).space (shape_at vs j).space (space_there vs i k) (space_there vs j l)
