-- A graph's invariant with one node more.
use Rattle.std.specs.Prelude.{◌≡◌, refl, ℕ, ◌<◌, ◌≤◌, Some, Result, Ok, Err, List, [], ◌∷◌, ◌++◌, length, map, option_map, get_or, slice_get}
use Rattle.std.proofs.Common.{ap, sym, subst, ◌∙◌, arith, inl, inr}
use Rattle.std.proofs.lemmas.List.{append-nil, length-map, map-append}
use Rattle.std.proofs.lemmas.Option.{get_or_from_slice_get, slice_get-map, slice_get_within}
use Rattle.tall_value.specs.declared.class.Class.{Class}
use Rattle.tall_semantics.specs.Operations.{Op, Made, stored, operation, column}
use Rattle.tall_semantics.specs.Spaces.{Space, is_single, store_of}
use Rattle.tall_semantics.specs.Equality.{same_tree, same_space}
use Rattle.tall_semantics.specs.Shapes.{Shape, ShapeRefusal, place_of, stored_shape}
use Rattle.tall_semantics.specs.Shapes as shapes
use Rattle.tall_semantics.specs.Deferred.{Vertex, AllBelow}
use Rattle.tall_semantics.specs.InOrder.{blank}
use Rattle.tall_semantics.specs.Forms.{form, space_number, first_place}
use Rattle.tall_semantics.specs.Numbered.{AreNumbered}
use Rattle.tall_semantics.specs.Plans.{args_of, first_store, store_at}
use Rattle.tall_semantics.specs.ShapesInOrder.{made_shape, or_blank_shape, next_shape, shapes_of, shape_at, IsMade}
use Rattle.tall_semantics.proofs.EqualityLaws.{trees_decided, spaces_decided}
use Rattle.tall_semantics.proofs.FormLaws.{longer}
use Rattle.tall_semantics.proofs.InOrderLaws.{get_left, get_last, old_or_new}
use Rattle.tall_semantics.proofs.ShapeLaws.{shape_ok, shaped_is}
use Rattle.tall_semantics.proofs.ShapesInOrderLaws.{made_ordered, made_push, shape_kept}
use Rattle.tall_semantics.proofs.AdditionLaws.{push_both}
use Rattle.tall_graph.specs.declared.keys.FormKey.{FormKey}
use Rattle.tall_graph.specs.declared.keys.Forms.{Forms}
use Rattle.tall_graph.specs.declared.keys.SpaceKey.{SpaceKey}
use Rattle.tall_graph.specs.declared.nodes.Draft.{Draft}
use Rattle.tall_graph.specs.declared.nodes.Facts.{Facts}
use Rattle.tall_graph.specs.declared.nodes.Node.{Node}
use Rattle.tall_graph.specs.declared.operands.SpaceNumber.{SpaceNumber}
use Rattle.tall_graph.specs.declared.operands.SpaceNumber.TheVariants as number
use Rattle.tall_graph.specs.Numbers.{IsNumber, Holds, IsTable, IsLookedUp, Grows}
use Rattle.tall_graph.specs.Keys.{AreForms, tree_over, IsFormKey, IsKeyFor, IsSpaceKey}
use Rattle.tall_graph.specs.Trees.{trees_of, spaces_of}
use Rattle.tall_graph.specs.Places.{tree_at, IsSpaceNumber}
use Rattle.tall_graph.specs.Kept.{vertex_of, vertices, AreFacts, IsKept}
use Rattle.tall_graph.specs.Drafts.{draft_vertex, IsDraft, IsSpaceLookedUp}
use Rattle.tall_graph.proofs.TableLaws.{looked_up}
use Rattle.tall_graph.proofs.KeyLaws.{form_one, form_texts, form_trees, form_key, space_key_one, space_key_more, space_key}
use Rattle.tall_graph.proofs.ShapeLists.{as_many, as_many_trees, as_many_spaces, shapes_end, tree_there, space_there, trees_end, spaces_end}

pub grows_none : {A : Type 0} (xs : List A) → Grows xs xs
grows_none xs = ([], sym (append-nil xs))

-- ---- shapes of the longer list

args_kept : (vs : List Vertex) (v : Vertex) (n : ℕ) (args : List ℕ) → AllBelow n args → n ≤ length vs → map (shape_at (vs ++ v ∷ [])) args ≡ map (shape_at vs) args
args_kept vs v n [] below l = refl
args_kept vs v n (a ∷ args) below l =
    let s : shape_at (vs ++ v ∷ []) a ≡ shape_at vs a = shape_kept vs v a (omega (arith, below.0, l)) in
    ap (λ x. x ∷ map (shape_at (vs ++ v ∷ [])) args) s ∙ ap (λ xs. shape_at vs a ∷ xs) (args_kept vs v n args below.1 l)

module _ (vs : List Vertex) (v : Vertex) (s : Shape) (can : made_shape v.made (map (shape_at vs) v.args) ≡ Ok s) where
  next_is : next_shape (shapes_of vs) v ≡ s
  next_is = ap or_blank_shape can

  last_shape : shape_at (vs ++ v ∷ []) (length vs) ≡ s
  last_shape =
      let at : slice_get (shapes_of vs ++ next_shape (shapes_of vs) v ∷ []) (length (shapes_of vs)) ≡ Some (next_shape (shapes_of vs) v) = get_last (shapes_of vs) (next_shape (shapes_of vs) v) in
      ap (λ ss. get_or ss (length vs) blank.shape) (shapes_end [] vs v)
      ∙ (ap (λ n. get_or (shapes_of vs ++ next_shape (shapes_of vs) v ∷ []) n blank.shape) (sym (as_many vs))
      ∙ (get_or_from_slice_get (shapes_of vs ++ next_shape (shapes_of vs) v ∷ []) (length (shapes_of vs)) (next_shape (shapes_of vs) v) blank.shape at ∙ next_is))

  trees_with : trees_of (vs ++ v ∷ []) ≡ trees_of vs ++ s.tree ∷ []
  trees_with = trees_end vs v ∙ ap (λ (x : Shape). trees_of vs ++ x.tree ∷ []) next_is

  spaces_with : spaces_of (vs ++ v ∷ []) ≡ spaces_of vs ++ s.space ∷ []
  spaces_with = spaces_end vs v ∙ ap (λ (x : Shape). spaces_of vs ++ x.space ∷ []) next_is

-- ---- what is kept of a node

record IsOld (vs : List Vertex) (i : ℕ) (w : Vertex) : Type 0 where
  at : slice_get vs i ≡ Some w
  below : AllBelow i w.args

store_kept : (vs : List Vertex) (v : Vertex) (i : ℕ) (w : Vertex) → IsOld vs i w → store_at (vs ++ v ∷ []) i ≡ store_at vs i
store_kept vs v i w old =
    let l : i < length vs = slice_get_within vs i w old.at in
    let us = vs ++ v ∷ [] in
    let a : args_of (slice_get us i) ≡ w.args = ap args_of (get_left vs (v ∷ []) i w old.at) in
    let b : args_of (slice_get vs i) ≡ w.args = ap args_of old.at in
    let e : map (shape_at us) w.args ≡ map (shape_at vs) w.args = args_kept vs v i w.args old.below (omega (arith, l)) in
    ap (λ args. first_store (shape_at us i ∷ map (shape_at us) args)) a
    ∙ (ap (λ x. first_store (x ∷ map (shape_at us) w.args)) (shape_kept vs v i l)
    ∙ (ap (λ xs. first_store (shape_at vs i ∷ xs)) e ∙ ap (λ args. first_store (shape_at vs i ∷ map (shape_at vs) args)) (sym b)))

old_facts : (vs : List Vertex) (v : Vertex) (s : Shape) → made_shape v.made (map (shape_at vs) v.args) ≡ Ok s → (i : ℕ) (w : Vertex) (n : Facts) → IsOld vs i w → AreFacts vs i n → AreFacts (vs ++ v ∷ []) i n
old_facts vs v s can i w n old facts =
    let l : i < length vs = slice_get_within vs i w old.at in
    let same : shape_at vs i ≡ shape_at (vs ++ v ∷ []) i = sym (shape_kept vs v i l) in
    let f : form (shape_at vs i).tree (trees_of (vs ++ v ∷ [])) ≡ form (shape_at vs i).tree (trees_of vs) =
    ap (form (shape_at vs i).tree) (trees_with vs v s can) ∙ longer same_tree trees_decided (trees_of vs) (s.tree ∷ []) i (shape_at vs i).tree (tree_there vs i l) in
    let g : space_number (shape_at vs i).space (spaces_of (vs ++ v ∷ [])) ≡ space_number (shape_at vs i).space (spaces_of vs) =
    ap (space_number (shape_at vs i).space) (spaces_with vs v s can) ∙ longer same_space spaces_decided (spaces_of vs) (s.space ∷ []) i (shape_at vs i).space (space_there vs i l) in
    record {
      class_is = facts.class_is ∙ ap (λ (x : Shape). x.class) same;
      chain_is = facts.chain_is ∙ ap (λ (x : Shape). x.chain) same;
      scalar_is = facts.scalar_is ∙ ap (λ (x : Shape). is_single x.space) same;
      rows_are = facts.rows_are ∙ ap (λ (x : Shape). store_of x.space) same;
      store_is = facts.store_is ∙ sym (store_kept vs v i w old);
      form_is = facts.form_is ∙ (sym f ∙ ap (λ (x : Shape). form x.tree (trees_of (vs ++ v ∷ []))) same);
      space_is = facts.space_is ∙ (sym g ∙ ap (λ (x : Shape). space_number x.space (spaces_of (vs ++ v ∷ []))) same);
    }

-- ---- the key of what is made

shape_of : Result Shape ShapeRefusal → Shape → Shape
shape_of (Ok s) d = s
shape_of (Err e) d = d

tree_of_column : (t v : ℕ) (c : Class) (xs : List Shape) (s : Shape) → made_shape (stored t v c) xs ≡ shape_ok s → s.tree ≡ column t v c
unfolding shape_of
tree_of_column t v c [] s h = ap (λ r. (shape_of r s).tree) (sym h)
tree_of_column t v c (x ∷ xs) s h = absurd (cc)

over_trees : (f : Op) (xs : List Shape) → shapes.tree_over f xs ≡ tree_over f (map (λ (x : Shape). x.tree) xs)
over_trees f [] = refl
over_trees f (x ∷ []) = refl
over_trees f (x ∷ y ∷ zs) = refl

tree_of_operation : (f : Op) (xs : List Shape) (s : Shape) → made_shape (operation f) xs ≡ shape_ok s → s.tree ≡ tree_over f (map (λ (x : Shape). x.tree) xs)
tree_of_operation f xs s h = let w = shaped_is f xs (place_of f xs) s h in ap (λ (x : Shape). x.tree) (sym w.2) ∙ over_trees f xs

trees_at : (vs : List Vertex) (args : List ℕ) → map (λ (x : Shape). x.tree) (map (shape_at vs) args) ≡ map (tree_at vs) args
trees_at vs [] = refl
trees_at vs (a ∷ args) = ap (λ xs. tree_at vs a ∷ xs) (trees_at vs args)

key_is : (texts : List (List ℕ)) (vs : List Vertex) (made : Made) (args : List ℕ) (s : Shape) (fs : Forms) (k : FormKey) → made_shape made (map (shape_at vs) args) ≡ shape_ok s
    → AreForms (trees_of vs) fs (map (tree_at vs) args) → IsKeyFor texts made fs k → IsFormKey texts (trees_of vs) k s.tree
key_is texts vs (stored t v c) args s fs k can forms is = subst (λ l. IsFormKey texts (trees_of vs) l s.tree) (sym is) (tree_of_column t v c (map (shape_at vs) args) s can)
key_is texts vs (operation f) args s fs k can forms is =
    subst (λ l. IsFormKey texts (trees_of vs) l s.tree) (sym is.2)
    (f, map (tree_at vs) args, is.1, forms, tree_of_operation f (map (shape_at vs) args) s can ∙ ap (tree_over f) (trees_at vs args))

-- ---- a node more

-- a number that is known is the key's that stands for the space
known_key : (entries : List (SpaceKey × ℕ)) (R : SpaceKey → Space → Type 0) (ss : List Space) (n : ℕ) (s : Space) → IsTable same_space R entries ss → IsNumber same_space ss n s → (k : SpaceKey) × R k s × Holds entries k n
known_key entries R ss n s table is =
    let w = table.known is.place s is.there in
    (w.0, w.1, subst (λ m. Holds entries w.0 m) is.first w.2)

-- ---- texts more

with_texts : (ns : List Node) (ts zs : List (List ℕ)) (forms : List (FormKey × ℕ)) (spaces : List (SpaceKey × ℕ)) → IsKept ns ts forms spaces → IsKept ns (ts ++ zs) forms spaces
with_texts ns ts zs forms spaces kept =
    let trees = trees_of (vertices ns) in
    record {
      made = kept.made;
      numbered = kept.numbered;
      facts = kept.facts;
      form_table = record {
        known = λ i x e. (let w = kept.form_table.known i x e in (w.0, form_texts ts zs trees w.0 x w.1, w.2));
        told = λ k n h. (let w = kept.form_table.told k n h in (w.0, form_texts ts zs trees k w.0 w.1, w.2));
      };
      space_table = kept.space_table;
    }

pub kept_texts : (ns : List Node) (ts us : List (List ℕ)) (forms : List (FormKey × ℕ)) (spaces : List (SpaceKey × ℕ)) → IsKept ns ts forms spaces → Grows ts us → IsKept ns us forms spaces
kept_texts ns ts us forms spaces kept grows = subst (λ xs. IsKept ns xs forms spaces) (sym grows.1) (with_texts ns ts grows.0 forms spaces kept)

-- ---- a node more

abbrev pub node_of : Draft → (form space : ℕ) → Node
node_of d form space = record {
  number = d.number;
  line = d.line;
  op = d.op;
  args = d.args;
  facts = record { class = d.class; chain = d.chain; is_single = d.is_single; rows = d.rows; store = d.store; form = form; space = space };
}

module _ (ns : List Node) (ts : List (List ℕ)) (forms : List (FormKey × ℕ)) (spaces : List (SpaceKey × ℕ)) (kept : IsKept ns ts forms spaces) (d : Draft) (s : Shape) (draft : IsDraft (vertices ns) d s) where
  many : length (vertices ns) ≡ length ns
  many = length-map ns vertex_of

  form_next : (new : List (FormKey × ℕ)) (k : FormKey) (n : ℕ) → IsKeyFor ts (draft_vertex d).made d.operands k → IsLookedUp forms k (length ns) n new
      → (first_place same_tree s.tree (trees_of (vertices ns) ++ s.tree ∷ []) ≡ n)
      × IsTable same_tree (IsFormKey ts (trees_of (vertices ns) ++ s.tree ∷ [])) new (trees_of (vertices ns) ++ s.tree ∷ [])
  form_next new k n is look =
      let trees = trees_of (vertices ns) in
      let all = trees ++ s.tree ∷ [] in
      let key : IsFormKey ts trees k s.tree = key_is ts (vertices ns) (draft_vertex d).made (draft_vertex d).args s d.operands k draft.can draft.forms_are is in
      let w = looked_up same_tree trees_decided (IsFormKey ts trees) (IsFormKey ts all) (form_trees ts trees (s.tree ∷ [])) (form_one ts all) (form_key ts all)
      forms new trees s.tree k n kept.form_table (form_trees ts trees (s.tree ∷ []) k s.tree key)
      (subst (λ m. IsLookedUp forms k m n new) (sym (as_many_trees (vertices ns) ∙ many)) look) in
      (w.number, w.table)

  IsSpaceNext : List (SpaceKey × ℕ) → ℕ → Type 0
  IsSpaceNext new n =
      (first_place same_space s.space (spaces_of (vertices ns) ++ s.space ∷ []) ≡ n)
      × IsTable same_space (IsSpaceKey (spaces_of (vertices ns) ++ s.space ∷ []) (trees_of (vertices ns) ++ s.tree ∷ [])) new (spaces_of (vertices ns) ++ s.space ∷ [])

  space_by_key : (new : List (SpaceKey × ℕ)) (k : SpaceKey) (n : ℕ) → IsSpaceKey (spaces_of (vertices ns)) (trees_of (vertices ns)) k s.space → IsLookedUp spaces k (length ns) n new → IsSpaceNext new n
  unfolding IsSpaceNext
  space_by_key new k n key look =
      let ss = spaces_of (vertices ns) in
      let trees = trees_of (vertices ns) in
      let more = space_key_more ss (s.space ∷ []) trees (s.tree ∷ []) in
      let w = looked_up same_space spaces_decided (IsSpaceKey ss trees) (IsSpaceKey (ss ++ s.space ∷ []) (trees ++ s.tree ∷ [])) more
      (space_key_one (ss ++ s.space ∷ []) (trees ++ s.tree ∷ [])) (space_key (ss ++ s.space ∷ []) (trees ++ s.tree ∷ []))
      spaces new ss s.space k n kept.space_table (more k s.space key)
      (subst (λ m. IsLookedUp spaces k m n new) (sym (as_many_spaces (vertices ns) ∙ many)) look) in
      (w.number, w.table)

  space_next : (x : SpaceNumber) (new : List (SpaceKey × ℕ)) (n : ℕ) → IsSpaceNumber (vertices ns) x s.space → IsSpaceLookedUp spaces x (length ns) n new → IsSpaceNext new n
  unfolding IsSpaceNext
  space_next (number.Known m) new n is look =
      let w = known_key spaces (IsSpaceKey (spaces_of (vertices ns)) (trees_of (vertices ns))) (spaces_of (vertices ns)) m s.space kept.space_table is in
      space_by_key new w.0 n w.1 (inl (subst (λ i. Holds spaces w.0 i) (sym look.0) w.2, look.1))
  space_next (number.New k) new n is look = space_by_key new k n is look

  new_facts : (f g : ℕ) → first_place same_tree s.tree (trees_of (vertices ns) ++ s.tree ∷ []) ≡ f → first_place same_space s.space (spaces_of (vertices ns) ++ s.space ∷ []) ≡ g
      → AreFacts (vertices ns ++ draft_vertex d ∷ []) (length (vertices ns)) (node_of d f g).facts
  new_facts f g is_form is_space =
      let us = vertices ns ++ draft_vertex d ∷ [] in
      let same : s ≡ shape_at us (length (vertices ns)) = sym (last_shape (vertices ns) (draft_vertex d) s draft.can) in
      let trees : trees_of (vertices ns) ++ s.tree ∷ [] ≡ trees_of us = sym (trees_with (vertices ns) (draft_vertex d) s draft.can) in
      let ss : spaces_of (vertices ns) ++ s.space ∷ [] ≡ spaces_of us = sym (spaces_with (vertices ns) (draft_vertex d) s draft.can) in
      let args : (draft_vertex d).args ≡ args_of (slice_get us (length (vertices ns))) = sym (ap args_of (get_last (vertices ns) (draft_vertex d))) in
      let kept_args : map (shape_at (vertices ns)) (draft_vertex d).args ≡ map (shape_at us) (draft_vertex d).args =
      sym (args_kept (vertices ns) (draft_vertex d) (length (vertices ns)) (draft_vertex d).args draft.may.below (omega arith)) in
      record {
        class_is = draft.class_is ∙ ap (λ (x : Shape). x.class) same;
        chain_is = draft.chain_is ∙ ap (λ (x : Shape). x.chain) same;
        scalar_is = draft.scalar_is ∙ ap (λ (x : Shape). is_single x.space) same;
        rows_are = draft.rows_are ∙ ap (λ (x : Shape). store_of x.space) same;
        store_is = draft.store_is ∙ (ap (λ x. first_store (x ∷ map (shape_at (vertices ns)) (draft_vertex d).args)) same
            ∙ (ap (λ xs. first_store (shape_at us (length (vertices ns)) ∷ xs)) kept_args ∙ ap (λ xs. first_store (shape_at us (length (vertices ns)) ∷ map (shape_at us) xs)) args));
        form_is = sym is_form ∙ (ap (first_place same_tree s.tree) trees ∙ ap (λ (x : Shape). form x.tree (trees_of us)) same);
        space_is = sym is_space ∙ (ap (first_place same_space s.space) ss ∙ ap (λ (x : Shape). space_number x.space (spaces_of us)) same);
      }

  all_facts : (f g : ℕ) → first_place same_tree s.tree (trees_of (vertices ns) ++ s.tree ∷ []) ≡ f → first_place same_space s.space (spaces_of (vertices ns) ++ s.space ∷ []) ≡ g
      → (i : ℕ) (n : Node) → slice_get (ns ++ node_of d f g ∷ []) i ≡ Some n → AreFacts (vertices ns ++ draft_vertex d ∷ []) i n.facts
  all_facts f g is_form is_space i n e = elim (old_or_new ns (node_of d f g) n i e) [
    | inl old ↦
        let at : slice_get (vertices ns) i ≡ Some (vertex_of n) = slice_get-map vertex_of ns i ∙ ap (option_map vertex_of) old in
        old_facts (vertices ns) (draft_vertex d) s draft.can i (vertex_of n) n.facts (record { at = at; below = made_ordered (vertices ns) kept.made i (vertex_of n) at }) (kept.facts i n old)
    | inr new ↦
        let i_is : length (vertices ns) ≡ i = many ∙ sym new.0 in
        subst (λ (m : Node). AreFacts (vertices ns ++ draft_vertex d ∷ []) i m.facts) new.1
        (subst (λ j. AreFacts (vertices ns ++ draft_vertex d ∷ []) j (node_of d f g).facts) i_is (new_facts f g is_form is_space))
  ]

  pub kept_push : (new : List (FormKey × ℕ)) (others : List (SpaceKey × ℕ)) (k : FormKey) (place f g : ℕ) → place ≡ length ns → IsKeyFor ts (draft_vertex d).made d.operands k
      → IsLookedUp forms k place f new → IsSpaceLookedUp spaces d.space place g others → IsKept (ns ++ node_of d f g ∷ []) ts new others
  unfolding IsSpaceNext
  kept_push new others k place f g at key look look_space =
      let n = node_of d f g in
      let us = vertices ns ++ draft_vertex d ∷ [] in
      let e : us ≡ vertices (ns ++ n ∷ []) = sym (map-append vertex_of ns (n ∷ [])) in
      let fs = form_next new k f key (subst (λ m. IsLookedUp forms k m f new) at look) in
      let ss = space_next d.space others g draft.space_is (subst (λ m. IsSpaceLookedUp spaces d.space m g others) at look_space) in
      let trees : trees_of (vertices ns) ++ s.tree ∷ [] ≡ trees_of us = sym (trees_with (vertices ns) (draft_vertex d) s draft.can) in
      let all_spaces : spaces_of (vertices ns) ++ s.space ∷ [] ≡ spaces_of us = sym (spaces_with (vertices ns) (draft_vertex d) s draft.can) in
      let table : IsTable same_tree (IsFormKey ts (trees_of us)) new (trees_of us) = subst (λ xs. IsTable same_tree (IsFormKey ts xs) new xs) trees fs.1 in
      let space_table : IsTable same_space (IsSpaceKey (spaces_of us) (trees_of us)) others (spaces_of us) =
      subst (λ xs. IsTable same_space (IsSpaceKey xs (trees_of us)) others xs) all_spaces
      (subst (λ xs. IsTable same_space (IsSpaceKey (spaces_of (vertices ns) ++ s.space ∷ []) xs) others (spaces_of (vertices ns) ++ s.space ∷ [])) trees ss.1) in
      record {
        made = subst IsMade e (made_push (vertices ns) (draft_vertex d) kept.made draft.may.below (s, draft.can));
        numbered = subst AreNumbered e (push_both (vertices ns) (draft_vertex d) (made_ordered (vertices ns) kept.made) kept.numbered draft.may).1;
        facts = λ i m h. subst (λ xs. AreFacts xs i m.facts) e (all_facts f g fs.0 ss.0 i m h);
        form_table = subst (λ xs. IsTable same_tree (IsFormKey ts (trees_of xs)) new (trees_of xs)) e table;
        space_table = subst (λ xs. IsTable same_space (IsSpaceKey (spaces_of xs) (trees_of xs)) others (spaces_of xs)) e space_table;
      }

-- the same lists
pub kept_as : (ns ms : List Node) (ts : List (List ℕ)) (forms others : List (FormKey × ℕ)) (spaces rest : List (SpaceKey × ℕ)) → IsKept ns ts forms spaces → ms ≡ ns → others ≡ forms → rest ≡ spaces → IsKept ms ts others rest
kept_as ns ms ts forms others spaces rest kept e f g =
    subst (λ xs. IsKept xs ts others rest) (sym e) (subst (λ xs. IsKept ns ts xs rest) (sym f) (subst (λ xs. IsKept ns ts forms xs) (sym g) kept))
