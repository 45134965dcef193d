-- The shapes by recursion are those of the values, whatever the columns are.
use Rattle.std.specs.Prelude.{◌≡◌, refl, ℕ, zero, suc, ◌<◌, ◌≤◌, ◌+◌, ◌↔◌, Bool, true, false, if◌then◌else◌, Some, Result, Ok, Err, List, [], ◌∷◌, ◌++◌, length, map, slice_get}
use Rattle.std.proofs.Common.{ap, sym, subst, ◌∙◌, arith}
use Rattle.std.proofs.lemmas.List.{append-nil, append_assoc, length-append, map-append}
use Rattle.tall_semantics.specs.Operations.{Op, constant, unary, binary, filter, reduce, scan, head, tail, distinct, group, Made, stored, operation}
use Rattle.tall_semantics.specs.Spaces.{has_rows}
use Rattle.tall_semantics.specs.Faults.{At}
use Rattle.tall_semantics.specs.Outcomes.{Outcome}
use Rattle.tall_semantics.specs.Shapes.{Shape, ShapeRefusal, level, greatest_chain, greatest_level, place_of, chain_of, shape}
use Rattle.tall_semantics.specs.Talls.{Tall, Columns, shapes, outcome, with_shape, tall, stored_tall, made_tall}
use Rattle.tall_semantics.specs.Deferred.{Vertex, IsMeaning, AllBelow, IsOrdered}
use Rattle.tall_semantics.specs.InOrder.{blank, or_blank, tall_in, next_tall, talls_from, talls, IsAccepted, IsSound}
use Rattle.tall_semantics.specs.ShapesInOrder.{made_shape, or_blank_shape, shape_in, next_shape, shapes_from, shapes_of, shape_at, CanBeMade, IsMade}
use Rattle.tall_semantics.proofs.OriginLaws.{get_before}
use Rattle.tall_semantics.proofs.MeaningLaws.{tall_ok}
use Rattle.tall_semantics.proofs.ShapeLaws.{shape_ok, shaped_is}
use Rattle.tall_semantics.proofs.InOrderLaws.{talls_mean, sound_push, kept_values, one_solution}

-- no columns: any will do
abbrev none : Columns
none s v = blank.outcome

-- ---- one vertex

shaped_tall : (x : Outcome) (r : Result Shape ShapeRefusal) → (or_blank (with_shape x r)).shape ≡ or_blank_shape r
shaped_tall x (Ok s) = refl
shaped_tall x (Err e) = refl

made_one : (columns : Columns) (at : At) (m : Made) (xs : List Tall) → (or_blank (made_tall columns at m xs)).shape ≡ or_blank_shape (made_shape m (shapes xs))
unfolding tall
made_one columns at (stored s v c) [] = refl
made_one columns at (stored s v c) (x ∷ xs) = refl
made_one columns at (operation op) xs = shaped_tall (outcome at op xs) (shape op (shapes xs))

shape_there : (ts : List Tall) (n : ℕ) → (tall_in ts n).shape ≡ shape_in (shapes ts) n
shape_there [] n = refl
shape_there (t ∷ ts) zero = refl
shape_there (t ∷ ts) (suc n) = shape_there ts n

shapes_there : (ts : List Tall) (args : List ℕ) → shapes (map (tall_in ts) args) ≡ map (shape_in (shapes ts)) args
shapes_there ts [] = refl
shapes_there ts (a ∷ args) = ap (λ s. s ∷ shapes (map (tall_in ts) args)) (shape_there ts a) ∙ ap (λ ss. shape_in (shapes ts) a ∷ ss) (shapes_there ts args)

next_one : (columns : Columns) (ts : List Tall) (v : Vertex) → (next_tall columns ts v).shape ≡ next_shape (shapes ts) v
next_one columns ts v = made_one columns v.at v.made (map (tall_in ts) v.args) ∙ ap (λ ss. or_blank_shape (made_shape v.made ss)) (shapes_there ts v.args)

-- ---- all of a list

shapes_push : (ts : List Tall) (t : Tall) → shapes (ts ++ t ∷ []) ≡ shapes ts ++ t.shape ∷ []
shapes_push ts t = map-append (λ (x : Tall). x.shape) ts (t ∷ [])

all_from : (columns : Columns) (ts : List Tall) (vs : List Vertex) → shapes (talls_from columns ts vs) ≡ shapes_from (shapes ts) vs
unfolding talls_from shapes_from
all_from columns ts [] = refl
all_from columns ts (v ∷ vs) =
    let t = next_tall columns ts v in
    all_from columns (ts ++ t ∷ []) vs ∙ ap (λ ss. shapes_from ss vs) (shapes_push ts t ∙ ap (λ s. shapes ts ++ s ∷ []) (next_one columns ts v))

pub same_shapes : (columns : Columns) (vs : List Vertex) → shapes (talls columns vs) ≡ shapes_of vs
same_shapes columns vs = all_from columns [] vs

pub same_shape : (columns : Columns) (vs : List Vertex) (i : ℕ) → (tall_in (talls columns vs) i).shape ≡ shape_at vs i
same_shape columns vs i = shape_there (talls columns vs) i ∙ ap (λ ss. shape_in ss i) (same_shapes columns vs)

args_shapes : (columns : Columns) (vs : List Vertex) (args : List ℕ) → shapes (map (tall_in (talls columns vs)) args) ≡ map (shape_at vs) args
args_shapes columns vs args = shapes_there (talls columns vs) args ∙ ap (λ ss. map (shape_in ss) args) (same_shapes columns vs)

-- ---- accepted exactly where it can be made

shape_of_tall : (x : Outcome) (r : Result Shape ShapeRefusal) (t : Tall) → with_shape x r ≡ tall_ok t → r ≡ shape_ok t.shape
shape_of_tall x (Ok s) t h = ap shape_ok (ap (λ r. elim r [ Ok u ↦ u.shape | Err e ↦ s ]) h)
shape_of_tall x (Err e) t h = absurd (cc)

tall_of_shape : (x : Outcome) (r : Result Shape ShapeRefusal) (s : Shape) → r ≡ shape_ok s → (t : Tall) × (with_shape x r ≡ tall_ok t)
tall_of_shape x (Ok u) s h = (record { shape = u; outcome = x }, refl)
tall_of_shape x (Err e) s h = absurd (cc)

pub shape_made : (columns : Columns) (at : At) (m : Made) (xs : List Tall) (t : Tall) → made_tall columns at m xs ≡ tall_ok t → made_shape m (shapes xs) ≡ shape_ok t.shape
unfolding tall
shape_made columns at (stored s v c) [] t h = ap shape_ok (ap (λ r. elim r [ Ok u ↦ u.shape | Err e ↦ t.shape ]) h)
shape_made columns at (stored s v c) (x ∷ xs) t h = absurd (cc)
shape_made columns at (operation op) xs t h = shape_of_tall (outcome at op xs) (shape op (shapes xs)) t h

tall_made : (columns : Columns) (at : At) (m : Made) (xs : List Tall) (s : Shape) → made_shape m (shapes xs) ≡ shape_ok s → (t : Tall) × (made_tall columns at m xs ≡ tall_ok t)
unfolding tall
tall_made columns at (stored s v c) [] u h = (stored_tall s v c (columns s v), refl)
tall_made columns at (stored s v c) (x ∷ xs) u h = absurd (cc)
tall_made columns at (operation op) xs u h = tall_of_shape (outcome at op xs) (shape op (shapes xs)) u h

accepted_made : (columns : Columns) (vs : List Vertex) (v : Vertex) → IsAccepted columns vs v → CanBeMade vs v.made v.args
accepted_made columns vs v a =
    (a.0.shape, ap (made_shape v.made) (sym (args_shapes columns vs v.args)) ∙ shape_made columns v.at v.made (map (tall_in (talls columns vs)) v.args) a.0 a.1)

made_accepted : (columns : Columns) (vs : List Vertex) (v : Vertex) → CanBeMade vs v.made v.args → IsAccepted columns vs v
made_accepted columns vs v m =
    tall_made columns v.at v.made (map (tall_in (talls columns vs)) v.args) m.0 (ap (made_shape v.made) (args_shapes columns vs v.args) ∙ m.1)

pub made_sound : (columns : Columns) (vs : List Vertex) → IsMade vs ↔ IsSound columns vs
made_sound columns vs = (
  λ made i v e. ((made i v e).0, made_accepted columns vs v (made i v e).1),
  λ sound i v e. ((sound i v e).0, accepted_made columns vs v (sound i v e).1),
)

pub made_ordered : (vs : List Vertex) → IsMade vs → IsOrdered vs
made_ordered vs made i v e = (made i v e).0

-- ---- the shapes of a solution

args_of_values : (f : ℕ → Tall) (args : List ℕ) → shapes (map f args) ≡ map (λ a. (f a).shape) args
args_of_values f [] = refl
args_of_values f (a ∷ args) = ap (λ ss. (f a).shape ∷ ss) (args_of_values f args)

pub value_shape : (columns : Columns) (vs : List Vertex) (f : ℕ → Tall) → IsMade vs → IsMeaning columns vs f → (i : ℕ) (v : Vertex) → slice_get vs i ≡ Some v → (f i).shape ≡ shape_at vs i
value_shape columns vs f made meaning i v e =
    let s : IsSound columns vs = (made_sound columns vs).0 made in
    ap (λ (t : Tall). t.shape) (one_solution columns vs f (tall_in (talls columns vs)) meaning (talls_mean columns vs s) (made_ordered vs made) i v e) ∙ same_shape columns vs i

-- the shapes solve the list's equations
pub shapes_mean : (vs : List Vertex) → IsMade vs → (i : ℕ) (v : Vertex) → slice_get vs i ≡ Some v → made_shape v.made (map (shape_at vs) v.args) ≡ shape_ok (shape_at vs i)
shapes_mean vs made i v e =
    let f = tall_in (talls none vs) in
    let m : made_tall none v.at v.made (map f v.args) ≡ tall_ok (f i) = talls_mean none vs ((made_sound none vs).0 made) i v e in
    ap (made_shape v.made) (sym (args_shapes none vs v.args)) ∙ (shape_made none v.at v.made (map f v.args) (f i) m ∙ ap shape_ok (same_shape none vs i))

-- ---- a longer list

pub shape_kept : (vs : List Vertex) (v : Vertex) (i : ℕ) → i < length vs → shape_at (vs ++ v ∷ []) i ≡ shape_at vs i
shape_kept vs v i l =
    sym (same_shape none (vs ++ v ∷ []) i) ∙ (ap (λ (t : Tall). t.shape) (kept_values none vs v i l) ∙ same_shape none vs i)

pub shape_longer : (vs ws : List Vertex) (i : ℕ) → i < length vs → shape_at (vs ++ ws) i ≡ shape_at vs i
shape_longer vs [] i l = ap (λ us. shape_at us i) (append-nil vs)
shape_longer vs (w ∷ ws) i l =
    let more : i < length (vs ++ w ∷ []) = omega (arith, l, length-append vs (w ∷ [])) in
    ap (λ us. shape_at us i) (sym (append_assoc vs (w ∷ []) ws)) ∙ (shape_longer (vs ++ w ∷ []) ws i more ∙ shape_kept vs w i l)

pub made_push : (vs : List Vertex) (v : Vertex) → IsMade vs → AllBelow (length vs) v.args → CanBeMade vs v.made v.args → IsMade (vs ++ v ∷ [])
made_push vs v made below can =
    (made_sound none (vs ++ v ∷ [])).1 (sound_push none vs v ((made_sound none vs).0 made) below (made_accepted none vs v can))

-- ---- a chain is no longer than the values before

small : (g : ℕ → Shape) (n : ℕ) (args : List ℕ) → AllBelow n args → ((a : ℕ) → a < n → (g a).chain ≤ a) → (greatest_level (map g args) ≤ n) × (greatest_chain (map g args) ≤ n)
small g n [] below h = (omega (arith), omega (arith))
small g n (a ∷ args) below h =
    let r = small g n args below.1 h in
    let c : (g a).chain ≤ a = h a below.0 in
    let l : level (g a) ≤ (g a).chain + 1 = raised (has_rows (g a).space) (g a).chain in
    (grind (arith, r.0, c, l, below.0), grind (arith, r.1, c, below.0))
  where
    raised : (b : Bool) (k : ℕ) → (if b then k + 1 else k) ≤ k + 1
    raised true k = omega (arith)
    raised false k = omega (arith)

chain_within : (op : Op) (xs : List Shape) (n : ℕ) → greatest_level xs ≤ n → greatest_chain xs ≤ n → chain_of op xs ≤ n
chain_within (constant c) xs n l k = k
chain_within (binary op) xs n l k = k
chain_within (unary op) xs n l k = k
chain_within filter xs n l k = k
chain_within (reduce r) xs n l k = l
chain_within (scan s) xs n l k = l
chain_within (head j) xs n l k = l
chain_within (tail j) xs n l k = l
chain_within distinct xs n l k = l
chain_within (group m part) xs n l k = l

chain_of_made : (m : Made) (xs : List Shape) (s : Shape) (n : ℕ) → made_shape m xs ≡ shape_ok s → greatest_level xs ≤ n → greatest_chain xs ≤ n → s.chain ≤ n
chain_of_made (stored t v c) [] s n h l k = (let z : 0 ≡ s.chain = ap (λ r. elim r [ Ok u ↦ u.chain | Err e ↦ s.chain ]) h in omega (arith, z))
chain_of_made (stored t v c) (x ∷ xs) s n h l k = absurd (cc)
chain_of_made (operation op) xs s n h l k =
    let w = shaped_is op xs (place_of op xs) s h in
    subst (λ (t : Shape). t.chain ≤ n) w.2 (chain_within op xs n l k)

short_below : (vs : List Vertex) → IsMade vs → (n i : ℕ) (v : Vertex) → i < n → slice_get vs i ≡ Some v → (shape_at vs i).chain ≤ i
short_below vs made zero i v l e = absurd (omega (arith, l))
short_below vs made (suc n) i v l e =
    let below = (made i v e).0 in
    let r = small (shape_at vs) i v.args below (λ a b. (let w = get_before vs i a v e b in short_below vs made n a w.0 (omega (arith, l, b)) w.1)) in
    chain_of_made v.made (map (shape_at vs) v.args) (shape_at vs i) i (shapes_mean vs made i v e) r.0 r.1

pub chain_short : (vs : List Vertex) → IsMade vs → (i : ℕ) (v : Vertex) → slice_get vs i ≡ Some v → (shape_at vs i).chain ≤ i
chain_short vs made i v e = short_below vs made (suc i) i v (omega (arith)) e
