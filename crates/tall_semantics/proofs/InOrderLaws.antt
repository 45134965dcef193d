-- The values of a sound list solve its equations, and nothing else does.
use Rattle.std.specs.Prelude.{◌≡◌, refl, ℕ, zero, suc, ◌<◌, ◌≤◌, ◌+◌, ◌⊎◌, Some, Result, Ok, Err, List, [], ◌∷◌, ◌++◌, length, map, slice_get}
use Rattle.std.proofs.Common.{ap, sym, subst, ◌∙◌, arith, inl, inr}
use Rattle.std.proofs.lemmas.List.{get_or_append_left, length-append}
use Rattle.std.proofs.lemmas.Option.{slice_get_within}
use Rattle.std.proofs.Math.Seq.{get_or-append_seam}
use Rattle.tall_semantics.proofs.Basics.{inside}
use Rattle.tall_semantics.proofs.OriginLaws.{get_before}
use Rattle.tall_semantics.specs.Shapes.{ShapeRefusal}
use Rattle.tall_semantics.specs.Talls.{Tall, Columns, made_tall}
use Rattle.tall_semantics.specs.Deferred.{Vertex, IsMeaning, AllBelow, IsOrdered}
use Rattle.tall_semantics.specs.InOrder.{blank, or_blank, tall_in, next_tall, talls_from, talls, IsAccepted, IsSound}

-- operands below n have the same values
pub same_values : (f g : ℕ → Tall) (n : ℕ) (args : List ℕ) → ((a : ℕ) → a < n → f a ≡ g a) → AllBelow n args → map f args ≡ map g args
same_values f g n [] same below = refl
same_values f g n (a ∷ args) same below = ap (λ x. x ∷ map f args) (same a below.0) ∙ ap (λ xs. g a ∷ xs) (same_values f g n args same below.1)

length_push : (ts : List Tall) (t : Tall) → length (ts ++ t ∷ []) ≡ length ts + 1
length_push ts t = length-append ts (t ∷ [])

-- what is there stays
stays : (columns : Columns) (ts : List Tall) (vs : List Vertex) (n : ℕ) → n < length ts → tall_in (talls_from columns ts vs) n ≡ tall_in ts n
unfolding talls_from
stays columns ts [] n l = refl
stays columns ts (v ∷ vs) n l =
    let t = next_tall columns ts v in
    stays columns (ts ++ t ∷ []) vs n (omega (arith, l, length_push ts t)) ∙ get_or_append_left ts (t ∷ []) blank n l

-- what comes new at a place, from the values before it
record New (columns : Columns) (ts : List Tall) (vs : List Vertex) (i : ℕ) (v : Vertex) : Type 0 where
  before : List Tall
  many : length before ≡ length ts + i
  same : (a : ℕ) → a < length before → tall_in before a ≡ tall_in (talls_from columns ts vs) a
  new : tall_in (talls_from columns ts vs) (length ts + i) ≡ next_tall columns before v

new_at : (columns : Columns) (ts : List Tall) (vs : List Vertex) (i : ℕ) (v : Vertex) → slice_get vs i ≡ Some v → New columns ts vs i v
unfolding talls_from
new_at columns ts [] i v e = absurd (cc)
new_at columns ts (w ∷ vs) zero v e =
    let t = next_tall columns ts w in
    let q : w ≡ v = inside w v e in
    let z : length ts + 0 ≡ length ts = omega (arith) in
    record {
      before = ts;
      many = sym z;
      same = λ a l. sym (stays columns ts (w ∷ vs) a l);
      new = ap (tall_in (talls_from columns (ts ++ t ∷ []) vs)) z ∙ (stays columns (ts ++ t ∷ []) vs (length ts) (omega (arith, length_push ts t)) ∙ (get_or-append_seam ts t [] blank ∙ ap (next_tall columns ts) q));
    }
new_at columns ts (w ∷ vs) (suc i) v e =
    let t = next_tall columns ts w in
    let r = new_at columns (ts ++ t ∷ []) vs i v e in
    let m : length (ts ++ t ∷ []) + i ≡ length ts + suc i = omega (arith, length_push ts t) in
    record {
      before = r.before;
      many = r.many ∙ m;
      same = r.same;
      new = ap (tall_in (talls_from columns (ts ++ t ∷ []) vs)) (sym m) ∙ r.new;
    }

pub talls_mean : (columns : Columns) (vs : List Vertex) → IsSound columns vs → IsMeaning columns vs (tall_in (talls columns vs))
talls_mean columns vs sound i v e =
    let s = sound i v e in
    let r = new_at columns [] vs i v e in
    let f = tall_in (talls columns vs) in
    let m : length r.before ≡ i = r.many ∙ omega (arith) in
    let args : map (tall_in r.before) v.args ≡ map f v.args = same_values (tall_in r.before) f i v.args (λ a l. r.same a (omega (arith, l, m))) s.0 in
    let n : f i ≡ or_blank (made_tall columns v.at v.made (map f v.args)) = ap f (sym (omega (arith))) ∙ (r.new ∙ ap (λ xs. or_blank (made_tall columns v.at v.made xs)) args) in
    s.1.1 ∙ ap Ok (sym (n ∙ ap or_blank s.1.1))

-- ---- one vertex more

pub get_left : {A : Type 0} (xs ys : List A) (i : ℕ) (x : A) → slice_get xs i ≡ Some x → slice_get (xs ++ ys) i ≡ Some x
get_left [] ys i x e = absurd (cc)
get_left (z ∷ xs) ys zero x e = e
get_left (z ∷ xs) ys (suc i) x e = get_left xs ys i x e

pub get_last : {A : Type 0} (xs : List A) (x : A) → slice_get (xs ++ x ∷ []) (length xs) ≡ Some x
get_last [] x = refl
get_last (z ∷ xs) x = get_last xs x

-- what stands in the longer list stood there, or is the new one
pub old_or_new : {A : Type 0} (xs : List A) (x y : A) (i : ℕ) → slice_get (xs ++ x ∷ []) i ≡ Some y → (slice_get xs i ≡ Some y) ⊎ ((i ≡ length xs) × (x ≡ y))
old_or_new [] x y zero e = inr (refl, inside x y e)
old_or_new [] x y (suc i) e = absurd (cc)
old_or_new (z ∷ xs) x y zero e = inl e
old_or_new (z ∷ xs) x y (suc i) e = elim (old_or_new xs x y i e) [ inl h ↦ inl h | inr h ↦ inr (ap suc h.0, h.1) ]

pub meaning_kept : (columns : Columns) (vs ws : List Vertex) (f : ℕ → Tall) → IsMeaning columns (vs ++ ws) f → IsMeaning columns vs f
meaning_kept columns vs ws f meaning i v e = meaning i v (get_left vs ws i v e)

pub meaning_last : (columns : Columns) (vs : List Vertex) (v : Vertex) (f : ℕ → Tall) → IsMeaning columns (vs ++ v ∷ []) f → made_tall columns v.at v.made (map f v.args) ≡ Ok (f (length vs))
meaning_last columns vs v f meaning = meaning (length vs) v (get_last vs v)

length_talls : (columns : Columns) (ts : List Tall) (vs : List Vertex) → length (talls_from columns ts vs) ≡ length ts + length vs
unfolding talls_from
length_talls columns ts [] = omega (arith)
length_talls columns ts (v ∷ vs) =
    let t = next_tall columns ts v in
    let h = length_talls columns (ts ++ t ∷ []) vs in
    omega (arith, h, length_push ts t)

talls_push : (columns : Columns) (ts : List Tall) (vs : List Vertex) (v : Vertex) → talls_from columns ts (vs ++ v ∷ []) ≡ talls_from columns ts vs ++ next_tall columns (talls_from columns ts vs) v ∷ []
unfolding talls_from
talls_push columns ts [] v = refl
talls_push columns ts (w ∷ vs) v = talls_push columns (ts ++ next_tall columns ts w ∷ []) vs v

-- earlier values are the same in the longer list
pub kept_values : (columns : Columns) (vs : List Vertex) (v : Vertex) (a : ℕ) → a < length vs → tall_in (talls columns (vs ++ v ∷ [])) a ≡ tall_in (talls columns vs) a
kept_values columns vs v a l =
    ap (λ ts. tall_in ts a) (talls_push columns [] vs v) ∙ get_or_append_left (talls columns vs) (next_tall columns (talls columns vs) v ∷ []) blank a (omega (arith, l, length_talls columns [] vs))

kept_accepted : (columns : Columns) (vs : List Vertex) (v w : Vertex) (n : ℕ) → n ≤ length vs → AllBelow n w.args → IsAccepted columns vs w → IsAccepted columns (vs ++ v ∷ []) w
kept_accepted columns vs v w n l below accepted =
    let f = tall_in (talls columns (vs ++ v ∷ [])) in
    let args : map f w.args ≡ map (tall_in (talls columns vs)) w.args = same_values f (tall_in (talls columns vs)) n w.args (λ a b. kept_values columns vs v a (omega (arith, b, l))) below in
    (accepted.0, ap (made_tall columns w.at w.made) args ∙ accepted.1)

pub sound_push : (columns : Columns) (vs : List Vertex) (v : Vertex) → IsSound columns vs → AllBelow (length vs) v.args → IsAccepted columns vs v → IsSound columns (vs ++ v ∷ [])
sound_push columns vs v sound below accepted i w e = elim (old_or_new vs v w i e) [
  | inl old ↦
      let s = sound i w old in
      let l : i < length vs = slice_get_within vs i w old in
      (s.0, kept_accepted columns vs v w i (omega (arith, l)) s.0 s.1)
  | inr new ↦
      let b : AllBelow i w.args = subst (λ (u : Vertex). AllBelow i u.args) new.1 (subst (λ n. AllBelow n v.args) (sym new.0) below) in
      (b, kept_accepted columns vs v w i (omega (arith, new.0)) b (subst (IsAccepted columns vs) new.1 accepted))
]

-- ---- no other solution

abbrev ok : Tall → Result Tall ShapeRefusal
ok x = Ok x

result_is : (x y : Tall) → ok x ≡ ok y → x ≡ y
result_is x y h = ap (λ r. elim r [ Ok z ↦ z | Err e ↦ x ]) h

alike : (columns : Columns) (vs : List Vertex) (f g : ℕ → Tall) → IsMeaning columns vs f → IsMeaning columns vs g → IsOrdered vs → (n i : ℕ) (v : Vertex) → i < n → slice_get vs i ≡ Some v → f i ≡ g i
alike columns vs f g mf mg ordered zero i v l e = absurd (omega (arith, l))
alike columns vs f g mf mg ordered (suc n) i v l e =
    let args : map f v.args ≡ map g v.args = same_values f g i v.args (λ a b. (let w = get_before vs i a v e b in alike columns vs f g mf mg ordered n a w.0 (omega (arith, l, b)) w.1)) (ordered i v e) in
    result_is (f i) (g i) (sym (mf i v e) ∙ (ap (made_tall columns v.at v.made) args ∙ mg i v e))

pub one_solution : (columns : Columns) (vs : List Vertex) (f g : ℕ → Tall) → IsMeaning columns vs f → IsMeaning columns vs g → IsOrdered vs → (i : ℕ) (v : Vertex) → slice_get vs i ≡ Some v → f i ≡ g i
one_solution columns vs f g mf mg ordered i v e = alike columns vs f g mf mg ordered (suc i) i v (omega (arith)) e
