-- The columns of the roots.
use Rattle.std.specs.Prelude.{◌≡◌, refl, ℕ, zero, suc, ◌<◌, ◌≤◌, ◌+◌, ◌⊎◌, Option, None, Some, List, [], ◌∷◌, ◌++◌, length, slice_get, min, Result, Ok, Err, IfOk, option_map}
use Rattle.std.proofs.Common.{ap, sym, subst, ◌∙◌, arith, inl, inr}
use Rattle.tall_dense.specs.Columns.{SeenColumn, rows_between}
use Rattle.tall_semantics.specs.Deferred.{Vertex, IsAmong}
use Rattle.tall_semantics.specs.Forms.{space_number}
use Rattle.tall_semantics.specs.ShapesInOrder.{shape_at}
use Rattle.tall_graph.specs.Trees.{spaces_of}
use Rattle.tall_semantics.proofs.Basics.{inside}
use Rattle.tall_semantics.proofs.LevelLaws.{compare}
use Rattle.tall_fuse.specs.Results.{Found}
use Rattle.tall_fuse.specs.Kept.{found}
use Rattle.tall_fuse.specs.declared.known.Known.{Known}
use Rattle.tall_gather.specs.Gathered.{HaveOneSpace, IsLeastHeight, IsRootColumn}
use Rattle.tall_gather.specs.RootLists.{RootColumns}
use Rattle.tall_gather.proofs.RestLaws.{among_place, place_among}

-- ---- the least height

pub record LeastSoFar (vs : List Vertex) (roots : List ℕ) (known : Known) (n j height : ℕ) : Type 0 where
  pub bound : (m i : ℕ) (r : Found) → m < j → slice_get roots m ≡ Some i → HaveOneSpace vs i n → found known i ≡ Some r → height ≤ length r.column.cells
  pub one : (i : ℕ) × (r : Found) × IsAmong roots i × HaveOneSpace vs i n × (found known i ≡ Some r) × (height ≡ length r.column.cells)

pub least_first : (vs : List Vertex) (roots : List ℕ) (known : Known) (n height : ℕ) (r : Found) → IsAmong roots n → found known n ≡ Some r → ((r : Found) → found known n ≡ Some r → height ≡ length r.column.cells) → LeastSoFar vs roots known n 0 height
least_first vs roots known n height r m e h = record { bound = λ k i x l. absurd (omega (arith, l)); one = (n, r, m, refl, e, h r e) }

pub least_skip : (vs : List Vertex) (roots : List ℕ) (known : Known) (n j height a : ℕ) → slice_get roots j ≡ Some a → (HaveOneSpace vs a n → ⊥) → LeastSoFar vs roots known n j height → LeastSoFar vs roots known n (j + 1) height
least_skip vs roots known n j height a at other so = record {
  bound = λ m i r l e s w. elim (compare m j) [
    | inl less ↦ so.bound m i r less e s w
    | inr (inl more) ↦ absurd (omega (arith, l, more))
    | inr (inr same) ↦ (let ia : i ≡ a = inside i a (sym e ∙ (ap (slice_get roots) same ∙ at)) in absurd (other (subst (λ x. HaveOneSpace vs x n) ia s)))
  ];
  one = so.one;
}

pub least_more : (vs : List Vertex) (roots : List ℕ) (known : Known) (n j height a h : ℕ) → slice_get roots j ≡ Some a → HaveOneSpace vs a n → (r : Found) → found known a ≡ Some r → h ≡ length r.column.cells → LeastSoFar vs roots known n j height → LeastSoFar vs roots known n (j + 1) (min height h)
least_more vs roots known n j height a h at space r er eh so = record {
  bound = λ m i x l e s w. elim (compare m j) [
    | inl less ↦ (let b = so.bound m i x less e s w in omega (arith, b))
    | inr (inl more) ↦ absurd (omega (arith, l, more))
    | inr (inr same) ↦
        let ia : i ≡ a = inside i a (sym e ∙ (ap (slice_get roots) same ∙ at)) in
        let rx : r ≡ x = inside r x (sym er ∙ (ap (found known) (sym ia) ∙ w)) in
        let hx : h ≡ length x.column.cells = eh ∙ ap (λ (y : Found). length y.column.cells) rx in
        omega (arith, hx)
  ];
  one = elim (compare height h) [ inl l ↦ lower (omega (arith, l)) | inr (inl g) ↦ higher g | inr (inr same) ↦ lower (omega (arith, same)) ];
}
  where
    lower : height ≤ h → (i : ℕ) × (x : Found) × IsAmong roots i × HaveOneSpace vs i n × (found known i ≡ Some x) × (min height h ≡ length x.column.cells)
    lower l = (so.one.0, so.one.1, so.one.2, so.one.3, so.one.4, (let e = so.one.5 in omega (arith, e, l)))

    higher : h < height → (i : ℕ) × (x : Found) × IsAmong roots i × HaveOneSpace vs i n × (found known i ≡ Some x) × (min height h ≡ length x.column.cells)
    higher g = (a, r, place_among roots j a at, space, er, omega (arith, eh, g))

pub least_all : (vs : List Vertex) (roots : List ℕ) (known : Known) (n height : ℕ) → LeastSoFar vs roots known n (length roots) height → IsLeastHeight vs roots known n height
least_all vs roots known n height so = record { bound = λ i r m s e. (let w = among_place roots i m in so.bound w.0 i r w.1 w.2 s e); one = so.one }

-- ---- one column more

get_end : (xs : List SeenColumn) (x y : SeenColumn) (j : ℕ) → slice_get (xs ++ x ∷ []) j ≡ Some y → (slice_get xs j ≡ Some y) ⊎ ((j ≡ length xs) × (x ≡ y))
get_end [] x y zero e = inr (refl, inside x y e)
get_end [] x y (suc j) e = absurd (cc)
get_end (z ∷ xs) x y zero e = inl e
get_end (z ∷ xs) x y (suc j) e = elim (get_end xs x y j e) [ inl h ↦ inl h | inr h ↦ inr ((let q = h.0 in omega (arith, q)), h.1) ]

length_end : (xs : List SeenColumn) (x : SeenColumn) → length (xs ++ x ∷ []) ≡ length xs + 1
length_end [] x = refl
length_end (z ∷ xs) x = (let h = length_end xs x in omega (arith, h))

pub root_first : (vs : List Vertex) (roots : List ℕ) (known : Known) → RootColumns vs roots known 0 []
root_first vs roots known = record { many = refl; each = λ j i x a e. absurd (cc) }

pub root_push : (vs : List Vertex) (roots : List ℕ) (known : Known) (n i : ℕ) (columns : List SeenColumn) (x : SeenColumn) → slice_get roots n ≡ Some i → IsRootColumn vs roots known i x → RootColumns vs roots known n columns → RootColumns vs roots known (n + 1) (columns ++ x ∷ [])
root_push vs roots known n i columns x at is so = record {
  many = length_end columns x ∙ ap (λ m. m + 1) so.many;
  each = λ j k y a e. elim (get_end columns x y j e) [
    | inl before ↦ so.each j k y a before
    | inr here ↦
        let same : i ≡ k = inside i k (sym at ∙ (ap (slice_get roots) (sym (here.0 ∙ so.many)) ∙ a)) in
        subst (λ m. IsRootColumn vs roots known m y) same (subst (IsRootColumn vs roots known i) here.1 is)
  ];
}

pub one_or_other : (vs : List Vertex) (roots : List ℕ) (known : Known) (n j height a h space : ℕ) → slice_get roots j ≡ Some a → (r : Found) → found known a ≡ Some r → space ≡ space_number (shape_at vs n).space (spaces_of vs)
    → (space_number (shape_at vs a).space (spaces_of vs) ≡ space → (r : Found) → found known a ≡ Some r → h ≡ min height (length r.column.cells)) → ((space_number (shape_at vs a).space (spaces_of vs) ≡ space → ⊥) → h ≡ height)
    → LeastSoFar vs roots known n j height → LeastSoFar vs roots known n (j + 1) h
one_or_other vs roots known n j height a h space at r er es same other so = elim (equal_or_not (space_number (shape_at vs a).space (spaces_of vs)) space) [
  | inl e ↦ subst (LeastSoFar vs roots known n (j + 1)) (sym (same e r er)) (least_more vs roots known n j height a (length r.column.cells) at (e ∙ es) r er refl so)
  | inr f ↦ subst (LeastSoFar vs roots known n (j + 1)) (sym (other f)) (least_skip vs roots known n j height a at (λ e. f (e ∙ sym es)) so)
]
  where
    equal_or_not : (x y : ℕ) → (x ≡ y) ⊎ (x ≡ y → ⊥)
    equal_or_not x y = elim (compare x y) [ inl l ↦ inr (λ e. omega (arith, l, e)) | inr (inl g) ↦ inr (λ e. omega (arith, g, e)) | inr (inr e) ↦ inl e ]

pub root_made : (vs : List Vertex) (roots : List ℕ) (known : Known) (n h : ℕ) (o : Option Found) (column : SeenColumn) → found known n ≡ o → Some column ≡ option_map (λ (r : Found). r.column) o → IsLeastHeight vs roots known n h
    → (E : Type 0) → (r : Result SeenColumn E) → IfOk r (λ x. x ≡ rows_between column 0 h) → IfOk r (λ x. IsRootColumn vs roots known n x)
root_made vs roots known n h None column eo e least E r is = absurd (cc)
root_made vs roots known n h (Some x) column eo e least E (Ok y) is = (x, h, eo, least, is ∙ ap (λ z. rows_between z 0 h) (inside column x.column e))
root_made vs roots known n h (Some x) column eo e least E (Err y) is = tt
