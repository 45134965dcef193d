-- What the candidate of the levels so far tells: what is known has no fault, the next level's work is ready, and the last
-- candidate is the fault of the gather.
use Rattle.std.specs.Prelude.{◌≡◌, refl, ℕ, suc, ◌≤◌, ◌+◌, ◌*◌, ◌⊎◌, Bool, true, false, if◌then◌else◌, Option, None, Some, List, [], ◌∷◌, map, slice_get}
use Rattle.std.proofs.Common.{ap, subst, arith, inl, inr}
use Rattle.tall_value.specs.declared.class.Class.{Class}
use Rattle.tall_semantics.proofs.Basics.{either, first_false}
use Rattle.tall_semantics.specs.Operations.{Made, stored, operation}
use Rattle.tall_semantics.specs.Faults.{Fault}
use Rattle.tall_semantics.specs.Shapes.{level, shape}
use Rattle.tall_semantics.specs.Talls.{Tall, Columns, shapes, tall, made_tall}
use Rattle.tall_semantics.specs.Least.{AtMost, IsLeast, IsBelow}
use Rattle.tall_semantics.specs.Deferred.{Vertex, IsMeaning, IsOrdered, IsAmong, DependsOn, itself, through, Under, fault_in, least_in, own_in, AreThere}
use Rattle.tall_semantics.specs.Levels.{Nodes, IsNumbered, IsBefore, UpTo, IsWork, After}
use Rattle.tall_semantics.specs.Spaces.{has_rows}
use Rattle.tall_semantics.specs.Ranks.{any_rows, is_in_pass, rank, rank_at, ranks_in}
use Rattle.tall_semantics.specs.Numbered.{AreNumbered, AreReadings, number_at, nodes_by, AreLevels, levels_in, IsGather}
use Rattle.tall_semantics.proofs.OrderLaws.{by_number, same_place}
use Rattle.tall_semantics.proofs.LevelLaws.{split}
use Rattle.tall_semantics.proofs.OriginLaws.{none_or_some, get_before, below_among, origin_one, roots_least}
use Rattle.tall_semantics.proofs.NumberLaws.{graph_numbered, graph_ranked}
use Rattle.tall_semantics.proofs.MeaningLaws.{tall_ok, tall_shape}
use Rattle.tall_semantics.proofs.ShapeLaws.{IsOneOf, shape_ok, no_deeper, lesser_level, in_pass_above, at_rows}

-- ---- there is one least fault

pub only : (ns : Nodes) (P : ℕ → Type 0) (c d : Option Fault) → IsNumbered ns → IsLeast ns.own P c → IsLeast ns.own P d → c ≡ d
only ns P None None numbered p q = refl
only ns P (Some x) None numbered p q = (let w = p.one x refl in absurd (q.least w.0 x w.1 w.2))
only ns P None (Some y) numbered p q = (let w = q.one y refl in absurd (p.least w.0 y w.1 w.2))
only ns P (Some x) (Some y) numbered p q =
    let v = p.one x refl in
    let w = q.one y refl in
    ap Some (numbered.one_place v.0 w.0 x y v.2 w.2 (same_place x y (p.least w.0 y w.1 w.2) (q.least v.0 x v.1 v.2)))

-- ---- operands

pub one_of : (f : ℕ → Tall) (args : List ℕ) (a : ℕ) → IsAmong args a → IsOneOf (shapes (map f args)) (f a).shape
one_of f [] a h = absurd h
one_of f (b ∷ args) a h = elim h [ inl e ↦ inl (ap (λ k. (f k).shape) e) | inr r ↦ inr (one_of f args a r) ]

no_operands : (columns : Columns) (v : Vertex) (s b : ℕ) (c : Class) (f : ℕ → Tall) (args : List ℕ) (t : Tall) (a : ℕ) → made_tall columns v.at (stored s b c) (map f args) ≡ tall_ok t → IsAmong args a → ⊥
no_operands columns v s b c f [] t a h i = i
no_operands columns v s b c f (d ∷ args) t a h i = cc

module _ (columns : Columns) (vs : List Vertex) (f : ℕ → Tall) (meaning : IsMeaning columns vs f) (numbered : AreNumbered vs) where
  operand_level : (i a : ℕ) (v : Vertex) (m : Made) → slice_get vs i ≡ Some v → v.made ≡ m → IsAmong v.args a → level (f a).shape ≤ level (f i).shape
  operand_level i a v (stored s b c) e q h = absurd (no_operands columns v s b c f v.args (f i) a (subst (λ m. made_tall columns v.at m (map f v.args) ≡ tall_ok (f i)) q (meaning i v e)) h)
  operand_level i a v (operation op) e q h =
      let t : tall v.at op (map f v.args) ≡ tall_ok (f i) = subst (λ m. made_tall columns v.at m (map f v.args) ≡ tall_ok (f i)) q (meaning i v e) in
      no_deeper op (shapes (map f v.args)) (f i).shape (f a).shape (tall_shape v.at op (map f v.args) (f i) t) (one_of f v.args a h)

  operand : (i a : ℕ) (v w : Vertex) → slice_get vs i ≡ Some v → IsAmong v.args a → slice_get vs a ≡ Some w → IsBefore (nodes_by vs f (levels_in f)) a i
  operand i a v w e h g =
      let n : w.at.number ≤ v.at.number = numbered.lower i a v w e h g in
      let p : number_at (slice_get vs a) ≡ w.at.number = ap number_at g in
      let q : number_at (slice_get vs i) ≡ v.at.number = ap number_at e in
      (omega (arith, n, p, q), operand_level i a v v.made e refl h)

-- ---- ranks

any_one : (f : ℕ → Tall) (args : List ℕ) → any_rows f args ≡ true → (b : ℕ) × IsAmong args b × (has_rows (f b).shape.space ≡ true)
any_one f [] h = absurd (cc)
any_one f (a ∷ args) h = elim (either (has_rows (f a).shape.space) (any_rows f args) h) [
  | inl e ↦ (a, inl refl, e)
  | inr r ↦ (let w = any_one f args r in (w.0, inr w.1, w.2))
]

rank_order : (b d : Bool) (m n : ℕ) → m ≤ n → (b ≡ false → d ≡ true → m + 1 ≤ n) → (if b then 2 * m else 2 * m + 1) ≤ (if d then 2 * n else 2 * n + 1)
rank_order true true m n l h = omega (arith, l)
rank_order true false m n l h = omega (arith, l)
rank_order false false m n l h = omega (arith, l)
rank_order false true m n l h = (let q : m + 1 ≤ n = h refl refl in omega (arith, q))

module _ (columns : Columns) (vs : List Vertex) (f : ℕ → Tall) (meaning : IsMeaning columns vs f) (numbered : AreNumbered vs) where
  -- an operand without rows of what a pass computes has a lesser level
  lesser : (i a : ℕ) (v : Vertex) (m : Made) → slice_get vs i ≡ Some v → v.made ≡ m → IsAmong v.args a → has_rows (f a).shape.space ≡ false → is_in_pass f v i ≡ true → level (f a).shape + 1 ≤ level (f i).shape
  lesser i a v (stored s b c) e q h n p = absurd (no_operands columns v s b c f v.args (f i) a (subst (λ m. made_tall columns v.at m (map f v.args) ≡ tall_ok (f i)) q (meaning i v e)) h)
  lesser i a v (operation op) e q h n p =
      let t : tall v.at op (map f v.args) ≡ tall_ok (f i) = subst (λ m. made_tall columns v.at m (map f v.args) ≡ tall_ok (f i)) q (meaning i v e) in
      let s : shape op (shapes (map f v.args)) ≡ shape_ok (f i).shape = tall_shape v.at op (map f v.args) (f i) t in
      elim (either (has_rows (f i).shape.space) (any_rows f v.args) p) [
        | inl r ↦ lesser_level op (shapes (map f v.args)) (f i).shape (f a).shape s (one_of f v.args a h) n r
        | inr r ↦
            let w = any_one f v.args r in
            in_pass_above op (shapes (map f v.args)) (f i).shape (f a).shape (f w.0).shape s (one_of f v.args a h) (one_of f v.args w.0 w.1) n w.2
      ]

  ranked_operand : (i a : ℕ) (v w : Vertex) → slice_get vs i ≡ Some v → IsAmong v.args a → slice_get vs a ≡ Some w → IsBefore (nodes_by vs f (ranks_in vs f)) a i
  ranked_operand i a v w e h g =
      let n = operand columns vs f meaning numbered i a v w e h g in
      let r : rank (is_in_pass f w a) (f a).shape ≤ rank (is_in_pass f v i) (f i).shape =
      rank_order (is_in_pass f w a) (is_in_pass f v i) (level (f a).shape) (level (f i).shape) n.1 (λ b d. lesser i a v v.made e refl h (first_false (has_rows (f a).shape.space) (any_rows f w.args) b) d) in
      let p : rank_at f (slice_get vs a) a ≡ rank (is_in_pass f w a) (f a).shape = ap (λ o. rank_at f o a) g in
      let q : rank_at f (slice_get vs i) i ≡ rank (is_in_pass f v i) (f i).shape = ap (λ o. rank_at f o i) e in
      (n.0, omega (arith, r, p, q))

-- ---- before the first rank

rank_positive : (b : Bool) (n : ℕ) → (b ≡ true → 1 ≤ n) → 1 ≤ (if b then 2 * n else 2 * n + 1)
rank_positive true n h = (let q : 1 ≤ n = h refl in omega (arith, q))
rank_positive false n h = omega (arith)

module _ (columns : Columns) (vs : List Vertex) (f : ℕ → Tall) (meaning : IsMeaning columns vs f) (numbered : AreNumbered vs) where
  level_positive : (i : ℕ) (v : Vertex) → slice_get vs i ≡ Some v → is_in_pass f v i ≡ true → 1 ≤ level (f i).shape
  level_positive i v e p = elim (either (has_rows (f i).shape.space) (any_rows f v.args) p) [
    | inl r ↦ (let q : (f i).shape.chain + 1 ≤ level (f i).shape = at_rows (has_rows (f i).shape.space) (f i).shape.chain r in omega (arith, q))
    | inr r ↦
        let w = any_one f v.args r in
        let q : (f w.0).shape.chain + 1 ≤ level (f w.0).shape = at_rows (has_rows (f w.0).shape.space) (f w.0).shape.chain w.2 in
        let l : level (f w.0).shape ≤ level (f i).shape = operand_level columns vs f meaning numbered i w.0 v v.made e refl w.1 in
        omega (arith, q, l)
  ]

  no_rank : (i : ℕ) (v : Vertex) → slice_get vs i ≡ Some v → rank_at f (slice_get vs i) i ≤ 0 → ⊥
  no_rank i v e l =
      let p : 1 ≤ rank (is_in_pass f v i) (f i).shape = rank_positive (is_in_pass f v i) (level (f i).shape) (level_positive i v e) in
      let q : rank_at f (slice_get vs i) i ≡ rank (is_in_pass f v i) (f i).shape = ap (λ o. rank_at f o i) e in
      omega (arith, p, q, l)

  pub start : (needed : List ℕ) → AreThere vs needed → After (nodes_by vs f (ranks_in vs f)) (IsAmong needed) (IsAmong []) 0 None
  start needed there = record {
    known = λ i u b. (let w = there i u.0 in absurd (no_rank i w.0 w.1 u.1));
    candidate = record {
      one = λ x e. absurd (cc);
      least = λ i y u e. (let w = there i u.0 in absurd (no_rank i w.0 w.1 u.1));
    };
  }

pub graph_levels : (columns : Columns) (vs : List Vertex) (f : ℕ → Tall) → IsMeaning columns vs f → AreNumbered vs → AreReadings columns vs → AreLevels vs f (levels_in f)
graph_levels columns vs f meaning numbered readings = record { numbered = graph_numbered columns vs f meaning numbered readings; operands = operand columns vs f meaning numbered }

pub graph_ranks : (columns : Columns) (vs : List Vertex) (f : ℕ → Tall) → IsMeaning columns vs f → AreNumbered vs → AreReadings columns vs → AreLevels vs f (ranks_in vs f)
graph_ranks columns vs f meaning numbered readings = record { numbered = graph_ranked columns vs f meaning numbered readings; operands = ranked_operand columns vs f meaning numbered }

module _ (vs : List Vertex) (f : ℕ → Tall) (levels : ℕ → ℕ) (ordered : IsOrdered vs) (levelled : AreLevels vs f levels) where
  along : (i j : ℕ) (v : Vertex) → slice_get vs i ≡ Some v → DependsOn vs i j → IsBefore (nodes_by vs f levels) j i
  along i j v e (itself k) = (omega (arith), omega (arith))
  along i j v e (through k a l u g among d) =
      let b = get_before vs k a u g (below_among k u.args a (ordered k u g) among) in
      let one = levelled.operands k a u b.0 g among b.1 in
      let more = along a l b.0 b.1 d in
      (omega (arith, one.0, more.0), omega (arith, one.1, more.1))

pub further : (vs : List Vertex) (r i j : ℕ) → DependsOn vs r i → DependsOn vs i j → DependsOn vs r j
further vs r i j (itself k) d = d
further vs r i j (through k a l v e among c) d = through k a j v e among (further vs a l j c d)

-- ---- work is ready

below_more : (c : Option Fault) (m n : ℕ) → m ≤ n → IsBelow c n → IsBelow c m
below_more None m n l h = tt
below_more (Some x) m n l h = omega (arith, l, h)

pub ready : (ns : Nodes) (Needed : ℕ → Type 0) (k : ℕ) (c : Option Fault) (i a : ℕ) → IsWork ns Needed (k + 1) c i → Needed a → IsBefore ns a i → (UpTo ns Needed k a × IsBelow c (ns.number a)) ⊎ IsWork ns Needed (k + 1) c a
ready ns Needed k c i a work needed before =
    let below : IsBelow c (ns.number a) = below_more c (ns.number a) (ns.number i) before.0 work.2 in
    elim (split (ns.level a) k (omega (arith, before.1, work.1))) [
      | inl low ↦ inl ((needed, low), below)
      | inr high ↦ inr (needed, high, below)
    ]

-- ---- what the candidate tells

beyond : (c : Option Fault) (x : Fault) (n m : ℕ) → AtMost c x → x.number ≡ m → m ≤ n → IsBelow c n → ⊥
beyond None x n m h e l b = h
beyond (Some z) x n m h e l b = (let q : z.number ≤ x.number = by_number z x h in omega (arith, q, e, l, b))

module _ (columns : Columns) (vs : List Vertex) (f : ℕ → Tall) (levels : ℕ → ℕ) (roots needed : List ℕ) (g : IsGather columns vs f levels roots needed) (k : ℕ) (c : Option Fault) (candidate : IsLeast (own_in vs f) (UpTo (nodes_by vs f levels) (IsAmong needed) k) c) where
  -- what is known has no fault
  pub known_no_fault : (i : ℕ) (v : Vertex) → slice_get vs i ≡ Some v → UpTo (nodes_by vs f levels) (IsAmong needed) k i → IsBelow c (number_at (slice_get vs i)) → fault_in f i ≡ None
  known_no_fault i v e up b = elim (none_or_some (fault_in f i)) [
    | inl none ↦ none
    | inr some ↦
        let w = origin_one columns vs f g.meaning g.ordered (suc i) i v some.0 (omega (arith)) e some.1 in
        let before = along vs f levels g.ordered g.levelled i w.0 v e w.1 in
        let r = (g.under i).0 up.0 in
        let in_need : IsAmong needed w.0 = (g.under w.0).1 (r.0, r.1, further vs r.0 i w.0 r.2 w.1) in
        let most : AtMost c some.0 = candidate.least w.0 some.0 (in_need, omega (arith, before.1, up.1)) w.2 in
        absurd (beyond c some.0 (number_at (slice_get vs i)) (number_at (slice_get vs w.0)) most (g.levelled.numbered.by_number w.0 some.0 w.2) before.0 b)
  ]

  -- after the last level the candidate is the least fault among the roots' values
  pub last_candidate : ((j : ℕ) → IsAmong needed j → levels j ≤ k) → c ≡ least_in f roots
  last_candidate deep = only (nodes_by vs f levels) (Under vs roots) c (least_in f roots) g.levelled.numbered
      (record {
        one = λ x e. (let w = candidate.one x e in (w.0, (g.under w.0).0 w.1.0, w.2));
        least = λ j y u e. (let n = (g.under j).1 u in candidate.least j y (n, deep j n) e);
      })
      (roots_least columns vs f g.meaning g.ordered roots g.there)
