-- One level more keeps the carries of scans, and a scan's carries come after its operand and before the scan.
use Rattle.std.specs.Prelude.{◌≡◌, refl, ℕ, ◌<◌, ◌≤◌, ◌+◌, ◌*◌, ◌⊎◌, Bool, true, false, ◌&&◌, ◌||◌, if◌then◌else◌, Option, None, Some, Ok, List, [], ◌∷◌, map, slice_get}
use Rattle.std.proofs.Common.{ap, sym, subst, ◌∙◌, arith, inl, inr}
use Rattle.tall_value.specs.declared.class.Class.{Class}
use Rattle.tall_value.specs.declared.functions.Scan.{Scan}
use Rattle.tall_semantics.specs.Operations.{scan, Made, stored, operation}
use Rattle.tall_semantics.specs.Faults.{Fault, earlier}
use Rattle.tall_semantics.specs.Spaces.{Space, has_rows}
use Rattle.tall_semantics.specs.Shapes.{Shape, level, greatest_level, place_of, shape}
use Rattle.tall_semantics.specs.Talls.{Tall, Columns, shapes}
use Rattle.tall_semantics.specs.Deferred.{Vertex, IsMeaning, IsOrdered, IsAmong}
use Rattle.tall_semantics.specs.Least.{IsBelow}
use Rattle.tall_semantics.specs.Levels.{Nodes, IsWork}
use Rattle.tall_semantics.specs.Numbered.{levels_in}
use Rattle.tall_semantics.specs.Plans.{is_scan, is_scan_at}
use Rattle.tall_semantics.specs.Ranks.{any_rows, is_in_pass, rank, rank_at, ranks_in}
use Rattle.tall_semantics.specs.ScanLevels.{Scans, AfterScans, PassedScans, scans_by, chains_in, chain_ranks_in, AreScans}
use Rattle.tall_semantics.proofs.Basics.{inside, both}
use Rattle.tall_semantics.proofs.OrderLaws.{below_left, below_right}
use Rattle.tall_semantics.proofs.LevelLaws.{split}
use Rattle.tall_semantics.proofs.OriginLaws.{get_before, below_among}
use Rattle.tall_semantics.proofs.MeaningLaws.{made_value, tall_shape}
use Rattle.tall_semantics.proofs.CandidateLaws.{one_of}
use Rattle.tall_semantics.proofs.ShapeLaws.{IsOneOf, space_ok, place_ok, refused, shape_ok, shaped_is, column_is, placed_is, below_greatest, at_rows}
use Rattle.tall_semantics.proofs.ShapeLaws as placing

pub scans_step : (ns : Nodes) (scans : Scans) (Needed Has Has' : ℕ → Type 0) (k : ℕ) (c p : Option Fault) → AfterScans ns scans Needed Has k c → PassedScans ns scans Needed Has Has' (k + 1) c p → AfterScans ns scans Needed Has' (k + 1) (earlier p c)
scans_step ns scans Needed Has Has' k c p after passed i n s l b = elim (split (scans.carried_at i) k l) [
  | inl low ↦ passed.kept i (after i n s low (below_right p c (ns.number i) b))
  | inr high ↦ passed.more i n s high (below_right p c (ns.number i) b) (below_left p c (ns.number i) b)
]

-- a scan that is work of the next level has its carries
pub scan_ready : (ns : Nodes) (scans : Scans) (Needed Has : ℕ → Type 0) (k : ℕ) (c : Option Fault) (i : ℕ) → AfterScans ns scans Needed Has k c → IsWork ns Needed (k + 1) c i → scans.is_scan i ≡ true → scans.carried_at i < ns.level i → Has i
scan_ready ns scans Needed Has k c i after work s l = after i work.0 s (omega (arith, l, work.1)) work.2

-- ---- the scans of a list

with_rows : (b : Bool) (n : ℕ) → b ≡ true → (if b then n + 1 else n) ≡ n + 1
with_rows true n h = refl
with_rows false n h = absurd (cc)

doubled : (b : Bool) (n m : ℕ) → n ≤ m → b ≡ true → (if b then 2 * n else 2 * n + 1) ≤ 2 * m
doubled true n m l h = omega (arith, l)
doubled false n m l h = absurd (cc)

any_rank : (b : Bool) (n m : ℕ) → n ≡ m + 1 → 2 * m < (if b then 2 * n else 2 * n + 1)
any_rank true n m e = omega (arith, e)
any_rank false n m e = omega (arith, e)

or_true : (b d : Bool) → b ≡ true → (b || d) ≡ true
or_true true d h = refl
or_true false d h = absurd (cc)

module _ (columns : Columns) (vs : List Vertex) (f : ℕ → Tall) (meaning : IsMeaning columns vs f) (ordered : IsOrdered vs) where
  record Known (i : ℕ) : Type 0 where
    v : Vertex
    s : Scan
    at_i : slice_get vs i ≡ Some v
    made : v.made ≡ operation (scan s)
    own_rows : has_rows (f i).shape.space ≡ true

  known_of : (i : ℕ) (o : Option Vertex) → slice_get vs i ≡ o → (is_scan_at o && has_rows (f i).shape.space) ≡ true → Known i
  known_of i None e h = absurd (cc)
  known_of i (Some v) e h = of_made v.made refl (both (is_scan v.made) (has_rows (f i).shape.space) h).0
    where
      of_made : (m : Made) → v.made ≡ m → is_scan m ≡ true → Known i
      of_made (operation (scan s)) q t = record { v = v; s = s; at_i = e; made = q; own_rows = (both (is_scan v.made) (has_rows (f i).shape.space) h).1 }
      of_made m q t = absurd (cc)

  known : (i : ℕ) → (is_scan_at (slice_get vs i) && has_rows (f i).shape.space) ≡ true → Known i
  known i h = known_of i (slice_get vs i) refl h

  its_shape : (i : ℕ) (k : Known i) → shape (scan k.s) (shapes (map f k.v.args)) ≡ shape_ok (f i).shape
  its_shape i k = tall_shape k.v.at (scan k.s) (map f k.v.args) (f i) (made_value columns vs f meaning i k.v (scan k.s) k.at_i k.made)

  chain_is : (i : ℕ) (k : Known i) → (f i).shape.chain ≡ greatest_level (shapes (map f k.v.args))
  chain_is i k = (let w = shaped_is (scan k.s) (shapes (map f k.v.args)) (place_of (scan k.s) (shapes (map f k.v.args))) (f i).shape (its_shape i k) in ap (λ (t : Shape). t.chain) (sym w.2))

  level_is : (i : ℕ) (k : Known i) → level (f i).shape ≡ (f i).shape.chain + 1
  level_is i k = with_rows (has_rows (f i).shape.space) (f i).shape.chain k.own_rows

  same_space : (s : Scan) (xs : List Shape) (p : Class × Space) → place_of (scan s) xs ≡ place_ok p → (x : Shape) → IsOneOf xs x → x.space ≡ p.1
  same_space s [] p h x i = absurd i
  same_space s (y ∷ []) p h x i = elim i [
    | inl e ↦ ap (λ (z : Shape). z.space) (sym e) ∙ placing.inside y.space p.1 (placed_is _ (space_ok y.space) p (column_is y _ p h))
    | inr n ↦ absurd n
  ]
  same_space s (y ∷ z ∷ xs) p h x i = absurd (refused p h)

  operand_rows : (i a : ℕ) (k : Known i) → IsAmong k.v.args a → has_rows (f a).shape.space ≡ true
  operand_rows i a k h =
      let w = shaped_is (scan k.s) (shapes (map f k.v.args)) (place_of (scan k.s) (shapes (map f k.v.args))) (f i).shape (its_shape i k) in
      let e : (f a).shape.space ≡ (f i).shape.space = same_space k.s (shapes (map f k.v.args)) w.0 w.1 (f a).shape (one_of f k.v.args a h) ∙ ap (λ (t : Shape). t.space) w.2 in
      ap has_rows e ∙ k.own_rows

  operand_level : (i a : ℕ) (k : Known i) → IsAmong k.v.args a → level (f a).shape ≤ (f i).shape.chain
  operand_level i a k h = subst (λ n. level (f a).shape ≤ n) (sym (chain_is i k)) (below_greatest (shapes (map f k.v.args)) (f a).shape (one_of f k.v.args a h))

  its_args : (i a : ℕ) (v : Vertex) (k : Known i) → slice_get vs i ≡ Some v → IsAmong v.args a → IsAmong k.v.args a
  its_args i a v k e h = subst (λ (w : Vertex). IsAmong w.args a) (inside v k.v (sym e ∙ k.at_i)) h

  pub scans_by_levels : AreScans vs (scans_by vs f (chains_in f)) (levels_in f)
  scans_by_levels = record {
    before = λ i h. (let l = level_is i (known i h) in let less : (f i).shape.chain < level (f i).shape = omega (arith, l) in less);
    operands = λ i a v h e among. (let k = known i h in operand_level i a k (its_args i a v k e among));
  }

  pub scans_by_ranks : AreScans vs (scans_by vs f (chain_ranks_in f)) (ranks_in vs f)
  scans_by_ranks = record {
    before = λ i h.
        let k = known i h in
        subst (λ o. 2 * (f i).shape.chain < rank_at f o i) (sym k.at_i) (any_rank (is_in_pass f k.v i) (level (f i).shape) (f i).shape.chain (level_is i k));
    operands = λ i a v h e among.
        let k = known i h in
        let r = its_args i a v k e among in
        let w = get_before vs i a k.v k.at_i (below_among i k.v.args a (ordered i k.v k.at_i) r) in
        subst (λ o. rank_at f o a ≤ 2 * (f i).shape.chain) (sym w.1)
        (doubled (is_in_pass f w.0 a) (level (f a).shape) (f i).shape.chain (operand_level i a k r) (or_true (has_rows (f a).shape.space) (any_rows f w.0.args) (operand_rows i a k r)));
  }
