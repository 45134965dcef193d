-- The values of a pass at one level can be cut into blocks, and the least own fault among them is that of the level's work.
use Rattle.std.specs.Prelude.{◌≡◌, refl, ◌≢◌, ℕ, suc, ◌<◌, ◌≤◌, ◌+◌, ◌*◌, ◌⊎◌, ◌==◌, ◌&&◌, not, nat_lt, ◌↔◌, Bool, true, false, Option, None, Some, List, [], ◌∷◌, map, slice_get}
use Rattle.std.proofs.Common.{ap, sym, subst, ◌∙◌, arith, inl, inr}
use Rattle.std.proofs.lemmas.Bool.Decides.{nat_tests}
use Rattle.tall_semantics.specs.Operations.{scan, Made, stored, operation}
use Rattle.tall_semantics.specs.ScanLevels.{AreScans, scans_by}
use Rattle.tall_semantics.specs.Spaces.{Space, single, rows_of, filtered, first, last, groups, is_single, has_rows, store_of}
use Rattle.tall_semantics.specs.Spaces as spaces
use Rattle.tall_semantics.specs.Faults.{Fault, earlier, precedes}
use Rattle.tall_semantics.specs.Outcomes.{Outcome, rows, scalar, fault, fault_of}
use Rattle.tall_semantics.specs.Shapes.{Shape, level}
use Rattle.tall_semantics.specs.Talls.{Tall, Columns, shapes, made_tall}
use Rattle.tall_semantics.specs.Deferred.{Vertex, IsMeaning, IsAmong, AreThere, AreUnder, DependsOn, itself, through, fault_in, least_in, own_in}
use Rattle.tall_semantics.specs.Least.{AtMost, IsLeast, IsBelow}
use Rattle.tall_semantics.specs.Levels.{UpTo}
use Rattle.tall_semantics.specs.Numbered.{AreNumbered, AreBothStored, never_fails, nodes_by, number_at, levels_in, IsGather}
use Rattle.tall_semantics.specs.Ranks.{is_in_pass, rank, rank_at, ranks_in}
use Rattle.tall_semantics.specs.RowsOfSpaces.{AreColumns, Fits}
use Rattle.tall_semantics.proofs.Basics.{both, inside}
use Rattle.tall_semantics.proofs.FaultLaws.{no_own}
use Rattle.tall_semantics.proofs.CandidateLaws.{further, known_no_fault}
use Rattle.tall_semantics.proofs.LevelLaws.{compare, split}
use Rattle.tall_semantics.proofs.MeaningLaws.{tall_ok, made_fault, made_value, tall_shape}
use Rattle.tall_semantics.proofs.OrderLaws.{at_most_left, at_most_right, by_number, lesser_number, one_of_two}
use Rattle.tall_semantics.proofs.OriginLaws.{get_before, below_among, none_or_some}
use Rattle.tall_semantics.specs.Plans.{is_among, is_scan, is_scan_at, is_store, needed_of}
use Rattle.tall_semantics.proofs.PlanLaws.{needed_under}
use Rattle.tall_semantics.proofs.ReachLaws.{any_of, of_any}
use Rattle.tall_semantics.proofs.ShapeLaws.{IsOneOf, lesser_level}
use Rattle.tall_semantics.proofs.SpaceLaws.{value_fits}
use Rattle.tall_semantics.proofs.VariantLaws.{number_is, same_number}
use Rattle.tall_blocks.specs.Cut.{IsScalar, AreCut, IsCutWork, IsOfRows, AreOfStore}
use Rattle.tall_blocks.specs.PassWork.{AreAsked, IsCutAt, IsCutFor, cut_under, IsWorkOf, IsEndOf, AreScalarsLower, is_below, cut_at}
use Rattle.tall_blocks.specs.Pieces.{AreScansFree, has_rows_of}
use Rattle.tall_blocks.specs.ValuesOver.{IsOver, no_cells}
use Rattle.tall_blocks.proofs.LeastLaws.{no_group, path_number}
use Rattle.tall_blocks.proofs.SeenLaws.{origin, own_split}
use Rattle.tall_blocks.proofs.CutLaws.{not_single}

-- ---- spaces

store_rows : (s : ℕ) (u : Space) → store_of u ≡ Some s → has_rows u ≡ true
store_rows s single e = absurd (cc)
store_rows s (rows_of t) e = refl
store_rows s (filtered u t) e = store_rows s u e
store_rows s (first k u) e = absurd (cc)
store_rows s (last k u) e = absurd (cc)
store_rows s (spaces.distinct t) e = absurd (cc)
store_rows s (groups m k d) e = absurd (cc)

no_rows : (u : Space) → is_single u ≡ true → has_rows u ≡ false
no_rows single e = refl
no_rows (rows_of t) e = absurd (cc)
no_rows (filtered u t) e = absurd (cc)
no_rows (first k u) e = refl
no_rows (last k u) e = refl
no_rows (spaces.distinct t) e = refl
no_rows (groups m k d) e = refl

scalar_fits : (s : Shape) (x : Outcome) → is_single s.space ≡ true → Fits s x → fault_of x ≡ None → IsScalar x
scalar_fits s (rows rs) e fits n = absurd (cc)
scalar_fits s (scalar c) e fits n = (c, refl)
scalar_fits s (fault f) e fits n = absurd (cc)

-- ---- numbers and candidates

pub below_more : (c : Option Fault) (m n : ℕ) → m ≤ n → IsBelow c n → IsBelow c m
below_more None m n l h = tt
below_more (Some x) m n l h = omega (arith, l, h)

beyond : (c : Option Fault) (x : Fault) (n : ℕ) → AtMost c x → x.number ≡ n → IsBelow c n → ⊥
beyond None x n h e b = h
beyond (Some z) x n h e b = (let q : z.number ≤ x.number = by_number z x h in omega (arith, q, e, b))

one_of : (f : ℕ → Tall) (args : List ℕ) (a : ℕ) → IsAmong args a → IsOneOf (shapes (map f args)) (f a).shape
one_of f [] a h = absurd h
one_of f (b ∷ args) a h = elim h [ inl e ↦ inl (ap (λ j. (f j).shape) e) | inr r ↦ inr (one_of f args a r) ]

-- ---- scalars have lower levels, and lower ranks

module _ (columns : Columns) (vs : List Vertex) (f : ℕ → Tall) (meaning : IsMeaning columns vs f) where
  lower_made : (i a : ℕ) (v : Vertex) (m : Made) → slice_get vs i ≡ Some v → v.made ≡ m → IsAmong v.args a → is_single (f a).shape.space ≡ true → has_rows (f i).shape.space ≡ true → level (f a).shape + 1 ≤ level (f i).shape
  lower_made i a v (stored s b c) e q among single_a rows_i = absurd (none v.args among (subst (λ m. made_tall columns v.at m (map f v.args) ≡ tall_ok (f i)) q (meaning i v e)))
    where
      none : (args : List ℕ) → IsAmong args a → made_tall columns v.at (stored s b c) (map f args) ≡ tall_ok (f i) → ⊥
      none [] among h = among
      none (d ∷ args) among h = cc
  lower_made i a v (operation op) e q among single_a rows_i =
      lesser_level op (shapes (map f v.args)) (f i).shape (f a).shape (tall_shape v.at op (map f v.args) (f i) (made_value columns vs f meaning i v op e q)) (one_of f v.args a among) (no_rows (f a).shape.space single_a) rows_i

  pub lower_levels : AreScalarsLower vs f (levels_in f)
  lower_levels i a v e among single_a rows_i = (let h = lower_made i a v v.made e refl among single_a rows_i in omega (arith, h))

  most_rank : (b : Bool) (s : Shape) → rank b s ≤ 2 * level s + 1
  most_rank true s = omega (arith)
  most_rank false s = omega (arith)

  most_at : (o : Option Vertex) (a : ℕ) → rank_at f o a ≤ 2 * level (f a).shape + 1
  most_at None a = omega (arith)
  most_at (Some w) a = most_rank (is_in_pass f w a) (f a).shape

  least_rank : (b : Bool) (s : Shape) → 2 * level s ≤ rank b s
  least_rank true s = omega (arith)
  least_rank false s = omega (arith)

  least_at : (o : Option Vertex) (v : Vertex) (i : ℕ) → o ≡ Some v → 2 * level (f i).shape ≤ rank_at f o i
  least_at o v i e = subst (λ w. 2 * level (f i).shape ≤ rank_at f w i) (sym e) (least_rank (is_in_pass f v i) (f i).shape)

  pub lower_ranks : AreScalarsLower vs f (ranks_in vs f)
  lower_ranks i a v e among single_a rows_i =
      let h = lower_made i a v v.made e refl among single_a rows_i in
      let m : ranks_in vs f a ≤ 2 * level (f a).shape + 1 = most_at (slice_get vs a) a in
      let l : 2 * level (f i).shape ≤ ranks_in vs f i = least_at (slice_get vs i) v i e in
      omega (arith, h, m, l)

-- ---- the values of a pass

never_none : (columns : Columns) (vs : List Vertex) (f : ℕ → Tall) → IsMeaning columns vs f → (i : ℕ) (v : Vertex) (m : Made) (x : Fault) → slice_get vs i ≡ Some v → v.made ≡ m → least_in f v.args ≡ None → fault_in f i ≡ Some x → never_fails m ≡ true → ⊥
never_none columns vs f meaning i v (stored s a k) x e q n y t = absurd (cc)
never_none columns vs f meaning i v (operation op) x e q n y t =
    let z : fault_in f i ≡ None = made_fault columns vs f meaning i v op e q n ∙ no_own v.at op (map f v.args) t in
    let w : None ≡ Some x = sym z ∙ y in
    cc

no_operand : (columns : Columns) (v : Vertex) (m n : Made) (f : ℕ → Tall) (args : List ℕ) (a : ℕ) (t : Tall) → AreBothStored m n → made_tall columns v.at m (map f args) ≡ tall_ok t → IsAmong args a → ⊥
no_operand columns v (stored s b k) n f [] a t st h among = among
no_operand columns v (stored s b k) n f (d ∷ args) a t st h among = cc
no_operand columns v (operation op) n f args a t st h among = st

one_or_other : (s : ℕ) (u : Space) → store_of u ≡ None → store_of u ≡ Some s → ⊥
one_or_other s u n e = cc

module _ (columns : Columns) (of_stores : ℕ → List ℕ) (vs : List Vertex) (f : ℕ → Tall) (levels carried : ℕ → ℕ) (roots needed : List ℕ) (gather : IsGather columns vs f levels roots needed)
    (store k : ℕ) (c : Option Fault) where
  needed_operand : (i a : ℕ) (v : Vertex) → slice_get vs i ≡ Some v → IsAmong needed i → IsAmong v.args a → IsAmong needed a
  needed_operand i a v e n among = (let r = (gather.under i).0 n in (gather.under a).1 (r.0, r.1, further vs r.0 i a r.2 (through i a a v e among (itself a))))

  -- an operand has no greater level and number
  no_greater : (i a : ℕ) (v : Vertex) → slice_get vs i ≡ Some v → IsAmong v.args a → IsBelow c (number_at (slice_get vs i)) → (levels a ≤ levels i) × IsBelow c (number_at (slice_get vs a))
  no_greater i a v e among below =
      let b = get_before vs i a v e (below_among i v.args a (gather.ordered i v e) among) in
      let before = gather.levelled.operands i a v b.0 e among b.1 in
      (before.1, below_more c (number_at (slice_get vs a)) (number_at (slice_get vs i)) before.0 below)

  -- all that may be cut serves, where scans come behind their operands
  pub largest_serves : (cut : ℕ → Bool) → IsCutAt store vs f levels needed (k + 1) c cut
      → ((i a : ℕ) (v : Vertex) → is_scan_at (slice_get vs i) ≡ true → has_rows (f i).shape.space ≡ true → slice_get vs i ≡ Some v → IsAmong v.args a → levels a ≤ carried i) → IsCutFor store vs f levels carried needed (k + 1) c cut
  largest_serves cut cuts scanned = record {
    within = λ i h. (cuts i).0 h;
    work = λ i w. (cuts i).1 (w.1, (w.0.0, (let h : levels i ≡ k + 1 = w.0.1 in omega (arith, h))), w.0.2);
    ends = λ i a v w e among here.
        let g = no_greater i a v e among w.0.2 in
        let h : levels i ≡ k + 1 = w.0.1 in
        let l : levels a ≤ levels i = g.0 in
        (cuts a).1 (here, (needed_operand i a v e w.0.0 among, omega (arith, h, l)), g.1);
    scans = λ i a v w e among here.
        let g = no_greater i a v e among w.4 in
        let h : carried i ≡ k + 1 = w.3 in
        let l : levels a ≤ carried i = scanned i a v w.1 (store_rows store (f i).shape.space w.2) e among in
        (cuts a).1 (here, (needed_operand i a v e w.0 among, omega (arith, h, l)), g.1);
    closed = λ i a v e is_cut among here.
        let w = (cuts i).0 is_cut in
        let g = no_greater i a v e among w.2 in
        let h : levels i ≤ k + 1 = w.1.1 in
        let l : levels a ≤ levels i = g.0 in
        (cuts a).1 (here, (needed_operand i a v e w.1.0 among, omega (arith, h, l)), g.1);
  }

  module _ (candidate : IsLeast (own_in vs f) (UpTo (nodes_by vs f levels) (IsAmong needed) k) c) (cut : ℕ → Bool) (cuts : IsCutFor store vs f levels carried needed (k + 1) c cut) where
    pub level_of_store : AreColumns columns of_stores vs → AreScalarsLower vs f levels → AreOfStore store vs f cut
    level_of_store readings lower = record {
      rows_here = λ i v e is_cut. (cuts.within i is_cut).0;
      operands_cut = λ i a v e is_cut among here. cuts.closed i a v e is_cut among here;
      scalars_known = λ i a v e is_cut among single_a.
          let w = cuts.within i is_cut in
          let g = no_greater i a v e among w.2 in
          let h : levels i ≤ k + 1 = w.1.1 in
          let b = get_before vs i a v e (below_among i v.args a (gather.ordered i v e) among) in
          let less : levels a < levels i = lower i a v e among single_a (store_rows store (f i).shape.space w.0) in
          let none : fault_in f a ≡ None = known_no_fault columns vs f levels roots needed gather k c candidate a b.0 b.1 (needed_operand i a v e w.1.0 among, omega (arith, less, h)) g.1 in
          (not_cut a single_a (cut a) refl, scalar_fits (f a).shape (f a).outcome single_a (value_fits columns of_stores vs f gather.meaning gather.ordered readings a b.0 b.1 none) none);
    }
      where
        not_cut : (a : ℕ) → is_single (f a).shape.space ≡ true → (b : Bool) → cut a ≡ b → cut a ≡ false
        not_cut a s true e = absurd (let q : store_of (f a).shape.space ≡ Some store = (cuts.within a e).0 in let r : is_single (f a).shape.space ≡ false = not_single store (f a).shape.space q in cc)
        not_cut a s false e = e

    module _ (work : List ℕ) (all : (i : ℕ) → IsAmong work i ↔ (cut i ≡ true)) where
      there_under : (r i : ℕ) (v : Vertex) → slice_get vs r ≡ Some v → DependsOn vs r i → (w : Vertex) × (slice_get vs i ≡ Some w)
      there_under r i v e (itself j) = (v, e)
      there_under r i v e (through j a l w g among d) = (let b = get_before vs j a w g (below_among j w.args a (gather.ordered j w g) among) in there_under a l b.0 b.1 d)

      there_needed : (i : ℕ) → IsAmong needed i → (v : Vertex) × (slice_get vs i ≡ Some v)
      there_needed i n =
          let r = (gather.under i).0 n in
          let u = gather.there r.0 r.1 in
          there_under r.0 i u.0 u.1 r.2

      pub level_work : IsCutWork vs cut (IsAmong work)
      level_work = record {
        there = λ i p. (let is_cut : cut i ≡ true = (all i).0 p in (is_cut, there_needed i (cuts.within i is_cut).1.0));
        closed = λ i a v p e among is_cut. (all a).1 is_cut;
      }

      -- what stands below the level has no own fault
      lower_none : (i : ℕ) (x : Fault) → IsAmong needed i → levels i ≤ k → IsBelow c (number_at (slice_get vs i)) → own_in vs f i ≡ Some x → ⊥
      lower_none i x n l b own = beyond c x (number_at (slice_get vs i)) (candidate.least i x (n, l) own) (gather.levelled.numbered.by_number i x own) b

      at_level : (i : ℕ) (x : Fault) → IsAmong work i → own_in vs f i ≡ Some x → IsWorkOf store vs f levels needed (k + 1) c i
      at_level i x p own =
          let w = cuts.within i ((all i).0 p) in
          elim (split (levels i) k w.1.1) [ inl low ↦ absurd (lower_none i x w.1.0 low w.2 own) | inr high ↦ ((w.1.0, high, w.2), w.0) ]

      in_work : (i : ℕ) → IsWorkOf store vs f levels needed (k + 1) c i → IsAmong work i
      in_work i w = (all i).1 (cuts.work i w)

      pub level_found : (p : Option Fault) → IsLeast (own_in vs f) (IsAmong work) p ↔ IsLeast (own_in vs f) (IsWorkOf store vs f levels needed (k + 1) c) p
      level_found p = (
        λ h. record {
          one = λ x e. (let w = h.one x e in (w.0, at_level w.0 x w.1 w.2, w.2));
          least = λ i y w own. h.least i y (in_work i w) own;
        },
        λ h. record {
          one = λ x e. (let w = h.one x e in (w.0, in_work w.0 w.1, w.2));
          least = λ i y w own. h.least i y (at_level i y w own) own;
        },
      )

      -- what is cut and numbered below the least fault of the work has no fault
      pub cut_no_fault : AreCut f cut vs → AreNumbered vs → (p : Option Fault) → IsLeast (own_in vs f) (IsAmong work) p → IsOver columns no_cells vs f cut (λ i. (f i).outcome)
          → (i : ℕ) → cut i ≡ true → IsBelow p (number_at (slice_get vs i)) → fault_in f i ≡ None
      cut_no_fault can numbered p least over i is_cut below = elim (none_or_some (fault_in f i)) [
        | inl none ↦ none
        | inr some ↦
            let v = there_needed i (cuts.within i is_cut).1.0 in
            let r = origin over can gather.ordered (IsAmong work) level_work (suc i) i v.0 some.0 (omega (arith)) v.1 ((all i).1 is_cut) some.1 in
            let own : own_in vs f r.0 ≡ Some some.0 = r.3 in
            let w = there_needed r.0 (cuts.within r.0 ((all r.0).0 r.2)).1.0 in
            let less : w.0.at.number ≤ v.0.at.number = path_number vs gather.ordered numbered i r.0 v.0 w.0 v.1 w.1 r.1 in
            let n : some.0.number ≡ number_at (slice_get vs r.0) = gather.levelled.numbered.by_number r.0 some.0 own in
            absurd (beyond p some.0 (number_at (slice_get vs r.0)) (least.least r.0 some.0 r.2 own) n
            (below_more p (number_at (slice_get vs r.0)) (number_at (slice_get vs i)) (let a : number_at (slice_get vs r.0) ≡ w.0.at.number = ap number_at w.1 in let b : number_at (slice_get vs i) ≡ v.0.at.number = ap number_at v.1 in omega (arith, less, a, b)) below))
      ]

      -- the operand of a scan stands at a lower level, and so has no fault
      pub scans_free : AreScans vs (scans_by vs f carried) levels → AreScansFree vs f work
      scans_free are i a v s p e q r =
          let w = cuts.within i ((all i).0 p) in
          let among : IsAmong v.args a = subst (λ xs. IsAmong xs a) (sym r) (inl refl) in
          let is : (scans_by vs f carried).is_scan i ≡ true = scan_rows (slice_get vs i) v (f i).shape.space e q (store_rows store (f i).shape.space w.0) in
          let h : levels i ≤ k + 1 = w.1.1 in
          let l : carried i < levels i = are.before i is in
          let m : levels a ≤ carried i = are.operands i a v is e among in
          let g = no_greater i a v e among w.2 in
          let b = get_before vs i a v e (below_among i v.args a (gather.ordered i v e) among) in
          known_no_fault columns vs f levels roots needed gather k c candidate a b.0 b.1 (needed_operand i a v e w.1.0 among, omega (arith, h, l, m)) g.1
        where
          scan_rows : (o : Option Vertex) (v : Vertex) (u : Space) → o ≡ Some v → v.made ≡ operation (scan s) → has_rows u ≡ true → (is_scan_at o && has_rows u) ≡ true
          scan_rows o v u e q h = ap (λ w. is_scan_at w && has_rows u) e ∙ (ap (λ m. is_scan m && has_rows u) q ∙ h)

      -- ---- the other work

      -- of two own faults, of a value with rows and of one without, the numbers are unequal
      apart : AreCut f cut vs → AreNumbered vs → (i j : ℕ) (x y : Fault) → IsWorkOf store vs f levels needed (k + 1) c i → IsEndOf store vs f levels needed (k + 1) c j → own_in vs f i ≡ Some x → own_in vs f j ≡ Some y → x.number ≡ y.number → ⊥
      apart can numbered i j x y w u own other same =
          let a = own_split f (slice_get vs i) i x own in
          let b = own_split f (slice_get vs j) j y other in
          let n : a.0.at.number ≡ b.0.at.number = sym (gather.levelled.numbered.by_number i x own ∙ ap number_at a.1) ∙ (same ∙ (gather.levelled.numbered.by_number j y other ∙ ap number_at b.1)) in
          let differ : i ≢ j = λ e. one_or_other store (f j).shape.space u.1.0 (ap (λ d. store_of (f d).shape.space) (sym e) ∙ w.1) in
          let end_is : u.1.1.0 ≡ b.0 = inside u.1.1.0 b.0 (sym u.1.1.2 ∙ b.1) in
          let among : IsAmong b.0.args u.1.1.1 = subst (λ (v : Vertex). IsAmong v.args u.1.1.1) end_is u.1.1.3 in
          elim (numbered.shared i j a.0 b.0 differ a.1 b.1 n) [
            | inl both ↦ stored_end b.0 b.0.made a.0.made u.1.1.1 among (both_ways a.0.made b.0.made both) (gather.meaning j b.0 b.1)
            | inr rest ↦ elim rest [
              | inl parts ↦ no_group f cut a.0.made b.0.made a.0.args (can i a.0 a.1 (cuts.work i w)) parts.0
              | inr never ↦ elim never [ inl t ↦ never_none columns vs f gather.meaning i a.0 a.0.made x a.1 refl a.2 a.3 t | inr t ↦ never_none columns vs f gather.meaning j b.0 b.0.made y b.1 refl b.2 b.3 t ]
            ]
          ]
        where
          both_ways : (m n : Made) → AreBothStored m n → AreBothStored n m
          both_ways (stored s d e) (stored t w g) h = tt
          both_ways (stored s d e) (operation op) h = h
          both_ways (operation op) n h = absurd h

          stored_end : (v : Vertex) (m n : Made) (a : ℕ) → IsAmong v.args a → AreBothStored m n → made_tall columns v.at m (map f v.args) ≡ tall_ok (f j) → ⊥
          stored_end v m n a among st h = no_operand columns v m n f v.args a (f j) st h among

      below_or_found : (p : Option Fault) (n : ℕ) → IsBelow p n ⊎ ((z : Fault) × (p ≡ Some z) × (z.number ≤ n))
      below_or_found None n = inl tt
      below_or_found (Some z) n = elim (compare n z.number) [
        | inl less ↦ inl less
        | inr rest ↦ inr (z, refl, elim rest [ inl more ↦ omega (arith, more) | inr same ↦ omega (arith, same) ])
      ]

      pub level_ends : AreCut f cut vs → AreNumbered vs → (p : Option Fault) → IsLeast (own_in vs f) (IsWorkOf store vs f levels needed (k + 1) c) p
          → (ends : List ℕ) → ((i : ℕ) → IsAmong ends i → IsEndOf store vs f levels needed (k + 1) c i) → ((i : ℕ) → IsEndOf store vs f levels needed (k + 1) c i → IsBelow p (number_at (slice_get vs i)) → IsAmong ends i)
          → (q : Option Fault) → IsLeast (own_in vs f) (IsAmong ends) q → IsLeast (own_in vs f) (λ i. IsWorkOf store vs f levels needed (k + 1) c i ⊎ IsEndOf store vs f levels needed (k + 1) c i) (earlier p q)
      level_ends can numbered p least ends are enough q found = record {
        one = λ x e. elim (one_of_two p q x e) [
          | inl a ↦ (let w = least.one x a in (w.0, inl w.1, w.2))
          | inr b ↦ (let w = found.one x b in (w.0, inr (are w.0 w.1), w.2))
        ];
        least = λ i y w own. elim w [
          | inl of_rows ↦ at_most_left p q y (least.least i y of_rows own)
          | inr end ↦ elim (below_or_found p (number_at (slice_get vs i))) [
            | inl low ↦ at_most_right p q y (found.least i y (enough i end low) own)
            | inr high ↦ at_most_left p q y (subst (λ d. AtMost d y) (sym high.1) (after_it i y high.0 end own high.1 high.2))
          ]
        ];
      }
        where
          after_it : (i : ℕ) (y z : Fault) → IsEndOf store vs f levels needed (k + 1) c i → own_in vs f i ≡ Some y → p ≡ Some z → z.number ≤ number_at (slice_get vs i) → precedes y z ≡ false
          after_it i y z end own e l =
              let n : y.number ≡ number_at (slice_get vs i) = gather.levelled.numbered.by_number i y own in
              let w = least.one z e in
              elim (compare z.number y.number) [
                | inl less ↦ lesser_number z y less
                | inr rest ↦ elim rest [ inl more ↦ absurd (omega (arith, more, l, n)) | inr same ↦ absurd (apart can numbered w.0 i z y w.1 end w.2 own same) ]
              ]

-- ---- the test

among_test : (i : ℕ) (needed : List ℕ) → (is_among i needed ≡ true) ↔ IsAmong needed i
among_test i needed = (
  λ h. (let w = any_of (λ j. j == i) needed h in subst (IsAmong needed) (number_is w.0 i w.2) w.1),
  λ h. of_any (λ j. j == i) needed i h (same_number i),
)

store_test : (s : ℕ) (o : Option ℕ) → (is_store s o ≡ true) ↔ (o ≡ Some s)
store_test s None = ((λ h. absurd (cc)), (λ h. absurd (cc)))
store_test s (Some t) = ((λ h. ap Some (number_is t s h)), (λ h. ap (is_store s) h ∙ same_number s))

pub store_tested : (s : ℕ) (o : Option ℕ) → o ≡ Some s → is_store s o ≡ true
store_tested s o e = (store_test s o).1 e

-- all that has rows of a datastore
pub rows_of_store : (store : ℕ) (vs : List Vertex) (f : ℕ → Tall) → IsOfRows store vs f (has_rows_of store f)
rows_of_store store vs f = record {
  rows_here = λ i v e h. (store_test store (store_of (f i).shape.space)).0 h;
  operands_cut = λ i a v e h among here. (store_test store (store_of (f a).shape.space)).1 here;
}

at_most : (k n : ℕ) → (not (nat_lt k n) ≡ true) ↔ (n ≤ k)
at_most k n = ((λ h. grind (arith, nat_tests)), (λ h. grind (arith, nat_tests)))

below_test : (c : Option Fault) (n : ℕ) → (is_below c n ≡ true) ↔ IsBelow c n
below_test None n = ((λ h. tt), (λ h. refl))
below_test (Some x) n = ((λ h. grind (arith, nat_tests)), (λ h. grind (arith, nat_tests)))

pub and_true : (a b : Bool) → a ≡ true → b ≡ true → (a && b) ≡ true
and_true true b p q = q
and_true false b p q = p

pub cut_decided : (store : ℕ) (vs : List Vertex) (f : ℕ → Tall) (levels : ℕ → ℕ) (needed : List ℕ) (k : ℕ) (c : Option Fault) → IsCutAt store vs f levels needed k c (cut_at store vs f levels needed k c)
cut_decided store vs f levels needed k c i = (
  λ h.
      let a = both (is_store store (store_of (f i).shape.space)) _ h in
      let b = both (is_among i needed) _ a.1 in
      let d = both (not (nat_lt k (levels i))) (is_below c (number_at (slice_get vs i))) b.1 in
      ((store_test store (store_of (f i).shape.space)).0 a.0, ((among_test i needed).0 b.0, (at_most k (levels i)).0 d.0), (below_test c (number_at (slice_get vs i))).0 d.1),
  λ w.
      and_true (is_store store (store_of (f i).shape.space)) _ ((store_test store (store_of (f i).shape.space)).1 w.0)
      (and_true (is_among i needed) _ ((among_test i needed).1 w.1.0)
      (and_true (not (nat_lt k (levels i))) (is_below c (number_at (slice_get vs i))) ((at_most k (levels i)).1 w.1.1) ((below_test c (number_at (slice_get vs i))).1 w.2))),
)

-- ---- the least that may be cut

module _ (columns : Columns) (of_stores : ℕ → List ℕ) (vs : List Vertex) (f : ℕ → Tall) (levels carried : ℕ → ℕ) (roots needed : List ℕ) (gather : IsGather columns vs f levels roots needed)
    (store k : ℕ) (c : Option Fault) where
  abbrev IsWithin : ℕ → Type 0
  IsWithin i = UpTo (nodes_by vs f levels) (IsAmong needed) (k + 1) i × IsBelow c (number_at (slice_get vs i))

  path_within : (i j : ℕ) → DependsOn vs i j → IsWithin i → IsWithin j
  path_within i j (itself a) w = w
  path_within i j (through a b l v e among d) w =
      let g = no_greater columns of_stores vs f levels carried roots needed gather store k c a b v e among w.1 in
      let h : levels a ≤ k + 1 = w.0.1 in
      let m : levels b ≤ levels a = g.0 in
      path_within b l d ((needed_operand columns of_stores vs f levels carried roots needed gather store k c a b v e w.0.0 among, omega (arith, h, m)), g.1)

  pub least_serves : (asked : List ℕ) → AreAsked store vs f levels carried needed (k + 1) c asked → IsCutFor store vs f levels carried needed (k + 1) c (cut_under store vs f asked)
  least_serves asked are = record {
    within = λ i h.
        let w = both (is_store store (store_of (f i).shape.space)) (is_among i (needed_of vs asked)) h in
        let r = (under i).0 ((among_test i (needed_of vs asked)).0 w.1) in
        let p = path_within r.0 i r.2 (are.within r.0 r.1) in
        ((store_test store (store_of (f i).shape.space)).0 w.0, p.0, p.1);
    work = λ i w. cut_of i w.1 (itself_under i (are.work i w));
    ends = λ i a v w e among here. cut_of a here (itself_under a (are.ends i a v w e among here));
    scans = λ i a v w e among here. cut_of a here (itself_under a (are.scans i a v w e among here));
    closed = λ i a v e h among here.
        let w = both (is_store store (store_of (f i).shape.space)) (is_among i (needed_of vs asked)) h in
        let r = (under i).0 ((among_test i (needed_of vs asked)).0 w.1) in
        cut_of a here ((under a).1 (r.0, r.1, further vs r.0 i a r.2 (through i a a v e among (itself a))));
  }
    where
      there_from : (r i : ℕ) (v : Vertex) → slice_get vs r ≡ Some v → DependsOn vs r i → (w : Vertex) × (slice_get vs i ≡ Some w)
      there_from r i v e (itself j) = (v, e)
      there_from r i v e (through j a l w g among d) = (let b = get_before vs j a w g (below_among j w.args a (gather.ordered j w g) among) in there_from a l b.0 b.1 d)

      all_there : AreThere vs asked
      all_there i h =
          let r = (gather.under i).0 (are.within i h).0.0 in
          let u = gather.there r.0 r.1 in
          there_from r.0 i u.0 u.1 r.2

      under : AreUnder vs asked (needed_of vs asked)
      under = needed_under vs asked gather.ordered all_there

      itself_under : (i : ℕ) → IsAmong asked i → IsAmong (needed_of vs asked) i
      itself_under i h = (under i).1 (i, h, itself i)

      cut_of : (i : ℕ) → store_of (f i).shape.space ≡ Some store → IsAmong (needed_of vs asked) i → cut_under store vs f asked i ≡ true
      cut_of i here n = and_true (is_store store (store_of (f i).shape.space)) (is_among i (needed_of vs asked)) ((store_test store (store_of (f i).shape.space)).1 here) ((among_test i (needed_of vs asked)).1 n)
