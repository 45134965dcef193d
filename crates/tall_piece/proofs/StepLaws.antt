-- The sums of the first blocks of a pass, joined with a piece that is right for the next one, are those of one block more.
use Rattle.std.specs.Prelude.{◌≡◌, refl, ℕ, zero, suc, ◌+◌, ◌<◌, ◌≤◌, ◌^◌, Option, None, Some, List, [], ◌∷◌, ◌++◌, length, map, take, drop, slice_get}
use Rattle.std.proofs.Common.{ap, sym, subst, ◌∙◌, arith}
use Rattle.std.proofs.lemmas.List.{length-append}
use Rattle.tall_value.specs.Cells.{Seen}
use Rattle.tall_value.specs.Classes.{kind_of}
use Rattle.tall_value.specs.Columns.{cells}
use Rattle.tall_value.specs.declared.functions.Scan.{Scan}
use Rattle.tall_semantics.specs.Faults.{Fault, earlier}
use Rattle.tall_semantics.specs.Operations.{operation, scan}
use Rattle.tall_semantics.specs.Outcomes.{Outcome, cells_in, rows_in}
use Rattle.tall_semantics.specs.Deferred.{Vertex}
use Rattle.tall_semantics.specs.Least.{IsBelow}
use Rattle.tall_semantics.specs.Numbered.{number_at}
use Rattle.tall_semantics.specs.Shapes.{Shape}
use Rattle.tall_semantics.specs.ShapesInOrder.{IsMade, shape_at}
use Rattle.tall_semantics.proofs.Basics.{inside}
use Rattle.tall_semantics.proofs.ShapesInOrderLaws.{value_shape}
use Rattle.tall_blocks.specs.Carries.{Rows, carry_for, flat}
use Rattle.tall_blocks.specs.Pieces.{carry_at, carry_in, cells_by_block}
use Rattle.tall_blocks.specs.Pieces as blocks
use Rattle.tall_piece.specs.declared.parts.Part.{Part}
use Rattle.tall_part.specs.Parts.{IsPartOf}
use Rattle.tall_part.specs.NextCarries.{IsNextCarry}
use Rattle.tall_piece.specs.declared.parts.Sum.{Sum}
use Rattle.tall_piece.specs.declared.parts.Sum.TheVariants as sum
use Rattle.tall_piece.specs.Carried.{AreCarries}
use Rattle.tall_piece.specs.declared.wanted.Wanted.{Wanted}
use Rattle.tall_piece.specs.declared.wanted.Way.{Way}
use Rattle.tall_piece.specs.declared.wanted.Way.TheVariants as way
use Rattle.tall_piece.specs.Joins.{AllCanJoin, AreAllJoined, AreFirst, parts_rest}
use Rattle.tall_piece.specs.Passes.{AreWanted, PassOver, blocks_up_to, carry_of, fault_up_to, outcomes}
use Rattle.tall_piece.specs.Pieces.{AreSums, CanGoOn, IsPiece, PartsAre, PartsFit, SumsAre, SumsFit}
use Rattle.tall_piece.specs.Wants.{AreGiven, IsOfWay, IsColumnPart, IsEndPart, IsNextOf, IsSumOfBlocks, and_block, blocks_cells, class_at, height_of}
use Rattle.tall_piece.proofs.JoinLaws.{flat_one}
use Rattle.tall_piece.proofs.PassOverLaws.{below_first, fault_more}

-- ---- whatever the shelf tells

pub all_can_join : (vs : List Vertex) (n m : ℕ) (ws : List Wanted) (ss : List Sum) (os : List (Option Part)) → SumsFit vs n ws ss → PartsFit vs m ws os → n + m < 2 ^ 40 → AllCanJoin ss os
all_can_join vs n m [] ss os f g l = subst (λ xs. AllCanJoin xs os) (sym f) tt
all_can_join vs n m (w ∷ ws) [] os f g l = absurd f
all_can_join vs n m (w ∷ ws) (s ∷ ss) os f g l = ((vs, w, n, m, f.0, g.0, l), all_can_join vs n m ws ss (parts_rest os) f.1 g.1 l)

pub can_join : (n m : ℕ) (ss : List Sum) (os : List (Option Part)) → CanGoOn n ss m os → AllCanJoin ss os
can_join n m ss os can = all_can_join can.0 n m can.1 ss os can.2 can.3 can.4

pub sums_fit : (vs : List Vertex) (n m : ℕ) (ws : List Wanted) (ss : List Sum) (os : List (Option Part)) (ns : List Sum) → AreAllJoined ss os ns → SumsFit vs n ws ss → PartsFit vs m ws os → n + m < 2 ^ 40 → SumsFit vs (n + m) ws ns
sums_fit vs n m [] [] os ns j f g l = j
sums_fit vs n m [] (s ∷ ss) os ns j f g l = absurd (cc)
sums_fit vs n m (w ∷ ws) [] os ns j f g l = absurd f
sums_fit vs n m (w ∷ ws) (s ∷ ss) os [] j f g l = absurd j
sums_fit vs n m (w ∷ ws) (s ∷ ss) os (x ∷ ns) j f g l = (j.0.fits vs w n m f.0 g.0 l, sums_fit vs n m ws ss (parts_rest os) ns j.1 f.1 g.1 l)

pub first_fit : (vs : List Vertex) (ws : List Wanted) (ss : List Sum) → AreFirst vs ws ss → SumsFit vs 0 ws ss
first_fit vs [] ss f = f
first_fit vs (w ∷ ws) [] f = absurd f
first_fit vs (w ∷ ws) (s ∷ ss) f = (f.0.0, first_fit vs ws ss f.1)

-- ---- lists of blocks

-- the first blocks and the next one are the first blocks, one more
take_one : {A : Type 0} (xs : List A) (n : ℕ) (x : A) → slice_get xs n ≡ Some x → take (suc n) xs ≡ take n xs ++ x ∷ []
take_one [] zero x e = absurd (cc)
take_one [] (suc n) x e = absurd (cc)
take_one (y ∷ xs) zero x e = ap (λ z. z ∷ []) (inside y x e)
take_one (y ∷ xs) (suc n) x e = ap (λ zs. y ∷ zs) (take_one xs n x e)

got_map : {A B : Type 0} (g : A → B) (xs : List A) (n : ℕ) (x : A) → slice_get xs n ≡ Some x → slice_get (map g xs) n ≡ Some (g x)
got_map g [] zero x e = absurd (cc)
got_map g [] (suc n) x e = absurd (cc)
got_map g (y ∷ xs) zero x e = ap (λ z. Some (g z)) (inside y x e)
got_map g (y ∷ xs) (suc n) x e = got_map g xs n x e

-- with those behind, all
all_blocks : {A : Type 0} (xs : List A) (n : ℕ) (x : A) → slice_get xs n ≡ Some x → xs ≡ take n xs ++ x ∷ drop (suc n) xs
all_blocks [] zero x e = absurd (cc)
all_blocks [] (suc n) x e = absurd (cc)
all_blocks (y ∷ xs) zero x e = ap (λ z. z ∷ xs) (inside y x e)
all_blocks (y ∷ xs) (suc n) x e = ap (λ zs. y ∷ zs) (all_blocks xs n x e)

cells_of_blocks : (hs : List (ℕ → Outcome)) (a : ℕ) → cells_by_block hs a ≡ blocks_cells (map (λ (h : ℕ → Outcome). rows_in (h a)) hs)
cells_of_blocks [] a = refl
cells_of_blocks (h ∷ hs) a = ap (λ xs. cells_in (h a) ∷ xs) (cells_of_blocks hs a)

map_take : {A B : Type 0} (g : A → B) (xs : List A) (n : ℕ) → map g (take n xs) ≡ take n (map g xs)
map_take g [] zero = refl
map_take g [] (suc n) = refl
map_take g (x ∷ xs) zero = refl
map_take g (x ∷ xs) (suc n) = ap (λ ys. g x ∷ ys) (map_take g xs n)

-- a sum of blocks is told by the rows of each node
same_sum : (vs : List Vertex) (given : ℕ → Option Seen) (w : Wanted) (s : Sum) (bs cs : ℕ → List Rows) → ((i : ℕ) → bs i ≡ cs i) → IsSumOfBlocks vs given bs w s → IsSumOfBlocks vs given cs w s
same_sum vs given w (sum.End t) bs cs e is = of_way w.way is
  where
    of_way : (y : Way) → IsEndPart vs (λ i. flat (bs i)) y t → IsEndPart vs (λ i. flat (cs i)) y t
    of_way (way.End x a b) f =
        subst (λ rs. IsPartOf x (class_at vs a) (class_at vs b) (flat rs) (flat (cs b)) t) (e a) (subst (λ ss. IsPartOf x (class_at vs a) (class_at vs b) (flat (bs a)) (flat ss) t) (e b) f)
    of_way (way.Carries s a) f = absurd f
    of_way way.Rows f = absurd f
same_sum vs given w (sum.Carries next column) bs cs e is = of_way w.way is
  where
    of_way : (y : Way) → IsNextOf vs given bs y next column → IsNextOf vs given cs y next column
    of_way (way.End x a b) f = absurd f
    of_way (way.Carries s a) f = subst (λ rs. IsNextCarry s (class_at vs a) (blocks_cells rs) next × AreCarries given (length rs) column.cells) (e a) f
    of_way way.Rows f = absurd f
same_sum vs given w (sum.Rows column) bs cs e is = of_way w.way is
  where
    of_way : (y : Way) → IsColumnPart (λ i. flat (bs i)) w.node y column → IsColumnPart (λ i. flat (cs i)) w.node y column
    of_way (way.End x a b) f = absurd f
    of_way (way.Carries s a) f = absurd f
    of_way way.Rows f = f ∙ ap (λ rs. cells (flat rs)) (e w.node)

-- ---- in a pass

module _ {vs : List Vertex} {store : ℕ} {all : List ℕ} {wanted : List Wanted} (p : PassOver vs store all wanted) where
  abbrev Rs : ℕ → List Rows
  Rs i = map (λ (h : ℕ → Outcome). rows_in (h i)) (outcomes p)

  -- the carry of a scan, by the class of its operand in the graph
  pub carry_told : IsMade vs → (i a m : ℕ) (v : Vertex) (s : Scan) → slice_get vs i ≡ Some v → v.made ≡ operation (scan s) → v.args ≡ a ∷ [] → a < length vs → carry_of p m i ≡ carry_for s (kind_of (class_at vs a)) (blocks_cells (Rs a)) m
  carry_told made i a m v s e q r l =
      let w = there_at vs a l in
      let class : (p.f a).shape ≡ shape_at vs a = value_shape p.columns vs p.f made p.gather.meaning a w.0 w.1 in
      ap (λ o. carry_at p.f (outcomes p) o m) e ∙ (ap (λ x. blocks.carry_of p.f (outcomes p) x v.args m) q ∙ (ap (λ xs. blocks.carry_of p.f (outcomes p) (operation (scan s)) xs m) r
      ∙ (ap (λ (x : Shape). carry_for s (kind_of x.class) (cells_by_block (outcomes p) a) m) class ∙ ap (λ bs. carry_for s (kind_of (class_at vs a)) bs m) (cells_of_blocks (outcomes p) a))))
    where
      there_at : (us : List Vertex) (j : ℕ) → j < length us → (u : Vertex) × (slice_get us j ≡ Some u)
      there_at [] j k = absurd (omega (arith, k))
      there_at (u ∷ us) zero k = (u, refl)
      there_at (u ∷ us) (suc j) k = there_at us j (omega (arith, k))

  module _ (made : IsMade vs) (k : ℕ) (h : ℕ → Outcome) (e : slice_get (outcomes p) k ≡ Some h) where
    abbrev more : ℕ → Rows
    more i = rows_in (h i)

    one_more : (i : ℕ) → blocks_up_to p (suc k) i ≡ and_block (blocks_up_to p k) more i
    one_more i = take_one (Rs i) k (more i) (got_map (λ (g : ℕ → Outcome). rows_in (g i)) (outcomes p) k h e)

    are_given : (i : ℕ) (y : Way) → IsOfWay vs i y → AreGiven vs (λ b. carry_of p b i) (blocks_up_to p k) more y
    are_given i (way.End x a b) is = tt
    are_given i (way.Carries s a) is =
        let rest : List Rows = drop (suc k) (Rs a) in
        let whole : Rs a ≡ blocks_up_to p k a ++ more a ∷ rest = all_blocks (Rs a) k (more a) (got_map (λ (g : ℕ → Outcome). rows_in (g a)) (outcomes p) k h e) in
        let cut : blocks_cells (Rs a) ≡ blocks_cells (blocks_up_to p k a) ++ cells (more a) ∷ blocks_cells rest = ap blocks_cells whole ∙ map_both (blocks_up_to p k a) (more a ∷ rest) in
        (blocks_cells rest, λ m. carry_told made i a m is.0 s is.1 is.2 is.3 is.5 ∙ ap (λ bs. carry_for s (kind_of (class_at vs a)) bs m) cut)
      where
        map_both : (xs ys : List Rows) → blocks_cells (xs ++ ys) ≡ blocks_cells xs ++ blocks_cells ys
        map_both [] ys = refl
        map_both (x ∷ xs) ys = ap (λ zs. cells x ∷ zs) (map_both xs ys)
    are_given i way.Rows is = tt

    one_height : (j n m : ℕ) → length (flat (blocks_up_to p k j)) ≤ n → length (more j) ≤ m → length (flat (blocks_up_to p (suc k) j)) ≤ n + m
    one_height j n m l r = (let q : length (flat (blocks_up_to p (suc k) j)) ≡ length (flat (blocks_up_to p k j)) + length (more j) = ap (λ bs. length (flat bs)) (one_more j) ∙ (ap length (flat_one (blocks_up_to p k j) (more j)) ∙ length-append (flat (blocks_up_to p k j)) (more j)) in omega (arith, q, l, r))

    heights : (i : ℕ) (y : Way) (n m : ℕ) → height_of (λ j. flat (blocks_up_to p k j)) i y ≤ n → height_of more i y ≤ m → height_of (λ j. flat (blocks_up_to p (suc k) j)) i y ≤ n + m
    heights i (way.End x a b) n m l r = one_height a n m l r
    heights i (way.Carries s a) n m l r = one_height a n m l r
    heights i way.Rows n m l r = one_height i n m l r

    steps : (n m : ℕ) (old bound : Option Fault) → ((i : ℕ) → IsBelow bound i → IsBelow old i) → n + m < 2 ^ 40 → (ws : List Wanted) (ss : List Sum) (os : List (Option Part)) (ns : List Sum)
        → AreWanted store vs p.f p.levels p.carried p.needed (p.before + 1) p.candidate p.cut ws → AreAllJoined ss os ns → SumsAre p k n old ws ss → PartsAre p more m bound ws os → SumsAre p (suc k) (n + m) bound ws ns
    steps n m old bound lower l [] ss os ns ways j f g = tt
    steps n m old bound lower l (w ∷ ws) [] os ns ways j f g = absurd f
    steps n m old bound lower l (w ∷ ws) (s ∷ ss) os [] ways j f g = absurd j
    steps n m old bound lower l (w ∷ ws) (s ∷ ss) os (x ∷ ns) ways j f g = (
      λ below.
          let a = f.0 (lower (number_at (slice_get vs w.node)) below) in
          let b = g.0 below in
          let la = a.1 in
          let lb = b.1 in (
            same_sum vs (λ c. carry_of p c w.node) w x (and_block (blocks_up_to p k) more) (blocks_up_to p (suc k)) (λ i. sym (one_more i))
                (j.0.rows vs w (λ c. carry_of p c w.node) (blocks_up_to p k) more a.0 b.0 (are_given w.node w.way ways.0.0) (omega (arith, la, lb, l))),
            heights w.node w.way n m la lb,
          ),
      steps n m old bound lower l ws ss (parts_rest os) ns ways.1 j.1 f.1 g.1,
    )

    -- the step of a pass: joined with a right piece, the first k blocks are the first k + 1
    pub sums_step : (n m : ℕ) (old new : Option Fault) (c : Option Fault) (ss : List Sum) (os : List (Option Part)) (ns : List Sum) → AreSums p k n old ss → IsPiece p k h m c os → new ≡ earlier old c → AreAllJoined ss os ns → n + m < 2 ^ 40
        → AreSums p (suc k) (n + m) new ns
    sums_step n m old new c ss os ns sums piece is j l =
        let bound : new ≡ earlier (fault_up_to p k) c = is ∙ ap (λ x. earlier x c) sums.fault_is in
        record {
          fault_is = bound ∙ fault_more p k h e c piece.seen;
          sums_are = subst (λ x. SumsAre p (suc k) (n + m) x wanted ns) (sym bound)
              (steps n m old (earlier (fault_up_to p k) c) (λ i b. subst (λ x. IsBelow x i) (sym sums.fault_is) (below_first (fault_up_to p k) c i b)) l wanted ss os ns p.ways j sums.sums_are piece.parts_are);
        }

  -- before the first block
  first_are : (ws : List Wanted) (ss : List Sum) (bound : Option Fault) → AreFirst vs ws ss → SumsAre p 0 0 bound ws ss
  first_are [] ss bound f = tt
  first_are (w ∷ ws) [] bound f = absurd f
  first_are (w ∷ ws) (s ∷ ss) bound f = ((λ below. (f.0.1 (λ b. carry_of p b w.node), no_height w.node w.way)), first_are ws ss bound f.1)
    where
      no_height : (i : ℕ) (y : Way) → height_of (λ j. flat (blocks_up_to p 0 j)) i y ≤ 0
      no_height i (way.End x a b) = omega (arith)
      no_height i (way.Carries s a) = omega (arith)
      no_height i way.Rows = omega (arith)

  pub sums_start : (ss : List Sum) → AreFirst vs wanted ss → AreSums p 0 0 None ss
  sums_start ss f = record { fault_is = refl; sums_are = first_are wanted ss None f }
