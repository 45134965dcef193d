-- Carries in a pass: where one is missing the scan's fault was found in an earlier block, so that the scan, and what isn't
-- numbered below it, may be left out; and what a value is over a block is the same in each pass that computes it.
use Rattle.std.specs.Prelude.{◌≡◌, refl, ℕ, zero, suc, ◌<◌, ◌≤◌, not, nat_lt, ◌&&◌, ◌||◌, Bool, true, false, Option, None, Some, List, [], ◌∷◌, ◌++◌, length, map, take, slice_get}
use Rattle.std.proofs.Common.{ap, sym, subst, ◌∙◌, arith, inl, inr}
use Rattle.std.proofs.lemmas.Bool.Decides.{nat_tests}
use Rattle.std.proofs.lemmas.List.{append_assoc, append-nil, length-map}
use Rattle.tall_value.specs.Cells.{Seen}
use Rattle.tall_value.specs.Classes.{kind_of}
use Rattle.tall_value.specs.Columns.{cells}
use Rattle.tall_value.specs.Reductions.{data_fault}
use Rattle.tall_value.specs.declared.functions.Scan.{Scan}
use Rattle.tall_semantics.specs.Operations.{constant, unary, binary, filter, reduce, scan, head, tail, distinct, group, Made, stored, operation}
use Rattle.tall_semantics.specs.Faults.{Fault, fault_at}
use Rattle.tall_semantics.specs.Outcomes.{Outcome, rows, fault, fault_of, rows_in, cells_in, row_by_row}
use Rattle.tall_semantics.specs.Talls.{Tall, Columns}
use Rattle.tall_semantics.specs.Deferred.{Vertex, IsOrdered, IsAmong, own_in, fault_in, least_in}
use Rattle.tall_semantics.specs.Least.{AtMost, IsBelow}
use Rattle.tall_semantics.specs.Numbered.{AreNumbered, number_at}
use Rattle.tall_semantics.specs.Plans.{is_scan, is_scan_at}
use Rattle.tall_semantics.proofs.Basics.{inside, both}
use Rattle.tall_semantics.proofs.OrderLaws.{by_number}
use Rattle.tall_semantics.proofs.OriginLaws.{AtMost_some, get_before, below_among}
use Rattle.tall_semantics.proofs.PlanLaws.{among_filter}
use Rattle.tall_blocks.specs.Blocks.{Block, block_columns, all_rows, AreTables}
use Rattle.tall_blocks.specs.Carries.{Rows, flat, scanned_behind, carry_for, AllCells, IsInClass}
use Rattle.tall_blocks.specs.Cut.{CanBeCut, AreCut, IsCutWork, IsOfRows}
use Rattle.tall_blocks.specs.Pieces.{pass_blocks, fault_from, IsLookedAt, cells_by_block, carry_of, carry_at, carry_in, is_missing, lacks_carry, is_below_missing, looked_at, AreScansFree}
use Rattle.tall_blocks.specs.SeenFaults.{IsBlockwise}
use Rattle.tall_blocks.specs.ValuesOver.{value_over, own_over, outcome_over, IsOver, AreParts, no_cells, more_cells, more_cells_at, next_cells, outcomes_over, block_outcomes, rows_of_blocks}
use Rattle.tall_blocks.proofs.Choices.{true_or_false}
use Rattle.tall_blocks.proofs.BlockLaws.{over_exists, empty_rows, split_at}
use Rattle.tall_blocks.proofs.CarryPlaceLaws.{scan_failed, carry_there, from_carry}
use Rattle.tall_blocks.proofs.CutLaws.{are_cut}
use Rattle.tall_blocks.proofs.PassLaws.{OneCarry, start_one, next_one, aligned_over, whole, rows_over}
use Rattle.tall_blocks.proofs.PieceLaws.{found_first, first_tables, first_outcomes}
use Rattle.tall_blocks.proofs.SeenLaws.{own_of, own_made, all_none, value_parts}

-- ---- lists

rows_flat : (hs : List (ℕ → Outcome)) (a n : ℕ) → rows_of_blocks (take n hs) a ≡ flat (take n (map (λ (h : ℕ → Outcome). rows_in (h a)) hs))
rows_flat hs a zero = refl
rows_flat [] a (suc n) = refl
rows_flat (h ∷ hs) a (suc n) = ap (λ rs. rows_in (h a) ++ rs) (rows_flat hs a n)

cells_each : (hs : List (ℕ → Outcome)) (a : ℕ) → map cells (map (λ (h : ℕ → Outcome). rows_in (h a)) hs) ≡ cells_by_block hs a
cells_each [] a = refl
cells_each (h ∷ hs) a = ap (λ xs. cells_in (h a) ∷ xs) (cells_each hs a)

number_of_vertex : (o : Option Vertex) (v : Vertex) → o ≡ Some v → number_at o ≡ v.at.number
number_of_vertex o v e = ap number_at e

module _ (columns : Columns) (of_stores : ℕ → List ℕ) (vs : List Vertex) (f : ℕ → Tall) (store : ℕ) (cut : ℕ → Bool) (bs : List Block) (pass : IsBlockwise columns of_stores vs f store cut bs) where
  Can : AreCut f cut vs
  Can = are_cut columns vs f cut store pass.meaning pass.of_store

  -- without a fault over all rows there is none over the first blocks
  first_none : (rest : List Block) (n : ℕ) (so_far : ℕ → List Seen) → AreTables vs cut rest → OneCarry columns of_stores vs f store cut bs pass so_far
      → (h p : ℕ → Outcome) → IsOver (block_columns (all_rows rest)) so_far vs f cut h → IsOver (block_columns (all_rows (take n rest))) so_far vs f cut p
      → (i : ℕ) (v : Vertex) → slice_get vs i ≡ Some v → cut i ≡ true → fault_of (h i) ≡ None → fault_of (p i) ≡ None
  first_none rest zero so_far tables one h p over over_first i v e c none = ap fault_of (empty_rows over_first Can pass.ordered i v e c)
  first_none [] (suc n) so_far tables one h p over over_first i v e c none = ap fault_of (empty_rows over_first Can pass.ordered i v e c)
  first_none (b ∷ rest) (suc n) so_far tables one h p over over_first i v e c none =
      let g : ℕ → Outcome = outcomes_over (block_columns b) so_far vs f cut in
      let over_block : IsOver (block_columns b) so_far vs f cut g = over_exists (block_columns b) so_far vs f cut pass.ordered in
      let behind : ℕ → List Seen = next_cells vs g so_far in
      let k : ℕ → Outcome = outcomes_over (block_columns (all_rows rest)) behind vs f cut in
      let over_rest : IsOver (block_columns (all_rows rest)) behind vs f cut k = over_exists (block_columns (all_rows rest)) behind vs f cut pass.ordered in
      let j : ℕ → Outcome = outcomes_over (block_columns (all_rows (take n rest))) behind vs f cut in
      let over_some : IsOver (block_columns (all_rows (take n rest))) behind vs f cut j = over_exists (block_columns (all_rows (take n rest))) behind vs f cut pass.ordered in
      let even = aligned_over columns of_stores vs f store cut bs pass b so_far g tables.0 one over_block in
      let q : AreParts (h i) (g i) (k i) = value_parts over over_block over_rest pass.ordered Can even (split_at vs f cut pass.ordered Can b rest so_far g) i v e c (inl none) in
      let later : fault_of (j i) ≡ None = first_none rest n behind tables.1 (next_one columns of_stores vs f store cut bs pass b so_far g tables.0 one over_block) k j over_rest over_some i v e c (ap fault_of q.4) in
      let r : AreParts (p i) (g i) (j i) = value_parts over_first over_block over_some pass.ordered Can even (split_at vs f cut pass.ordered Can b (take n rest) so_far g) i v e c (inr (ap fault_of q.3, later)) in
      ap fault_of r.2

  module _ (work : List ℕ) (cut_work : IsCutWork vs cut (IsAmong work)) where
    abbrev Hs : List (ℕ → Outcome)
    Hs = pass_blocks vs f cut bs

    -- the scan fails over the blocks before the one whose carry is missing
    scan_fault : (n i a : ℕ) (v : Vertex) (s : Scan) → IsAmong work i → slice_get vs i ≡ Some v → v.made ≡ operation (scan s) → v.args ≡ a ∷ [] → fault_in f a ≡ None → n < length Hs
        → carry_for s (kind_of (f a).shape.class) (cells_by_block Hs a) n ≡ None
        → (y : Fault) × (own_in vs (value_over f (outcomes_over (block_columns (all_rows (take n bs))) no_cells vs f cut)) i ≡ Some y) × (y.number ≡ v.at.number)
    scan_fault n i a v s p e q r none l missing =
        let h : ℕ → Outcome = outcomes_over (block_columns (all_rows (take n bs))) no_cells vs f cut in
        let over : IsOver (block_columns (all_rows (take n bs))) no_cells vs f cut h = over_exists (block_columns (all_rows (take n bs))) no_cells vs f cut pass.ordered in
        let kind = kind_of (f a).shape.class in
        let blocks : List Rows = map (λ (g : ℕ → Outcome). rows_in (g a)) Hs in
        let c : cut i ≡ true = (cut_work.there i p).0 in
        let ca : cut a ≡ true = subst (λ xs. CanBeCut f cut (operation (scan s)) xs) r (subst (λ m. CanBeCut f cut m v.args) q (Can i v e c)) in
        let b = get_before vs i a v e (below_among i v.args a (pass.ordered i v e) (subst (λ xs. IsAmong xs a) (sym r) (inl refl))) in
        let all = whole columns of_stores vs f store cut bs pass in
        let free : fault_of (h a) ≡ None = first_none bs n no_cells pass.tables (start_one columns of_stores vs f store cut bs pass) (λ j. (f j).outcome) h all over a b.0 b.1 ca none in
        let has : h a ≡ rows (flat (take n blocks)) =
        rows_over columns of_stores vs f store cut bs pass (take n bs) no_cells (first_tables vs cut bs n pass.tables) (start_one columns of_stores vs f store cut bs pass) h over a b.0 b.1 ca free
        ∙ (ap (λ hs. rows (rows_of_blocks hs a)) (first_outcomes vs f cut bs no_cells n) ∙ ap rows (rows_flat Hs a n)) in
        let w = scan_failed s kind blocks n (let k = length-map Hs (λ (g : ℕ → Outcome). rows_in (g a)) in omega (arith, l, k)) (ap (λ xs. carry_for s kind xs n) (cells_each Hs a) ∙ missing) in
        let no_args : least_in (value_over f h) v.args ≡ None = ap (least_in (value_over f h)) r ∙ all_none (fault_in (value_over f h)) (a ∷ []) (λ d m. elim m [ inl t ↦ ap (fault_in (value_over f h)) (sym t) ∙ free | inr z ↦ absurd z ]) in
        let is : h i ≡ fault (fault_at v.at (Some w.0.0) (data_fault w.0.1)) =
        own_of over Can i v (scan s) e c q no_args
        ∙ (ap (λ xs. own_over [] v.at (scan s) (map (value_over f h) xs)) r
        ∙ (ap (λ o. row_by_row v.at (scanned_behind s kind [] (rows_in o))) has ∙ ap (row_by_row v.at) w.1)) in
        (fault_at v.at (Some w.0.0) (data_fault w.0.1), own_made (value_over f h) (slice_get vs i) v i (fault_at v.at (Some w.0.0) (data_fault w.0.1)) e no_args (ap fault_of is), refl)

    pub found_before_it : (n i a : ℕ) (v : Vertex) (s : Scan) → IsAmong work i → slice_get vs i ≡ Some v → v.made ≡ operation (scan s) → v.args ≡ a ∷ [] → fault_in f a ≡ None → n < length Hs
        → carry_for s (kind_of (f a).shape.class) (cells_by_block Hs a) n ≡ None → (z : Fault) × (fault_from vs f work None (take n Hs) ≡ Some z) × (z.number ≤ v.at.number)
    found_before_it n i a v s p e q r none l missing =
        let h : ℕ → Outcome = outcomes_over (block_columns (all_rows (take n bs))) no_cells vs f cut in
        let w = scan_fault n i a v s p e q r none l missing in
        let least = found_first columns of_stores vs f store cut bs pass work cut_work n h (over_exists (block_columns (all_rows (take n bs))) no_cells vs f cut pass.ordered) in
        let m : AtMost (fault_from vs f work None (take n Hs)) w.0 = least.least i w.0 p w.1 in
        let z = AtMost_some (fault_from vs f work None (take n Hs)) w.0 m in
        (z.0, z.1, (let k : z.0.number ≤ w.0.number = by_number z.0 w.0 (subst (λ d. AtMost d w.0) z.1 m) in omega (arith, k, w.2)))

    -- ---- the test

    scan_of : (m : Made) → is_scan m ≡ true → (s : Scan) × (m ≡ operation (scan s))
    scan_of (operation (scan s)) h = (s, refl)
    scan_of m h = absurd (cc)

    scan_here : (o : Option Vertex) → is_scan_at o ≡ true → (v : Vertex) × (s : Scan) × (o ≡ Some v) × (v.made ≡ operation (scan s))
    scan_here None h = absurd (cc)
    scan_here (Some v) h = (let w = scan_of v.made h in (v, w.0, refl, w.1))

    one_arg : (s : Scan) (args : List ℕ) → CanBeCut f cut (operation (scan s)) args → (a : ℕ) × (args ≡ a ∷ [])
    one_arg s [] can = absurd can
    one_arg s (a ∷ []) can = (a, refl)
    one_arg s (a ∷ b ∷ args) can = absurd can

    missing_is : (o : Option Seen) → is_missing o ≡ true → o ≡ None
    missing_is None h = refl
    missing_is (Some c) h = absurd (cc)

    first_test : (l t r : Bool) → (l ≡ true → t ≡ true) → r ≡ true → ((not l || t) && r) ≡ true
    first_test true true r h g = g
    first_test true false r h g = absurd (let z : false ≡ true = h refl in cc)
    first_test false t r h g = g

    less_test : (m n : ℕ) → m < n → nat_lt m n ≡ true
    less_test m n l = grind (arith, nat_tests)

    below_all : (carry : ℕ → Option Seen) (js : List ℕ) (n : ℕ) → ((j : ℕ) → IsAmong js j → lacks_carry vs carry j ≡ true → n < number_at (slice_get vs j)) → is_below_missing vs carry js n ≡ true
    below_all carry [] n h = refl
    below_all carry (j ∷ js) n h =
        first_test (lacks_carry vs carry j) (nat_lt n (number_at (slice_get vs j))) (is_below_missing vs carry js n)
        (λ l. less_test n (number_at (slice_get vs j)) (h j (inl refl) l)) (below_all carry js n (λ k m l. h k (inr m) l))

    lacking : AreScansFree vs f work → (n : ℕ) → n < length Hs → (i j : ℕ) → IsAmong work j → lacks_carry vs (λ k. carry_in vs f Hs k n) j ≡ true → IsBelow (fault_from vs f work None (take n Hs)) i → i < number_at (slice_get vs j)
    lacking free n l i j p lacks below =
        let t = both (is_scan_at (slice_get vs j)) (is_missing (carry_in vs f Hs j n)) lacks in
        let w = scan_here (slice_get vs j) t.0 in
        let c : cut j ≡ true = (cut_work.there j p).0 in
        let a = one_arg w.1 w.0.args (subst (λ m. CanBeCut f cut m w.0.args) w.3 (Can j w.0 w.2 c)) in
        let none : carry_in vs f Hs j n ≡ None = missing_is (carry_in vs f Hs j n) t.1 in
        let same : carry_in vs f Hs j n ≡ carry_for w.1 (kind_of (f a.0).shape.class) (cells_by_block Hs a.0) n =
        ap (λ o. carry_at f Hs o n) w.2 ∙ (ap (λ m. carry_of f Hs m w.0.args n) w.3 ∙ ap (λ xs. carry_of f Hs (operation (scan w.1)) xs n) a.1) in
        let z = found_before_it n j a.0 w.0 w.1 p w.2 w.3 a.1 (free j a.0 w.0 w.1 p w.2 w.3 a.1) l (sym same ∙ none) in
        let b : i < z.0.number = subst (λ d. IsBelow d i) z.1 below in
        let g : number_at (slice_get vs j) ≡ w.0.at.number = number_of_vertex (slice_get vs j) w.0 w.2 in
        omega (arith, b, z.2, g)

    pub looked_by_carries : AreScansFree vs f work → (n : ℕ) → n < length Hs → IsLookedAt vs work (fault_from vs f work None (take n Hs)) (looked_at vs (λ i. carry_in vs f Hs i n) work)
    looked_by_carries free n l = record {
      of_work = λ i m. ((among_filter (λ j. is_below_missing vs (λ k. carry_in vs f Hs k n) work (number_at (slice_get vs j))) work i).0 m).0;
      below = λ i p below. (among_filter (λ j. is_below_missing vs (λ k. carry_in vs f Hs k n) work (number_at (slice_get vs j))) work i).1
          (p, below_all (λ k. carry_in vs f Hs k n) work (number_at (slice_get vs i)) (λ j m lacks. lacking free n l (number_at (slice_get vs i)) j m lacks below));
    }

-- ---- what is looked at

less_is : (m n : ℕ) → nat_lt m n ≡ true → m < n
less_is m n h = grind (arith, nat_tests)

tests_both : (l t r : Bool) → ((not l || t) && r) ≡ true → (l ≡ true → t ≡ true) × (r ≡ true)
tests_both true true r h = ((λ e. refl), h)
tests_both true false r h = absurd (cc)
tests_both false t r h = ((λ e. absurd (cc)), h)

below_each : (vs : List Vertex) (carry : ℕ → Option Seen) (js : List ℕ) (n j : ℕ) → is_below_missing vs carry js n ≡ true → IsAmong js j → lacks_carry vs carry j ≡ true → n < number_at (slice_get vs j)
below_each vs carry [] n j h m l = absurd m
below_each vs carry (k ∷ js) n j h m l =
    let w = tests_both (lacks_carry vs carry k) (nat_lt n (number_at (slice_get vs k))) (is_below_missing vs carry js n) h in
    elim m [
      | inl e ↦ less_is n (number_at (slice_get vs j)) (subst (λ i. nat_lt n (number_at (slice_get vs i)) ≡ true) e (w.0 (subst (λ i. lacks_carry vs carry i ≡ true) (sym e) l)))
      | inr r ↦ below_each vs carry js n j w.1 r l
    ]

below_lower : (vs : List Vertex) (carry : ℕ → Option Seen) (js : List ℕ) (m n : ℕ) → m ≤ n → is_below_missing vs carry js n ≡ true → is_below_missing vs carry js m ≡ true
below_lower vs carry [] m n l h = refl
below_lower vs carry (k ∷ js) m n l h =
    let w = tests_both (lacks_carry vs carry k) (nat_lt n (number_at (slice_get vs k))) (is_below_missing vs carry js n) h in
    join (lacks_carry vs carry k) (nat_lt m (number_at (slice_get vs k))) (is_below_missing vs carry js m)
    (λ e. less_test m (number_at (slice_get vs k)) (let q : n < number_at (slice_get vs k) = less_is n (number_at (slice_get vs k)) (w.0 e) in omega (arith, l, q))) (below_lower vs carry js m n l w.1)
  where
    join : (l t r : Bool) → (l ≡ true → t ≡ true) → r ≡ true → ((not l || t) && r) ≡ true
    join true true r h g = g
    join true false r h g = absurd (let z : false ≡ true = h refl in cc)
    join false t r h g = g

    less_test : (m n : ℕ) → m < n → nat_lt m n ≡ true
    less_test m n l = grind (arith, nat_tests)

-- an operand is looked at with what is made of it
pub looked_closed : (vs : List Vertex) → AreNumbered vs → (carry : ℕ → Option Seen) (work : List ℕ) (i a : ℕ) (v w : Vertex) → IsAmong (looked_at vs carry work) i → slice_get vs i ≡ Some v → IsAmong v.args a → slice_get vs a ≡ Some w → IsAmong work a → IsAmong (looked_at vs carry work) a
looked_closed vs numbered carry work i a v w h e m g p =
    let t = (among_filter (λ j. is_below_missing vs carry work (number_at (slice_get vs j))) work i).0 h in
    let l : w.at.number ≤ v.at.number = numbered.lower i a v w e m g in
    let x : number_at (slice_get vs i) ≡ v.at.number = number_of_vertex (slice_get vs i) v e in
    let y : number_at (slice_get vs a) ≡ w.at.number = number_of_vertex (slice_get vs a) w g in
    (among_filter (λ j. is_below_missing vs carry work (number_at (slice_get vs j))) work a).1 (p, below_lower vs carry work (number_at (slice_get vs a)) (number_at (slice_get vs i)) (omega (arith, l, x, y)) t.1)

-- a scan that is looked at has its carry
pub looked_carried : (vs : List Vertex) (carry : ℕ → Option Seen) (work : List ℕ) (i : ℕ) → IsAmong (looked_at vs carry work) i → is_scan_at (slice_get vs i) ≡ true → (c : Seen) × (carry i ≡ Some c)
looked_carried vs carry work i h s = of_carry (carry i) refl
  where
    of_carry : (o : Option Seen) → carry i ≡ o → (c : Seen) × (carry i ≡ Some c)
    of_carry (Some c) e = (c, e)
    of_carry None e =
        let t = (among_filter (λ j. is_below_missing vs carry work (number_at (slice_get vs j))) work i).0 h in
        let lacks : lacks_carry vs carry i ≡ true = ap (λ b. b && is_missing (carry i)) s ∙ ap is_missing e in
        absurd (let l : number_at (slice_get vs i) < number_at (slice_get vs i) = below_each vs carry work (number_at (slice_get vs i)) i t.1 t.0 lacks in omega (arith, l))

module _ (columns : Columns) (of_stores : ℕ → List ℕ) (vs : List Vertex) (f : ℕ → Tall) (store : ℕ) (cut : ℕ → Bool) (bs : List Block) (pass : IsBlockwise columns of_stores vs f store cut bs) where
  -- ---- a block's scan from its carry

  -- behind the blocks before, a scan is behind the cells that its operand has in these
  CanHere : AreCut f cut vs
  CanHere = are_cut columns vs f cut store pass.meaning pass.of_store

  before_block : (rest : List Block) (so_far : ℕ → List Seen) (n : ℕ) (h : ℕ → Outcome) → slice_get (block_outcomes vs f cut so_far rest) n ≡ Some h
      → (b : Block) × (before : ℕ → List Seen) × (slice_get rest n ≡ Some b) × IsOver (block_columns b) before vs f cut h
      × ((i a : ℕ) (v : Vertex) (s : Scan) → slice_get vs i ≡ Some v → v.made ≡ operation (scan s) → v.args ≡ a ∷ [] → before i ≡ so_far i ++ flat (take n (cells_by_block (block_outcomes vs f cut so_far rest) a)))
  before_block [] so_far zero h e = absurd (cc)
  before_block [] so_far (suc n) h e = absurd (cc)
  before_block (b ∷ rest) so_far zero h e = (
    b,
    so_far,
    refl,
    subst (λ k. IsOver (block_columns b) so_far vs f cut k) (inside (outcomes_over (block_columns b) so_far vs f cut) h e) (over_exists (block_columns b) so_far vs f cut pass.ordered),
    (λ i a v s g q r. sym (append-nil (so_far i))),
  )
  before_block (b ∷ rest) so_far (suc n) h e =
      let k : ℕ → Outcome = outcomes_over (block_columns b) so_far vs f cut in
      let w = before_block rest (next_cells vs k so_far) n h e in (
        w.0,
        w.1,
        w.2,
        w.3,
        (λ i a v s g q r.
            w.4 i a v s g q r
            ∙ (ap (λ cs. cs ++ flat (take n (cells_by_block (block_outcomes vs f cut (next_cells vs k so_far) rest) a))) (ap (λ o. more_cells_at k o (so_far i)) g ∙ (ap (λ m. more_cells k m v.args (so_far i)) q ∙ ap (λ args. more_cells k (operation (scan s)) args (so_far i)) r))
            ∙ append_assoc (so_far i) (cells_in (k a)) (flat (take n (cells_by_block (block_outcomes vs f cut (next_cells vs k so_far) rest) a))))),
      )

  pub block_over : (n : ℕ) (h : ℕ → Outcome) → slice_get (pass_blocks vs f cut bs) n ≡ Some h → (b : Block) × (before : ℕ → List Seen) × (slice_get bs n ≡ Some b) × IsOver (block_columns b) before vs f cut h
      × ((i a : ℕ) (v : Vertex) (s : Scan) → slice_get vs i ≡ Some v → v.made ≡ operation (scan s) → v.args ≡ a ∷ [] → before i ≡ flat (take n (cells_by_block (pass_blocks vs f cut bs) a)))
  block_over n h e = before_block bs no_cells n h e

  pub scan_by_carry : (n : ℕ) (h : ℕ → Outcome) → slice_get (pass_blocks vs f cut bs) n ≡ Some h → (i a : ℕ) (v : Vertex) (s : Scan) (c : Seen) → slice_get vs i ≡ Some v → v.made ≡ operation (scan s) → v.args ≡ a ∷ [] → cut i ≡ true
      → carry_in vs f (pass_blocks vs f cut bs) i n ≡ Some c → fault_of (h a) ≡ None → AllCells (IsInClass (kind_of (f a).shape.class)) (cells_in (h a)) → h i ≡ row_by_row v.at (scanned_behind s (kind_of (f a).shape.class) (c ∷ []) (rows_in (h a)))
  scan_by_carry n h e i a v s c g q r is_cut carry none within =
      let kind = kind_of (f a).shape.class in
      let hs : List (ℕ → Outcome) = pass_blocks vs f cut bs in
      let w = block_over n h e in
      let kept : carry_for s kind (cells_by_block hs a) n ≡ Some c = sym (ap (λ o. carry_at f hs o n) g ∙ (ap (λ m. carry_of f hs m v.args n) q ∙ ap (λ xs. carry_of f hs (operation (scan s)) xs n) r)) ∙ carry in
      let fold = carry_there s kind (cells_by_block hs a) n c kept in
      let no_args : least_in (value_over f h) v.args ≡ None = ap (least_in (value_over f h)) r ∙ all_none (fault_in (value_over f h)) (a ∷ []) (λ d m. elim m [ inl t ↦ ap (fault_in (value_over f h)) (sym t) ∙ none | inr z ↦ absurd z ]) in
      own_of w.3 CanHere i v (scan s) g is_cut q no_args
      ∙ (ap (λ xs. own_over (w.1 i) v.at (scan s) (map (value_over f h) xs)) r
      ∙ (ap (λ before. row_by_row v.at (scanned_behind s kind before (rows_in (h a)))) (w.4 i a v s g q r)
      ∙ ap (row_by_row v.at) (sym (from_carry s kind (flat (take n (cells_by_block hs a))) (rows_in (h a)) c fold within))))

-- ---- the same in each pass

module _ (store : ℕ) (vs : List Vertex) (f : ℕ → Tall) (cut other : ℕ → Bool) (ordered : IsOrdered vs) (one : IsOfRows store vs f cut) (two : IsOfRows store vs f other) where
  abbrev SameCells : (ℕ → List Seen) → (ℕ → List Seen) → Type 0
  SameCells so_far others = (i : ℕ) (v : Vertex) → slice_get vs i ≡ Some v → cut i ≡ true → other i ≡ true → so_far i ≡ others i

  abbrev SameOutcomes : (ℕ → Outcome) → (ℕ → Outcome) → Type 0
  SameOutcomes h g = (i : ℕ) (v : Vertex) → slice_get vs i ≡ Some v → cut i ≡ true → other i ≡ true → h i ≡ g i

  module _ (columns : Columns) (so_far others : ℕ → List Seen) (h g : ℕ → Outcome) (over : IsOver columns so_far vs f cut h) (over_other : IsOver columns others vs f other g) (same : SameCells so_far others) where
    operand_same : (i a : ℕ) (v w : Vertex) → slice_get vs i ≡ Some v → cut i ≡ true → other i ≡ true → IsAmong v.args a → slice_get vs a ≡ Some w
        → (cut a ≡ true → other a ≡ true → h a ≡ g a) → h a ≡ g a
    operand_same i a v w e c d among at go = elim (true_or_false (cut a)) [
      | inl ca ↦ go ca (two.operands_cut i a v e d among (one.rows_here a w at ca))
      | inr na ↦ elim (true_or_false (other a)) [
        | inl da ↦ absurd (let z : cut a ≡ true = one.operands_cut i a v e c among (two.rows_here a w at da) in cc)
        | inr nd ↦ over.known a na ∙ sym (over_other.known a nd)
      ]
    ]

    same_args : (i : ℕ) (v : Vertex) (args : List ℕ) → ((a : ℕ) → IsAmong args a → h a ≡ g a) → map (value_over f h) args ≡ map (value_over f g) args
    same_args i v [] go = refl
    same_args i v (a ∷ args) go =
        ap (λ (o : Outcome). record { shape = (f a).shape; outcome = o } ∷ map (value_over f h) args) (go a (inl refl)) ∙ ap (λ xs. value_over f g a ∷ xs) (same_args i v args (λ b m. go b (inr m)))

    same_below : (n i : ℕ) (v : Vertex) → i < n → slice_get vs i ≡ Some v → cut i ≡ true → other i ≡ true → h i ≡ g i
    same_below zero i v l e c d = absurd (omega (arith, l))
    same_below (suc n) i v l e c d =
        over.made i v e c
        ∙ (ap (λ k. outcome_over columns k v.at v.made (map (value_over f h) v.args)) (same i v e c d)
        ∙ (ap (outcome_over columns (others i) v.at v.made)
        (same_args i v v.args (λ a among.
        let less : a < i = below_among i v.args a (ordered i v e) among in
        let b = get_before vs i a v e less in
        operand_same i a v b.0 e c d among b.1 (λ ca da. same_below n a b.0 (omega (arith, l, less)) b.1 ca da)))
        ∙ sym (over_other.made i v e d)))

    pub same_over : SameOutcomes h g
    same_over i v e c d = same_below (suc i) i v (omega (arith)) e c d

    cells_by : (i : ℕ) (v : Vertex) (m : Made) (args : List ℕ) → slice_get vs i ≡ Some v → cut i ≡ true → other i ≡ true → v.args ≡ args → more_cells h m args (so_far i) ≡ more_cells g m args (others i)
    cells_by i v (operation (scan s)) (a ∷ []) e c d r =
        let among : IsAmong v.args a = subst (λ xs. IsAmong xs a) (sym r) (inl refl) in
        let b = get_before vs i a v e (below_among i v.args a (ordered i v e) among) in
        let t : h a ≡ g a = operand_same i a v b.0 e c d among b.1 (λ ca da. same_over a b.0 b.1 ca da) in
        ap (λ k. k ++ cells_in (h a)) (same i v e c d) ∙ ap (λ o. others i ++ cells_in o) t
    cells_by i v (operation (scan s)) [] e c d r = same i v e c d
    cells_by i v (operation (scan s)) (a ∷ b ∷ args) e c d r = same i v e c d
    cells_by i v (stored s a k) args e c d r = same i v e c d
    cells_by i v (operation (constant x)) args e c d r = same i v e c d
    cells_by i v (operation (unary op)) args e c d r = same i v e c d
    cells_by i v (operation (binary op)) args e c d r = same i v e c d
    cells_by i v (operation filter) args e c d r = same i v e c d
    cells_by i v (operation (reduce x)) args e c d r = same i v e c d
    cells_by i v (operation (head k)) args e c d r = same i v e c d
    cells_by i v (operation (tail k)) args e c d r = same i v e c d
    cells_by i v (operation distinct) args e c d r = same i v e c d
    cells_by i v (operation (group m part)) args e c d r = same i v e c d

    next_same : SameCells (next_cells vs h so_far) (next_cells vs g others)
    next_same i v e c d = ap (λ o. more_cells_at h o (so_far i)) e ∙ (cells_by i v v.made v.args e c d refl ∙ sym (ap (λ o. more_cells_at g o (others i)) e))

  here_same : (b : Block) (so_far others : ℕ → List Seen) → SameCells so_far others → SameOutcomes (outcomes_over (block_columns b) so_far vs f cut) (outcomes_over (block_columns b) others vs f other)
  here_same b so_far others same =
      same_over (block_columns b) so_far others (outcomes_over (block_columns b) so_far vs f cut) (outcomes_over (block_columns b) others vs f other)
      (over_exists (block_columns b) so_far vs f cut ordered) (over_exists (block_columns b) others vs f other ordered) same

  pub blocks_same : (bs : List Block) (so_far others : ℕ → List Seen) → SameCells so_far others → (n : ℕ) (h g : ℕ → Outcome) → slice_get (block_outcomes vs f cut so_far bs) n ≡ Some h → slice_get (block_outcomes vs f other others bs) n ≡ Some g → SameOutcomes h g
  blocks_same [] so_far others same zero h g p q = absurd (cc)
  blocks_same [] so_far others same (suc n) h g p q = absurd (cc)
  blocks_same (b ∷ bs) so_far others same zero h g p q =
      subst (λ k. SameOutcomes h k) (inside (outcomes_over (block_columns b) others vs f other) g q)
      (subst (λ k. SameOutcomes k (outcomes_over (block_columns b) others vs f other)) (inside (outcomes_over (block_columns b) so_far vs f cut) h p) (here_same b so_far others same))
  blocks_same (b ∷ bs) so_far others same (suc n) h g p q =
      blocks_same bs (next_cells vs (outcomes_over (block_columns b) so_far vs f cut) so_far) (next_cells vs (outcomes_over (block_columns b) others vs f other) others)
      (next_same (block_columns b) so_far others (outcomes_over (block_columns b) so_far vs f cut) (outcomes_over (block_columns b) others vs f other)
      (over_exists (block_columns b) so_far vs f cut ordered) (over_exists (block_columns b) others vs f other ordered) same) n h g p q

  cells_same : (bs : List Block) (so_far others : ℕ → List Seen) → SameCells so_far others → (a : ℕ) (v : Vertex) → slice_get vs a ≡ Some v → cut a ≡ true → other a ≡ true
      → cells_by_block (block_outcomes vs f cut so_far bs) a ≡ cells_by_block (block_outcomes vs f other others bs) a
  cells_same [] so_far others same a v e c d = refl
  cells_same (b ∷ bs) so_far others same a v e c d =
      ap (λ o. cells_in o ∷ cells_by_block (block_outcomes vs f cut (next_cells vs (outcomes_over (block_columns b) so_far vs f cut) so_far) bs) a) (here_same b so_far others same a v e c d)
      ∙ ap (λ xs. cells_in (outcomes_over (block_columns b) others vs f other a) ∷ xs)
      (cells_same bs (next_cells vs (outcomes_over (block_columns b) so_far vs f cut) so_far) (next_cells vs (outcomes_over (block_columns b) others vs f other) others)
      (next_same (block_columns b) so_far others (outcomes_over (block_columns b) so_far vs f cut) (outcomes_over (block_columns b) others vs f other)
      (over_exists (block_columns b) so_far vs f cut ordered) (over_exists (block_columns b) others vs f other ordered) same) a v e c d)

  pub pass_same : (bs : List Block) (n : ℕ) (h g : ℕ → Outcome) → slice_get (pass_blocks vs f cut bs) n ≡ Some h → slice_get (pass_blocks vs f other bs) n ≡ Some g → SameOutcomes h g
  pass_same bs = blocks_same bs no_cells no_cells (λ i v e c d. refl)

  pub carries_same : (bs : List Block) (n i a : ℕ) (v w : Vertex) → slice_get vs i ≡ Some v → v.args ≡ a ∷ [] → slice_get vs a ≡ Some w → cut a ≡ true → other a ≡ true
      → carry_in vs f (pass_blocks vs f cut bs) i n ≡ carry_in vs f (pass_blocks vs f other bs) i n
  carries_same bs n i a v w e r g c d =
      ap (λ o. carry_at f (pass_blocks vs f cut bs) o n) e
      ∙ (by_args v.made v.args r ∙ sym (ap (λ o. carry_at f (pass_blocks vs f other bs) o n) e))
    where
      cells_both : cells_by_block (pass_blocks vs f cut bs) a ≡ cells_by_block (pass_blocks vs f other bs) a
      cells_both = cells_same bs no_cells no_cells (λ i v e c d. refl) a w g c d

      of_made : (m : Made) → carry_of f (pass_blocks vs f cut bs) m (a ∷ []) n ≡ carry_of f (pass_blocks vs f other bs) m (a ∷ []) n
      of_made (operation (scan s)) = ap (λ xs. carry_for s (kind_of (f a).shape.class) xs n) cells_both
      of_made (stored s b k) = refl
      of_made (operation (constant x)) = refl
      of_made (operation (unary op)) = refl
      of_made (operation (binary op)) = refl
      of_made (operation filter) = refl
      of_made (operation (reduce x)) = refl
      of_made (operation (head k)) = refl
      of_made (operation (tail k)) = refl
      of_made (operation distinct) = refl
      of_made (operation (group m part)) = refl

      by_args : (m : Made) (args : List ℕ) → args ≡ a ∷ [] → carry_of f (pass_blocks vs f cut bs) m args n ≡ carry_of f (pass_blocks vs f other bs) m args n
      by_args m args q = subst (λ xs. carry_of f (pass_blocks vs f cut bs) m xs n ≡ carry_of f (pass_blocks vs f other bs) m xs n) (sym q) (of_made m)
