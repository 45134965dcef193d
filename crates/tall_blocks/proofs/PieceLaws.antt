-- The least fault so far goes from block to block, and is the least own fault over the rows so far. What a block's work
-- leaves out changes nothing where it isn't numbered below that fault; and where a scan's carry is missing, the scan is
-- not.
use Rattle.std.specs.Prelude.{◌≡◌, refl, ◌≢◌, ℕ, zero, suc, ◌<◌, ◌≤◌, ◌⊎◌, if◌then◌else◌, Bool, true, false, Option, None, Some, List, [], ◌∷◌, ◌++◌, map, take, drop, slice_get}
use Rattle.std.proofs.Common.{ap, sym, subst, ◌∙◌, arith, inl, inr}
use Rattle.tall_value.specs.Cells.{Seen}
use Rattle.tall_semantics.specs.Operations.{Made, stored, operation}
use Rattle.tall_semantics.specs.Faults.{Fault, precedes, earlier, least_fault}
use Rattle.tall_semantics.specs.Outcomes.{Outcome, fault_of}
use Rattle.tall_semantics.specs.Talls.{Tall, Columns}
use Rattle.tall_semantics.specs.Deferred.{Vertex, IsAmong, own_in}
use Rattle.tall_semantics.specs.Least.{AtMost, IsLeast, IsBelow}
use Rattle.tall_semantics.specs.Numbered.{AreBothStored, never_fails, number_at}
use Rattle.tall_semantics.proofs.Basics.{inside}
use Rattle.tall_semantics.proofs.LevelLaws.{compare}
use Rattle.tall_semantics.proofs.OrderLaws.{at_most_itself, never_both, not_before, by_number, lesser_number}
use Rattle.tall_semantics.proofs.OriginLaws.{least_one, least_all, none_or_some, AtMost_some}
use Rattle.tall_blocks.specs.Blocks.{Block, block_columns, all_rows, AreTables, AllNumbers, RowsBelow, RowsFrom, AreAscending}
use Rattle.tall_blocks.specs.Cut.{AreCut, IsCutWork}
use Rattle.tall_blocks.specs.Pieces.{pass_blocks, seen_in, fault_from, IsLookedAt}
use Rattle.tall_blocks.specs.SeenFaults.{AreSeen, IsBlockwise}
use Rattle.tall_blocks.specs.ValuesOver.{value_over, outcome_over, IsOver, no_cells, next_cells, outcomes_over, block_outcomes}
use Rattle.tall_blocks.proofs.BlockLaws.{over_exists}
use Rattle.tall_blocks.proofs.CutLaws.{are_cut}
use Rattle.tall_blocks.proofs.FaultRowLaws.{fault_holds, later_row}
use Rattle.tall_blocks.proofs.FoldLaws.{better_assoc}
use Rattle.tall_blocks.proofs.LeastLaws.{no_group}
use Rattle.tall_blocks.proofs.PassLaws.{start_one, least_seen, least_of_blocks}
use Rattle.tall_blocks.proofs.SeenLaws.{own_split, own_fault_number, can_fail}

-- ---- the earlier of two

precede_both : (f g h : Fault) → precedes g f ≡ true → precedes h g ≡ true → precedes h f ≡ true
precede_both f g h p q = by_case (precedes h f) refl
  where
    by_case : (b : Bool) → precedes h f ≡ b → precedes h f ≡ true
    by_case true e = e
    by_case false e = absurd (let z : precedes h g ≡ false = not_before g f h (never_both f g p) e in cc)

pub earlier_assoc : (c d e : Option Fault) → earlier c (earlier d e) ≡ earlier (earlier c d) e
earlier_assoc None d e = refl
earlier_assoc (Some f) None e = refl
earlier_assoc (Some f) (Some g) None = refl
earlier_assoc (Some f) (Some g) (Some h) = ap Some (sym (better_assoc (λ x y. precedes y x) (λ x y z p q. precede_both x y z p q) (λ x y z p q. not_before x y z p q) f g h))

pub earlier_none : (c : Option Fault) → earlier c None ≡ c
earlier_none None = refl
earlier_none (Some f) = refl

later_stays : (b : Bool) (x z : Fault) → b ≡ false → Some (if b then x else z) ≡ Some z
later_stays true x z h = absurd (cc)
later_stays false x z h = refl

-- ---- the least of a list

pub least_list : (own : ℕ → Option Fault) (work : List ℕ) → IsLeast own (IsAmong work) (least_fault (map own work))
least_list own work = record {
  one = λ x e. least_one own work x e;
  least = λ i y p q. least_all own work i y p (subst (λ o. AtMost o y) (sym q) (at_most_itself y));
}

module _ (vs : List Vertex) (f : ℕ → Tall) (work : List ℕ) where
  pub from_found : (d : Option Fault) (hs : List (ℕ → Outcome)) → fault_from vs f work d hs ≡ earlier d (least_fault (map (seen_in vs f work) hs))
  from_found d [] = sym (earlier_none d)
  from_found d (h ∷ hs) = from_found (earlier d (seen_in vs f work h)) hs ∙ sym (earlier_assoc d (seen_in vs f work h) (least_fault (map (seen_in vs f work) hs)))

  pub found_next : (d : Option Fault) (hs ks : List (ℕ → Outcome)) → fault_from vs f work d (hs ++ ks) ≡ fault_from vs f work (fault_from vs f work d hs) ks
  found_next d [] ks = refl
  found_next d (h ∷ hs) ks = found_next (earlier d (seen_in vs f work h)) hs ks

  -- one block more
  pub next_found : (d : Option Fault) (hs : List (ℕ → Outcome)) (n : ℕ) (h : ℕ → Outcome) → slice_get hs n ≡ Some h
      → fault_from vs f work d (take (suc n) hs) ≡ earlier (fault_from vs f work d (take n hs)) (seen_in vs f work h)
  next_found d [] zero h e = absurd (cc)
  next_found d [] (suc n) h e = absurd (cc)
  next_found d (k ∷ hs) zero h e = ap (λ g. earlier d (seen_in vs f work g)) (inside k h e)
  next_found d (k ∷ hs) (suc n) h e = next_found (earlier d (seen_in vs f work k)) hs n h e

-- ---- the first blocks

all_front : (Q : ℕ → Type 0) (rs ss : List (ℕ × Seen)) → AllNumbers Q (rs ++ ss) → AllNumbers Q rs
all_front Q [] ss h = tt
all_front Q (r ∷ rs) ss h = (h.0, all_front Q rs ss h.1)

all_back : (Q : ℕ → Type 0) (rs ss : List (ℕ × Seen)) → AllNumbers Q (rs ++ ss) → AllNumbers Q ss
all_back Q [] ss h = h
all_back Q (r ∷ rs) ss h = all_back Q rs ss h.1

all_joined : (Q : ℕ → Type 0) (rs ss : List (ℕ × Seen)) → AllNumbers Q rs → AllNumbers Q ss → AllNumbers Q (rs ++ ss)
all_joined Q [] ss h g = g
all_joined Q (r ∷ rs) ss h g = (h.0, all_joined Q rs ss h.1 g)

all_weaker : (P Q : ℕ → Type 0) → ((n : ℕ) → P n → Q n) → (rs : List (ℕ × Seen)) → AllNumbers P rs → AllNumbers Q rs
all_weaker P Q w [] h = tt
all_weaker P Q w (r ∷ rs) h = (w r.0 h.0, all_weaker P Q w rs h.1)

pub first_tables : (vs : List Vertex) (cut : ℕ → Bool) (bs : List Block) (n : ℕ) → AreTables vs cut bs → AreTables vs cut (take n bs)
first_tables vs cut bs zero h = tt
first_tables vs cut [] (suc n) h = tt
first_tables vs cut (b ∷ bs) (suc n) h = (h.0, first_tables vs cut bs n h.1)

take_from : (m : ℕ) (bs : List Block) (n : ℕ) → RowsFrom m (all_rows bs) → RowsFrom m (all_rows (take n bs))
take_from m bs zero h s v = tt
take_from m [] (suc n) h s v = tt
take_from m (b ∷ bs) (suc n) h s v = all_joined (λ r. m ≤ r) (b s v) (all_rows (take n bs) s v) (all_front (λ r. m ≤ r) (b s v) (all_rows bs s v) (h s v))
    (take_from m bs n (λ t w. all_back (λ r. m ≤ r) (b t w) (all_rows bs t w) (h t w)) s v)

drop_from : (m : ℕ) (bs : List Block) (n : ℕ) → RowsFrom m (all_rows bs) → RowsFrom m (all_rows (drop n bs))
drop_from m bs zero h s v = h s v
drop_from m [] (suc n) h s v = tt
drop_from m (b ∷ bs) (suc n) h s v = drop_from m bs n (λ t w. all_back (λ r. m ≤ r) (b t w) (all_rows bs t w) (h t w)) s v

pub first_ascending : (bs : List Block) (n : ℕ) → AreAscending bs → AreAscending (take n bs)
first_ascending bs zero h = tt
first_ascending [] (suc n) h = tt
first_ascending (b ∷ bs) (suc n) h = ((h.0.0, h.0.1, take_from h.0.0 bs n h.0.2), first_ascending bs n h.1)

all_two : (P Q R : ℕ → Type 0) → ((n : ℕ) → P n → Q n → R n) → (rs : List (ℕ × Seen)) → AllNumbers P rs → AllNumbers Q rs → AllNumbers R rs
all_two P Q R w [] h g = tt
all_two P Q R w (r ∷ rs) h g = (w r.0 h.0 g.0, all_two P Q R w rs h.1 g.1)

all_from : (rs : List (ℕ × Seen)) → AllNumbers (λ r. 0 ≤ r) rs
all_from [] = tt
all_from (r ∷ rs) = (omega (arith), all_from rs)

greater_of : (a b : ℕ) → (m : ℕ) × (a ≤ m) × (b ≤ m) × ((r : ℕ) → a ≤ r → b ≤ r → m ≤ r)
greater_of a b = elim (compare a b) [
  | inl less ↦ (b, omega (arith, less), omega (arith), λ r p q. q)
  | inr rest ↦ elim rest [ inl more ↦ (a, omega (arith), omega (arith, more), λ r p q. p) | inr same ↦ (a, omega (arith), omega (arith, same), λ r p q. p) ]
]

-- a number that parts the first blocks from the others
parting : (bs : List Block) (n : ℕ) → AreAscending bs → (m : ℕ) × RowsBelow m (all_rows (take n bs)) × RowsFrom m (all_rows (drop n bs))
parting bs zero h = (0, (λ s v. tt), (λ s v. all_from (all_rows bs s v)))
parting [] (suc n) h = (0, (λ s v. tt), (λ s v. tt))
parting (b ∷ bs) (suc n) h =
    let w = parting bs n h.1 in
    let g = greater_of h.0.0 w.0 in
    let p : h.0.0 ≤ g.0 = g.1 in
    let q : w.0 ≤ g.0 = g.2 in (
      g.0,
      (λ s v. all_joined (λ r. r < g.0) (b s v) (all_rows (take n bs) s v)
          (all_weaker (λ r. r < h.0.0) (λ r. r < g.0) (λ r l. omega (arith, l, p)) (b s v) (h.0.1 s v))
          (all_weaker (λ r. r < w.0) (λ r. r < g.0) (λ r l. omega (arith, l, q)) (all_rows (take n bs) s v) (w.1 s v))),
      (λ s v. all_two (λ r. h.0.0 ≤ r) (λ r. w.0 ≤ r) (λ r. g.0 ≤ r) g.3 (all_rows (drop n bs) s v) (drop_from h.0.0 bs n h.0.2 s v) (w.2 s v)),
    )

pub first_outcomes : (vs : List Vertex) (f : ℕ → Tall) (cut : ℕ → Bool) (bs : List Block) (so_far : ℕ → List Seen) (n : ℕ) → block_outcomes vs f cut so_far (take n bs) ≡ take n (block_outcomes vs f cut so_far bs)
first_outcomes vs f cut bs so_far zero = refl
first_outcomes vs f cut [] so_far (suc n) = refl
first_outcomes vs f cut (b ∷ bs) so_far (suc n) =
    let h : ℕ → Outcome = outcomes_over (block_columns b) so_far vs f cut in
    ap (λ hs. h ∷ hs) (first_outcomes vs f cut bs (next_cells vs h so_far) n)

-- the block at a place is the first of those behind
at_place : (bs : List Block) (n : ℕ) (b : Block) → slice_get bs n ≡ Some b → (rest : List Block) × (drop n bs ≡ b ∷ rest)
at_place [] zero b e = absurd (cc)
at_place [] (suc n) b e = absurd (cc)
at_place (c ∷ bs) zero b e = (bs, ap (λ d. d ∷ bs) (inside c b e))
at_place (c ∷ bs) (suc n) b e = at_place bs n b e

from_block : (m : ℕ) (b : Block) (bs : List Block) → RowsFrom m (all_rows (b ∷ bs)) → RowsFrom m b
from_block m b bs h s v = all_front (λ r. m ≤ r) (b s v) (all_rows bs s v) (h s v)

-- ---- a pass

module _ (columns : Columns) (of_stores : ℕ → List ℕ) (vs : List Vertex) (f : ℕ → Tall) (store : ℕ) (cut : ℕ → Bool) (bs : List Block) (pass : IsBlockwise columns of_stores vs f store cut bs)
    (work : List ℕ) (cut_work : IsCutWork vs cut (IsAmong work)) where
  Can : AreCut f cut vs
  Can = are_cut columns vs f cut store pass.meaning pass.of_store

  abbrev Own : (ℕ → Outcome) → ℕ → Option Fault
  Own h = own_in vs (value_over f h)

  seen_computed : (rest : List Block) (so_far : ℕ → List Seen) → AreSeen vs f cut (IsAmong work) so_far rest (map (seen_in vs f work) (block_outcomes vs f cut so_far rest))
  seen_computed [] so_far = refl
  seen_computed (b ∷ rest) so_far =
      let h : ℕ → Outcome = outcomes_over (block_columns b) so_far vs f cut in
      (h, over_exists (block_columns b) so_far vs f cut pass.ordered, least_list (Own h) work, seen_computed rest (next_cells vs h so_far))

  found_is : (hs : List (ℕ → Outcome)) → least_fault (map (seen_in vs f work) hs) ≡ fault_from vs f work None hs
  found_is hs = sym (from_found vs f work None hs)

  -- over all blocks
  pub found_all : IsLeast (own_in vs f) (IsAmong work) (fault_from vs f work None (pass_blocks vs f cut bs))
  found_all =
      subst (IsLeast (own_in vs f) (IsAmong work)) (found_is (pass_blocks vs f cut bs))
      (least_of_blocks columns of_stores vs f store cut bs pass (IsAmong work) cut_work (map (seen_in vs f work) (pass_blocks vs f cut bs)) (seen_computed bs no_cells))

  -- over the first blocks
  pub found_first : (n : ℕ) (h : ℕ → Outcome) → IsOver (block_columns (all_rows (take n bs))) no_cells vs f cut h → IsLeast (Own h) (IsAmong work) (fault_from vs f work None (take n (pass_blocks vs f cut bs)))
  found_first n h over =
      let cs : List (Option Fault) = map (seen_in vs f work) (block_outcomes vs f cut no_cells (take n bs)) in
      subst (IsLeast (Own h) (IsAmong work)) (found_is (block_outcomes vs f cut no_cells (take n bs)) ∙ ap (fault_from vs f work None) (first_outcomes vs f cut bs no_cells n))
      (least_seen columns of_stores vs f store cut bs pass (IsAmong work) cut_work (take n bs) cs no_cells (first_tables vs cut bs n pass.tables) (start_one columns of_stores vs f store cut bs pass)
      (first_ascending bs n pass.ascending) (seen_computed (take n bs) no_cells) h over)

  -- ---- two own faults of one number over some rows are of one value

  module _ (b : Block) (so_far : ℕ → List Seen) (h : ℕ → Outcome) (over : IsOver (block_columns b) so_far vs f cut h) where
    fails : (i : ℕ) (x : Fault) → IsAmong work i → Own h i ≡ Some x → (v : Vertex) × (slice_get vs i ≡ Some v) × (x.number ≡ v.at.number) × (never_fails v.made ≡ true → ⊥)
    fails i x p own =
        let w = own_split (value_over f h) (slice_get vs i) i x own in
        let c : cut i ≡ true = (cut_work.there i p).0 in
        (w.0, w.1, own_fault_number over Can (λ j v s a e d q. refl) i w.0 w.0.made x w.1 c refl w.2 w.3, can_fail over Can i w.0 w.0.made x w.1 c refl w.2 w.3)

    stored_or : (i : ℕ) (v : Vertex) (m n : Made) (x : Fault) → slice_get vs i ≡ Some v → IsAmong work i → v.made ≡ m → AreBothStored m n → Own h i ≡ Some x → ⊥
    stored_or i v (stored s a k) n x e p q st own =
        let w = own_split (value_over f h) (slice_get vs i) i x own in
        let same : v ≡ w.0 = inside v w.0 (sym e ∙ w.1) in
        let z : h i ≡ block_columns b s a = subst (λ m. h i ≡ outcome_over (block_columns b) (so_far i) v.at m (map (value_over f h) v.args)) q (over.made i v e (cut_work.there i p).0) in
        let y : fault_of (h i) ≡ Some x = w.3 in
        let u : fault_of (h i) ≡ None = ap fault_of z in
        cc
    stored_or i v (operation op) n x e p q st own = st

    one_value : (i j : ℕ) (x y : Fault) → IsAmong work i → IsAmong work j → Own h i ≡ Some x → Own h j ≡ Some y → x.number ≡ y.number → i ≡ j
    one_value i j x y p q own other e =
        let v = fails i x p own in
        let w = fails j y q other in
        by_shared v.0 w.0 v.1 w.1 v.3 w.3 (sym v.2 ∙ (e ∙ w.2)) (compare i j)
      where
        apart : (v w : Vertex) → slice_get vs i ≡ Some v → slice_get vs j ≡ Some w → (never_fails v.made ≡ true → ⊥) → (never_fails w.made ≡ true → ⊥) → v.at.number ≡ w.at.number → i ≢ j → ⊥
        apart v w g k a b n differ = elim (pass.numbered.shared i j v w differ g k n) [
          | inl both ↦ stored_or i v v.made w.made x g p refl both own
          | inr rest ↦ elim rest [
            | inl parts ↦ no_group f cut v.made w.made v.args (Can i v g (cut_work.there i p).0) parts.0
            | inr never ↦ elim never [ inl t ↦ a t | inr t ↦ b t ]
          ]
        ]

        by_shared : (v w : Vertex) → slice_get vs i ≡ Some v → slice_get vs j ≡ Some w → (never_fails v.made ≡ true → ⊥) → (never_fails w.made ≡ true → ⊥) → v.at.number ≡ w.at.number → (i < j) ⊎ ((j < i) ⊎ (i ≡ j)) → i ≡ j
        by_shared v w g k a b n c = elim c [
          | inl less ↦ absurd (apart v w g k a b n (λ q. omega (arith, q, less)))
          | inr rest ↦ elim rest [ inl more ↦ absurd (apart v w g k a b n (λ q. omega (arith, q, more))) | inr same ↦ same ]
        ]

    same_fault : (i j : ℕ) (x y : Fault) → IsAmong work i → IsAmong work j → Own h i ≡ Some x → Own h j ≡ Some y → precedes y x ≡ false → precedes x y ≡ false → x ≡ y
    same_fault i j x y p q own other a b =
        let l : x.number ≤ y.number = by_number x y a in
        let g : y.number ≤ x.number = by_number y x b in
        let n : x.number ≡ y.number = omega (arith, l, g) in
        let e : i ≡ j = one_value i j x y p q own other n in
        inside x y (sym own ∙ (ap (Own h) e ∙ other))

  -- ---- what a block's work leaves out

  below_or_not : (d : Option Fault) (n : ℕ) → IsBelow d n ⊎ ((z : Fault) × (d ≡ Some z) × (z.number ≤ n))
  below_or_not None n = inl tt
  below_or_not (Some z) n = elim (compare n z.number) [
    | inl less ↦ inl less
    | inr rest ↦ inr (z, refl, elim rest [ inl more ↦ omega (arith, more) | inr same ↦ omega (arith, same) ])
  ]

  abbrev found_before : ℕ → Option Fault
  found_before n = fault_from vs f work None (take n (pass_blocks vs f cut bs))

  abbrev first_over : ℕ → ℕ → Outcome
  first_over n = outcomes_over (block_columns (all_rows (take n bs))) no_cells vs f cut

  over_first_blocks : (n : ℕ) → IsOver (block_columns (all_rows (take n bs))) no_cells vs f cut (first_over n)
  over_first_blocks n = over_exists (block_columns (all_rows (take n bs))) no_cells vs f cut pass.ordered

  -- a fault of the first blocks stands at a row below those of the block behind them
  found_row : (n m : ℕ) → RowsBelow m (all_rows (take n bs)) → (z : Fault) → found_before n ≡ Some z → (r : ℕ) × (z.row ≡ Some r) × (r < m)
  found_row n m below z e =
      let w = (found_first n (first_over n) (over_first_blocks n)).one z e in
      let u = own_split (value_over f (first_over n)) (slice_get vs w.0) w.0 z w.2 in
      fault_holds (λ r. r < m) (over_first_blocks n) Can pass.ordered (λ j v s a e d q. below s a) w.0 u.0 z u.1 (cut_work.there w.0 w.1).0 u.3

  -- a fault of the block with no lesser number does not precede it
  not_earlier : (n : ℕ) (b : Block) (so_far : ℕ → List Seen) (h : ℕ → Outcome) → slice_get bs n ≡ Some b → IsOver (block_columns b) so_far vs f cut h
      → (i : ℕ) (x z : Fault) → IsAmong work i → Own h i ≡ Some x → found_before n ≡ Some z → z.number ≤ number_at (slice_get vs i) → precedes x z ≡ false
  not_earlier n b so_far h place over i x z p own e l =
      let w = parting bs n pass.ascending in
      let behind = at_place bs n b place in
      let from : RowsFrom w.0 b = from_block w.0 b behind.0 (subst (λ ds. RowsFrom w.0 (all_rows ds)) behind.1 w.2) in
      let first = found_row n w.0 w.1 z e in
      let u = own_split (value_over f h) (slice_get vs i) i x own in
      let row = fault_holds (λ r. w.0 ≤ r) over Can pass.ordered (λ j v s a e d q. from s a) i u.0 x u.1 (cut_work.there i p).0 u.3 in
      let g = fails b so_far h over i x p own in
      let k : z.number ≤ x.number = number_below (slice_get vs i) g.0 x z g.1 g.2 l in
      elim (compare z.number x.number) [
        | inl less ↦ lesser_number z x less
        | inr rest ↦ elim rest [
          | inl more ↦ absurd (omega (arith, more, k))
          | inr same ↦ later_row z x first.0 row.0 same first.1 row.1 (let p : first.0 < w.0 = first.2 in let q : w.0 ≤ row.0 = row.2 in omega (arith, p, q))
        ]
      ]
    where
      number_below : (o : Option Vertex) (v : Vertex) (x z : Fault) → o ≡ Some v → x.number ≡ v.at.number → z.number ≤ number_at o → z.number ≤ x.number
      number_below o v x z e n l = (let q : number_at o ≡ v.at.number = ap number_at e in omega (arith, q, n, l))

  stays : (x z : Fault) → precedes x z ≡ false → earlier (Some z) (Some x) ≡ Some z
  stays x z e = later_stays (precedes x z) x z e

  same_some : (c d : Option Fault) (x y : Fault) → c ≡ Some x → d ≡ Some y → x ≡ y → c ≡ d
  same_some c d x y p q e = p ∙ (ap Some e ∙ sym q)

  looked_over : (n : ℕ) (b : Block) (so_far : ℕ → List Seen) (h : ℕ → Outcome) → slice_get bs n ≡ Some b → IsOver (block_columns b) so_far vs f cut h
      → (looked : List ℕ) → IsLookedAt vs work (found_before n) looked → (c : Option Fault) → IsLeast (Own h) (IsAmong looked) c → earlier (found_before n) c ≡ earlier (found_before n) (seen_in vs f work h)
  looked_over n b so_far h place over looked is c least = by_seen (none_or_some (seen_in vs f work h))
    where
      full : IsLeast (own_in vs (value_over f h)) (IsAmong work) (seen_in vs f work h)
      full = least_list (own_in vs (value_over f h)) work

      not_seen : seen_in vs f work h ≡ None → (o : (c ≡ None) ⊎ ((y : Fault) × (c ≡ Some y))) → c ≡ None
      not_seen e o = elim o [
        | inl none ↦ none
        | inr some ↦
            let w = least.one some.0 some.1 in
            let z : AtMost (seen_in vs f work h) some.0 = full.least w.0 some.0 (is.of_work w.0 w.1) w.2 in
            absurd (subst (λ d. AtMost d some.0) e z)
      ]

      lower : (x : Fault) → seen_in vs f work h ≡ Some x → (i : ℕ) → IsAmong work i → own_in vs (value_over f h) i ≡ Some x → IsAmong looked i → c ≡ seen_in vs f work h
      lower x e i p own q =
          let m = AtMost_some c x (least.least i x q own) in
          let w = least.one m.0 m.1 in
          let a : AtMost (Some x) m.0 = subst (λ d. AtMost d m.0) e (full.least w.0 m.0 (is.of_work w.0 w.1) w.2) in
          let d : AtMost (Some m.0) x = subst (λ d. AtMost d x) m.1 (least.least i x q own) in
          same_some c (seen_in vs f work h) m.0 x m.1 e (sym (same_fault b so_far h over i w.0 x m.0 p (is.of_work w.0 w.1) own w.2 a d))

      kept_found : (x z : Fault) → seen_in vs f work h ≡ Some x → found_before n ≡ Some z → precedes x z ≡ false → (o : (c ≡ None) ⊎ ((y : Fault) × (c ≡ Some y))) → earlier (found_before n) c ≡ earlier (found_before n) (seen_in vs f work h)
      kept_found x z e g l o =
          let right : earlier (found_before n) (seen_in vs f work h) ≡ Some z = ap (λ d. earlier d (seen_in vs f work h)) g ∙ (ap (earlier (Some z)) e ∙ stays x z l) in
          elim o [
            | inl none ↦ ap (λ d. earlier d c) g ∙ (ap (earlier (Some z)) none ∙ sym right)
            | inr some ↦
                let w = least.one some.0 some.1 in
                let a : AtMost (Some x) some.0 = subst (λ d. AtMost d some.0) e (full.least w.0 some.0 (is.of_work w.0 w.1) w.2) in
                ap (λ d. earlier d c) g ∙ (ap (earlier (Some z)) some.1 ∙ (stays some.0 z (not_before z x some.0 l a) ∙ sym right))
          ]

      by_number_of : (x : Fault) → seen_in vs f work h ≡ Some x → (w : (i : ℕ) × IsAmong work i × (own_in vs (value_over f h) i ≡ Some x)) → earlier (found_before n) c ≡ earlier (found_before n) (seen_in vs f work h)
      by_number_of x e w = elim (below_or_not (found_before n) (number_at (slice_get vs w.0))) [
        | inl low ↦ ap (earlier (found_before n)) (lower x e w.0 w.1 w.2 (is.below w.0 w.1 low))
        | inr high ↦ kept_found x high.0 e high.1 (not_earlier n b so_far h place over w.0 x high.0 w.1 w.2 high.1 high.2) (none_or_some c)
      ]

      by_seen : (seen_in vs f work h ≡ None) ⊎ ((y : Fault) × (seen_in vs f work h ≡ Some y)) → earlier (found_before n) c ≡ earlier (found_before n) (seen_in vs f work h)
      by_seen o = elim o [
        | inl none ↦ ap (earlier (found_before n)) (not_seen none (none_or_some c) ∙ sym none)
        | inr some ↦ by_number_of some.0 some.1 (full.one some.0 some.1)
      ]

  outcomes_at : (rest : List Block) (so_far : ℕ → List Seen) (n : ℕ) (h : ℕ → Outcome) → slice_get (block_outcomes vs f cut so_far rest) n ≡ Some h
      → (b : Block) × (before : ℕ → List Seen) × (slice_get rest n ≡ Some b) × IsOver (block_columns b) before vs f cut h
  outcomes_at [] so_far zero h e = absurd (cc)
  outcomes_at [] so_far (suc n) h e = absurd (cc)
  outcomes_at (b ∷ rest) so_far zero h e =
      (b, so_far, refl, subst (λ k. IsOver (block_columns b) so_far vs f cut k) (inside (outcomes_over (block_columns b) so_far vs f cut) h e) (over_exists (block_columns b) so_far vs f cut pass.ordered))
  outcomes_at (b ∷ rest) so_far (suc n) h e = outcomes_at rest (next_cells vs (outcomes_over (block_columns b) so_far vs f cut) so_far) n h e

  pub looked_enough : (n : ℕ) (h : ℕ → Outcome) → slice_get (pass_blocks vs f cut bs) n ≡ Some h → (looked : List ℕ) → IsLookedAt vs work (fault_from vs f work None (take n (pass_blocks vs f cut bs))) looked
      → (c : Option Fault) → IsLeast (own_in vs (value_over f h)) (IsAmong looked) c
      → earlier (fault_from vs f work None (take n (pass_blocks vs f cut bs))) c ≡ fault_from vs f work None (take (suc n) (pass_blocks vs f cut bs))
  looked_enough n h e looked is c least =
      let w = outcomes_at bs no_cells n h e in
      looked_over n w.0 w.1 h w.2 w.3 looked is c least ∙ sym (next_found vs f work None (pass_blocks vs f cut bs) n h e)
