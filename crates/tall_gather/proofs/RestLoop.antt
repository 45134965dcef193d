-- The values of a level that stand in no pass, one after the other.
use Rattle.std.specs.Prelude.{◌≡◌, refl, ℕ, zero, suc, ◌<◌, ◌≤◌, ◌+◌, ◌*◌, ◌-◌, ◌⊎◌, ◌==◌, ◌&&◌, Bool, true, false, Option, None, Some, Result, Ok, List, [], ◌∷◌, length, map, slice_get, ⊤}
use Rattle.std.proofs.Common.{ap, sym, subst, ◌∙◌, arith, inl, inr}
use Rattle.std.proofs.lemmas.Bool.Decides.{Decides-eqb}
use Rattle.tall_outside.specs.Shelf.{Files}
use Rattle.tall_value.specs.declared.faults.Fault as value
use Rattle.tall_value.specs.Cells.{Seen}
use Rattle.tall_semantics.specs.Faults.{Fault, earlier, fault_seen}
use Rattle.tall_semantics.specs.Outcomes.{Outcome, rows, scalar, fault, fault_of}
use Rattle.tall_semantics.specs.Talls.{Columns, Tall}
use Rattle.tall_semantics.specs.Least.{AtMost, IsBelow, IsLeast}
use Rattle.tall_semantics.specs.Levels.{After, IsWork}
use Rattle.tall_semantics.specs.Spaces.{store_of}
use Rattle.tall_semantics.specs.Shapes.{level}
use Rattle.tall_semantics.specs.ShapesInOrder.{IsMade, shape_at}
use Rattle.tall_semantics.specs.Deferred.{Vertex, AreThere, IsAmong, IsMeaning, IsOrdered, fault_in, least_in, own_at, own_fault, own_in, itself, through}
use Rattle.tall_semantics.specs.Numbered.{AreNumbered, AreReadings, number_at}
use Rattle.tall_semantics.specs.Plans.{args_of, needed_of, store_at}
use Rattle.tall_semantics.proofs.Basics.{and_true, inside}
use Rattle.tall_semantics.proofs.CandidateLaws.{further, graph_ranks}
use Rattle.tall_semantics.proofs.LevelLaws.{compare, joined, split, step}
use Rattle.tall_semantics.proofs.OrderLaws.{at_most_itself, below_left, below_right}
use Rattle.tall_semantics.proofs.OriginLaws.{AtMost_some, below_among, get_before, least_all, none_or_some, passed}
use Rattle.tall_semantics.proofs.PlanLaws.{needed_there, needed_under, one_datastore}
use Rattle.tall_blocks.specs.LevelWork.{is_no_store, is_rest}
use Rattle.tall_blocks.proofs.PassWorkLaws.{below_more}
use Rattle.tall_store.specs.Stores.{SeenStore}
use Rattle.tall_stored.specs.StoredColumns.{Store}
use Rattle.tall_stored.proofs.StoredLaws.{are_readings}
use Rattle.tall_fuse.specs.Kept.{carry, found}
use Rattle.tall_fuse.specs.declared.known.Known.{Known}
use Rattle.tall_pass.specs.Fitting.{AreFit}
use Rattle.tall_pass.specs.PassPlans.{IsBelowAt, IsSmall, is_below_at}
use Rattle.tall_pass.specs.Told.{IsOutcome}
use Rattle.tall_gather.specs.declared.candidate.Candidate.{Candidate}
use Rattle.tall_gather.specs.Candidates.{IsOfData, seen}
use Rattle.tall_gather.specs.Progress.{AreKnown, IsAfter, IsKnown, rank_of}
use Rattle.tall_gather.specs.Rests.{AreShown, IsComputed, IsPut, IsPutOr, LacksOperand, StepsRest, TellsPut}
use Rattle.tall_gather.specs.Told.{Holds, IsTold, ranked_nodes}
use Rattle.tall_gather.proofs.OneTold.{ranks}
use Rattle.tall_gather.proofs.RestLaws.{among_place, operand_before, place_among}
use Rattle.tall_gather.proofs.WorkLaws.{below_test, rank_none, rank_some, some_or_none}

-- among the first j of the list
abbrev pub AreDone : List ℕ → (j : ℕ) → ℕ → Type 0
AreDone xs j i = (m : ℕ) × (m < j) × (slice_get xs m ≡ Some i)

done_next : (xs : List ℕ) (j n i : ℕ) → slice_get xs j ≡ Some n → AreDone xs (j + 1) i → AreDone xs j i ⊎ (i ≡ n)
done_next xs j n i at w = elim (compare w.0 j) [
  | inl less ↦ inl (w.0, less, w.2)
  | inr (inl more) ↦ absurd (let l = w.1 in omega (arith, l, more))
  | inr (inr same) ↦ inr (inside i n (sym w.2 ∙ (ap (slice_get xs) same ∙ at)))
]

done_more : (xs : List ℕ) (j i : ℕ) → AreDone xs j i → AreDone xs (j + 1) i
done_more xs j i w = (w.0, (let l = w.1 in omega (arith, l)), w.2)

-- ---- whatever the shelf tells

pub record RestSoFar (vs : List Vertex) (needed : List ℕ) (k j : ℕ) (c q : Option Fault) (old new : Known) : Type 0 where
  pub fit : AreFit vs new
  pub stay : (i : ℕ) → IsKnown old i → IsKnown new i
  pub added : (i : ℕ) → AreDone needed j i → rank_of vs i ≡ 2 * k + 1 → IsBelowAt vs c i → IsBelowAt vs q i → IsKnown new i
  pub carries : (i b : ℕ) → carry new i b ≡ carry old i b

pub rest_first : (vs : List Vertex) (needed : List ℕ) (k : ℕ) (c : Option Fault) (known : Known) → AreFit vs known → RestSoFar vs needed k 0 c None known known
rest_first vs needed k c known fit = record { fit = fit; stay = λ i w. w; added = λ i w. absurd (let l = w.1 in omega (arith, l)); carries = λ i b. refl }

-- it is no value of the level that stands in no pass, or isn't numbered below the candidate
abbrev pub IsSkipped : List Vertex → (k : ℕ) → Option Fault → ℕ → Type 0
IsSkipped vs k c n = rank_of vs n ≡ 2 * k + 1 → IsBelowAt vs c n → ⊥

pub rest_skip : (vs : List Vertex) (needed : List ℕ) (k j : ℕ) (c q : Option Fault) (old new : Known) (n : ℕ) → slice_get needed j ≡ Some n → IsSkipped vs k c n → RestSoFar vs needed k j c q old new → RestSoFar vs needed k (j + 1) c q old new
rest_skip vs needed k j c q old new n at skip so = record {
  fit = so.fit;
  stay = so.stay;
  added = λ i w r bc bq. elim (done_next needed j n i at w) [
    | inl before ↦ so.added i before r bc bq
    | inr same ↦ absurd (skip (subst (λ x. rank_of vs x ≡ 2 * k + 1) same r) (subst (IsBelowAt vs c) same bc))
  ];
  carries = so.carries;
}

pub skipped : (vs : List Vertex) (k : ℕ) (c : Option Fault) (n : ℕ) → (is_rest vs k n && is_below_at vs c n) ≡ false → IsSkipped vs k c n
skipped vs k c n f r b = elim (some_or_none (store_at vs n)) [
  | inr some ↦ (let e = rank_some vs n some.0 some.1 in omega (arith, e, r))
  | inl none ↦
      let e = rank_none vs n none in
      let l : level (shape_at vs n) ≡ k = omega (arith, e, r) in
      let t : is_rest vs k n ≡ true = and_true _ _ (ap is_no_store none) ((Decides-eqb (level (shape_at vs n)) k).1 l) in
      let all = and_true (is_rest vs k n) (is_below_at vs c n) t (below_test c (number_at (slice_get vs n)) b) in
      let q : true ≡ false = sym all ∙ f in
      absurd (cc)
]

pub is_rest_told : (vs : List Vertex) (k n : ℕ) → is_rest vs k n ≡ true → (store_at vs n ≡ None) × (rank_of vs n ≡ 2 * k + 1)
is_rest_told vs k n t =
    let w = Rattle.tall_semantics.proofs.Basics.both _ _ t in
    let none = no_store (store_at vs n) w.0 in
    let l : level (shape_at vs n) ≡ k = (Decides-eqb (level (shape_at vs n)) k).0 w.1 in
    (none, rank_none vs n none ∙ ap (λ x. 2 * x + 1) l)
  where
    no_store : (o : Option ℕ) → is_no_store o ≡ true → o ≡ None
    no_store None e = refl
    no_store (Some s) e = absurd (cc)

module _ (vs : List Vertex) (made : IsMade vs) (ordered : IsOrdered vs) (numbered : AreNumbered vs) (solved : (columns : Columns) → (f : ℕ → Tall) × IsMeaning columns vs f) (roots : List ℕ) (there : AreThere vs roots) where
  no_rows : Columns
  no_rows s v = rows []

  plain_readings : AreReadings (λ s v. rows []) vs
  plain_readings = record { first = λ i j v w s x y k l ei ej mi mj. refl; called = λ i v s x k y e m h. absurd (cc) }

  -- an operand of a needed value is needed, has no greater number and no greater rank
  pub operand_lower : (i a : ℕ) (v : Vertex) → IsAmong (needed_of vs roots) i → slice_get vs i ≡ Some v → IsAmong v.args a → (a < i) × IsAmong (needed_of vs roots) a × (number_at (slice_get vs a) ≤ number_at (slice_get vs i)) × (rank_of vs a ≤ rank_of vs i)
  operand_lower i a v m e arg =
      let f = solved (λ s x. rows []) in
      let levelled = graph_ranks (λ s x. rows []) vs f.0 f.1 numbered plain_readings in
      let less = below_among i v.args a (ordered i v e) arg in
      let w = get_before vs i a v e less in
      let before = levelled.operands i a v w.0 e arg w.1 in
      let under = (needed_under vs roots ordered there i).0 m in
      let n : IsAmong (needed_of vs roots) a = (needed_under vs roots ordered there a).1 (under.0, under.1, further vs under.0 i a under.2 (through i a a v e arg (itself a))) in
      let ra = ranks (λ s x. rows []) vs f.0 made f.1 ordered numbered roots there a n in
      let ri = ranks (λ s x. rows []) vs f.0 made f.1 ordered numbered roots there i m in
      let r = before.1 in
      (less, n, before.0, omega (arith, r, ra, ri))

  pub small_operand : (i a : ℕ) (v : Vertex) → slice_get vs i ≡ Some v → store_at vs i ≡ None → IsAmong v.args a → IsSmall vs a
  small_operand i a v e none arg = elim (some_or_none (store_of (shape_at vs a).space)) [
    | inl s ↦ s
    | inr w ↦
        let arg_at : IsAmong (args_of (slice_get vs i)) a = subst (λ o. IsAmong (args_of o) a) (sym e) arg in
        let some = (one_datastore vs made i w.0 v e).1 (inr (a, arg_at, w.1)) in
        let q : None ≡ Some w.0 = sym none ∙ some in
        absurd (cc)
  ]

  module _ (k j : ℕ) (c q : Option Fault) (old new : Known) (n : ℕ) (at : slice_get (needed_of vs roots) j ≡ Some n) (ranks_known : AreKnown vs roots (2 * k) c old) (so : RestSoFar vs (needed_of vs roots) k j c q old new) (none : store_at vs n ≡ None) (rank : rank_of vs n ≡ 2 * k + 1) (below : IsBelowAt vs c n) where
    n_needed : IsAmong (needed_of vs roots) n
    n_needed = place_among (needed_of vs roots) j n at

    -- what of an operand is known, where it isn't among those done at this rank
    pub operand_state : (a : ℕ) (v : Vertex) → slice_get vs n ≡ Some v → IsAmong v.args a → IsBelowAt vs c a × (IsKnown new a ⊎ (AreDone (needed_of vs roots) j a × (rank_of vs a ≡ 2 * k + 1)))
    operand_state a v e arg =
        let low = operand_lower n a v n_needed e arg in
        let number = low.2 in
        let bc : IsBelowAt vs c a = below_more c (number_at (slice_get vs a)) (number_at (slice_get vs n)) number below in
        let r = low.3 in (
          bc,
          elim (split (rank_of vs a) (2 * k) (omega (arith, r, rank))) [
            | inl under ↦ inl (so.stay a (ranks_known a low.1 under bc (inl (small_operand n a v e none arg))))
            | inr same ↦ inr (operand_before vs roots a n j low.1 at low.0, same)
          ],
        )

    lacking : (q' : Option Fault) → IsBelow q (number_at (slice_get vs n)) → LacksOperand vs new n → ⊥
    lacking q' bq (v, a, e, arg, gone) =
        let s = operand_state a v e arg in
        let low = operand_lower n a v n_needed e arg in
        let ba : IsBelowAt vs q a = below_more q (number_at (slice_get vs a)) (number_at (slice_get vs n)) low.2 bq in
        let is : IsKnown new a = elim s.1 [ inl here ↦ here | inr w ↦ so.added a w.0 w.1 s.0 ba ] in
        let x : Some is.0 ≡ None = sym is.1 ∙ gone in
        absurd (cc)

    pub rest_more : (x : Option value.Fault) (q' : Option Fault) (after : Known) → IsPut vs n x new after → q' ≡ earlier q (Rattle.std.specs.Prelude.option_map fault_seen x) → RestSoFar vs (needed_of vs roots) k (j + 1) c q' old after
    rest_more x q' after put e = record {
      fit = put.fit;
      stay = λ i w. put.stay i (so.stay i w);
      added = λ i w r bc bq. elim (done_next (needed_of vs roots) j n i at w) [
        | inl before ↦ put.stay i (so.added i before r bc (below_left q _ _ (subst (λ y. IsBelowAt vs y i) e bq)))
        | inr same ↦ subst (IsKnown after) (sym same) (here x put.put (subst (λ y. IsBelowAt vs y n) e (subst (IsBelowAt vs q') same bq)))
      ];
      carries = λ i b. put.carries i b ∙ so.carries i b;
    }
      where
        here : (x : Option value.Fault) → IsPutOr vs n x new after → IsBelowAt vs (earlier q (Rattle.std.specs.Prelude.option_map fault_seen x)) n → IsKnown after n
        here None p b = elim p [ inl is ↦ is | inr gone ↦ absurd (lacking q' (below_left q None _ b) gone) ]
        here (Some y) p b = (let l = below_right q (Some (fault_seen y)) _ b in absurd (omega (arith, l, p)))

  pub rest_done : (k : ℕ) (c q : Option Fault) (old new : Known) → AreKnown vs roots (2 * k) c old → RestSoFar vs (needed_of vs roots) k (length (needed_of vs roots)) c q old new → IsAfter vs roots (2 * k + 1) (earlier q c) new
  rest_done k c q old new are so = record {
    fit = so.fit;
    ranks = λ i m l b lasts. elim (split (rank_of vs i) (2 * k) l) [
      | inl low ↦ so.stay i (are i m low (below_right q c _ b) lasts)
      | inr here ↦ so.added i (among_place (needed_of vs roots) i m) here (below_right q c _ b) (below_left q c _ b)
    ];
  }

  earlier_none : (q : Option Fault) → earlier q None ≡ q
  earlier_none None = refl
  earlier_none (Some x) = refl

  -- one node more
  pub rest_stepped : (k j : ℕ) (c q q' : Option Fault) (old new after : Known) (n : ℕ) (x : Option value.Fault) → slice_get (needed_of vs roots) j ≡ Some n → AreKnown vs roots (2 * k) c old → RestSoFar vs (needed_of vs roots) k j c q old new
      → StepsRest vs k c n x new after → q' ≡ earlier q (Rattle.std.specs.Prelude.option_map fault_seen x) → RestSoFar vs (needed_of vs roots) k (j + 1) c q' old after
  rest_stepped k j c q q' old new after n x at are so (inl w) e =
      let same : q' ≡ q = e ∙ (ap (λ y. earlier q (Rattle.std.specs.Prelude.option_map fault_seen y)) w.1 ∙ earlier_none q) in
      subst (λ y. RestSoFar vs (needed_of vs roots) k (j + 1) c y old after) (sym same) (subst (λ (z : Known). RestSoFar vs (needed_of vs roots) k (j + 1) c q old z) (sym w.2) (rest_skip vs (needed_of vs roots) k j c q old new n at (skipped vs k c n w.0) so))
  rest_stepped k j c q q' old new after n x at are so (inr w) e =
      let t = Rattle.tall_semantics.proofs.Basics.both (is_rest vs k n) (is_below_at vs c n) w.0 in
      let r = is_rest_told vs k n t.0 in
      rest_more k j c q old new n at are so r.0 r.1 (Rattle.tall_gather.proofs.WorkLaws.below_told c (number_at (slice_get vs n)) t.1) x q' after w.1 e

-- ---- where the shelf tells its files

pub record RestHolds (vs : List Vertex) (f : ℕ → Tall) (roots : List ℕ) (k : ℕ) (c : Option Fault) (j : ℕ) (q : Option Fault) (new : Known) : Type 0 where
  pub fault_is : IsLeast (own_in vs f) (λ i. IsWork (ranked_nodes vs f) (IsAmong (needed_of vs roots)) (2 * k + 1) c i × AreDone (needed_of vs roots) j i) q
  pub shown : AreShown f new
  pub failed : (i : ℕ) → AreDone (needed_of vs roots) j i → IsWork (ranked_nodes vs f) (IsAmong (needed_of vs roots)) (2 * k + 1) c i → IsKnown new i ⊎ ((x : Fault) × (fault_in f i ≡ Some x))

module _ (columns : Columns) (vs : List Vertex) (f : ℕ → Tall) (made : IsMade vs) (ordered : IsOrdered vs) (numbered : AreNumbered vs) (solved : (columns : Columns) → (f : ℕ → Tall) × IsMeaning columns vs f) (meaning : IsMeaning columns vs f) (roots : List ℕ) (there : AreThere vs roots) (k : ℕ) (c : Option Fault) where
  abbrev Work : ℕ → Type 0
  Work i = IsWork (ranked_nodes vs f) (IsAmong (needed_of vs roots)) (2 * k + 1) c i

  pub holds_first : (known : Known) → AreShown f known → RestHolds vs f roots k c 0 None known
  holds_first known shown = record {
    fault_is = record { one = λ x e. absurd (cc); least = λ i y w own. absurd (let l = w.1.1 in omega (arith, l)) };
    shown = shown;
    failed = λ i w. absurd (let l = w.1 in omega (arith, l));
  }

  no_fault : (x : Outcome) (cs : List Seen) → IsOutcome x cs → fault_of x ≡ None
  no_fault (rows rs) cs h = refl
  no_fault (scalar d) cs h = refl
  no_fault (fault y) cs h = absurd h

  own_none : (i : ℕ) → fault_in f i ≡ None → own_in vs f i ≡ None
  own_none i e = by (slice_get vs i)
    where
      from : (o : Option Fault) → own_fault o (fault_in f i) ≡ None
      from None = e
      from (Some y) = refl

      by : (o : Option Vertex) → own_at f o i ≡ None
      by None = refl
      by (Some v) = from (least_in f v.args)

  own_under : (i : ℕ) (v : Vertex) (a : ℕ) (x : Fault) → slice_get vs i ≡ Some v → IsAmong v.args a → fault_in f a ≡ Some x → (own_in vs f i ≡ None) × ((y : Fault) × (fault_in f i ≡ Some y))
  own_under i v a x e arg ea =
      let most = least_all (fault_in f) v.args a x arg (subst (λ o. AtMost o x) (sym ea) (at_most_itself x)) in
      let some = AtMost_some (least_in f v.args) x most in
      let here : own_in vs f i ≡ own_fault (least_in f v.args) (fault_in f i) = ap (λ (o : Option Vertex). own_at f o i) e in
      (here ∙ ap (λ o. own_fault o (fault_in f i)) some.1, (some.0, passed columns v.at v.made f v.args (f i) some.0 (meaning i v e) some.1))

  module _ (j : ℕ) (q : Option Fault) (old new : Known) (n : ℕ) (at : slice_get (needed_of vs roots) j ≡ Some n) (are : AreKnown vs roots (2 * k) c old) (so : RestSoFar vs (needed_of vs roots) k j c q old new) (holds : RestHolds vs f roots k c j q new) where
    told_skip : IsSkipped vs k c n → RestHolds vs f roots k c (j + 1) q new
    told_skip skip = record {
      fault_is = record {
        one = λ x e. (let w = holds.fault_is.one x e in (w.0, (w.1.0, done_more (needed_of vs roots) j w.0 w.1.1), w.2));
        least = λ i y w own. holds.fault_is.least i y (w.0, before i w.0 w.1) own;
      };
      shown = holds.shown;
      failed = λ i w work. holds.failed i (before i work w) work;
    }
      where
        before : (i : ℕ) → Work i → AreDone (needed_of vs roots) (j + 1) i → AreDone (needed_of vs roots) j i
        before i work w = elim (done_next (needed_of vs roots) j n i at w) [
          | inl b ↦ b
          | inr same ↦
              let r : rank_of vs i ≡ 2 * k + 1 = sym (ranks columns vs f made meaning ordered numbered roots there i work.0) ∙ work.1 in
              absurd (skip (subst (λ x. rank_of vs x ≡ 2 * k + 1) same r) (subst (IsBelowAt vs c) same work.2))
        ]

    -- nothing fails by itself here, or one fault more
    told_one : (o : Option Fault) (q' : Option Fault) (after : Known) → own_in vs f n ≡ o → q' ≡ earlier q o → Work n → AreShown f after → ((i : ℕ) → IsKnown new i → IsKnown after i) → IsKnown after n ⊎ ((x : Fault) × (fault_in f n ≡ Some x)) → RestHolds vs f roots k c (j + 1) q' after
    told_one o q' after own e work shown stay last = record {
      fault_is = subst (IsLeast (own_in vs f) (λ i. Work i × AreDone (needed_of vs roots) (j + 1) i)) (sym e) (record {
        one = λ x h. (let w = both.one x h in (w.0, wider w.0 w.1, w.2));
        least = λ i y w h. both.least i y (narrower i w) h;
      });
      shown = shown;
      failed = λ i w u. elim (done_next (needed_of vs roots) j n i at w) [
        | inl b ↦ elim (holds.failed i b u) [ inl is ↦ inl (stay i is) | inr x ↦ inr x ]
        | inr same ↦ subst (λ m. IsKnown after m ⊎ ((x : Fault) × (fault_in f m ≡ Some x))) (sym same) last
      ];
    }
      where
        alone : (o : Option Fault) → own_in vs f n ≡ o → IsLeast (own_in vs f) (λ i. i ≡ n) o
        alone None own = record { one = λ x h. absurd (cc); least = λ i y w h. absurd (let z : None ≡ Some y = sym own ∙ (ap (own_in vs f) (sym w) ∙ h) in cc) }
        alone (Some x) own = record {
          one = λ y h. (n, refl, own ∙ h);
          least = λ i y w h. (let z : Some x ≡ Some y = sym own ∙ (ap (own_in vs f) (sym w) ∙ h) in subst (AtMost (Some x)) (inside x y z) (at_most_itself x));
        }

        both : IsLeast (own_in vs f) (λ i. (Work i × AreDone (needed_of vs roots) j i) ⊎ (i ≡ n)) (earlier q o)
        both = joined (own_in vs f) (λ i. Work i × AreDone (needed_of vs roots) j i) (λ i. i ≡ n) q o holds.fault_is (alone o own)

        wider : (i : ℕ) → (Work i × AreDone (needed_of vs roots) j i) ⊎ (i ≡ n) → Work i × AreDone (needed_of vs roots) (j + 1) i
        wider i w = elim w [ inl h ↦ (h.0, done_more (needed_of vs roots) j i h.1) | inr same ↦ (subst Work (sym same) work, (j, omega arith, at ∙ ap Some (sym same))) ]

        narrower : (i : ℕ) → Work i × AreDone (needed_of vs roots) (j + 1) i → (Work i × AreDone (needed_of vs roots) j i) ⊎ (i ≡ n)
        narrower i w = elim (done_next (needed_of vs roots) j n i at w.1) [ inl b ↦ inl (w.0, b) | inr same ↦ inr same ]

    pub told_stepped : (x : Option value.Fault) (q' : Option Fault) (after : Known) → StepsRest vs k c n x new after → q' ≡ earlier q (Rattle.std.specs.Prelude.option_map fault_seen x) → TellsPut vs f n x after → RestHolds vs f roots k c (j + 1) q' after
    told_stepped x q' after (inl w) e tells =
        let same : q' ≡ q = e ∙ (ap (λ y. earlier q (Rattle.std.specs.Prelude.option_map fault_seen y)) w.1 ∙ earlier_none vs made ordered numbered solved roots there q) in
        subst (λ y. RestHolds vs f roots k c (j + 1) y after) (sym same) (subst (λ (z : Known). RestHolds vs f roots k c (j + 1) q z) (sym w.2) (told_skip (skipped vs k c n w.0)))
    told_stepped x q' after (inr w) e tells = by x w.1 w.1.put e tells
      where
        t : (is_rest vs k n ≡ true) × (is_below_at vs c n ≡ true)
        t = Rattle.tall_semantics.proofs.Basics.both (is_rest vs k n) (is_below_at vs c n) w.0

        r : (store_at vs n ≡ None) × (rank_of vs n ≡ 2 * k + 1)
        r = is_rest_told vs k n t.0

        b : IsBelowAt vs c n
        b = Rattle.tall_gather.proofs.WorkLaws.below_told c (number_at (slice_get vs n)) t.1

        work : Work n
        work = (place_among (needed_of vs roots) j n at, ranks columns vs f made meaning ordered numbered roots there n (place_among (needed_of vs roots) j n at) ∙ r.1, b)

        lacks : LacksOperand vs new n → (own_in vs f n ≡ None) × ((y : Fault) × (fault_in f n ≡ Some y))
        lacks (v, a, ev, arg, gone) =
            let s = operand_state vs made ordered numbered solved roots there k j c q old new n at are so r.0 r.1 b a v ev arg in
            let low = operand_lower vs made ordered numbered solved roots there n a v (place_among (needed_of vs roots) j n at) ev arg in
            elim s.1 [
              | inl here ↦ (let z : Some here.0 ≡ None = sym here.1 ∙ gone in absurd (cc))
              | inr done ↦ elim (holds.failed a done.0 (low.1, ranks columns vs f made meaning ordered numbered roots there a low.1 ∙ done.1, s.0)) [
                | inl here ↦ (let z : Some here.0 ≡ None = sym here.1 ∙ gone in absurd (cc))
                | inr y ↦ own_under n v a y.0 ev arg y.1
              ]
            ]

        by : (x : Option value.Fault) → IsPut vs n x new after → IsPutOr vs n x new after → q' ≡ earlier q (Rattle.std.specs.Prelude.option_map fault_seen x) → TellsPut vs f n x after → RestHolds vs f roots k c (j + 1) q' after
        by (Some y) put p e tells = told_one (Some (fault_seen y)) q' after tells.1 e work tells.0 put.stay (inr (fault_seen y, own_fault_in y tells.1))
          where
            own_fault_in : (y : value.Fault) → own_in vs f n ≡ Some (fault_seen y) → fault_in f n ≡ Some (fault_seen y)
            own_fault_in y own =
                let v = needed_there vs made roots there n (place_among (needed_of vs roots) j n at) in
                let here : own_fault (least_in f v.0.args) (fault_in f n) ≡ Some (fault_seen y) = sym (ap (λ (o : Option Vertex). own_at f o n) v.1) ∙ own in
                (Rattle.tall_semantics.proofs.OriginLaws.own_is (least_in f v.0.args) (fault_in f n) (fault_seen y) here).1
        by None put (inl is) e tells = told_one None q' after (own_none n (no_fault (f n).outcome is.0.column.cells (tells n is.0 is.1).cells)) e work tells put.stay (inl is)
        by None put (inr gone) e tells = (let z = lacks gone in told_one None q' after z.0 e work tells put.stay (inr z.1))

  -- behind all of them
  pub told_rest : (files : Files) (list : List Store) (stores : List SeenStore) (counts : List (List (Option ℕ))) (q : Option Fault) (old new : Known) → IsTold files list columns vs f stores → Holds files list vs f roots stores (2 * k) c old counts
      → RestSoFar vs (needed_of vs roots) k (length (needed_of vs roots)) c q old new → RestHolds vs f roots k c (length (needed_of vs roots)) q new → Holds files list vs f roots stores (2 * k + 1) (earlier q c) new counts
  told_rest files list stores counts q old new told holds so rest = record {
    candidate = next.candidate;
    right = record { results = rest.shown; carries = λ i b x e. holds.right.carries i b x (sym (so.carries i b) ∙ e) };
    carried = λ i b m scan l low. so.carries i b ∙ holds.carried i b m scan (even (shape_at vs i).chain l) (below_right q c _ low);
    counted = holds.counted;
  }
    where
      even : (n : ℕ) → 2 * n ≤ 2 * k + 1 → 2 * n ≤ 2 * k
      even n l = omega (arith, l)

      found : IsLeast (own_in vs f) (IsWork (ranked_nodes vs f) (IsAmong (needed_of vs roots)) (2 * k + 1) c) q
      found = record {
        one = λ x e. (let w = rest.fault_is.one x e in (w.0, w.1.0, w.2));
        least = λ i y w own. rest.fault_is.least i y (w, among_place (needed_of vs roots) i w.0) own;
      }

      next : After (ranked_nodes vs f) (IsAmong (needed_of vs roots)) (IsAmong (needed_of vs roots)) (2 * k + 1) (earlier q c)
      next = step (ranked_nodes vs f) (IsAmong (needed_of vs roots)) (IsAmong (needed_of vs roots)) (IsAmong (needed_of vs roots)) (2 * k) c q
          (graph_ranks columns vs f meaning numbered (are_readings files list vs columns told.stored)).numbered
          (record { known = λ i u b. u.0; candidate = holds.candidate })
          (record { kept = λ i w. w; more = λ i w b. w.0; found = found })

-- the loop over the needed nodes
pub record RestLoop (vs : List Vertex) (roots : List ℕ) (k : ℕ) (c : Option Fault) (old : Known) (j : ℕ) (new : Known) (found : Option Candidate) : Type 0 where
  pub so : RestSoFar vs (needed_of vs roots) k j c (seen found) old new
  pub data_alone : IsOfData found
  pub told : (columns : Columns) (f : ℕ → Tall) → IsComputed columns vs f → AreShown f old → RestHolds vs f roots k c j (seen found) new

data_earlier : (p q r : Option Candidate) → (r ≡ p) ⊎ (r ≡ q) → IsOfData p → IsOfData q → IsOfData r
data_earlier p q r (inl e) h g = subst IsOfData (sym e) h
data_earlier p q r (inr e) h g = subst IsOfData (sym e) g

pub loop_first : (vs : List Vertex) (roots : List ℕ) (k : ℕ) (c : Option Fault) (known : Known) → AreFit vs known → RestLoop vs roots k c known 0 known None
loop_first vs roots k c known fit = record {
  so = rest_first vs (needed_of vs roots) k c known fit;
  data_alone = tt;
  told = λ columns f computed shown. record {
    fault_is = record { one = λ x e. absurd (cc); least = λ i y w own. absurd (let l = w.1.1 in omega (arith, l)) };
    shown = shown;
    failed = λ i w. absurd (let l = w.1 in omega (arith, l));
  };
}

module _ (vs : List Vertex) (made : IsMade vs) (ordered : IsOrdered vs) (numbered : AreNumbered vs) (solved : (columns : Columns) → (f : ℕ → Tall) × IsMeaning columns vs f) (roots : List ℕ) (there : AreThere vs roots) (k : ℕ) (c : Option Fault) (old : Known) where
  pub loop_next : (j : ℕ) (new after : Known) (found extra r : Option Candidate) (n : ℕ) (x : Option value.Fault) → slice_get (needed_of vs roots) j ≡ Some n → AreKnown vs roots (2 * k) c old → RestLoop vs roots k c old j new found
      → StepsRest vs k c n x new after → ((columns : Columns) (f : ℕ → Tall) → IsComputed columns vs f → AreShown f new → TellsPut vs f n x after)
      → seen extra ≡ Rattle.std.specs.Prelude.option_map fault_seen x → IsOfData extra → seen r ≡ earlier (seen found) (seen extra) → (r ≡ found) ⊎ (r ≡ extra) → RestLoop vs roots k c old (j + 1) after r
  loop_next j new after found extra r n x at are loop steps tells ex data_extra er which =
      let e : seen r ≡ earlier (seen found) (Rattle.std.specs.Prelude.option_map fault_seen x) = er ∙ ap (earlier (seen found)) ex in
      record {
        so = rest_stepped vs made ordered numbered solved roots there k j c (seen found) (seen r) old new after n x at are loop.so steps e;
        data_alone = data_earlier found extra r which loop.data_alone data_extra;
        told = λ columns f computed shown.
            let before = loop.told columns f computed shown in
            told_stepped columns vs f made ordered numbered solved computed.meaning roots there k c j (seen found) old new n at are loop.so before x (seen r) after steps e (tells columns f computed before.shown);
      }
