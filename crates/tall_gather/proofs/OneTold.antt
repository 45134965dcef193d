-- One pass of a gather where the shelf tells its files: what its answer says of the level's work.
use Rattle.std.specs.Prelude.{◌≡◌, refl, ℕ, ◌<◌, ◌≤◌, ◌+◌, ◌*◌, ◌-◌, ◌⊎◌, true, false, Option, None, Some, Ok, List, [], ◌∷◌, map, slice_get}
use Rattle.std.proofs.Common.{ap, sym, subst, ◌∙◌, arith, inl, inr}
use Rattle.std.proofs.Math.ListN.{set}
use Rattle.tall_core.proofs.Lists.{get_set_cases}
use Rattle.tall_outside.specs.Shelf.{Files}
use Rattle.tall_value.specs.Cells.{Seen}
use Rattle.tall_semantics.specs.Operations.{Made, stored, operation}
use Rattle.tall_semantics.specs.Faults.{Fault, precedes}
use Rattle.tall_semantics.specs.Outcomes.{fault, fault_of}
use Rattle.tall_semantics.specs.Talls.{Columns, Tall}
use Rattle.tall_semantics.specs.Spaces.{Space, single, rows_of, filtered, first, last, groups, has_rows, store_of}
use Rattle.tall_semantics.specs.Spaces as spaces
use Rattle.tall_semantics.specs.Shapes.{Shape, level}
use Rattle.tall_semantics.specs.ShapesInOrder.{IsMade, shape_at}
use Rattle.tall_semantics.specs.Deferred.{Vertex, AreThere, DependsOn, IsAmong, IsMeaning, IsOrdered, Under, fault_in, least_in, own_fault, own_in}
use Rattle.tall_semantics.specs.Least.{AtMost, IsBelow, IsLeast}
use Rattle.tall_semantics.specs.Levels.{IsWork, UpTo}
use Rattle.tall_semantics.specs.Numbered.{AreNumbered, number_at}
use Rattle.tall_semantics.specs.Plans.{is_scan_at, needed_of, store_at, work_of}
use Rattle.tall_semantics.specs.Ranks.{ranks_in}
use Rattle.tall_semantics.specs.Reach.{IsOfStore}
use Rattle.tall_semantics.specs.ScanLevels.{scans_by, chain_ranks_in}
use Rattle.tall_semantics.proofs.Basics.{inside, and_true}
use Rattle.tall_semantics.proofs.CandidateLaws.{further, graph_ranks}
use Rattle.tall_semantics.proofs.OrderLaws.{by_number, never_itself}
use Rattle.tall_semantics.proofs.OriginLaws.{AtMost_some, least_all, origin_least}
use Rattle.tall_semantics.proofs.PlanLaws.{needed_there, needed_under}
use Rattle.tall_semantics.proofs.ReachLaws.{inverted, not_before_the_call, reads_decided}
use Rattle.tall_semantics.proofs.ScanLevelLaws.{scans_by_ranks}
use Rattle.tall_semantics.proofs.ShapesInOrderLaws.{shapes_mean, value_shape}
use Rattle.tall_blocks.specs.PassWork.{IsDueOf, IsEndOf, IsWorkOf}
use Rattle.tall_blocks.proofs.LevelWorkLaws.{plan_work, rest_is}
use Rattle.tall_store.specs.declared.faults.ReadingFault.{ReadingFault}
use Rattle.tall_store.specs.Stored.{first_fault}
use Rattle.tall_store.specs.Stores.{SeenStore}
use Rattle.tall_stored.specs.StoredColumns.{AreStored, Store, fault_of_reading}
use Rattle.tall_stored.proofs.StoredLaws.{are_readings}
use Rattle.tall_stored_blocks.proofs.StoredBlockLaws.{reading_there}
use Rattle.tall_fuse.specs.Kept.{carry}
use Rattle.tall_fuse.specs.declared.known.Known.{Known}
use Rattle.tall_plan.specs.declared.passes.Pass.{Pass}
use Rattle.tall_pass.specs.Answered.{Adding, IsUnchanged}
use Rattle.tall_pass.specs.Counts.{AreCounted}
use Rattle.tall_pass.specs.PassPlans.{IsBelowAt}
use Rattle.tall_pass.specs.Told.{AreRight, IsDone, IsOwnWork, defined_carry}
use Rattle.tall_gather.specs.Progress.{IsPlannedPass, rank_of}
use Rattle.tall_gather.specs.Told.{AreCountedAll, Holds, PassHolds, ranked_nodes}
use Rattle.tall_gather.proofs.OnePass.{IsPart, none_below_call, part_work, work_of_part}
use Rattle.tall_gather.proofs.WorkLaws.{in_work, some_or_none, rank_none, rank_some, work_is, work_reaches}

pub with_rows : (u : Space) (s : ℕ) → store_of u ≡ Some s → has_rows u ≡ true
with_rows single s h = absurd (cc)
with_rows (rows_of t) s h = refl
with_rows (filtered u m) s h = with_rows u s h
with_rows (first k u) s h = absurd (cc)
with_rows (last k u) s h = absurd (cc)
with_rows (spaces.distinct t) s h = absurd (cc)
with_rows (groups m k d) s h = absurd (cc)

pub there_or_none : {A : Type 0} (o : Option A) → (o ≡ None) ⊎ ((x : A) × (o ≡ Some x))
there_or_none None = inl refl
there_or_none (Some x) = inr (x, refl)

pub counted_set : (files : Files) (seen : List SeenStore) (counts : List (List (Option ℕ))) (s : ℕ) (d : SeenStore) (new : List (Option ℕ)) → AreCountedAll files seen counts → slice_get seen s ≡ Some d → AreCounted files d new → AreCountedAll files seen (set counts s new)
counted_set files seen counts s d new all at right t x ns atx an = elim (get_set_cases counts s t new ns an) [
  | inl here ↦
      let dx : d ≡ x = inside d x (sym at ∙ (ap (slice_get seen) (sym here.0) ∙ atx)) in
      subst (λ ms. AreCounted files x ms) here.1 (subst (λ y. AreCounted files y new) dx right)
  | inr else ↦ all t x ns atx else.1
]

-- ---- carries that were there

pub carry_stays : (vs : List Vertex) (f : ℕ → Tall) (files : Files) (stores : List Store) (old new : Known) → AreRight vs f files stores new
    → ((i b : ℕ) (x : Seen) → carry old i b ≡ Some x → (carry new i b ≡ Some x) ⊎ (carry new i b ≡ defined_carry vs f files stores i b))
    → (i b : ℕ) → carry old i b ≡ defined_carry vs f files stores i b → carry new i b ≡ defined_carry vs f files stores i b
carry_stays vs f files stores old new right stay i b e = elim (there_or_none (carry old i b)) [
  | inr some ↦ elim (stay i b some.0 some.1) [ inl n ↦ n ∙ (sym some.1 ∙ e) | inr d ↦ d ]
  | inl none ↦ elim (there_or_none (carry new i b)) [
    | inl n ↦ n ∙ (sym none ∙ e)
    | inr n ↦ (let q : None ≡ Some n.0 = sym none ∙ (e ∙ right.carries i b n.0 n.1) in absurd (cc))
  ]
]

module _ (columns : Columns) (vs : List Vertex) (f : ℕ → Tall) (made : IsMade vs) (meaning : IsMeaning columns vs f) (ordered : IsOrdered vs) (numbered : AreNumbered vs) (roots : List ℕ) (there : AreThere vs roots) where
  needed_here : AreThere vs (needed_of vs roots)
  needed_here i m = needed_there vs made roots there i m

  shape_is : (i : ℕ) (v : Vertex) → slice_get vs i ≡ Some v → (f i).shape ≡ shape_at vs i
  shape_is = value_shape columns vs f made meaning

  abbrev pub Of : (c : Option Fault) (s k i : ℕ) → Type 0
  Of c s k i = IsWorkOf s vs f (ranks_in vs f) (needed_of vs roots) (2 * k) c i ⊎ IsEndOf s vs f (ranks_in vs f) (needed_of vs roots) (2 * k) c i

  -- ---- ranks

  pub ranks : (i : ℕ) → IsAmong (needed_of vs roots) i → ranks_in vs f i ≡ rank_of vs i
  ranks i m = elim (some_or_none (store_at vs i)) [
    | inl none ↦ (let w = (rest_is columns vs f made meaning ordered (needed_of vs roots) needed_here None (level (shape_at vs i)) i).0 (in_rest none, tt) in w.1 ∙ sym (rank_none vs i none))
    | inr some ↦ elim ((plan_work columns vs f made meaning ordered (needed_of vs roots) needed_here None some.0 (level (shape_at vs i)) i).0 (in_work vs some.0 i (needed_of vs roots) m some.1, tt)) [
      | inl of ↦ elim of [ inl own ↦ own.0.1 ∙ sym (rank_some vs i some.0 some.1) | inr end ↦ end.0.1 ∙ sym (rank_some vs i some.0 some.1) ]
      | inr due ↦ absurd (not_due some.0 due)
    ]
  ]
    where
      in_rest : store_at vs i ≡ None → IsAmong (Rattle.tall_blocks.specs.LevelWork.rest_of vs (needed_of vs roots) (level (shape_at vs i))) i
      in_rest none =
          let t : Rattle.tall_blocks.specs.LevelWork.is_no_store (store_at vs i) ≡ true = ap Rattle.tall_blocks.specs.LevelWork.is_no_store none in
          (Rattle.tall_semantics.proofs.PlanLaws.among_filter (Rattle.tall_blocks.specs.LevelWork.is_rest vs (level (shape_at vs i))) (needed_of vs roots) i).1 (m, and_true _ _ t ((Rattle.std.proofs.lemmas.Bool.Decides.Decides-eqb (level (shape_at vs i)) (level (shape_at vs i))).1 refl))

      not_due : (s : ℕ) → IsDueOf s vs f (chain_ranks_in f) (needed_of vs roots) (2 * level (shape_at vs i)) None i → ⊥
      not_due s due =
          let v = needed_here i m in
          let rows : has_rows (shape_at vs i).space ≡ true = with_rows (shape_at vs i).space s (ap (λ (x : Shape). store_of x.space) (sym (shape_is i v.0 v.1)) ∙ due.2) in
          let chain : (f i).shape.chain ≡ (shape_at vs i).chain = ap (λ (x : Shape). x.chain) (shape_is i v.0 v.1) in
          let l : level (shape_at vs i) ≡ (shape_at vs i).chain + 1 = simp rows refl in
          let e = due.3 in
          omega (arith, e, chain, l)

  -- a scan that a pass goes over for its carries is no work of its rank
  not_own_due : (c : Option Fault) (s k i : ℕ) → IsAmong (needed_of vs roots) i → ranks_in vs f i ≡ 2 * k → IsDueOf s vs f (chain_ranks_in f) (needed_of vs roots) (2 * k) c i → ⊥
  not_own_due c s k i m r due =
      let scans = scans_by_ranks columns vs f meaning ordered in
      let is : (scans_by vs f (chain_ranks_in f)).is_scan i ≡ true = and_true (is_scan_at (slice_get vs i)) (has_rows (f i).shape.space) due.1 (with_rows (f i).shape.space s due.2) in
      let l = scans.before i is in
      let e = due.3 in
      omega (arith, l, e, r)

  module _ (c : Option Fault) (pass part : Pass) (plan : IsPlannedPass vs roots pass) (is : IsPart vs c pass part) where
    abbrev pub Level : ℕ → Type 0
    Level i = IsWork (ranked_nodes vs f) (IsAmong (needed_of vs roots)) (2 * pass.level) c i × IsAmong pass.work.items i

    own_to : (i : ℕ) → IsOwnWork vs f roots c part i → Of c pass.store pass.level i
    own_to i w = subst (λ k. Of c pass.store k i) is.level (subst (λ s. Of c s part.level i) is.store w)

    to_own : (i : ℕ) → Of c pass.store pass.level i → IsOwnWork vs f roots c part i
    to_own i w = subst (λ s. Of c s part.level i) (sym is.store) (subst (λ k. Of c pass.store k i) (sym is.level) w)

    of_work : (i : ℕ) → Of c pass.store pass.level i → IsWork (ranked_nodes vs f) (IsAmong (needed_of vs roots)) (2 * pass.level) c i
    of_work i w = elim w [ inl own ↦ own.0 | inr end ↦ end.0 ]

    level_of_own : (i : ℕ) → IsOwnWork vs f roots c part i → Level i
    level_of_own i w =
        let of = own_to i w in
        let m = (plan_work columns vs f made meaning ordered (needed_of vs roots) needed_here c pass.store pass.level i).1 (inl of) in
        (of_work i of, subst (λ xs. IsAmong xs i) (sym plan.work) m.0)

    own_of_level : (i : ℕ) → Level i → IsOwnWork vs f roots c part i
    own_of_level i w = elim ((plan_work columns vs f made meaning ordered (needed_of vs roots) needed_here c pass.store pass.level i).0 (subst (λ xs. IsAmong xs i) plan.work w.1, w.0.2)) [
      | inl of ↦ to_own i of
      | inr due ↦ absurd (not_own_due c pass.store pass.level i w.0.0 w.0.1 due)
    ]

    level_fault : (p : Option Fault) → IsLeast (own_in vs f) (IsOwnWork vs f roots c part) p → IsLeast (own_in vs f) Level p
    level_fault p l = record {
      one = λ x e. (let w = l.one x e in (w.0, level_of_own w.0 w.1, w.2));
      least = λ i y w own. l.least i y (own_of_level i w) own;
    }

    module _ (files : Files) (list : List Store) (seen : List SeenStore) (old new : Known) (counts : List (List (Option ℕ))) (holds : Holds files list vs f roots seen (2 * pass.level - 1) c old counts) where
      pub told_done : (store : SeenStore) (p : Option Fault) → (now : List (Option ℕ)) → slice_get seen pass.store ≡ Some store → AreCounted files store now → Adding vs part p old new → IsDone files list vs f roots c part store p new
          → PassHolds files list vs f roots seen pass c p old new (set counts pass.store now)
      told_done store p now at right a done = record {
        fault = level_fault p done.fault;
        right = all_right;
        carried = λ i b m scan chain bc bp. done.carries i b (part_work vs c pass part is i m bc, scan, chain ∙ sym is.level, bp);
        carries_stay = carry_stays vs f files list old new all_right (λ i b x e. elim (a.carries_stay i b x e) [ inl n ↦ inl n | inr w ↦ inr (done.carries i b w) ]);
        counted = counted_set files seen counts pass.store store now holds.counted at right;
      }
        where
          all_right : AreRight vs f files list new
          all_right = record {
            results = λ i r e. elim (a.results i r e) [ inl o ↦ holds.right.results i r o | inr w ↦ done.results i r w.0 e ];
            carries = λ i b x e. elim (a.carries i b x e) [ inl o ↦ holds.right.carries i b x o | inr w ↦ sym (done.carries i b w.0) ∙ e ];
          }

      -- nothing was done, since nothing is numbered below p
      pub told_nothing : (p : Option Fault) (after : List (List (Option ℕ))) → IsUnchanged old new → IsLeast (own_in vs f) Level p → ((i : ℕ) → IsAmong pass.work.items i → IsBelowAt vs c i → IsBelowAt vs p i → ⊥) → AreCountedAll files seen after
          → PassHolds files list vs f roots seen pass c p old new after
      told_nothing p after same least none counted = record {
        fault = least;
        right = record {
          results = λ i r e. holds.right.results i r (sym (same.results i) ∙ e);
          carries = λ i b x e. holds.right.carries i b x (sym (same.carries i b) ∙ e);
        };
        carried = λ i b m scan chain bc bp. absurd (none i m bc bp);
        carries_stay = λ i b e. same.carries i b ∙ e;
        counted = counted;
      }

    pub no_work : ((i : ℕ) → IsAmong pass.work.items i → IsBelowAt vs c i → ⊥) → IsLeast (own_in vs f) Level None
    no_work none = record {
      one = λ x e. absurd (cc);
      least = λ i y w own. absurd (none i w.1 w.0.2);
    }

    -- ---- a reading fault

    module _ (files : Files) (list : List Store) (d : Store) (stored_are : AreStored files list vs columns) (at : slice_get list pass.store ≡ Some d) (g : ReadingFault) (first : first_fault d.store files ≡ Some g) where
      abbrev the_fault : Fault
      the_fault = fault_of_reading pass.store d.at g

      no_args : (v : Vertex) (m : Made) (x : Tall) → IsOfStore pass.store m → Rattle.tall_semantics.specs.Talls.made_tall columns v.at m (map f v.args) ≡ Ok x → v.args ≡ []
      no_args v (stored s a k) x o e = by v.args e
        where
          by : (args : List ℕ) → Rattle.tall_semantics.specs.Talls.made_tall columns v.at (stored s a k) (map f args) ≡ Ok x → args ≡ []
          by [] q = refl
          by (b ∷ bs) q = absurd (cc)
      no_args v (operation op) x o e = absurd o

      -- a variable of the datastore has the fault
      variable_fault : (j : ℕ) (v : Vertex) (m : Made) → slice_get vs j ≡ Some v → v.made ≡ m → IsOfStore pass.store m → fault_in f j ≡ Some the_fault
      variable_fault j v (stored s a k) e em o =
          let there_is : columns pass.store a ≡ fault the_fault = reading_there files list vs columns stored_are pass.store d at g first j v a k e (em ∙ ap (λ n. stored n a k) (sym o)) in
          let mean : Rattle.tall_semantics.specs.Talls.made_tall columns v.at (stored s a k) (map f v.args) ≡ Ok (f j) = subst (λ (x : Made). Rattle.tall_semantics.specs.Talls.made_tall columns v.at x (map f v.args) ≡ Ok (f j)) em (meaning j v e) in
          let none = no_args v (stored s a k) (f j) o mean in
          let plain : Rattle.tall_semantics.specs.Talls.made_tall columns v.at (stored s a k) [] ≡ Ok (f j) = subst (λ (xs : List ℕ). Rattle.tall_semantics.specs.Talls.made_tall columns v.at (stored s a k) (map f xs) ≡ Ok (f j)) none mean in
          let is_value : Rattle.tall_semantics.specs.Talls.stored_tall s a k (columns s a) ≡ f j = ok_inside _ _ plain in
          ap (λ (x : Tall). fault_of x.outcome) (sym is_value) ∙ (ap (λ n. fault_of (columns n a)) (sym o) ∙ ap fault_of there_is)
        where
          ok_inside : (x y : Tall) → Rattle.tall_semantics.proofs.MeaningLaws.tall_ok x ≡ Ok y → x ≡ y
          ok_inside x y q = cc
      variable_fault j v (operation op) e em o = absurd o

      own_variable : (j : ℕ) (v : Vertex) → slice_get vs j ≡ Some v → IsOfStore pass.store v.made → own_in vs f j ≡ Some the_fault
      own_variable j v e o =
          let none = no_args v v.made (f j) o (meaning j v e) in
          let here : own_in vs f j ≡ own_fault (least_in f v.args) (fault_in f j) = ap (λ (x : Option Vertex). Rattle.tall_semantics.specs.Deferred.own_at f x j) e in
          here ∙ (ap (λ (xs : List ℕ). own_fault (least_in f xs) (fault_in f j)) none ∙ variable_fault j v v.made e refl o)

      -- what is made of a variable of the datastore has a fault, and not its own but for the variable
      own_is : (i j : ℕ) (v : Vertex) (y : Fault) → DependsOn vs i j → slice_get vs j ≡ Some v → IsOfStore pass.store v.made → own_in vs f i ≡ Some y → AtMost (Some the_fault) y
      own_is i j v y on e o own = elim (inverted vs i j on) [
        | inl same ↦
            let one : Some the_fault ≡ Some y = sym (own_variable j v e o) ∙ (ap (own_in vs f) (sym same) ∙ own) in
            let xy : the_fault ≡ y = inside the_fault y one in
            subst (λ z. precedes z the_fault ≡ false) xy (never_itself the_fault)
        | inr w ↦ absurd (by_operand w.0 w.1 w.2 w.3 w.4)
      ]
        where
          by_operand : (a : ℕ) (u : Vertex) → slice_get vs i ≡ Some u → IsAmong u.args a → DependsOn vs a j → ⊥
          by_operand a u eu m dep =
              let most = origin_least columns vs f meaning ordered a j the_fault dep (own_variable j v e o) in
              let all = least_all (fault_in f) u.args a the_fault m most in
              let some = AtMost_some (least_in f u.args) the_fault all in
              let here : own_in vs f i ≡ own_fault (least_in f u.args) (fault_in f i) = ap (λ (x : Option Vertex). Rattle.tall_semantics.specs.Deferred.own_at f x i) eu in
              let q : own_fault (Some some.0) (fault_in f i) ≡ Some y = ap (λ x. own_fault x (fault_in f i)) (sym some.1) ∙ (sym here ∙ own) in
              cc

      variable_level : (j : ℕ) (v : Vertex) (m : Made) → slice_get vs j ≡ Some v → v.made ≡ m → IsOfStore pass.store m → (level (shape_at vs j) ≡ 1) × (store_at vs j ≡ Some pass.store)
      variable_level j v (stored s a k) e em o =
          let mean : Rattle.tall_semantics.specs.ShapesInOrder.made_shape (stored s a k) (map (shape_at vs) v.args) ≡ Ok (shape_at vs j) = subst (λ (x : Made). Rattle.tall_semantics.specs.ShapesInOrder.made_shape x (map (shape_at vs) v.args) ≡ Ok (shape_at vs j)) em (shapes_mean vs made j v e) in
          let value = subst (λ (x : Made). Rattle.tall_semantics.specs.Talls.made_tall columns v.at x (map f v.args) ≡ Ok (f j)) em (meaning j v e) in
          let none = no_args v (stored s a k) (f j) o value in
          let plain : Rattle.tall_semantics.specs.ShapesInOrder.made_shape (stored s a k) [] ≡ Ok (shape_at vs j) = subst (λ (xs : List ℕ). Rattle.tall_semantics.specs.ShapesInOrder.made_shape (stored s a k) (map (shape_at vs) xs) ≡ Ok (shape_at vs j)) none mean in
          let shape : Rattle.tall_semantics.specs.Shapes.stored_shape s a k ≡ shape_at vs j = shape_inside _ _ plain in
          (ap level (sym shape), Rattle.tall_gather.proofs.OnePass.own_store vs j pass.store (ap (λ (x : Shape). store_of x.space) (sym shape) ∙ ap Some (sym o)))
        where
          shape_inside : (x y : Shape) → Rattle.tall_semantics.proofs.ShapeLaws.shape_ok x ≡ Ok y → x ≡ y
          shape_inside x y q = cc
      variable_level j v (operation op) e em o = absurd o

      -- the fault of the datastore is the least of the pass's work, which some of its work is numbered below the candidate of
      pub reading_least : (p : Fault) → p ≡ the_fault → (w : ℕ) → IsAmong pass.work.items w → IsBelowAt vs c w → IsLeast (own_in vs f) (UpTo (ranked_nodes vs f) (IsAmong (needed_of vs roots)) (2 * pass.level - 1)) c → IsLeast (own_in vs f) Level (Some p)
      reading_least p same w m b candidate = record { one = one; least = least }
        where
          work_at : (i : ℕ) → IsAmong pass.work.items i → IsAmong (needed_of vs roots) i × (store_at vs i ≡ Some pass.store)
          work_at i n = (let u = work_is vs pass.store pass.level i (needed_of vs roots) (subst (λ xs. IsAmong xs i) plan.work n) in (u.0, u.1))

          least : (i : ℕ) (y : Fault) → Level i → own_in vs f i ≡ Some y → AtMost (Some p) y
          least i y l own =
              let u = work_at i l.1 in
              let v = needed_here i u.0 in
              let r = work_reaches vs made i pass.store v.0 v.1 u.1 in
              subst (λ x. AtMost (Some x) y) (sym same) (own_is i r.0 r.1 y r.2 r.3 r.4 own)

          one : (x : Fault) → Some p ≡ Some x → (i : ℕ) × Level i × (own_in vs f i ≡ Some x)
          one x e =
              let u = work_at w m in
              let v = needed_here w u.0 in
              let r = work_reaches vs made w pass.store v.0 v.1 u.1 in
              let under = (needed_under vs roots ordered there w).0 u.0 in
              let n : IsAmong (needed_of vs roots) r.0 = (needed_under vs roots ordered there r.0).1 (under.0, under.1, further vs under.0 w r.0 under.2 r.2) in
              let l = variable_level r.0 r.1 r.1.made r.3 refl r.4 in
              let own = own_variable r.0 r.1 r.3 r.4 in
              let rank : ranks_in vs f r.0 ≡ 2 = ranks r.0 n ∙ (rank_some vs r.0 pass.store l.1 ∙ ap (λ k. 2 * k) l.0) in
              let lower : r.1.at.number ≤ v.0.at.number = not_before_the_call vs made numbered pass.store w r.0 v.0 r.1 v.1 r.3 r.4 ((reads_decided vs made pass.store w v.0 v.1).1 r) in
              let at_j : number_at (slice_get vs r.0) ≡ r.1.at.number = ap number_at r.3 in
              let at_w : number_at (slice_get vs w) ≡ v.0.at.number = ap number_at v.1 in
              let below_j : IsBelowAt vs c r.0 = Rattle.tall_blocks.proofs.PassWorkLaws.below_more c (number_at (slice_get vs r.0)) (number_at (slice_get vs w)) (omega (arith, lower, at_j, at_w)) b in
              let k : pass.level ≡ 1 = first_level r.0 r.1 n rank r.3 own below_j in
              let in_pass : IsAmong pass.work.items r.0 = subst (λ xs. IsAmong xs r.0) (sym plan.work) (subst (λ j. IsAmong (work_of vs (needed_of vs roots) pass.store j) r.0) (l.0 ∙ sym k) (in_work vs pass.store r.0 (needed_of vs roots) n l.1)) in
              (r.0, ((n, rank ∙ ap (λ j. 2 * j) (sym k), below_j), in_pass), own ∙ (ap Some (sym same) ∙ e))
            where
              first_level : (j : ℕ) (u : Vertex) → IsAmong (needed_of vs roots) j → ranks_in vs f j ≡ 2 → slice_get vs j ≡ Some u → own_in vs f j ≡ Some the_fault → IsBelowAt vs c j → pass.level ≡ 1
              first_level j u n rank e own bj = elim (Rattle.tall_semantics.proofs.LevelLaws.compare pass.level 1) [
                | inl less ↦ (let l = plan.level in omega (arith, l, less))
                | inr (inl more) ↦
                    let most = candidate.least j the_fault (n, omega (arith, rank, more)) own in
                    let some = AtMost_some c the_fault most in
                    let not_before : precedes the_fault some.0 ≡ false = subst (λ o. AtMost o the_fault) some.1 most in
                    let low = by_number some.0 the_fault not_before in
                    let under : number_at (slice_get vs j) < some.0.number = subst (λ o. IsBelow o (number_at (slice_get vs j))) some.1 bj in
                    let number : the_fault.number ≡ number_at (slice_get vs j) = (graph_ranks columns vs f meaning numbered (are_readings files list vs columns stored_are)).numbered.by_number j the_fault own in
                    absurd (omega (arith, low, under, number))
                | inr (inr same) ↦ same
              ]
