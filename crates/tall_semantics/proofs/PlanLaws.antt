-- A plan's passes: each needed value with a datastore stands in the pass of its level, and there are no more passes over a
-- datastore than the roots that read it ask for.
use Rattle.std.specs.Prelude.{◌≡◌, refl, ℕ, zero, suc, ◌<◌, ◌≤◌, ◌+◌, ◌⊎◌, ◌↔◌, Bool, true, false, ◌&&◌, ◌||◌, ◌==◌, if◌then◌else◌, Option, None, Some, List, [], ◌∷◌, ◌++◌, length, map, slice_get}
use Rattle.std.proofs.Common.{ap, sym, subst, ◌∙◌, arith, inl, inr}
use Rattle.std.specs.List.{filter}
use Rattle.std.proofs.lemmas.Option.{slice_get_within}
use Rattle.tall_value.specs.declared.class.Class.{Class}
use Rattle.tall_semantics.specs.Operations.{Op, scan, Made, stored, operation, reads}
use Rattle.tall_semantics.specs.Spaces.{Space, has_rows, store_of}
use Rattle.tall_semantics.specs.Spaces as spaces
use Rattle.tall_semantics.specs.Shapes.{Shape, level, greatest_level, place_of}
use Rattle.tall_semantics.specs.Openings.{any_reads, share}
use Rattle.tall_semantics.specs.Deferred.{Vertex, IsOrdered, IsAmong, DependsOn, itself, through, Under, AreUnder, AreThere}
use Rattle.tall_semantics.specs.Passes.{Pass, pass_of, passes_at, passes_up_to, of_store}
use Rattle.tall_semantics.specs.ShapesInOrder.{made_shape, shape_at, IsMade}
use Rattle.tall_semantics.specs.Reach.{IsOfStore}
use Rattle.tall_semantics.specs.Plans.{is_among, args_of, needed_below, needed_of, or_else, first_store, store_at, is_store, is_scan, is_scan_at, is_of_level, is_work, work_of, above_store, stores_in, plan_of, IsPass, IsPlanned, HasRowsOf}
use Rattle.tall_semantics.proofs.Basics.{inside, both, and_true}
use Rattle.tall_semantics.proofs.VariantLaws.{number_is, same_number}
use Rattle.tall_semantics.proofs.OriginLaws.{get_before, below_among}
use Rattle.tall_semantics.proofs.LevelLaws.{among_both}
use Rattle.tall_semantics.proofs.CandidateLaws.{further}
use Rattle.tall_semantics.proofs.PassLaws as passes
use Rattle.tall_semantics.proofs.ShapeLaws.{IsOneOf, shape_ok, shaped_is, no_deeper, at_rows, below_greatest}
use Rattle.tall_semantics.proofs.ShapesInOrderLaws.{made_ordered, shapes_mean}
use Rattle.tall_semantics.proofs.ReachLaws.{HasStore, any_of, of_any, one_of_args, args_one_of, store_from, stores_agree, inverted, placed_at, reads_decided, rows_read, operand_read}

-- ---- what is needed

among_is : (a : ℕ) (xs : List ℕ) → is_among a xs ≡ true → IsAmong xs a
among_is a xs h = (let w = any_of (λ x. x == a) xs h in subst (IsAmong xs) (number_is w.0 a w.2) w.1)

is_there : (a : ℕ) (xs : List ℕ) → IsAmong xs a → is_among a xs ≡ true
is_there a xs h = of_any (λ x. x == a) xs a h (same_number a)

-- a marked place below n, on which the value depends
abbrev UnderBelow : List Vertex → ℕ → List ℕ → ℕ → Type 0
UnderBelow vs n marked j = (m : ℕ) × (m < n) × IsAmong marked m × DependsOn vs m j

module _ (vs : List Vertex) (ordered : IsOrdered vs) where
  args_before : (n a : ℕ) → IsAmong (args_of (slice_get vs n)) a → (v : Vertex) × (slice_get vs n ≡ Some v) × IsAmong v.args a × (a < n)
  args_before n a h = of_option (slice_get vs n) refl h
    where
      of_option : (o : Option Vertex) → slice_get vs n ≡ o → IsAmong (args_of o) a → (v : Vertex) × (slice_get vs n ≡ Some v) × IsAmong v.args a × (a < n)
      of_option None e h = absurd h
      of_option (Some v) e h = (v, e, h, below_among n v.args a (ordered n v e) h)

  add_step : (n : ℕ) (marked : List ℕ) (j : ℕ) → UnderBelow vs n marked j → UnderBelow vs (suc n) marked j
  add_step n marked j u = (u.0, omega (arith, u.1), u.2, u.3)

  Exact : ℕ → List ℕ → Type 0
  Exact n marked = (j : ℕ) → IsAmong (needed_below vs n marked) j ↔ UnderBelow vs n marked j

  marked_step : (n : ℕ) (marked : List ℕ) → IsAmong marked n → Exact n (args_of (slice_get vs n) ++ marked) → (j : ℕ) → IsAmong (needed_below vs n (args_of (slice_get vs n) ++ marked) ++ n ∷ []) j ↔ UnderBelow vs (suc n) marked j
  unfolding Exact
  marked_step n marked here exact j = (from, to)
    where
      from : IsAmong (needed_below vs n (args_of (slice_get vs n) ++ marked) ++ n ∷ []) j → UnderBelow vs (suc n) marked j
      from h = elim ((among_both (needed_below vs n (args_of (slice_get vs n) ++ marked)) (n ∷ []) j).0 h) [
        | inl low ↦
            let u = (exact j).0 low in
            elim ((among_both (args_of (slice_get vs n)) marked u.0).0 u.2) [
              | inl arg ↦ (let b = args_before n u.0 arg in (n, omega (arith), here, through n u.0 j b.0 b.1 b.2 u.3))
              | inr old ↦ (u.0, omega (arith, u.1), old, u.3)
            ]
        | inr last ↦ elim last [
          | inl e ↦ (n, omega (arith), here, subst (DependsOn vs n) e (itself n))
          | inr none ↦ absurd none
        ]
      ]

      below : (m : ℕ) → m < suc n → (m < n) ⊎ (m ≡ n)
      below m l = grind (arith, l)

      args_there : (v : Vertex) (a : ℕ) → slice_get vs n ≡ Some v → IsAmong v.args a → IsAmong (args_of (slice_get vs n)) a
      args_there v a e h = subst (λ o. IsAmong (args_of o) a) (sym e) h

      to : UnderBelow vs (suc n) marked j → IsAmong (needed_below vs n (args_of (slice_get vs n) ++ marked) ++ n ∷ []) j
      to u = elim (below u.0 u.1) [
        | inl low ↦ (among_both (needed_below vs n (args_of (slice_get vs n) ++ marked)) (n ∷ []) j).1 (inl ((exact j).1 (u.0, low, (among_both (args_of (slice_get vs n)) marked u.0).1 (inr u.2), u.3)))
        | inr top ↦ elim (inverted vs u.0 j u.3) [
          | inl same ↦ (among_both (needed_below vs n (args_of (slice_get vs n) ++ marked)) (n ∷ []) j).1 (inr (inl (sym top ∙ same)))
          | inr more ↦
              let e : slice_get vs n ≡ Some more.1 = ap (slice_get vs) (sym top) ∙ more.2 in
              let l : more.0 < n = below_among n more.1.args more.0 (ordered n more.1 e) more.3 in
              (among_both (needed_below vs n (args_of (slice_get vs n) ++ marked)) (n ∷ []) j).1
              (inl ((exact j).1 (more.0, l, (among_both (args_of (slice_get vs n)) marked more.0).1 (inl (args_there more.1 more.0 e more.3)), more.4)))
        ]
      ]

  not_marked : (n : ℕ) (marked : List ℕ) → is_among n marked ≡ false → (m : ℕ) → IsAmong marked m → m ≡ n → ⊥
  not_marked n marked out m h e = (let t : is_among n marked ≡ true = is_there n marked (subst (IsAmong marked) e h) in absurd (let q : true ≡ false = sym t ∙ out in cc))

  passed_step : (n : ℕ) (marked : List ℕ) → is_among n marked ≡ false → Exact n marked → (j : ℕ) → IsAmong (needed_below vs n marked) j ↔ UnderBelow vs (suc n) marked j
  unfolding Exact
  passed_step n marked out exact j = (λ h. add_step n marked j ((exact j).0 h), λ u. (exact j).1 (u.0, other u.0 u.1 (not_marked n marked out u.0 u.2), u.2, u.3))
    where
      other : (m : ℕ) → m < suc n → (m ≡ n → ⊥) → m < n
      other m l h = grind (arith, l, h)

  exact_below : (n : ℕ) (marked : List ℕ) → Exact n marked
  unfolding needed_below Exact
  exact_below zero marked j = (λ h. absurd h, λ u. absurd (omega (arith, u.1)))
  exact_below (suc n) marked j = by_test (is_among n marked) refl (exact_below n (args_of (slice_get vs n) ++ marked)) (exact_below n marked)
    where
      by_test : (b : Bool) → is_among n marked ≡ b → Exact n (args_of (slice_get vs n) ++ marked) → Exact n marked → IsAmong (if b then needed_below vs n (args_of (slice_get vs n) ++ marked) ++ n ∷ [] else needed_below vs n marked) j ↔ UnderBelow vs (suc n) marked j
      by_test true e more same = marked_step n marked (among_is n marked e) more j
      by_test false e more same = passed_step n marked e same j

  pub needed_exact : (roots : List ℕ) → AreThere vs roots → AreUnder vs roots (needed_of vs roots)
  unfolding Exact
  needed_exact roots there j = (
    λ h. (let u = (exact_below (length vs) roots j).0 h in (u.0, u.2, u.3)),
    λ u. (let w = there u.0 u.1 in (exact_below (length vs) roots j).1 (u.0, slice_get_within vs u.0 w.0 w.1, u.1, u.2)),
  )

-- ---- levels

module _ (vs : List Vertex) (made : IsMade vs) where
  operation_shape : (i : ℕ) (v : Vertex) (op : Op) → slice_get vs i ≡ Some v → v.made ≡ operation op → made_shape (operation op) (map (shape_at vs) v.args) ≡ shape_ok (shape_at vs i)
  operation_shape i v op e q = subst (λ m. made_shape m (map (shape_at vs) v.args) ≡ shape_ok (shape_at vs i)) q (shapes_mean vs made i v e)

  no_args : (i : ℕ) (v : Vertex) (s b : ℕ) (c : Class) → slice_get vs i ≡ Some v → v.made ≡ stored s b c → v.args ≡ []
  no_args i v s b c e q = of_args v.args (subst (λ m. made_shape m (map (shape_at vs) v.args) ≡ shape_ok (shape_at vs i)) q (shapes_mean vs made i v e))
    where
      of_args : (args : List ℕ) → made_shape (stored s b c) (map (shape_at vs) args) ≡ shape_ok (shape_at vs i) → args ≡ []
      of_args [] h = refl
      of_args (a ∷ args) h = absurd (cc)

  operand_level : (i a : ℕ) (v : Vertex) (m : Made) → slice_get vs i ≡ Some v → v.made ≡ m → IsAmong v.args a → level (shape_at vs a) ≤ level (shape_at vs i)
  operand_level i a v (stored s b c) e q h = absurd (subst (λ args. IsAmong args a) (no_args i v s b c e q) h)
  operand_level i a v (operation op) e q h = no_deeper op (map (shape_at vs) v.args) (shape_at vs i) (shape_at vs a) (operation_shape i v op e q) (args_one_of (shape_at vs) v.args a h)

  level_along : (i j : ℕ) → DependsOn vs i j → level (shape_at vs j) ≤ level (shape_at vs i)
  level_along i j (itself k) = omega (arith)
  level_along i j (through k a l v e among d) =
      let one : level (shape_at vs a) ≤ level (shape_at vs k) = operand_level k a v v.made e refl among in
      let more : level (shape_at vs l) ≤ level (shape_at vs a) = level_along a l d in
      omega (arith, one, more)

  under_level : (roots : List ℕ) (i : ℕ) → Under vs roots i → level (shape_at vs i) ≤ greatest_level (map (shape_at vs) roots)
  under_level roots i u =
      let low : level (shape_at vs i) ≤ level (shape_at vs u.0) = level_along u.0 i u.2 in
      let top : level (shape_at vs u.0) ≤ greatest_level (map (shape_at vs) roots) = below_greatest (map (shape_at vs) roots) (shape_at vs u.0) (args_one_of (shape_at vs) roots u.0 u.1) in
      omega (arith, low, top)

  pub needed_level : (roots : List ℕ) → AreThere vs roots → (i : ℕ) → IsAmong (needed_of vs roots) i → level (shape_at vs i) ≤ greatest_level (map (shape_at vs) roots)
  needed_level roots there i h = under_level roots i ((needed_exact vs (made_ordered vs made) roots there i).0 h)

  pub needed_there : (roots : List ℕ) → AreThere vs roots → (i : ℕ) → IsAmong (needed_of vs roots) i → (v : Vertex) × (slice_get vs i ≡ Some v)
  needed_there roots there i h =
      let u = (needed_exact vs (made_ordered vs made) roots there i).0 h in
      let r = there u.0 u.1 in
      along u.0 i r.0 r.1 u.2
    where
      along : (r i : ℕ) (v : Vertex) → slice_get vs r ≡ Some v → DependsOn vs r i → (w : Vertex) × (slice_get vs i ≡ Some w)
      along r i v e (itself k) = (v, e)
      along r i v e (through k a l u f among d) =
          let b = get_before vs k a v e (below_among k u.args a (made_ordered vs made k u f) among) in
          along a l b.0 b.1 d

-- ---- one datastore

first_or_more : (x : Shape) (xs : List Shape) (s : ℕ) (o : Option ℕ) → store_of x.space ≡ o → or_else o (first_store xs) ≡ Some s → (first_store xs ≡ Some s → (y : Shape) × IsOneOf xs y × HasStore s y) → (y : Shape) × IsOneOf (x ∷ xs) y × HasStore s y
first_or_more x xs s (Some t) e h more = (x, inl refl, e ∙ h)
first_or_more x xs s None e h more = (let w = more h in (w.0, inr w.1, w.2))

first_has : (xs : List Shape) (s : ℕ) → first_store xs ≡ Some s → (x : Shape) × IsOneOf xs x × HasStore s x
first_has [] s h = absurd (cc)
first_has (x ∷ xs) s h = first_or_more x xs s (store_of x.space) refl h (λ g. first_has xs s g)

abbrev Agree : List Shape → Type 0
Agree xs = (s t : ℕ) (x y : Shape) → IsOneOf xs x → IsOneOf xs y → HasStore s x → HasStore t y → s ≡ t

rest_agrees : (y : Shape) (ys : List Shape) → Agree (y ∷ ys) → Agree ys
rest_agrees y ys agree s t x z i j = agree s t x z (inr i) (inr j)

first_step : (y : Shape) (ys : List Shape) (s : ℕ) (x : Shape) (o : Option ℕ) → store_of y.space ≡ o → Agree (y ∷ ys) → IsOneOf (y ∷ ys) x → HasStore s x → (IsOneOf ys x → first_store ys ≡ Some s) → or_else o (first_store ys) ≡ Some s
first_step y ys s x (Some t) e agree i h more = ap Some (agree t s y x (inl refl) i e h)
first_step y ys s x None e agree i h more = elim i [
  | inl q ↦ absurd (let z : None ≡ Some s = sym e ∙ (ap (λ (w : Shape). store_of w.space) q ∙ h) in cc)
  | inr r ↦ more r
]

first_agrees : (xs : List Shape) (s : ℕ) (x : Shape) → Agree xs → IsOneOf xs x → HasStore s x → first_store xs ≡ Some s
first_agrees [] s x agree i h = absurd i
first_agrees (y ∷ ys) s x agree i h = first_step y ys s x (store_of y.space) refl agree i h (λ r. first_agrees ys s x (rest_agrees y ys agree) r h)

module _ (vs : List Vertex) (made : IsMade vs) where
  -- an operand has the datastore of the value's rows
  own_from : (i : ℕ) (v : Vertex) (op : Op) (s : ℕ) → slice_get vs i ≡ Some v → v.made ≡ operation op → store_of (shape_at vs i).space ≡ Some s → (x : Shape) × IsOneOf (map (shape_at vs) v.args) x × HasStore s x
  own_from i v op s e q h = (let p = placed_at vs made i v op e q in store_from s op (map (shape_at vs) v.args) p.0 p.1 (ap store_of p.2 ∙ h))

  operation_agrees : (i : ℕ) (v : Vertex) (op : Op) → slice_get vs i ≡ Some v → v.made ≡ operation op → Agree (shape_at vs i ∷ map (shape_at vs) v.args)
  operation_agrees i v op e q s t x y a b g h =
      let p = placed_at vs made i v op e q in
      let xs = map (shape_at vs) v.args in
      let u = as_operand s x a g in
      let w = as_operand t y b h in
      stores_agree op xs p.0 p.1 s t u.0 w.0 u.1 w.1 u.2 w.2
    where
      as_operand : (s : ℕ) (x : Shape) → IsOneOf (shape_at vs i ∷ map (shape_at vs) v.args) x → HasStore s x → (z : Shape) × IsOneOf (map (shape_at vs) v.args) z × HasStore s z
      as_operand s x a g = elim a [
        | inl own ↦ own_from i v op s e q (ap (λ (w : Shape). store_of w.space) own ∙ g)
        | inr arg ↦ (x, arg, g)
      ]

  all_agree : (i : ℕ) (v : Vertex) (m : Made) → slice_get vs i ≡ Some v → v.made ≡ m → Agree (shape_at vs i ∷ map (shape_at vs) v.args)
  all_agree i v (operation op) e q = operation_agrees i v op e q
  all_agree i v (stored d b c) e q = subst (λ args. Agree (shape_at vs i ∷ map (shape_at vs) args)) (sym (no_args vs made i v d b c e q)) alone
    where
      alone : Agree (shape_at vs i ∷ [])
      alone s t x y a b g h = elim a [
        | inl p ↦ elim b [ inl r ↦ inside s t (sym g ∙ (ap (λ (w : Shape). store_of w.space) (sym p ∙ r) ∙ h)) | inr n ↦ absurd n ]
        | inr n ↦ absurd n
      ]

  pub one_datastore : (i s : ℕ) (v : Vertex) → slice_get vs i ≡ Some v → (store_at vs i ≡ Some s) ↔ HasRowsOf vs s i
  one_datastore i s v e = (from, to)
    where
      from : store_at vs i ≡ Some s → HasRowsOf vs s i
      from h =
          let w = first_has (shape_at vs i ∷ map (shape_at vs) (args_of (slice_get vs i))) s h in
          elim w.1 [
            | inl own ↦ inl (ap (λ (x : Shape). store_of x.space) own ∙ w.2)
            | inr arg ↦ (let a = one_of_args (shape_at vs) (args_of (slice_get vs i)) w.0 arg in inr (a.0, a.1, ap (λ (x : Shape). store_of x.space) a.2 ∙ w.2))
          ]

      agree : Agree (shape_at vs i ∷ map (shape_at vs) (args_of (slice_get vs i)))
      agree = subst (λ o. Agree (shape_at vs i ∷ map (shape_at vs) (args_of o))) (sym e) (all_agree i v v.made e refl)

      to : HasRowsOf vs s i → store_at vs i ≡ Some s
      to h = elim h [
        | inl own ↦ first_agrees (shape_at vs i ∷ map (shape_at vs) (args_of (slice_get vs i))) s (shape_at vs i) agree (inl refl) own
        | inr arg ↦ first_agrees (shape_at vs i ∷ map (shape_at vs) (args_of (slice_get vs i))) s (shape_at vs arg.0) agree (inr (args_one_of (shape_at vs) (args_of (slice_get vs i)) arg.0 arg.1)) arg.2
      ]

  -- the datastore is read for the value
  store_read : (i s : ℕ) (v : Vertex) → slice_get vs i ≡ Some v → store_at vs i ≡ Some s → reads s (shape_at vs i).tree ≡ true
  store_read i s v e h = elim ((one_datastore i s v e).0 h) [
    | inl own ↦ rows_read vs made s i v e own
    | inr arg ↦
        let among : IsAmong v.args arg.0 = subst (λ o. IsAmong (args_of o) arg.0) e arg.1 in
        let b = get_before vs i arg.0 v e (below_among i v.args arg.0 (made_ordered vs made i v e) among) in
        operand_read vs made s i arg.0 v e among (rows_read vs made s arg.0 b.0 b.1 arg.2)
  ]

  root_reads : (roots : List ℕ) → AreThere vs roots → (i s : ℕ) → IsAmong (needed_of vs roots) i → store_at vs i ≡ Some s → (r : ℕ) × IsAmong roots r × (reads s (shape_at vs r).tree ≡ true)
  root_reads roots there i s h g =
      let w = needed_there vs made roots there i h in
      let u = (needed_exact vs (made_ordered vs made) roots there i).0 h in
      let r = there u.0 u.1 in
      let reach = (reads_decided vs made s i w.0 w.1).0 (store_read i s w.0 w.1 g) in
      (u.0, u.1, (reads_decided vs made s u.0 r.0 r.1).1 (reach.0, reach.1, further vs u.0 i reach.0 u.2 reach.2, reach.3, reach.4))

-- ---- lists of passes

pass_of_both : (ps qs : List Pass) (p : Pass) → IsPass (ps ++ qs) p → IsPass ps p ⊎ IsPass qs p
pass_of_both [] qs p h = inr h
pass_of_both (r ∷ ps) qs p h = elim h [
  | inl e ↦ inl (inl e)
  | inr more ↦ elim (pass_of_both ps qs p more) [ inl a ↦ inl (inr a) | inr b ↦ inr b ]
]

pass_left : (ps qs : List Pass) (p : Pass) → IsPass ps p → IsPass (ps ++ qs) p
pass_left [] qs p h = absurd h
pass_left (r ∷ ps) qs p h = elim h [ inl e ↦ inl e | inr more ↦ inr (pass_left ps qs p more) ]

pass_right : (ps qs : List Pass) (p : Pass) → IsPass qs p → IsPass (ps ++ qs) p
pass_right [] qs p h = h
pass_right (r ∷ ps) qs p h = inr (pass_right ps qs p h)

abbrev Stands : List Pass → (store level : ℕ) → List ℕ → Type 0
Stands ps s k ws = (p : Pass) × IsPass ps p × (p.store ≡ s) × (p.level ≡ k) × (p.work ≡ ws)

one_pass : (s k : ℕ) (ws : List ℕ) (i : ℕ) → IsAmong ws i → Stands (pass_of s k ws) s k ws
one_pass s k [] i h = absurd h
one_pass s k (w ∷ ws) i h = (record { store = s; level = k; work = w ∷ ws }, inl refl, refl, refl, refl)

of_one_pass : (s k : ℕ) (ws : List ℕ) (p : Pass) → IsPass (pass_of s k ws) p → (s ≡ p.store) × (k ≡ p.level) × (ws ≡ p.work)
of_one_pass s k [] p h = absurd h
of_one_pass s k (w ∷ ws) p h = elim h [
  | inl e ↦ (ap (λ (q : Pass). q.store) e, ap (λ (q : Pass). q.level) e, ap (λ (q : Pass). q.work) e)
  | inr none ↦ absurd none
]

left_stands : (ps qs : List Pass) (s k : ℕ) (ws : List ℕ) → Stands ps s k ws → Stands (ps ++ qs) s k ws
left_stands ps qs s k ws h = (h.0, pass_left ps qs h.0 h.1, h.2, h.3, h.4)

right_stands : (ps qs : List Pass) (s k : ℕ) (ws : List ℕ) → Stands qs s k ws → Stands (ps ++ qs) s k ws
right_stands ps qs s k ws h = (h.0, pass_right ps qs h.0 h.1, h.2, h.3, h.4)

up_to_one : (s n : ℕ) → s < suc n → (s < n) ⊎ (s ≡ n)
up_to_one s n l = grind (arith, l)

module _ (work : (store level : ℕ) → List ℕ) where
  stands_at : (s k n i : ℕ) → s < n → IsAmong (work s k) i → Stands (passes_at work k n) s k (work s k)
  unfolding passes_at
  stands_at s k zero i l h = absurd (omega (arith, l))
  stands_at s k (suc n) i l h = elim (up_to_one s n l) [
    | inl low ↦ left_stands (passes_at work k n) (pass_of n k (work n k)) s k (work s k) (stands_at s k n i low h)
    | inr same ↦
        right_stands (passes_at work k n) (pass_of n k (work n k)) s k (work s k)
        (subst (λ m. Stands (pass_of m k (work m k)) s k (work s k)) same (one_pass s k (work s k) i h))
  ]

  stands_up_to : (s n l k i : ℕ) → s < n → 1 ≤ l → l ≤ k → IsAmong (work s l) i → Stands (passes_up_to work n k) s l (work s l)
  unfolding passes_up_to
  stands_up_to s n l zero i b c d h = absurd (omega (arith, c, d))
  stands_up_to s n l (suc k) i b c d h = elim (up_to_one l (suc k) (omega (arith, d))) [
    | inl low ↦ left_stands (passes_up_to work n k) (passes_at work (suc k) n) s l (work s l) (stands_up_to s n l k i b c (omega (arith, low)) h)
    | inr same ↦
        right_stands (passes_up_to work n k) (passes_at work (suc k) n) s l (work s l)
        (subst (λ m. Stands (passes_at work m n) s l (work s l)) same (stands_at s l n i b h))
  ]

  work_at : (k n : ℕ) (p : Pass) → IsPass (passes_at work k n) p → (p.work ≡ work p.store p.level)
  unfolding passes_at
  work_at k zero p h = absurd h
  work_at k (suc n) p h = elim (pass_of_both (passes_at work k n) (pass_of n k (work n k)) p h) [
    | inl low ↦ work_at k n p low
    | inr last ↦ (let w = of_one_pass n k (work n k) p last in sym w.2 ∙ (ap (λ s. work s k) w.0 ∙ ap (work p.store) w.1))
  ]

  work_up_to : (n k : ℕ) (p : Pass) → IsPass (passes_up_to work n k) p → (p.work ≡ work p.store p.level)
  unfolding passes_up_to
  work_up_to n zero p h = absurd h
  work_up_to n (suc k) p h = elim (pass_of_both (passes_up_to work n k) (passes_at work (suc k) n) p h) [
    | inl low ↦ work_up_to n k p low
    | inr last ↦ work_at (suc k) n p last
  ]

  -- no pass over a datastore without work
  none_at : (s k n : ℕ) → work s k ≡ [] → of_store s (passes_at work k n) ≡ 0
  unfolding passes_at
  none_at s k zero e = refl
  none_at s k (suc n) e =
      let j : of_store s (passes_at work k n ++ pass_of n k (work n k)) ≡ of_store s (passes_at work k n) + of_store s (pass_of n k (work n k)) = passes.joined s (passes_at work k n) (pass_of n k (work n k)) in
      let o : of_store s (pass_of n k (work n k)) ≡ 0 = of_other n in
      omega (arith, j, o, none_at s k n e)
    where
      of_pass : (m : ℕ) (ws : List ℕ) → (m ≡ s → ws ≡ []) → of_store s (pass_of m k ws) ≡ 0
      of_pass m [] h = refl
      of_pass m (w ∷ ws) h = by_test (m == s) refl
        where
          by_test : (b : Bool) → (m == s) ≡ b → (if b then 1 else 0) + 0 ≡ 0
          by_test false g = refl
          by_test true g = absurd (let q : w ∷ ws ≡ [] = h (number_is m s g) in cc)

      of_other : (m : ℕ) → of_store s (pass_of m k (work m k)) ≡ 0
      of_other m = of_pass m (work m k) (λ q. ap (λ d. work d k) q ∙ e)

  none_up_to : (s n k : ℕ) → ((l : ℕ) → work s l ≡ []) → of_store s (passes_up_to work n k) ≡ 0
  unfolding passes_up_to
  none_up_to s n zero e = refl
  none_up_to s n (suc k) e =
      let j : of_store s (passes_up_to work n k ++ passes_at work (suc k) n) ≡ of_store s (passes_up_to work n k) + of_store s (passes_at work (suc k) n) = passes.joined s (passes_up_to work n k) (passes_at work (suc k) n) in
      omega (arith, j, none_up_to s n k e, none_at s (suc k) n (e (suc k)))

-- ---- the work

filter_step : (p : ℕ → Bool) (x : ℕ) (xs : List ℕ) (i : ℕ) (b : Bool) → p x ≡ b → (IsAmong (filter p xs) i ↔ (IsAmong xs i × (p i ≡ true))) → IsAmong (if b then x ∷ filter p xs else filter p xs) i ↔ (IsAmong (x ∷ xs) i × (p i ≡ true))
filter_step p x xs i true e more = (
  λ h. elim h [ inl q ↦ (inl q, ap p (sym q) ∙ e) | inr r ↦ (let w = more.0 r in (inr w.0, w.1)) ],
  λ h. elim h.0 [ inl q ↦ inl q | inr r ↦ inr (more.1 (r, h.1)) ],
)
filter_step p x xs i false e more = (
  λ h. (let w = more.0 h in (inr w.0, w.1)),
  λ h. elim h.0 [ inl q ↦ absurd (let z : false ≡ true = sym e ∙ (ap p q ∙ h.1) in cc) | inr r ↦ more.1 (r, h.1) ],
)

pub among_filter : (p : ℕ → Bool) (xs : List ℕ) (i : ℕ) → IsAmong (filter p xs) i ↔ (IsAmong xs i × (p i ≡ true))
among_filter p [] i = (λ h. absurd h, λ h. absurd h.0)
among_filter p (x ∷ xs) i = filter_step p x xs i (p x) refl (among_filter p xs i)

no_members : (xs : List ℕ) → ((i : ℕ) → IsAmong xs i → ⊥) → xs ≡ []
no_members [] h = refl
no_members (x ∷ xs) h = absurd (h x (inl refl))

store_is : (s : ℕ) (o : Option ℕ) → is_store s o ≡ true → o ≡ Some s
store_is s None h = absurd (cc)
store_is s (Some t) h = ap Some (number_is t s h)

is_its_store : (s : ℕ) (o : Option ℕ) → o ≡ Some s → is_store s o ≡ true
is_its_store s None h = absurd (cc)
is_its_store s (Some t) h = ap (λ k. k == s) (inside t s h) ∙ same_number s

or_first : (b d : Bool) → b ≡ true → (b || d) ≡ true
or_first true d h = refl
or_first false d h = absurd (cc)

or_second : (b d : Bool) → d ≡ true → (b || d) ≡ true
or_second true d h = refl
or_second false d h = h

stores_below : (vs : List Vertex) (j : ℕ) (w : Vertex) (s : ℕ) → slice_get vs j ≡ Some w → IsOfStore s w.made → s < stores_in vs
stores_below [] j w s e h = absurd (cc)
stores_below (v ∷ vs) zero w s e h =
    let q : s < above_store w.made = of_made w.made h in
    let r : above_store w.made ≡ above_store v.made = ap (λ (x : Vertex). above_store x.made) (sym (inside v w e)) in
    grind (arith, q, r)
  where
    of_made : (m : Made) → IsOfStore s m → s < above_store m
    of_made (stored t b c) g = omega (arith, g)
    of_made (operation op) g = absurd g
stores_below (v ∷ vs) (suc j) w s e h = (let q : s < stores_in vs = stores_below vs j w s e h in grind (arith, q))

has_store_rows : (u : Space) (s : ℕ) → store_of u ≡ Some s → has_rows u ≡ true
has_store_rows spaces.single s h = absurd (cc)
has_store_rows (spaces.rows_of t) s h = refl
has_store_rows (spaces.filtered u m) s h = has_store_rows u s h
has_store_rows (spaces.first k u) s h = absurd (cc)
has_store_rows (spaces.last k u) s h = absurd (cc)
has_store_rows (spaces.distinct t) s h = absurd (cc)
has_store_rows (spaces.groups m k d) s h = absurd (cc)

positive : (x : Shape) (s : ℕ) → HasStore s x → 1 ≤ level x
positive x s h = (let q : x.chain + 1 ≤ level x = at_rows (has_rows x.space) x.chain (has_store_rows x.space s h) in omega (arith, q))

level_or_less : (b : Bool) (n : ℕ) → n ≤ (if b then n + 1 else n)
level_or_less true n = omega (arith)
level_or_less false n = omega (arith)

module _ (vs : List Vertex) (made : IsMade vs) (roots : List ℕ) (there : AreThere vs roots) where
  levels_from_one : (i s : ℕ) (v : Vertex) → slice_get vs i ≡ Some v → store_at vs i ≡ Some s → 1 ≤ level (shape_at vs i)
  levels_from_one i s v e h = elim ((one_datastore vs made i s v e).0 h) [
    | inl own ↦ positive (shape_at vs i) s own
    | inr arg ↦
        let q : 1 ≤ level (shape_at vs arg.0) = positive (shape_at vs arg.0) s arg.2 in
        let l : level (shape_at vs arg.0) ≤ level (shape_at vs i) = operand_level vs made i arg.0 v v.made e refl (subst (λ o. IsAmong (args_of o) arg.0) e arg.1) in
        omega (arith, q, l)
  ]

  store_in : (i s : ℕ) (v : Vertex) → slice_get vs i ≡ Some v → store_at vs i ≡ Some s → s < stores_in vs
  store_in i s v e h = (let r = (reads_decided vs made s i v e).0 (store_read vs made i s v e h) in stores_below vs r.0 r.1 s r.3 r.4)

  planned_at : (i s k : ℕ) (v : Vertex) → IsAmong (needed_of vs roots) i → slice_get vs i ≡ Some v → store_at vs i ≡ Some s → is_of_level vs k i ≡ true → 1 ≤ k → k ≤ greatest_level (map (shape_at vs) roots) → IsPlanned vs roots s k i
  planned_at i s k v n e h o low high =
      let test : is_work vs s k i ≡ true = and_true (is_store s (store_at vs i)) (is_of_level vs k i) (is_its_store s (store_at vs i) h) o in
      let among : IsAmong (work_of vs (needed_of vs roots) s k) i = (among_filter (is_work vs s k) (needed_of vs roots) i).1 (n, test) in
      let p = stands_up_to (work_of vs (needed_of vs roots)) s (stores_in vs) k (greatest_level (map (shape_at vs) roots)) i (store_in i s v e h) low high among in
      (p.0, p.1, p.2, p.3, subst (λ ws. IsAmong ws i) (sym p.4) among)

  pub planned : (i s : ℕ) → IsAmong (needed_of vs roots) i → store_at vs i ≡ Some s → IsPlanned vs roots s (level (shape_at vs i)) i
  planned i s n h =
      let w = needed_there vs made roots there i n in
      planned_at i s (level (shape_at vs i)) w.0 n w.1 h
      (or_first (level (shape_at vs i) == level (shape_at vs i)) (is_scan_at (slice_get vs i) && (shape_at vs i).chain == level (shape_at vs i)) (same_number (level (shape_at vs i))))
      (levels_from_one i s w.0 w.1 h) (needed_level vs made roots there i n)

  scan_chain : (i s : ℕ) (v : Vertex) → slice_get vs i ≡ Some v → is_scan v.made ≡ true → store_at vs i ≡ Some s → 1 ≤ (shape_at vs i).chain
  scan_chain i s v e t h = of_made v.made refl t
    where
      operand : (op : Op) → v.made ≡ operation op → (x : Shape) × IsOneOf (map (shape_at vs) v.args) x × HasStore s x
      operand op q = elim ((one_datastore vs made i s v e).0 h) [
        | inl own ↦ own_from vs made i v op s e q own
        | inr arg ↦ (shape_at vs arg.0, args_one_of (shape_at vs) v.args arg.0 (subst (λ o. IsAmong (args_of o) arg.0) e arg.1), arg.2)
      ]

      of_made : (m : Made) → v.made ≡ m → is_scan m ≡ true → 1 ≤ (shape_at vs i).chain
      of_made (operation (scan f)) q z =
          let x = operand (scan f) q in
          let w = shaped_is (scan f) (map (shape_at vs) v.args) (place_of (scan f) (map (shape_at vs) v.args)) (shape_at vs i) (operation_shape vs made i v (scan f) e q) in
          let g : level x.0 ≤ greatest_level (map (shape_at vs) v.args) = below_greatest (map (shape_at vs) v.args) x.0 x.1 in
          let p : 1 ≤ level x.0 = positive x.0 s x.2 in
          subst (λ (y : Shape). 1 ≤ y.chain) w.2 (omega (arith, g, p))
      of_made m q z = absurd (cc)

  pub carried : (i s : ℕ) → IsAmong (needed_of vs roots) i → store_at vs i ≡ Some s → is_scan_at (slice_get vs i) ≡ true → IsPlanned vs roots s (shape_at vs i).chain i
  carried i s n h t =
      let w = needed_there vs made roots there i n in
      let c : 1 ≤ (shape_at vs i).chain = scan_chain i s w.0 w.1 (ap is_scan_at (sym w.1) ∙ t) h in
      let l : (shape_at vs i).chain ≤ level (shape_at vs i) = level_or_less (has_rows (shape_at vs i).space) (shape_at vs i).chain in
      let u : level (shape_at vs i) ≤ greatest_level (map (shape_at vs) roots) = needed_level vs made roots there i n in
      planned_at i s (shape_at vs i).chain w.0 n w.1 h
      (or_second (level (shape_at vs i) == (shape_at vs i).chain) (is_scan_at (slice_get vs i) && (shape_at vs i).chain == (shape_at vs i).chain)
      (and_true (is_scan_at (slice_get vs i)) ((shape_at vs i).chain == (shape_at vs i).chain) t (same_number (shape_at vs i).chain)))
      c (omega (arith, l, u))

  no_work : (s : ℕ) → any_reads s (map (shape_at vs) roots) ≡ false → (k : ℕ) → work_of vs (needed_of vs roots) s k ≡ []
  no_work s out k = no_members (work_of vs (needed_of vs roots) s k) (λ i h.
      let w = (among_filter (is_work vs s k) (needed_of vs roots) i).0 h in
      let o : store_at vs i ≡ Some s = store_is s (store_at vs i) (both (is_store s (store_at vs i)) (is_of_level vs k i) w.1).0 in
      let r = root_reads vs made roots there i s w.0 o in
      absurd (let z : false ≡ true = sym out ∙ any_root roots r.0 r.1 r.2 in cc))
    where
      any_root : (rs : List ℕ) (r : ℕ) → IsAmong rs r → reads s (shape_at vs r).tree ≡ true → any_reads s (map (shape_at vs) rs) ≡ true
      any_root [] r h e = absurd h
      any_root (q ∷ rs) r h e = elim h [
        | inl same ↦ or_first (reads s (shape_at vs q).tree) (any_reads s (map (shape_at vs) rs)) (ap (λ j. reads s (shape_at vs j).tree) same ∙ e)
        | inr more ↦ or_second (reads s (shape_at vs q).tree) (any_reads s (map (shape_at vs) rs)) (any_root rs r more e)
      ]

  pub within_share : (s : ℕ) → of_store s (plan_of vs roots) ≤ share s (map (shape_at vs) roots)
  within_share s = by_test (any_reads s (map (shape_at vs) roots)) refl
    where
      by_test : (b : Bool) → any_reads s (map (shape_at vs) roots) ≡ b → of_store s (plan_of vs roots) ≤ (if b then greatest_level (map (shape_at vs) roots) else 0)
      by_test true e = passes.bound (work_of vs (needed_of vs roots)) s (stores_in vs) (greatest_level (map (shape_at vs) roots))
      by_test false e =
          let z : of_store s (plan_of vs roots) ≡ 0 = none_up_to (work_of vs (needed_of vs roots)) s (stores_in vs) (greatest_level (map (shape_at vs) roots)) (no_work s e) in
          omega (arith, z)

pub pass_work : (vs : List Vertex) (roots : List ℕ) (p : Pass) → IsPass (plan_of vs roots) p → p.work ≡ work_of vs (needed_of vs roots) p.store p.level
pass_work vs roots p h = work_up_to (work_of vs (needed_of vs roots)) (stores_in vs) (greatest_level (map (shape_at vs) roots)) p h

pub needed_under : (vs : List Vertex) (roots : List ℕ) → IsOrdered vs → AreThere vs roots → AreUnder vs roots (needed_of vs roots)
needed_under vs roots ordered there = needed_exact vs ordered roots there
