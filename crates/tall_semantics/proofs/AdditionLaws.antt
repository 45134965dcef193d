-- What is asked for where a vertex is added is what keeps a list numbered, no more and no less; and the tests decide it.
use Rattle.std.specs.Prelude.{◌≡◌, refl, ◌≢◌, ℕ, zero, suc, ◌<◌, ◌≤◌, ◌⊎◌, Bool, true, false, not, ◌&&◌, ◌||◌, ◌==◌, bytes_eq, Some, List, [], ◌∷◌, ◌++◌, length, slice_get}
use Rattle.std.proofs.Common.{ap, sym, subst, ◌∙◌, arith, inl, inr}
use Rattle.std.specs.Bool.{Decides}
use Rattle.std.proofs.lemmas.Bool.Decides.{Decides-eqb, Decides-ltb, Decides-not}
use Rattle.std.proofs.lemmas.List.{append-nil, append_assoc}
use Rattle.std.proofs.lemmas.Option.{slice_get_within}
use Rattle.std.proofs.lemmas.Slice.Eq.{bytes_eq-Decides}
use Rattle.tall_semantics.specs.Operations.{group, Made, stored, operation}
use Rattle.tall_semantics.specs.Equality.{method_place}
use Rattle.tall_semantics.specs.Faults.{At}
use Rattle.tall_semantics.specs.Deferred.{Vertex, AllBelow, IsOrdered, IsAmong}
use Rattle.tall_semantics.specs.Numbered.{never_fails, AreBothStored, OfOneStore, OfOneMethod, MayShare, AreNumbered, number_at}
use Rattle.tall_semantics.specs.Additions.{MayAdd, are_stored, of_one_store, of_one_method, may_share, same_at, may_stand_beside, may_stand_beside_all, are_lower, may_add, may_follow}
use Rattle.tall_semantics.proofs.Basics.{inside}
use Rattle.tall_semantics.proofs.VariantLaws.{method_is, same_number}
use Rattle.tall_semantics.proofs.OriginLaws.{below_among, get_before}
use Rattle.tall_semantics.proofs.InOrderLaws.{get_left, get_last, old_or_new}

-- ---- which of two stands first doesn't matter

stored_turned : (m n : Made) → AreBothStored m n → AreBothStored n m
stored_turned (stored s v c) (stored t w d) h = tt
stored_turned (stored s v c) (operation f) h = absurd h
stored_turned (operation f) n h = absurd h

store_turned : (m n : Made) → OfOneStore m n → OfOneStore n m
store_turned (stored s v c) (stored t w d) h = sym h
store_turned (stored s v c) (operation f) h = absurd h
store_turned (operation f) n h = absurd h

method_turned : (m n : Made) → OfOneMethod m n → OfOneMethod n m
method_turned (operation (group m p)) (operation (group n q)) h = sym h
method_turned m n h = absurd h

share_turned : (v w : Vertex) → MayShare v w → MayShare w v
share_turned v w h = elim h [
  | inl both ↦ inl (stored_turned v.made w.made both)
  | inr rest ↦ elim rest [
    | inl parts ↦ inr (inl (method_turned v.made w.made parts.0, sym parts.1, sym parts.2))
    | inr never ↦ inr (inr (elim never [ inl a ↦ inr a | inr b ↦ inl b ]))
  ]
]

-- ---- one vertex more

module _ (vs : List Vertex) (v : Vertex) where
  pub order_push : IsOrdered vs → MayAdd vs v → IsOrdered (vs ++ v ∷ [])
  order_push ordered may i w e = elim (old_or_new vs v w i e) [
    | inl old ↦ ordered i w old
    | inr new ↦ subst (λ (u : Vertex). AllBelow i u.args) new.1 (subst (λ n. AllBelow n v.args) (sym new.0) may.below)
  ]

  lower_push : IsOrdered vs → AreNumbered vs → MayAdd vs v → (i a : ℕ) (u w : Vertex) → slice_get (vs ++ v ∷ []) i ≡ Some u → IsAmong u.args a → slice_get (vs ++ v ∷ []) a ≡ Some w → w.at.number ≤ u.at.number
  lower_push ordered numbered may i a u w e h g = elim (old_or_new vs v u i e) [
    | inl old ↦
        let l : a < i = below_among i u.args a (ordered i u old) h in
        let b = get_before vs i a u old l in
        let q : w ≡ b.0 = inside w b.0 (sym g ∙ get_left vs (v ∷ []) a b.0 b.1) in
        subst (λ (x : Vertex). x.at.number ≤ u.at.number) (sym q) (numbered.lower i a u b.0 old h b.1)
    | inr new ↦ elim (old_or_new vs v w a g) [
      | inl there ↦ subst (λ (x : Vertex). w.at.number ≤ x.at.number) new.1 (may.lower a w (subst (λ (x : Vertex). IsAmong x.args a) (sym new.1) h) there)
      | inr last ↦
          let l : a < length vs = below_among (length vs) v.args a may.below (subst (λ (x : Vertex). IsAmong x.args a) (sym new.1) h) in
          absurd (omega (arith, l, last.0))
    ]
  ]

  calls_push : AreNumbered vs → MayAdd vs v → (i j : ℕ) (u w : Vertex) → slice_get (vs ++ v ∷ []) i ≡ Some u → slice_get (vs ++ v ∷ []) j ≡ Some w → OfOneStore u.made w.made → u.at ≡ w.at
  calls_push numbered may i j u w e g s = elim (old_or_new vs v u i e) [
    | inl old ↦ elim (old_or_new vs v w j g) [
      | inl there ↦ numbered.calls i j u w old there s
      | inr last ↦
          let t : OfOneStore v.made u.made = store_turned u.made v.made (subst (λ (x : Vertex). OfOneStore u.made x.made) (sym last.1) s) in
          sym (may.calls i u old t) ∙ ap (λ (x : Vertex). x.at) last.1
    ]
    | inr new ↦ elim (old_or_new vs v w j g) [
      | inl there ↦ ap (λ (x : Vertex). x.at) (sym new.1) ∙ may.calls j w there (subst (λ (x : Vertex). OfOneStore x.made w.made) (sym new.1) s)
      | inr last ↦ ap (λ (x : Vertex). x.at) (sym new.1 ∙ last.1)
    ]
  ]

  shared_push : AreNumbered vs → MayAdd vs v → (i j : ℕ) (u w : Vertex) → i ≢ j → slice_get (vs ++ v ∷ []) i ≡ Some u → slice_get (vs ++ v ∷ []) j ≡ Some w → u.at.number ≡ w.at.number → MayShare u w
  shared_push numbered may i j u w d e g n = elim (old_or_new vs v u i e) [
    | inl old ↦ elim (old_or_new vs v w j g) [
      | inl there ↦ numbered.shared i j u w d old there n
      | inr last ↦
          let s : MayShare v u = may.shared i u old (ap (λ (x : Vertex). x.at.number) last.1 ∙ sym n) in
          subst (λ x. MayShare u x) last.1 (share_turned v u s)
    ]
    | inr new ↦ elim (old_or_new vs v w j g) [
      | inl there ↦ subst (λ x. MayShare x w) new.1 (may.shared j w there (ap (λ (x : Vertex). x.at.number) new.1 ∙ n))
      | inr last ↦ absurd (d (new.0 ∙ sym last.0))
    ]
  ]

  pub numbers_push : IsOrdered vs → AreNumbered vs → MayAdd vs v → AreNumbered (vs ++ v ∷ [])
  numbers_push ordered numbered may = record {
    lower = lower_push ordered numbered may;
    calls = calls_push numbered may;
    shared = shared_push numbered may;
  }

  -- a list that keeps its numbers could be added to
  pub numbers_pop : IsOrdered (vs ++ v ∷ []) → AreNumbered (vs ++ v ∷ []) → MayAdd vs v
  numbers_pop ordered numbered = record {
    below = ordered (length vs) v (get_last vs v);
    lower = λ a w h g. numbered.lower (length vs) a v w (get_last vs v) h (get_left vs (v ∷ []) a w g);
    calls = λ j w g s. numbered.calls (length vs) j v w (get_last vs v) (get_left vs (v ∷ []) j w g) s;
    shared = λ j w g n.
        let l : j < length vs = slice_get_within vs j w g in
        numbered.shared (length vs) j v w (λ e. omega (arith, l, e)) (get_last vs v) (get_left vs (v ∷ []) j w g) n;
  }

-- ---- the tests

decides_and : {P Q : Type 0} (b d : Bool) → Decides b P → Decides d Q → Decides (b && d) (P × Q)
decides_and true d p q = (λ h. (p.0 refl, q.0 h), λ h. q.1 h.1)
decides_and false d p q = (λ h. absurd (cc), λ h. p.1 h.0)

decides_or : {P Q : Type 0} (b d : Bool) → Decides b P → Decides d Q → Decides (b || d) (P ⊎ Q)
decides_or true d p q = (λ h. inl (p.0 refl), λ h. refl)
decides_or false d p q = (λ h. inr (q.0 h), λ h. elim h [ inl x ↦ absurd (let e : false ≡ true = p.1 x in cc) | inr y ↦ q.1 y ])

-- where the first holds, so does the second
decides_if : {P Q : Type 0} (b d : Bool) → Decides b P → Decides d Q → Decides (not b || d) (P → Q)
decides_if true d p q = (λ h x. q.0 h, λ f. q.1 (f (p.0 refl)))
decides_if false d p q = (λ h x. absurd (let e : false ≡ true = p.1 x in cc), λ f. refl)

decides_true : (b : Bool) → Decides b (b ≡ true)
decides_true b = (λ h. h, λ h. h)

stored_decided : (m n : Made) → Decides (are_stored m n) (AreBothStored m n)
stored_decided (stored s v c) (stored t w d) = (λ h. tt, λ h. refl)
stored_decided (stored s v c) (operation f) = (λ h. absurd (cc), λ h. absurd h)
stored_decided (operation f) n = (λ h. absurd (cc), λ h. absurd h)

store_decided : (m n : Made) → Decides (of_one_store m n) (OfOneStore m n)
store_decided (stored s v c) (stored t w d) = Decides-eqb s t
store_decided (stored s v c) (operation f) = (λ h. absurd (cc), λ h. absurd h)
store_decided (operation f) n = (λ h. absurd (cc), λ h. absurd h)

method_decided : (m n : Made) → Decides (of_one_method m n) (OfOneMethod m n)
method_decided (operation (group m p)) (operation (group n q)) = (λ h. method_is m n h, λ e. subst (λ k. (method_place m == method_place k) ≡ true) e (same_number (method_place m)))
method_decided m n = (λ h. absurd (cc), λ h. absurd h)

pub share_decided : (v w : Vertex) → Decides (may_share v w) (MayShare v w)
share_decided v w = decides_or _ _ (stored_decided v.made w.made)
    (decides_or _ _
    (decides_parts (of_one_method v.made w.made) (bytes_eq v.args w.args) (v.at.line == w.at.line) (method_decided v.made w.made) (bytes_eq-Decides v.args w.args) (Decides-eqb v.at.line w.at.line))
    (decides_or _ _ (decides_true (never_fails v.made)) (decides_true (never_fails w.made))))
  where
    decides_parts : {P Q R : Type 0} (a b d : Bool) → Decides a P → Decides b Q → Decides d R → Decides (a && (b && d)) (P × Q × R)
    decides_parts true true d p q r = (λ h. (p.0 refl, q.0 refl, r.0 h), λ h. r.1 h.2)
    decides_parts true false d p q r = (λ h. absurd (cc), λ h. q.1 h.1)
    decides_parts false b d p q r = (λ h. absurd (cc), λ h. p.1 h.0)

at_decided : (x y : At) → Decides (same_at x y) (x ≡ y)
at_decided x y = (λ h. is h, λ e. subst (λ z. same_at x z ≡ true) e (itself x))
  where
    is : same_at x y ≡ true → x ≡ y
    is h =
        let p = (decides_and _ _ (Decides-eqb x.number y.number) (Decides-eqb x.line y.line)).0 h in
        ap (λ (n : ℕ). record { number = n; line = x.line }) p.0 ∙ ap (λ (l : ℕ). record { number = y.number; line = l }) p.1

    itself : (x : At) → same_at x x ≡ true
    itself x = (decides_and _ _ (Decides-eqb x.number x.number) (Decides-eqb x.line x.line)).1 (refl, refl)

abbrev Beside : Vertex → Vertex → Type 0
Beside v w = (OfOneStore v.made w.made → v.at ≡ w.at) × (v.at.number ≡ w.at.number → MayShare v w)

beside_decided : (v w : Vertex) → Decides (may_stand_beside v w) (Beside v w)
beside_decided v w = decides_and _ _
    (decides_if _ _ (store_decided v.made w.made) (at_decided v.at w.at))
    (decides_if _ _ (Decides-eqb v.at.number w.at.number) (share_decided v w))

abbrev AllBeside : Vertex → List Vertex → Type 0
AllBeside v ws = (j : ℕ) (w : Vertex) → slice_get ws j ≡ Some w → Beside v w

beside_first : (v x : Vertex) (ws : List Vertex) → Beside v x × AllBeside v ws → AllBeside v (x ∷ ws)
beside_first v x ws h zero w e = subst (Beside v) (inside x w e) h.0
beside_first v x ws h (suc j) w e = h.1 j w e

all_decided : (v : Vertex) (ws : List Vertex) → Decides (may_stand_beside_all v ws) (AllBeside v ws)
all_decided v [] = (λ h j w e. absurd (cc), λ h. refl)
all_decided v (x ∷ ws) =
    let both = decides_and (may_stand_beside v x) (may_stand_beside_all v ws) (beside_decided v x) (all_decided v ws) in
    (λ h. beside_first v x ws (both.0 h), λ h. both.1 (h 0 x refl, λ j w e. h (suc j) w e))

abbrev AreLower : List Vertex → ℕ → List ℕ → Type 0
AreLower vs number args = (a : ℕ) (w : Vertex) → IsAmong args a → slice_get vs a ≡ Some w → w.at.number ≤ number

get_there : {A : Type 0} (xs : List A) (i : ℕ) → i < length xs → (x : A) × (slice_get xs i ≡ Some x)
get_there [] i l = absurd (omega (arith, l))
get_there (x ∷ xs) zero l = (x, refl)
get_there (x ∷ xs) (suc i) l = get_there xs i (omega (arith, l))

lower_decided : (vs : List Vertex) (number : ℕ) (args : List ℕ) → Decides (are_lower vs number args) (AllBelow (length vs) args × AreLower vs number args)
lower_decided vs number [] = (λ h. (tt, λ a w i e. absurd i), λ h. refl)
lower_decided vs number (b ∷ args) =
    let more = decides_and _ _ (decides_and _ _ (Decides-ltb b (length vs)) (Decides-not _ (Decides-ltb number (number_at (slice_get vs b))))) (lower_decided vs number args) in (
      λ h.
          let t = more.0 h in
          let l : number_at (slice_get vs b) ≤ number = not_less (number_at (slice_get vs b)) t.0.1 in (
            (t.0.0, t.1.0),
            λ a w i e. elim i [
              | inl q ↦ (let n : number_at (slice_get vs b) ≡ w.at.number = ap (λ k. number_at (slice_get vs k)) q ∙ ap number_at e in omega (arith, l, n))
              | inr r ↦ t.1.1 a w r e
            ],
          ),
      λ h.
          let w = get_there vs b h.0.0 in
          let n : number_at (slice_get vs b) ≡ w.0.at.number = ap number_at w.1 in
          let l : w.0.at.number ≤ number = h.1 b w.0 (inl refl) w.1 in
          more.1 ((h.0.0, λ k. omega (arith, l, n, k)), (h.0.1, λ a u i e. h.1 a u (inr i) e)),
    )
  where
    not_less : (n : ℕ) → ((number < n) → ⊥) → n ≤ number
    not_less n h = grind (arith, h)

pub may_add_decided : (vs : List Vertex) (v : Vertex) → Decides (may_add vs v) (MayAdd vs v)
may_add_decided vs v =
    let both = decides_and _ _ (lower_decided vs v.at.number v.args) (all_decided v vs) in (
      λ h.
          let t = both.0 h in
          record { below = t.0.0; lower = t.0.1; calls = λ j w e. (t.1 j w e).0; shared = λ j w e. (t.1 j w e).1 },
      λ m. both.1 ((m.below, m.lower), λ j w e. (m.calls j w e, m.shared j w e)),
    )

-- ---- a list whose vertices may follow each other

follows : (vs ws : List Vertex) → IsOrdered vs → AreNumbered vs → may_follow vs ws ≡ true → IsOrdered (vs ++ ws) × AreNumbered (vs ++ ws)
follows vs [] ordered numbered h = subst (λ us. IsOrdered us × AreNumbered us) (sym (append-nil vs)) (ordered, numbered)
follows vs (w ∷ ws) ordered numbered h =
    let t = (decides_and _ _ (may_add_decided vs w) (decides_true (may_follow (vs ++ w ∷ []) ws))).0 h in
    subst (λ us. IsOrdered us × AreNumbered us) (append_assoc vs (w ∷ []) ws)
    (follows (vs ++ w ∷ []) ws (order_push vs w ordered t.0) (numbers_push vs w ordered numbered t.0) t.1)

pub empty_numbered : AreNumbered []
empty_numbered = record {
  lower = λ i a v w e h g. absurd (cc);
  calls = λ i j v w e g s. absurd (cc);
  shared = λ i j v w d e g n. absurd (cc);
}

pub all_follow : (vs : List Vertex) → may_follow [] vs ≡ true → IsOrdered vs × AreNumbered vs
all_follow vs h = follows [] vs (λ i v e. absurd (cc)) empty_numbered h

pub push_both : (vs : List Vertex) (v : Vertex) → IsOrdered vs → AreNumbered vs → MayAdd vs v → IsOrdered (vs ++ v ∷ []) × AreNumbered (vs ++ v ∷ [])
push_both vs v ordered numbered may = (order_push vs v ordered may, numbers_push vs v ordered numbered may)
