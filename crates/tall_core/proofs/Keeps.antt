-- Each event keeps that each place is claimed once.
use Rattle.std.proofs.Common.{◌≡◌, ℕ, ◌+◌, ◌<◌, ◌≢◌, ◌⊎◌, List, length, sym, refl, ap, ◌∙◌, inl, inr, ⊎_elim, arith}
use Rattle.std.proofs.lemmas.List.{length-set, length-replicate}
use Rattle.std.proofs.lemmas.Option.{slice_get_within}
use native.Mathlib.Decide.{ℕ_discrete}
use Rattle.std.specs.Prelude.{true, Option, Some, None, slice_get, slice_set}
use Rattle.tall_core.specs.declared.event.Held.{Held}
use Rattle.tall_core.specs.Machine.{State, state, start, holding, is_idle, vacant_at, vacant_place, laid_at, laid_piece, claimed, laid, published, HoldsPlace, EachOnce}
use Rattle.tall_core.proofs.Lists.{get_set_cases, get_set_here, get_set_else, get_replicate, get_replicate_is}

module _ {P : Type 0} where
  pub not_none : (h : Held P) → ◌≡◌ {A = Option (Held P)} None (Some h) → ⊥
  not_none h e = cc

  inner : (a b : Option (Held P)) → ◌≡◌ {A = Option (Option (Held P))} (Some a) (Some b) → a ≡ b
  inner a b e = cc

  pub inner_held : (a b : Held P) → ◌≡◌ {A = Option (Held P)} (Some a) (Some b) → a ≡ b
  inner_held a b e = cc

  module _ (s : State P) (once : EachOnce s) where
    module _ (w : ℕ) (idle : slice_get s.held w ≡ Some None) (more : s.next < s.places) where
      new : List (Option (Held P))
      new = slice_set s.held w (Some (holding s.next None))

      there : w < length s.held
      there = slice_get_within s.held w None idle

      mine : slice_get new w ≡ Some (Some (holding s.next None))
      unfolding new
      mine = get_set_here s.held w (Some (holding s.next None)) there

      others : (v k : ℕ) → HoldsPlace (state s.places (s.next + 1) new s.published) v k → ((v ≡ w) × (k ≡ s.next)) ⊎ ((v ≢ w) × HoldsPlace s v k)
      unfolding new
      others v k h =
          ⊎_elim
          (λ t. let e : holding s.next None ≡ h.0 = inner_held (holding s.next None) h.0 t.1 in inl (t.0, sym h.2 ∙ sym (ap (λ (x : Held P). x.place) e)))
          (λ t. inr (t.0, (h.0, t.1, h.2)))
          (get_set_cases s.held w v (Some (holding s.next None)) (Some h.0) h.1)

      back : (v k : ℕ) → HoldsPlace s v k → HoldsPlace (state s.places (s.next + 1) new s.published) v k
      unfolding new
      back v k h =
          elim (ℕ_discrete v w) [
            | yes e ↦ absurd (not_none h.0 (inner None (Some h.0) (sym idle ∙ (ap (λ (x : ℕ). slice_get s.held x) (sym e) ∙ h.1))))
            | no n ↦ (h.0, get_set_else s.held w v (Some (holding s.next None)) n ∙ h.1, h.2)
          ]

      pub claim_keeps : EachOnce (state s.places (s.next + 1) (slice_set s.held w (Some (holding s.next None))) s.published)
      unfolding new
      claim_keeps = record {
        few = omega arith;
        size = once.size;
        below = λ v k h. ⊎_elim (λ t. let e = t.1 in omega arith) (λ t. let e = once.below v k t.1 in omega arith) (others v k h);
        apart = λ u v k g h.
            ⊎_elim
            (λ t. ⊎_elim (λ r. t.0 ∙ sym r.0) (λ r. let e = once.below v k r.1 in let f = t.1 in absurd (omega arith)) (others v k h))
            (λ t. ⊎_elim (λ r. let e = once.below u k t.1 in let f = r.1 in absurd (omega arith)) (λ r. once.apart u v k t.1 r.1) (others v k h))
            (others u k g);
        vacant = λ v k h. ⊎_elim (λ t. ap (λ (x : ℕ). slice_get s.published x) t.1 ∙ once.fresh s.next (omega arith) more) (λ t. once.vacant v k t.1) (others v k h);
        fresh = λ k a b. once.fresh k (omega arith) b;
        once = λ k a.
            elim (ℕ_discrete k s.next) [
              | yes e ↦ inl (w, (holding s.next None, mine, sym e))
              | no n ↦ ⊎_elim (λ t. inl (t.0, back t.0 k t.1)) (λ t. inr t) (once.once k (omega arith))
            ];
      }

    module _ (w : ℕ) (h : Held P) (holds : slice_get s.held w ≡ Some (Some h)) where
      within : w < length s.held
      within = slice_get_within s.held w (Some h) holds

      module _ (p : P) where
        moved : List (Option (Held P))
        moved = slice_set s.held w (Some (holding h.place (Some p)))

        before : (v k : ℕ) → HoldsPlace (state s.places s.next moved s.published) v k → HoldsPlace s v k
        unfolding moved
        before v k g =
            ⊎_elim
            (λ t. let e : holding h.place (Some p) ≡ g.0 = inner_held (holding h.place (Some p)) g.0 t.1 in
            (h, ap (λ (x : ℕ). slice_get s.held x) t.0 ∙ holds, ap (λ (x : Held P). x.place) e ∙ g.2))
            (λ t. (g.0, t.1, g.2))
            (get_set_cases s.held w v (Some (holding h.place (Some p))) (Some g.0) g.1)

        later : (v k : ℕ) → HoldsPlace s v k → HoldsPlace (state s.places s.next moved s.published) v k
        unfolding moved
        later v k g =
            elim (ℕ_discrete v w) [
              | yes e ↦
                  let same : h ≡ g.0 = inner_held h g.0 (inner (Some h) (Some g.0) (sym holds ∙ (ap (λ (x : ℕ). slice_get s.held x) (sym e) ∙ g.1))) in
                  (holding h.place (Some p), ap (λ (x : ℕ). slice_get (slice_set s.held w (Some (holding h.place (Some p)))) x) e ∙ get_set_here s.held w (Some (holding h.place (Some p))) within, ap (λ (x : Held P). x.place) same ∙ g.2)
              | no n ↦ (g.0, get_set_else s.held w v (Some (holding h.place (Some p))) n ∙ g.1, g.2)
            ]

        pub lay_keeps : EachOnce (state s.places s.next (slice_set s.held w (Some (holding h.place (Some p)))) s.published)
        unfolding moved
        lay_keeps = record {
          few = once.few;
          size = once.size;
          below = λ v k g. once.below v k (before v k g);
          apart = λ u v k f g. once.apart u v k (before u k f) (before v k g);
          vacant = λ v k g. once.vacant v k (before v k g);
          fresh = once.fresh;
          once = λ k a. ⊎_elim (λ t. inl (t.0, later t.0 k t.1)) (λ t. inr t) (once.once k a);
        }

        mine' : HoldsPlace s w h.place
        mine' = (h, holds, refl)

        room : h.place < length s.published
        room = let a = once.below w h.place mine' in let b = once.few in let c = once.size in omega arith

        still : (v k : ℕ) → HoldsPlace (state s.places s.next (slice_set s.held w None) (slice_set s.published h.place (Some p))) v k → (v ≢ w) × HoldsPlace s v k
        still v k g =
            ⊎_elim (λ t. absurd (not_none g.0 t.1)) (λ t. (t.0, (g.0, t.1, g.2))) (get_set_cases s.held w v None (Some g.0) g.1)

        pub publish_keeps : EachOnce (state s.places s.next (slice_set s.held w None) (slice_set s.published h.place (Some p)))
        publish_keeps = record {
          few = once.few;
          size = length-set s.published h.place (Some p) ∙ once.size;
          below = λ v k g. once.below v k (still v k g).1;
          apart = λ u v k f g. once.apart u v k (still u k f).1 (still v k g).1;
          vacant = λ v k g.
              let t = still v k g in
              get_set_else s.published h.place k (Some p) (λ e. t.0 (once.apart v w k t.1 (h, holds, sym e))) ∙ once.vacant v k t.1;
          fresh = λ k a b.
              get_set_else s.published h.place k (Some p) (λ e. let c = once.below w h.place mine' in omega arith) ∙ once.fresh k a b;
          once = λ k a.
              elim (ℕ_discrete k h.place) [
                | yes e ↦ inr (p, ap (λ (x : ℕ). slice_get (slice_set s.published h.place (Some p)) x) e ∙ get_set_here s.published h.place (Some p) room)
                | no n ↦
                    ⊎_elim
                    (λ t. inl (
                      t.0,
                      (
                        t.1.0,
                        get_set_else s.held w t.0 None (λ e. n (sym t.1.2 ∙ ap (λ (x : Held P). x.place) (inner_held t.1.0 h (inner (Some t.1.0) (Some h) (sym t.1.1 ∙ (ap (λ (x : ℕ). slice_get s.held x) e ∙ holds)))))) ∙ t.1.1,
                        t.1.2,
                      ),
                    ))
                    (λ t. inr (t.0, get_set_else s.published h.place k (Some p) n ∙ t.1))
                    (once.once k a)
              ];
        }

  pub idle_is : (o : Option (Option (Held P))) → is_idle o ≡ true → o ≡ Some None
  idle_is None e = absurd cc
  idle_is (Some None) e = refl
  idle_is (Some (Some h)) e = absurd cc

  vacant_at_is : (place at : ℕ) (o : Option P) → vacant_at at o ≡ Some place → ◌≡◌ {A = Held P} (holding at o) (holding place None)
  vacant_at_is place at None e = let same : at ≡ place = cc in ap (λ (n : ℕ). holding n None) same
  vacant_at_is place at (Some p) e = absurd cc

  pub vacant_is : (o : Option (Option (Held P))) (place : ℕ) → vacant_place o ≡ Some place → o ≡ Some (Some (holding place None))
  vacant_is None place e = absurd cc
  vacant_is (Some None) place e = absurd cc
  vacant_is (Some (Some h)) place e = ap (λ (x : Held P). Some (Some x)) (vacant_at_is place h.place h.piece e)

  laid_at_is : (x : ℕ × P) (at : ℕ) (o : Option P) → laid_at at o ≡ Some x → ◌≡◌ {A = Held P} (holding at o) (holding x.0 (Some x.1))
  laid_at_is x at None e = absurd cc
  laid_at_is x at (Some p) e = let same : ◌≡◌ {A = ℕ × P} (at, p) x = cc in ap (λ (y : ℕ × P). holding y.0 (Some y.1)) same

  pub laid_is : (o : Option (Option (Held P))) (x : ℕ × P) → laid_piece o ≡ Some x → o ≡ Some (Some (holding x.0 (Some x.1)))
  laid_is None x e = absurd cc
  laid_is (Some None) x e = absurd cc
  laid_is (Some (Some h)) x e = ap (λ (y : Held P). Some (Some y)) (laid_at_is x h.place h.piece e)

  -- what the events keep, by the tests of the definition
  pub claims_keep : (s : State P) (w : ℕ) → EachOnce s → is_idle (slice_get s.held w) ≡ true → s.next < s.places → EachOnce (claimed s w)
  claims_keep s w once idle more = claim_keeps s once w (idle_is (slice_get s.held w) idle) more

  pub lays_keep : (s : State P) (w place : ℕ) (piece : P) → EachOnce s → vacant_place (slice_get s.held w) ≡ Some place → EachOnce (laid s w piece place)
  lays_keep s w place piece once e = lay_keeps s once w (holding place None) (vacant_is (slice_get s.held w) place e) piece

  pub publishes_keep : (s : State P) (w : ℕ) (x : ℕ × P) → EachOnce s → laid_piece (slice_get s.held w) ≡ Some x → EachOnce (published s w x)
  publishes_keep s w x once e = publish_keeps s once w (holding x.0 (Some x.1)) (laid_is (slice_get s.held w) x e) x.1

  pub laid_in_range : (s : State P) (w : ℕ) (x : ℕ × P) → EachOnce s → laid_piece (slice_get s.held w) ≡ Some x → x.0 < length s.published
  laid_in_range s w x once e =
      let a : x.0 < s.next = once.below w x.0 (holding x.0 (Some x.1), laid_is (slice_get s.held w) x e, refl) in
      let b = once.few in let c = once.size in omega arith

  pub starts : (places workers : ℕ) → EachOnce {P = P} (start places workers)
  starts places workers = record {
    few = omega arith;
    size = length-replicate places None;
    below = λ v k h. absurd (not_none h.0 (get_replicate_is workers v None (Some h.0) h.1));
    apart = λ u v k g h. absurd (not_none h.0 (get_replicate_is workers v None (Some h.0) h.1));
    vacant = λ v k h. absurd (not_none h.0 (get_replicate_is workers v None (Some h.0) h.1));
    fresh = λ k a b. get_replicate places k None b;
    once = λ k a. absurd (omega arith);
  }
