-- States that allowed events lead to.
use Rattle.std.proofs.Common.{◌≡◌, ℕ, zero, suc, ◌+◌, List, [], ◌∷◌, ◌++◌, set, sym, refl, ap, ◌∙◌, subst}
use Rattle.std.specs.Prelude.{Bool, true, false, Option, Some, None, ◌&&◌, option_map, unwrap_or, slice_get, slice_set, replicate, if◌then◌else◌, nat_eq, nat_lt}
use Rattle.tall_core.specs.declared.event.Held.{Held}
use Rattle.tall_core.specs.declared.event.Event.{Event}
use Rattle.tall_core.specs.declared.event.Event.TheVariants.{Claim, ClaimPast, Lay, Publish}
use Rattle.tall_core.specs.Machine.{State, state, holding, is_idle, vacant_place, laid_piece, claimed, laid, published, after, EachOnce, Reached, begins, does}
use Rattle.tall_core.proofs.Keeps.{starts}
use Rattle.tall_core.proofs.Traces.{step_once}

module _ {P : Type 0} where
  pub reached_once : (places workers : ℕ) (s : State P) → Reached places workers s → EachOnce s
  reached_once places workers _ (begins s e) = subst (λ (x : State P). EachOnce x) (sym e) (starts places workers)
  reached_once places workers _ (does s t event r e) =
      subst (λ (x : State P). EachOnce x) (ap (λ (o : Option (State P)). unwrap_or o s) e) (step_once s event (reached_once places workers s r))

  -- one worker more, who holds nothing
  abbrev pub wider : State P → State P
  wider s = state s.places s.next (s.held ++ None ∷ []) s.published

  one_more : (n : ℕ) → ◌≡◌ {A = List (Option (Held P))} (replicate n None ++ None ∷ []) (replicate (suc n) None)
  one_more zero = refl
  one_more (suc n) = ap (λ (l : List (Option (Held P))). None ∷ l) (one_more n)

  still : (l : List (Option (Held P))) (i : ℕ) (x : Option (Held P)) → slice_get l i ≡ Some x → slice_get (l ++ None ∷ []) i ≡ Some x
  still [] i x e = absurd cc
  still (y ∷ l) zero x e = e
  still (y ∷ l) (suc i) x e = still l i x e

  set_still : (l : List (Option (Held P))) (i : ℕ) (x y : Option (Held P)) → slice_get l i ≡ Some x → set (l ++ None ∷ []) i y ≡ set l i y ++ None ∷ []
  set_still [] i x y e = absurd cc
  set_still (z ∷ l) zero x y e = refl
  set_still (z ∷ l) (suc i) x y e = ap (λ (m : List (Option (Held P))). z ∷ m) (set_still l i x y e)

  no_state : (t : State P) → ◌≡◌ {A = Option (State P)} None (Some t) → ⊥
  no_state t e = cc

  one_state : (s t : State P) → ◌≡◌ {A = Option (State P)} (Some s) (Some t) → s ≡ t
  one_state s t e = cc

  chosen : (b : Bool) (u v t : State P) → v ≡ wider u → (if b then Some u else None) ≡ Some t → (if b then Some v else None) ≡ Some (wider t)
  chosen true u v t f e = ap (λ (x : State P). Some x) (f ∙ ap wider (one_state u t e))
  chosen false u v t f e = absurd (no_state t e)

  mapped : {X : Type 0} (o : Option X) (f h : X → State P) (t : State P) → ((x : X) → h x ≡ wider (f x)) → option_map f o ≡ Some t → option_map h o ≡ Some (wider t)
  mapped None f h t same e = absurd (no_state t e)
  mapped (Some x) f h t same e = ap (λ (y : State P). Some y) (same x ∙ ap wider (one_state (f x) t e))

  module _ (s t : State P) (w : ℕ) where
    held_wider : (x y : Option (Held P)) (next : ℕ) (out : List (Option P)) → slice_get s.held w ≡ Some x
        → state s.places next (slice_set (s.held ++ None ∷ []) w y) out ≡ wider (state s.places next (slice_set s.held w y) out)
    held_wider x y next out e = ap (λ (h : List (Option (Held P))). state s.places next h out) (set_still s.held w x y e)

    claim_wider : (o : Option (Option (Held P))) → slice_get s.held w ≡ o
        → (if is_idle o && nat_lt s.next s.places then Some (claimed s w) else None) ≡ Some t
        → after (wider s) (Claim w) ≡ Some (wider t)
    claim_wider None e f = absurd (no_state t f)
    claim_wider (Some x) e f =
        ap (λ (q : Option (Option (Held P))). if is_idle q && nat_lt s.next s.places then Some (claimed (wider s) w) else None) (still s.held w x e)
        ∙ chosen (is_idle (Some x) && nat_lt s.next s.places) (claimed s w) (claimed (wider s) w) t (held_wider x (Some (holding s.next None)) (s.next + 1) s.published e) f

    past_wider : (o : Option (Option (Held P))) → slice_get s.held w ≡ o
        → (if is_idle o && nat_eq s.next s.places then Some s else None) ≡ Some t
        → after (wider s) (ClaimPast w) ≡ Some (wider t)
    past_wider None e f = absurd (no_state t f)
    past_wider (Some x) e f =
        ap (λ (q : Option (Option (Held P))). if is_idle q && nat_eq s.next s.places then Some (wider s) else None) (still s.held w x e)
        ∙ chosen (is_idle (Some x) && nat_eq s.next s.places) s (wider s) t refl f

    lay_wider : (piece : P) (o : Option (Option (Held P))) → slice_get s.held w ≡ o
        → option_map (laid s w piece) (vacant_place o) ≡ Some t
        → after (wider s) (Lay w piece) ≡ Some (wider t)
    lay_wider piece None e f = absurd (no_state t f)
    lay_wider piece (Some x) e f =
        ap (λ (q : Option (Option (Held P))). option_map (laid (wider s) w piece) (vacant_place q)) (still s.held w x e)
        ∙ mapped (vacant_place (Some x)) (laid s w piece) (laid (wider s) w piece) t (λ place. held_wider x (Some (holding place (Some piece))) s.next s.published e) f

    publish_wider : (o : Option (Option (Held P))) → slice_get s.held w ≡ o
        → option_map (published s w) (laid_piece o) ≡ Some t
        → after (wider s) (Publish w) ≡ Some (wider t)
    publish_wider None e f = absurd (no_state t f)
    publish_wider (Some x) e f =
        ap (λ (q : Option (Option (Held P))). option_map (published (wider s) w) (laid_piece q)) (still s.held w x e)
        ∙ mapped (laid_piece (Some x)) (published s w) (published (wider s) w) t (λ y. held_wider x None s.next (slice_set s.published y.0 (Some y.1)) e) f

  after_wider : (s t : State P) (event : Event P) → after s event ≡ Some t → after (wider s) event ≡ Some (wider t)
  after_wider s t (Claim w) e = claim_wider s t w (slice_get s.held w) refl e
  after_wider s t (ClaimPast w) e = past_wider s t w (slice_get s.held w) refl e
  after_wider s t (Lay w piece) e = lay_wider s t w piece (slice_get s.held w) refl e
  after_wider s t (Publish w) e = publish_wider s t w (slice_get s.held w) refl e

  -- what is reached with some workers is reached with one more, who holds nothing
  pub reached_wider : (places workers : ℕ) (s : State P) → Reached places workers s → Reached places (suc workers) (wider s)
  reached_wider places workers _ (begins s e) =
      begins (wider s) (ap wider e ∙ ap (λ (h : List (Option (Held P))). state places 0 h (replicate places None)) (one_more workers))
  reached_wider places workers _ (does s t event r e) = does (wider s) (wider t) event (reached_wider places workers s r) (after_wider s t event e)
