-- What was laid for a place, followed over a list of events.
use Rattle.std.proofs.Common.{◌≡◌, ℕ, zero, suc, ◌<◌, ◌≤◌, ◌≢◌, List, [], ◌∷◌, ◌++◌, length, sym, refl, ap, ◌∙◌, subst, ⊎_elim, append_assoc, append-nil, arith}
use Rattle.std.proofs.lemmas.Bool.Decides.{nat_tests}
use native.Mathlib.Decide.{ℕ_discrete}
use Rattle.std.proofs.lemmas.Option.{slice_get_within}
use Rattle.std.specs.Prelude.{Bool, true, false, ◌&&◌, Option, Some, None, is_none, is_some, option_map, option_to_list, unwrap_or, slice_get, nat_eq, nat_lt, if◌then◌else◌}
use Rattle.std.specs.List.{list_all}
use Rattle.tall_core.specs.declared.event.Held.{Held}
use Rattle.tall_core.specs.declared.event.Event.{Event}
use Rattle.tall_core.specs.declared.event.Event.TheVariants.{Claim, ClaimPast, Lay, Publish}
use Rattle.tall_core.specs.Machine.{State, start, holding, is_idle, vacant_place, laid_piece, claimed, laid, published, next_state, run, lays, lays_on, laid_for, is_done, HoldsPlace, EachOnce}
use Rattle.tall_core.proofs.Lists.{get_set_cases, get_replicate_is}
use Rattle.tall_core.proofs.Keeps.{not_none, inner_held, vacant_is, laid_is, claims_keep, lays_keep, publishes_keep, starts}

-- l is what was laid for a place: nothing yet for one that is free, the laid piece of one that is held, the piece of one that is published
record Traced {P : Type 0} (k : ℕ) (s : State P) (l : List P) : Type 0 where
  none : s.next ≤ k → l ≡ []
  kept : (w : ℕ) (h : Held P) → slice_get s.held w ≡ Some (Some h) → h.place ≡ k → l ≡ option_to_list h.piece
  out : (p : P) → slice_get s.published k ≡ Some (Some p) → l ≡ p ∷ []

and_left : (a b : Bool) → a && b ≡ true → a ≡ true
and_left true b e = refl
and_left false b e = absurd cc

and_right : (a b : Bool) → a && b ≡ true → b ≡ true
and_right true b e = e
and_right false b e = absurd cc

below_is : (a b : ℕ) → nat_lt a b ≡ true → a < b
below_is a b e = grind (arith, nat_tests)

same_number : (a b : ℕ) → nat_eq a b ≡ true → a ≡ b
same_number a b e = grind (arith, nat_tests)

is_same : (a b : ℕ) → a ≡ b → nat_eq a b ≡ true
is_same a b e = grind (arith, nat_tests)

is_other : (a b : ℕ) → a ≢ b → nat_eq a b ≡ false
is_other a b n = grind (arith, nat_tests)

module _ {P : Type 0} where
  some_piece : (p q : P) → ◌≡◌ {A = Option P} (Some p) (Some q) → p ≡ q
  some_piece p q e = cc

  nothing_more : (k : ℕ) (s : State P) (l : List P) → Traced k s l → Traced k s (l ++ [])
  nothing_more k s l t = subst (λ (m : List P). Traced k s m) (sym (append-nil l)) t

  module _ (k : ℕ) (s : State P) (once : EachOnce s) (l : List P) (t : Traced k s l) where
    claim_traced : (w : ℕ) → Traced k (claimed s w) l
    claim_traced w = record {
      none = λ a. t.none (omega arith);
      kept = λ v h e at.
          ⊎_elim
          (λ r. let same : holding s.next None ≡ h = inner_held (holding s.next None) h r.1 in
          let here : s.next ≡ k = ap (λ (x : Held P). x.place) same ∙ at in
          t.none (omega arith) ∙ ap (λ (x : Held P). option_to_list x.piece) same)
          (λ r. t.kept v h r.1 at)
          (get_set_cases s.held w v (Some (holding s.next None)) (Some h) e);
      out = t.out;
    }

    publish_traced : (w : ℕ) (x : ℕ × P) → slice_get s.held w ≡ Some (Some (holding x.0 (Some x.1))) → Traced k (published s w x) l
    publish_traced w x holds = record {
      none = t.none;
      kept = λ v h e at.
          ⊎_elim (λ r. absurd (not_none h r.1)) (λ r. t.kept v h r.1 at) (get_set_cases s.held w v None (Some h) e);
      out = λ p e.
          ⊎_elim
          (λ r. t.kept w (holding x.0 (Some x.1)) holds (sym r.0) ∙ ap (λ (q : P). q ∷ []) (some_piece x.1 p r.1))
          (λ r. t.out p r.1)
          (get_set_cases s.published x.0 k (Some x.1) (Some p) e);
    }

    module _ (w place : ℕ) (piece : P) (holds : slice_get s.held w ≡ Some (Some (holding place None))) where
      mine : HoldsPlace s w place
      mine = (holding place None, holds, refl)

      lay_here : place ≡ k → Traced k (laid s w piece place) (l ++ piece ∷ [])
      lay_here at =
          let empty : l ≡ [] = t.kept w (holding place None) holds at in
          let one : l ++ piece ∷ [] ≡ piece ∷ [] = ap (λ (m : List P). m ++ piece ∷ []) empty in
          record {
            none = λ a. let b = once.below w place mine in absurd (omega arith);
            kept = λ v h e here.
                ⊎_elim
                (λ r. one ∙ ap (λ (x : Held P). option_to_list x.piece) (inner_held (holding place (Some piece)) h r.1))
                (λ r. absurd (r.0 (once.apart v w k (h, r.1, here) (holding place None, holds, at))))
                (get_set_cases s.held w v (Some (holding place (Some piece))) (Some h) e);
            out = λ p e.
                let free : slice_get s.published k ≡ Some None = once.vacant w k (holding place None, holds, at) in
                let both : ◌≡◌ {A = Option (Option P)} (Some (Some p)) (Some None) = sym e ∙ free in
                absurd cc;
          }

      lay_else : place ≢ k → Traced k (laid s w piece place) l
      lay_else n = record {
        none = t.none;
        kept = λ v h e here.
            ⊎_elim
            (λ r. absurd (n (ap (λ (x : Held P). x.place) (inner_held (holding place (Some piece)) h r.1) ∙ here)))
            (λ r. t.kept v h r.1 here)
            (get_set_cases s.held w v (Some (holding place (Some piece))) (Some h) e);
        out = t.out;
      }

      lay_traced : Traced k (laid s w piece place) (l ++ lays_on k piece (Some place))
      lay_traced =
          elim (ℕ_discrete place k) [
            | yes e ↦ subst (λ (b : Bool). Traced k (laid s w piece place) (l ++ (if b then piece ∷ [] else []))) (sym (is_same place k e)) (lay_here e)
            | no n ↦ subst (λ (b : Bool). Traced k (laid s w piece place) (l ++ (if b then piece ∷ [] else []))) (sym (is_other place k n)) (nothing_more k (laid s w piece place) l (lay_else n))
          ]

  -- both facts, after an event
  Follows : ℕ → State P → List P → Type 0
  Follows k s l = EachOnce s × Traced k s l

  claim_follows : (k : ℕ) (s : State P) (l : List P) (w : ℕ) (b : Bool) → (is_idle (slice_get s.held w) && nat_lt s.next s.places) ≡ b → Follows k s l → Follows k (unwrap_or (if b then Some (claimed s w) else None) s) l
  unfolding Follows
  claim_follows k s l w true e f = (
    claims_keep s w f.0 (and_left (is_idle (slice_get s.held w)) (nat_lt s.next s.places) e) (below_is s.next s.places (and_right (is_idle (slice_get s.held w)) (nat_lt s.next s.places) e)),
    claim_traced k s f.0 l f.1 w,
  )
  claim_follows k s l w false e f = f

  past_follows : (k : ℕ) (s : State P) (l : List P) (b : Bool) → Follows k s l → Follows k (unwrap_or (if b then Some s else None) s) l
  past_follows k s l true f = f
  past_follows k s l false f = f

  lay_follows : (k : ℕ) (s : State P) (l : List P) (w : ℕ) (piece : P) (o : Option ℕ) → vacant_place (slice_get s.held w) ≡ o → Follows k s l
      → Follows k (unwrap_or (option_map (laid s w piece) o) s) (l ++ lays_on k piece o)
  unfolding Follows
  lay_follows k s l w piece None e f = (f.0, nothing_more k s l f.1)
  lay_follows k s l w piece (Some place) e f =
      (lays_keep s w place piece f.0 e, lay_traced k s f.0 l f.1 w place piece (vacant_is (slice_get s.held w) place e))

  publish_follows : (k : ℕ) (s : State P) (l : List P) (w : ℕ) (o : Option (ℕ × P)) → laid_piece (slice_get s.held w) ≡ o → Follows k s l
      → Follows k (unwrap_or (option_map (published s w) o) s) l
  unfolding Follows
  publish_follows k s l w None e f = f
  publish_follows k s l w (Some x) e f =
      (publishes_keep s w x f.0 e, publish_traced k s f.0 l f.1 w x (laid_is (slice_get s.held w) x e))

  longer : (k : ℕ) (s : State P) (l : List P) → Follows k s l → Follows k s (l ++ [])
  unfolding Follows
  longer k s l f = (f.0, nothing_more k s l f.1)

  step_follows : (k : ℕ) (s : State P) (l : List P) (event : Event P) → Follows k s l → Follows k (next_state s event) (l ++ lays k s event)
  step_follows k s l (Claim w) f = longer k (next_state s (Claim w)) l (claim_follows k s l w (is_idle (slice_get s.held w) && nat_lt s.next s.places) refl f)
  step_follows k s l (ClaimPast w) f = longer k (next_state s (ClaimPast w)) l (past_follows k s l (is_idle (slice_get s.held w) && nat_eq s.next s.places) f)
  step_follows k s l (Lay w piece) f = lay_follows k s l w piece (vacant_place (slice_get s.held w)) refl f
  step_follows k s l (Publish w) f = longer k (next_state s (Publish w)) l (publish_follows k s l w (laid_piece (slice_get s.held w)) refl f)

  run_follows : (k : ℕ) (s : State P) (l : List P) (events : List (Event P)) → Follows k s l → Follows k (run s events) (l ++ laid_for k s events)
  run_follows k s l [] f = longer k s l f
  run_follows k s l (event ∷ events) f =
      subst (λ (m : List P). Follows k (run (next_state s event) events) m) (append_assoc l (lays k s event) (laid_for k (next_state s event) events))
      (run_follows k (next_state s event) (l ++ lays k s event) events (step_follows k s l event f))

  at_start : (k places workers : ℕ) (s : State P) → s ≡ start places workers → Follows k s []
  unfolding Follows
  at_start k places workers s is = subst (λ (x : State P). Follows k x []) (sym is) (
    starts places workers,
    record {
      none = λ a. refl;
      kept = λ w h e at. absurd (not_none h (get_replicate_is workers w None (Some h) e));
      out = λ p e. let bad : ◌≡◌ {A = Option P} None (Some p) = get_replicate_is places k None (Some p) e in absurd cc;
    },
  )

  follows_from_start : (k places workers : ℕ) (events : List (Event P)) → Follows k (run (start places workers) events) (laid_for k (start places workers) events)
  follows_from_start k places workers events = run_follows k (start places workers) [] events (at_start k places workers (start places workers) refl)

  pub once_always : (places workers : ℕ) (events : List (Event P)) → EachOnce (run (start places workers) events)
  unfolding Follows
  once_always places workers events = (follows_from_start 0 places workers events).0

  none_held : (held : List (Option (Held P))) (w : ℕ) (h : Held P) → list_all is_none held ≡ true → slice_get held w ≡ Some (Some h) → ⊥
  none_held [] w h e f = cc
  none_held (None ∷ held) zero h e f = cc
  none_held (Some x ∷ held) zero h e f = cc
  none_held (None ∷ held) (suc w) h e f = none_held held w h e f
  none_held (Some x ∷ held) (suc w) h e f = cc

  places_kept : (s : State P) (event : Event P) → (next_state s event).places ≡ s.places
  places_kept s (Claim w) = elim (is_idle (slice_get s.held w) && nat_lt s.next s.places) as (λ b. (unwrap_or (if b then Some (claimed s w) else None) s).places ≡ s.places) [ true ↦ refl | false ↦ refl ]
  places_kept s (ClaimPast w) = elim (is_idle (slice_get s.held w) && nat_eq s.next s.places) as (λ b. (unwrap_or (if b then Some s else None) s).places ≡ s.places) [ true ↦ refl | false ↦ refl ]
  places_kept s (Lay w piece) = elim (vacant_place (slice_get s.held w)) as (λ o. (unwrap_or (option_map (laid s w piece) o) s).places ≡ s.places) [ None ↦ refl | Some place ↦ refl ]
  places_kept s (Publish w) = elim (laid_piece (slice_get s.held w)) as (λ o. (unwrap_or (option_map (published s w) o) s).places ≡ s.places) [ None ↦ refl | Some x ↦ refl ]

  places_same : (s : State P) (events : List (Event P)) → (run s events).places ≡ s.places
  places_same s [] = refl
  places_same s (event ∷ events) = places_same (next_state s event) events ∙ places_kept s event

  done_at : (k : ℕ) (s : State P) (l : List P) → Follows k s l → is_done s ≡ true → k < s.places → (piece : P) × (slice_get s.published k ≡ Some (Some piece)) × (l ≡ piece ∷ [])
  unfolding Follows
  done_at k s l f done less =
      let all : s.next ≡ s.places = same_number s.next s.places (and_left (nat_eq s.next s.places) (list_all is_none s.held) done) in
      ⊎_elim
      (λ t. absurd (none_held s.held t.0 t.1.0 (and_right (nat_eq s.next s.places) (list_all is_none s.held) done) t.1.1))
      (λ t. (t.0, t.1, f.1.out t.0 t.1))
      (f.0.once k (omega arith))

  pub whole_when_done : (places workers : ℕ) (events : List (Event P)) → is_done (run (start places workers) events) ≡ true → (k : ℕ) → k < places
      → (piece : P) × (slice_get (run (start places workers) events).published k ≡ Some (Some piece)) × (laid_for k (start places workers) events ≡ piece ∷ [])
  whole_when_done places workers events done k less =
      done_at k (run (start places workers) events) (laid_for k (start places workers) events) (follows_from_start k places workers events) done
      (let same = places_same (start {P = P} places workers) events in omega arith)

  -- a done state has a piece at each place
  pub piece_at : (s : State P) (k : ℕ) → EachOnce s → is_done s ≡ true → k < s.places → (piece : P) × (slice_get s.published k ≡ Some (Some piece))
  piece_at s k once done less =
      let all : s.next ≡ s.places = same_number s.next s.places (and_left (nat_eq s.next s.places) (list_all is_none s.held) done) in
      ⊎_elim
      (λ t. absurd (none_held s.held t.0 t.1.0 (and_right (nat_eq s.next s.places) (list_all is_none s.held) done) t.1.1))
      (λ t. t)
      (once.once k (omega arith))

  all_some : (l : List (Option P)) → ((k : ℕ) → k < length l → (p : P) × (slice_get l k ≡ Some (Some p))) → list_all is_some l ≡ true
  all_some [] f = refl
  all_some (None ∷ l) f = let bad : ◌≡◌ {A = Option (Option P)} (Some None) (Some (Some (f 0 (omega arith)).0)) = (f 0 (omega arith)).1 in absurd cc
  all_some (Some p ∷ l) f = all_some l (λ k h. f (suc k) (omega arith))

  pub pieces_there : (s : State P) → EachOnce s → is_done s ≡ true → list_all is_some s.published ≡ true
  pieces_there s once done = all_some s.published (λ k h. piece_at s k once done (let size = once.size in omega arith))

  beyond : (s : State P) → EachOnce s → Traced s.places s []
  beyond s once = record {
    none = λ a. refl;
    kept = λ w h e at. let a = once.below w h.place (h, e, refl) in let b = once.few in absurd (omega arith);
    out = λ p e. let a = slice_get_within s.published s.places (Some p) e in let b = once.size in absurd (omega arith);
  }

  pub step_once : (s : State P) (event : Event P) → EachOnce s → EachOnce (next_state s event)
  unfolding Follows
  step_once s event once = (step_follows s.places s [] event (once, beyond s once)).0
