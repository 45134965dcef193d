-- The answer of a gather, and the state that is left, are those of the definitions.
use Rattle.std.specs.Prelude.{◌≡◌, ℕ, true, false, Option, None, Some, Result, Ok, Err, List, [], ◌∷◌, ◌++◌, length, map, option_map, slice_get}
use Rattle.std.proofs.Common.{refl, sym, ap, subst, ◌∙◌, append-nil}
use Rattle.std.specs.List.{All, flat_map, list_all}
use Rattle.tall_outside.specs.Shelf.{Files}
use Rattle.tall_column.specs.Columns.{SeenColumn}
use Rattle.tall_semantics.specs.Deferred.{AllBelow, IsMeaning, Vertex, least_in}
use Rattle.tall_semantics.specs.Faults.{Fault, least_fault}
use Rattle.tall_semantics.specs.Outcomes.{fault_of}
use Rattle.tall_semantics.specs.ShapesInOrder.{IsMade, shape_at}
use Rattle.tall_semantics.specs.Talls.{Columns, Tall, outcomes, shapes}
use Rattle.tall_stored.specs.StoredColumns.{AreStored, Store}
use Rattle.tall_local.specs.Expressions.{Valued, gives, stops}
use Rattle.tall_local.specs.Lists.{each_of}
use Rattle.tall_local.specs.Memory.{Memory}
use Rattle.tall_local.specs.Refusals.{Refusal, Stop, bad_class, stop_at}
use Rattle.tall_local.specs.StateLaws.{state_after}
use Rattle.tall_deferred.specs.declared.values.ScriptValue.{ScriptValue}
use Rattle.tall_script.specs.Gathers.{answered_all, gather_all, gather_if, gather_known, gather_openings, gathered_value, talls_in, values_or_fault}
use Rattle.tall_script.specs.ReadingFaults.{stop_of_fault}
use Rattle.tall_script.specs.ScriptValues.{TallValue}
use Rattle.tall_script.specs.States.{State, with_openings}
use Rattle.tall_environment.specs.Environments.{SeenEnvironment, state_at}
use Rattle.tall_environment.specs.Expressions.{IsSense, OpensOn, values_at}
use Rattle.tall_script_calls.specs.GatheredValues.{may_gather, memories_by, nodes_in, openings_by, single_in}
use Rattle.tall_script_calls.proofs.GatheredLaws.{accepted_all, columns_by, gathered, gathered_are, least_of, ok_memories, refused_all, root_shapes, talls_all}

inside : (a b : Stop) → Some a ≡ Some b → a ≡ b
inside a b h = cc

-- ---- a refused class

pub refused_is : (line : ℕ) (f : ℕ → Tall) (vs : List ScriptValue) (s : State Tall) → list_all may_gather vs ≡ false → gather_all line (values_at f vs) s ≡ stops (stop_at line bad_class) s
unfolding gather_all
refused_is line f vs s h = ap (λ r. gather_if line (values_at f vs) r s) (refused_all f vs h)

-- ---- a gather only opens

-- the answer of the definitions by the least fault, in the state with the openings
abbrev pub gathers_by : {W : Type 0} → List Store → Option Fault → W → State Tall → Valued W (State Tall)
gathers_by stores least w t = answered_all t (values_or_fault stores least w)

after_answer : {W : Type 0} (stores : List Store) (least : Option Fault) (w : W) (t : State Tall) → state_after (gathers_by stores least w t) ≡ t
after_answer stores None w t = refl
after_answer stores (Some x) w t = refl

pub opens_from : (line : ℕ) (vs : List TallValue) (s : State Tall) → OpensOn s (state_after (gather_all line vs s))
unfolding gather_all
opens_from line vs s = by (each_of gathered_value vs)
  where
    by : (r : Result (List Memory) Refusal) → OpensOn s (state_after (gather_if line vs r s))
    by (Ok w) = (
      gather_openings 0 s.stores (shapes (flat_map talls_in vs)),
      ap (λ (x : State Tall). x.opened) (after_answer s.stores (least_fault (map fault_of (outcomes (flat_map talls_in vs)))) w (with_openings (gather_openings 0 s.stores (shapes (flat_map talls_in vs))) s)),
    )
    by (Err refusal) = ([], sym (append-nil s.opened))

-- ---- accepted classes

module _ (line : ℕ) (f : ℕ → Tall) (e : SeenEnvironment) (vs : List ScriptValue) (roots : List ℕ) (accepted : list_all may_gather vs ≡ true) (are : roots ≡ flat_map nodes_in vs) (shaped : shapes (map f roots) ≡ map (shape_at e.graph) roots) where
  abbrev pub opened_state : State Tall
  opened_state = with_openings (openings_by e roots) (state_at f e)

  talls_are : flat_map talls_in (values_at f vs) ≡ map f roots
  talls_are = talls_all f vs ∙ sym (ap (map f) are)

  pub accepted_is : gather_all line (values_at f vs) (state_at f e) ≡ gathers_by e.stores (least_in f roots) (map (gathered f) vs) opened_state
  unfolding gather_all
  accepted_is =
      ap (λ r. gather_if line (values_at f vs) r (state_at f e)) (accepted_all f vs accepted)
      ∙ (ap (λ xs. gather_known xs (map (gathered f) vs) (state_at f e)) talls_are
      ∙ (ap (λ ss. answered_all (with_openings (gather_openings 0 e.stores ss) (state_at f e)) (values_or_fault e.stores (least_fault (map fault_of (outcomes (map f roots)))) (map (gathered f) vs))) shaped
      ∙ ap (λ x. answered_all (with_openings (openings_by e roots) (state_at f e)) (values_or_fault e.stores x (map (gathered f) vs))) (least_of f roots)))

  -- the state that the call leaves, whatever it answered
  left : (t : State Tall) → t ≡ opened_state → state_after (gather_all line (values_at f vs) (state_at f e)) ≡ t
  left t is = ap state_after accepted_is ∙ (after_answer e.stores (least_in f roots) (map (gathered f) vs) opened_state ∙ sym is)

  pub opens_all : (t : State Tall) → t ≡ opened_state → OpensOn t (state_after (gather_all line (values_at f vs) (state_at f e)))
  opens_all t is = ([], ap (λ (x : State Tall). x.opened) (left t is) ∙ sym (append-nil t.opened))

  pub gives_all : (ms : List Memory) (t : State Tall) → t ≡ opened_state → least_in f roots ≡ None → ms ≡ map (gathered f) vs → gather_all line (values_at f vs) (state_at f e) ≡ gives ms t
  gives_all ms t is none same =
      accepted_is ∙ (ap (λ x. gathers_by e.stores x (map (gathered f) vs) opened_state) none ∙ (ap (λ x. gives x opened_state) (sym same) ∙ ap (λ x. gives ms x) (sym is)))

  pub stops_all : (stop : Stop) (t : State Tall) → t ≡ opened_state → option_map (stop_of_fault e.stores) (least_in f roots) ≡ Some stop → gather_all line (values_at f vs) (state_at f e) ≡ stops stop t
  stops_all stop t is named = accepted_is ∙ (by (least_in f roots) named ∙ ap (λ x. stops stop x) (sym is))
    where
      by : (least : Option Fault) → option_map (stop_of_fault e.stores) least ≡ Some stop → gathers_by e.stores least (map (gathered f) vs) opened_state ≡ stops stop opened_state
      by None h = absurd (cc)
      by (Some x) h = ap (λ y. stops y opened_state) (inside (stop_of_fault e.stores x) stop h)
