-- What is kept of the pairs of a store.
use Rattle.std.proofs.Common.{◌≡◌, ◌<◌, List, [], ◌∷◌, ◌++◌, Bool, true, false, refl, sym, subst, arith}
use Rattle.std.proofs.lemmas.Bool.{and_parts, ltb-true}
use Rattle.std.proofs.lemmas.Option.{none-some}
use Rattle.std.proofs.lemmas.List.{length-append}
use Rattle.std.proofs.lemmas.List.Elements.{All-nil, All-cons, All-append}
use Rattle.std.specs.Prelude.{◌&&◌, ◌+◌, ◌^◌, length, Option, None, Some, Result, Ok, Err}
use Rattle.tall_value.specs.Cells.{Seen}
use Rattle.tall_grammar.specs.Trees.{SeenFunction}
use Rattle.tall_local.specs.Calls.{CallResult, call_of, behind_pairs}
use Rattle.tall_local.specs.Locals.{Held}
use Rattle.tall_local.specs.Pairs.{Pair, is_key, key_fits, value_fits, has_room, judged, misfit, Appended, append_if, appended, with_pair}
use Rattle.tall_local.specs.Refusals.{Refusal, Stop}
use Rattle.tall_local.specs.StoreLaws.{HasKey, IsStore}
use Rattle.tall_local.proofs.CallsAppended.{call_appended}
use Rattle.tall_local.proofs.PairLemmas.{one_class}

some_is_none : {A B : Type 0} {a : A} → Some a ≡ None → B
some_is_none {A} {B} {a} h = absurd (none-some a (sym h))

judged_well : (k v r : Bool) → judged k v r ≡ None → (k ≡ true) × (r ≡ true)
judged_well true true true h = (refl, refl)
judged_well true true false h = some_is_none h
judged_well true false r h = some_is_none h
judged_well false v r h = some_is_none h

abbrev pairs_ok : List Pair → Result (List Pair) Refusal
pairs_ok ps = Ok ps

inside : (ps qs : List Pair) → pairs_ok ps ≡ pairs_ok qs → ps ≡ qs
inside ps qs e = cc

pub empty_store : IsStore []
empty_store = record { keys = All-nil HasKey; classes = tt; room = omega arith }

one_more : (ps : List Pair) (p : Pair) → misfit ps p ≡ None → IsStore ps → IsStore (ps ++ p ∷ [])
one_more ps p none h =
    let j = judged_well (is_key p.key && key_fits ps p.key) (value_fits ps p.value) (has_room ps) none in
    let low : length ps + 1 < 2 ^ 40 = ltb-true (length ps + 1) (2 ^ 40) j.1 in
    let e : length (ps ++ p ∷ []) ≡ length ps + 1 = length-append ps (p ∷ []) in
    record {
      keys = All-append HasKey ps (p ∷ []) h.keys (All-cons HasKey p [] (and_parts (is_key p.key) (key_fits ps p.key) j.0).0 (All-nil HasKey));
      classes = one_class ps p none h.classes;
      room = omega (arith, low, e);
    }

pub appended_store : (ps own : List Pair) → IsStore ps → IsStore (appended ps own).pairs
appended_store ps [] h = h
appended_store ps (p ∷ own) h = by_judgement (misfit ps p) refl (λ i. appended_store (ps ++ p ∷ []) own i) where
  by_judgement : (m : Option Refusal) → misfit ps p ≡ m → (IsStore (ps ++ p ∷ []) → IsStore (appended (ps ++ p ∷ []) own).pairs)
      → IsStore (append_if m ps p (λ qs. appended qs own)).pairs
  by_judgement None none k = k (one_more ps p none h)
  by_judgement (Some e) some k = h

pub pair_store : (ps qs : List Pair) (p : Pair) → IsStore ps → with_pair ps p ≡ Ok qs → IsStore qs
pair_store ps qs p h e = by_judgement (misfit ps p) refl e where
  by_judgement : (m : Option Refusal) → misfit ps p ≡ m → (elim m [ None ↦ pairs_ok (ps ++ p ∷ []) | Some refusal ↦ Err refusal ]) ≡ pairs_ok qs → IsStore qs
  by_judgement None none z = subst IsStore (inside (ps ++ p ∷ []) qs z) (one_more ps p none h)
  by_judgement (Some e) some z = absurd cc

abbrev behind_stop : Option Stop → Appended → CallResult → CallResult
behind_stop o a c = elim o [ None ↦ record { pairs = a.pairs; stop = c.stop } | Some stop ↦ record { pairs = a.pairs; stop = Some stop } ]

either_way : (o : Option Stop) (a : Appended) (c : CallResult) → IsStore a.pairs → IsStore (behind_stop o a c).pairs
either_way None a c h = h
either_way (Some stop) a c h = h

behind : (ps : List Pair) (c : CallResult) → IsStore ps → IsStore (behind_pairs ps c).pairs
behind ps c h = either_way (appended ps c.pairs).stop (appended ps c.pairs) c (appended_store ps c.pairs h)

pub call_store : (f : SeenFunction) (arguments : List Held) (key_values : List Seen) (pairs : List Pair) → IsStore pairs → IsStore (call_of f arguments key_values pairs).pairs
call_store f arguments key_values pairs h =
    subst (λ (c : CallResult). IsStore c.pairs) (sym (call_appended f arguments key_values pairs)) (behind pairs (call_of f arguments key_values []) h)
