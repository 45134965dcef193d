-- Pairs that are added one by one, and pairs that are appended.
use Rattle.std.proofs.Common.{◌≡◌, ◌≤◌, List, [], ◌∷◌, ◌++◌, Bool, true, false, refl, ap, sym, ◌∙◌, arith}
use Rattle.std.proofs.lemmas.Bool.{eqb-true, true≢false, and_parts, ltb-false, le-ltb}
use Rattle.std.proofs.lemmas.Option.{none-some}
use Rattle.std.proofs.lemmas.List.{append_assoc, length-append}
use Rattle.std.specs.Prelude.{◌&&◌, ◌==◌, ◌+◌, ◌^◌, length, Option, None, Some}
use Rattle.tall_value.specs.declared.class.Kind.{Kind}
use Rattle.tall_value.specs.declared.class.Kind.TheVariants.{Integer, Logical, Double, Text}
use Rattle.tall_value.specs.Cells.{Seen, seen_kind}
use Rattle.tall_value.specs.Classes.{place}
use Rattle.tall_local.specs.CallLaws.{HaveClasses, HaveOneClass}
use Rattle.tall_local.specs.Pairs.{Pair, is_key, same_kind, same_class, has_room, judged, misfit, Appended, append_if, appended}
use Rattle.tall_local.specs.Refusals.{Refusal, Stop, stop_at}

-- ---- appending in two parts

appended_then : Appended → List Pair → Appended
appended_then a more = elim a.stop [ None ↦ appended a.pairs more | Some stop ↦ a ]

after_if : (r : Option Refusal) (ps : List Pair) (p : Pair) (own more : List Pair) → ((qs : List Pair) → appended qs (own ++ more) ≡ appended_then (appended qs own) more)
    → append_if r ps p (λ qs. appended qs (own ++ more)) ≡ appended_then (append_if r ps p (λ qs. appended qs own)) more
unfolding appended_then
after_if None ps p own more rest = rest (ps ++ p ∷ [])
after_if (Some e) ps p own more rest = refl

appended_after : (ps own more : List Pair) → appended ps (own ++ more) ≡ appended_then (appended ps own) more
unfolding appended_then
appended_after ps [] more = refl
appended_after ps (p ∷ own) more = after_if (misfit ps p) ps p own more (λ qs. appended_after qs own more)

-- all of them fit
abbrev pub Fits : List Pair → List Pair → Type 0
Fits ps own = appended ps own ≡ record { pairs = ps ++ own; stop = None }

pub one_fits : (ps own : List Pair) (p : Pair) → Fits ps own → misfit (ps ++ own) p ≡ None → Fits ps (own ++ p ∷ [])
unfolding appended_then
one_fits ps own p fit none =
    appended_after ps own (p ∷ [])
    ∙ ap (λ a. appended_then a (p ∷ [])) fit
    ∙ ap (λ r. append_if r (ps ++ own) p (λ qs. appended qs [])) none
    ∙ ap (λ qs. record { pairs = qs; stop = None }) (append_assoc ps own (p ∷ []))

pub one_falls : (ps own : List Pair) (p : Pair) (e : Refusal) → Fits ps own → misfit (ps ++ own) p ≡ Some e
    → appended ps (own ++ p ∷ []) ≡ record { pairs = ps ++ own; stop = Some (stop_at p.line e) }
unfolding appended_then
one_falls ps own p e fit some =
    appended_after ps own (p ∷ []) ∙ ap (λ a. appended_then a (p ∷ [])) fit ∙ ap (λ r. append_if r (ps ++ own) p (λ qs. appended qs [])) some

pub still_falls : (ps own more out : List Pair) (stop : Stop) → appended ps own ≡ record { pairs = out; stop = Some stop }
    → appended ps (own ++ more) ≡ record { pairs = out; stop = Some stop }
unfolding appended_then
still_falls ps own more out stop h = appended_after ps own more ∙ ap (λ a. appended_then a more) h

-- ---- classes

alike_kinds : (a b c : Kind) → same_kind a b ≡ true → same_kind a c ≡ same_kind b c
alike_kinds (Integer i) (Integer j) (Integer k) h = ap (λ n. n == place k) (eqb-true (place i) (place j) h)
alike_kinds (Integer i) (Integer j) Logical h = refl
alike_kinds (Integer i) (Integer j) Double h = refl
alike_kinds (Integer i) (Integer j) Text h = refl
alike_kinds (Integer i) Logical c h = absurd (true≢false (sym h))
alike_kinds (Integer i) Double c h = absurd (true≢false (sym h))
alike_kinds (Integer i) Text c h = absurd (true≢false (sym h))
alike_kinds Logical (Integer j) c h = absurd (true≢false (sym h))
alike_kinds Logical Logical c h = refl
alike_kinds Logical Double c h = absurd (true≢false (sym h))
alike_kinds Logical Text c h = absurd (true≢false (sym h))
alike_kinds Double (Integer j) c h = absurd (true≢false (sym h))
alike_kinds Double Logical c h = absurd (true≢false (sym h))
alike_kinds Double Double c h = refl
alike_kinds Double Text c h = absurd (true≢false (sym h))
alike_kinds Text (Integer j) c h = absurd (true≢false (sym h))
alike_kinds Text Logical c h = absurd (true≢false (sym h))
alike_kinds Text Double c h = absurd (true≢false (sym h))
alike_kinds Text Text c h = refl

some_is_none : {A B : Type 0} {a : A} → Some a ≡ None → B
some_is_none {A} {B} {a} h = absurd (none-some a (sym h))

judged_true : (k v r : Bool) → judged k v r ≡ None → (k ≡ true) × (v ≡ true)
judged_true true true true h = (refl, refl)
judged_true true true false h = some_is_none h
judged_true true false r h = some_is_none h
judged_true false v r h = some_is_none h

no_misfit : (r : Option Refusal) (ps : List Pair) (p : Pair) (rest : List Pair → Appended) (out : List Pair)
    → append_if r ps p rest ≡ record { pairs = out; stop = None } → r ≡ None
no_misfit None ps p rest out h = refl
no_misfit (Some e) ps p rest out h = some_is_none (ap (λ a. a.stop) h)

-- a pair that fits has the classes of the first
pub has_classes : (p q : Pair) (ps : List Pair) → misfit (p ∷ ps) q ≡ None → (same_class p.key q.key ≡ true) × (same_class p.value q.value ≡ true)
has_classes p q ps none =
    let t = judged_true (is_key q.key && same_class p.key q.key) (same_class p.value q.value) (has_room (p ∷ ps)) none in
    ((and_parts (is_key q.key) (same_class p.key q.key) t.0).1, t.1)

-- ---- a pair that isn't accepted behind its own isn't behind the store's and its own

judged_still : (k v r s : Bool) (e : Refusal) → judged k v r ≡ Some e → (r ≡ false → s ≡ false) → judged k v s ≡ Some e
judged_still false v r s e h room = h
judged_still true false r s e h room = h
judged_still true true false s e h room = ap (judged true true) (room refl) ∙ h
judged_still true true true s e h room = some_is_none (sym h)

room_lost : (ps own : List Pair) → has_room own ≡ false → has_room (ps ++ own) ≡ false
room_lost ps own h =
    let low : 2 ^ 40 ≤ length own + 1 = ltb-false (length own + 1) (2 ^ 40) h in
    le-ltb (length (ps ++ own) + 1) (2 ^ 40) (let e : length (ps ++ own) ≡ length ps + length own = length-append ps own in omega arith)

same_keys : (p q : Pair) (c : Seen) → same_class p.key q.key ≡ true → same_class p.key c ≡ same_class q.key c
same_keys p q c h = alike_kinds (seen_kind p.key) (seen_kind q.key) (seen_kind c) h

pub same_refusal : (ps own : List Pair) (p : Pair) (e : Refusal) → Fits ps own → misfit own p ≡ Some e → misfit (ps ++ own) p ≡ Some e
same_refusal [] own p e fit some = some
same_refusal (first ∷ ps) [] p e fit some = alone (is_key p.key) (same_class first.key p.key) _ _ e some where
  -- it is no key
  alone : (k f v r : Bool) (e : Refusal) → judged (k && true) true true ≡ Some e → judged (k && f) v r ≡ Some e
  alone true f v r e h = some_is_none (sym h)
  alone false f v r e h = h
same_refusal (first ∷ ps) (q ∷ own) p e fit some =
    let c = has_classes first q ps (no_misfit (misfit (first ∷ ps) q) (first ∷ ps) q _ _ fit) in
    let keys : same_class first.key p.key ≡ same_class q.key p.key = alike_kinds (seen_kind first.key) (seen_kind q.key) (seen_kind p.key) c.0 in
    let values : same_class first.value p.value ≡ same_class q.value p.value = alike_kinds (seen_kind first.value) (seen_kind q.value) (seen_kind p.value) c.1 in
    ap (λ b. judged (is_key p.key && b) (same_class first.value p.value) (has_room (first ∷ ps ++ q ∷ own))) keys
    ∙ ap (λ b. judged (is_key p.key && same_class q.key p.key) b (has_room (first ∷ ps ++ q ∷ own))) values
    ∙ judged_still (is_key p.key && same_class q.key p.key) (same_class q.value p.value) (has_room (q ∷ own)) (has_room (first ∷ ps ++ q ∷ own)) e some (room_lost (first ∷ ps) (q ∷ own))

-- ---- one class

have_more : (p q : Pair) (ps : List Pair) → HaveClasses p ps → (same_class p.key q.key ≡ true) × (same_class p.value q.value ≡ true) → HaveClasses p (ps ++ q ∷ [])
have_more p q [] h c = (c.0, c.1, tt)
have_more p q (r ∷ ps) h c = (h.0, h.1, have_more p q ps h.2 c)

pub one_class : (ps : List Pair) (p : Pair) → misfit ps p ≡ None → HaveOneClass ps → HaveOneClass (ps ++ p ∷ [])
one_class [] p none h = tt
one_class (q ∷ ps) p none h = have_more q p ps h (has_classes q p ps none)
