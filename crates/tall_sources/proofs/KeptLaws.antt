-- What is kept of datastores and of a graph, step by step.
use Rattle.std.specs.Prelude.{◌≡◌, refl, ℕ, zero, suc, ◌<◌, ◌+◌, ◌⊎◌, List, [], ◌∷◌, ◌++◌, length, map, take, get_or, slice_get, Option, None, Some, Result, Ok, Err}
use Rattle.std.specs.List.{All}
use Rattle.std.proofs.Common.{ap, sym, subst, ◌∙◌, arith, inl, inr}
use Rattle.std.proofs.lemmas.List.{append-nil}
use Rattle.std.proofs.lemmas.List.Elements.{All-nil, All-cons, All-head, All-tail, All-append}
use Rattle.tall_outside.specs.Shelf.{Files}
use Rattle.tall_value.specs.declared.class.Class.{Class}
use Rattle.tall_value.specs.declared.functions.Method.{Method}
use Rattle.tall_semantics.specs.Deferred.{Vertex, IsMeaning}
use Rattle.tall_semantics.specs.Faults.{At}
use Rattle.tall_semantics.specs.Numbered.{AreBothStored, OfOneStore}
use Rattle.tall_semantics.specs.Operations.{Op, Part, constant, group, Made, stored, operation}
use Rattle.tall_semantics.specs.Talls.{Tall, Columns}
use Rattle.tall_semantics.proofs.InOrderLaws.{get_left, old_or_new, meaning_kept}
use Rattle.tall_store.specs.Formats.{class_of_format}
use Rattle.tall_store.specs.Options.{SeenOptions}
use Rattle.tall_store.specs.Stores.{SeenStore, format_at}
use Rattle.tall_store.specs.declared.faults.StoreFault.{StoreFault}
use Rattle.tall_stored.specs.StoredColumns.{AreStored, Store, column_outcome, variable_class}
use Rattle.tall_local.specs.Arguments.{Argument}
use Rattle.tall_local.specs.Refusals.{bad_argument}
use Rattle.tall_store.specs.Opening.{opening}
use Rattle.tall_script.specs.Datastores.{datastore_call, first_opening, made_store, options_in, store_with}
use Rattle.tall_script.specs.ScriptValues.{TallValue}
use Rattle.tall_script.specs.States.{State, with_openings}
use Rattle.tall_script.specs.VertexLaws.{vertex, Adds, one_operation, behind_a_scalar, over_columns, of_groups, IsLower, MayStandBeside, variable_of}
use Rattle.tall_deferred.specs.Answers.{Extends}
use Rattle.tall_sources.specs.Kept.{AreKept, CallsAreLower, IsStored}
use Rattle.tall_sources.specs.Opened.{makes, openings_due, refused_opening, store_due}
use Rattle.tall_sources.specs.Talls.{AddsVariables, variables_from, variable_vertices}

-- ---- calls

made : (at : At) (files : List (List ℕ)) (r : Result SeenStore StoreFault) (s : State Tall) → made_store at files r s ≡ makes at (refused_opening files r) s
made at files (Ok store) s = refl
made at files (Err f) s = refl

pub calls_make : (files : Files) (at : At) (wanted : Option SeenOptions) (s : State Tall) → store_with files at wanted s ≡ makes at (store_due files wanted) (with_openings (openings_due wanted) s)
calls_make files at None s = sym (ap (λ o. makes at (Err bad_argument) (record s { opened = o })) (append-nil s.opened))
calls_make files at (Some o) s = made at o.files (opening files o) (with_openings (first_opening o) s)

pub call_makes : (files : Files) (at : At) (args : List (Argument TallValue)) (s : State Tall) → datastore_call files at args s ≡ makes at (store_due files (options_in args)) (with_openings (openings_due (options_in args)) s)
unfolding datastore_call
call_makes files at args s = calls_make files at (options_in args) s

-- ---- lists by their places

inside : {A : Type 0} (x y : A) → Some x ≡ Some y → x ≡ y
inside x y e = ap (λ o. elim o [ Some z ↦ z | None ↦ x ]) e

all_at : {A : Type 0} (P : A → Type 0) (xs : List A) → ((i : ℕ) (x : A) → slice_get xs i ≡ Some x → P x) → All P xs
all_at P [] h = All-nil P
all_at P (x ∷ xs) h = All-cons P x xs (h 0 x refl) (all_at P xs (λ i y e. h (suc i) y e))

at_place : {A : Type 0} (P : A → Type 0) (xs : List A) (i : ℕ) (x : A) → All P xs → slice_get xs i ≡ Some x → P x
at_place P [] i x h e = absurd cc
at_place P (y ∷ xs) zero x h e = subst P (inside y x e) (All-head P y xs h)
at_place P (y ∷ xs) (suc i) x h e = at_place P xs i x (All-tail P y xs h) e

in_parts : {A : Type 0} (xs ys : List A) (i : ℕ) (x : A) → slice_get (xs ++ ys) i ≡ Some x → (slice_get xs i ≡ Some x) ⊎ ((j : ℕ) × (slice_get ys j ≡ Some x))
in_parts [] ys i x e = inr (i, e)
in_parts (z ∷ xs) ys zero x e = inl e
in_parts (z ∷ xs) ys (suc i) x e = in_parts xs ys i x e

in_front : {A : Type 0} (n : ℕ) (xs : List A) (j : ℕ) (x : A) → slice_get (take n xs) j ≡ Some x → slice_get xs j ≡ Some x
in_front zero xs j x e = absurd cc
in_front (suc n) [] j x e = absurd cc
in_front (suc n) (y ∷ xs) zero x e = e
in_front (suc n) (y ∷ xs) (suc j) x e = in_front n xs j x e

in_map : {A B : Type 0} (g : A → B) (xs : List A) (j : ℕ) (y : B) → slice_get (map g xs) j ≡ Some y → (x : A) × (slice_get xs j ≡ Some x) × (g x ≡ y)
in_map g [] j y e = absurd cc
in_map g (x ∷ xs) zero y e = (x, refl, inside (g x) y e)
in_map g (x ∷ xs) (suc j) y e = in_map g xs j y e

-- ---- what is added

abbrev IsOf : At → Vertex → Type 0
IsOf at w = (w.at ≡ at) × (o : Op) × (w.made ≡ operation o)

each_of_columns : (at : At) (o : Op) (columns : List (List ℕ)) (j : ℕ) (w : Vertex) → slice_get (map (vertex at o) columns) j ≡ Some w → IsOf at w
each_of_columns at o columns j w e = (let m = in_map (vertex at o) columns j w e in subst (IsOf at) m.2 (refl, o, refl))

each_of_parts : (at : At) (m : Method) (args : List ℕ) (parts : List Part) (j : ℕ) (w : Vertex) → slice_get (map (λ part. vertex at (group m part) args) parts) j ≡ Some w → IsOf at w
each_of_parts at m args parts j w e =
    (let g : Part → Vertex = λ part. vertex at (group m part) args in let p = in_map g parts j w e in subst (IsOf at) p.2 (refl, group m p.0, refl))

of_expression : (at : At) (n : ℕ) (ws : List Vertex) → Adds at n ws → (j : ℕ) (w : Vertex) → slice_get ws j ≡ Some w → IsOf at w
of_expression at n _ (one_operation o args below) j w e = at_place (IsOf at) (vertex at o args ∷ []) j w (All-cons (IsOf at) (vertex at o args) [] (refl, o, refl) (All-nil (IsOf at))) e
of_expression at n _ (behind_a_scalar c o args below) j w e =
    let v = vertex at (constant c) [] in let u = vertex at o args in
    at_place (IsOf at) (v ∷ u ∷ []) j w (All-cons (IsOf at) v (u ∷ []) (refl, constant c, refl) (All-cons (IsOf at) u [] (refl, o, refl) (All-nil (IsOf at)))) e
of_expression at n _ (over_columns o columns safe below) j w e = each_of_columns at o columns j w e
of_expression at n _ (of_groups m parts args below) j w e = each_of_parts at m args parts j w e

-- a variable by its place in the selection
abbrev IsEntry : SeenStore → ℕ → List ℕ → ℕ × Class → Type 0
IsEntry store from sel x = (k : ℕ) × (k < length sel) × (x ≡ (from + k, class_of_format (format_at store (get_or sel k 0))))

entry_in : (store : SeenStore) (from : ℕ) (sel : List ℕ) (j : ℕ) (x : ℕ × Class) → slice_get (variables_from store from sel) j ≡ Some x → IsEntry store from sel x
entry_in store from [] j x e = absurd cc
entry_in store from (v ∷ sel) zero x e =
    (0, some (length sel), sym (inside (from, class_of_format (format_at store v)) x e) ∙ ap (λ n. (n, class_of_format (format_at store v))) (none from)) where
      some : (n : ℕ) → 0 < suc n
      some n = omega arith

      none : (n : ℕ) → n ≡ n + 0
      none n = omega arith
entry_in store from (v ∷ sel) (suc j) x e =
    (let w = entry_in store (from + 1) sel j x e in (suc w.0, more w.0 (length sel) w.1, w.2 ∙ ap (λ n. (n, class_of_format (format_at store (get_or sel w.0 0)))) (moved from w.0))) where
      more : (a b : ℕ) → a < b → suc a < suc b
      more a b l = omega (arith, l)

      moved : (a b : ℕ) → a + 1 + b ≡ a + suc b
      moved a b = omega arith

-- a variable of the datastore, with its call
abbrev IsVariableOf : At → ℕ → SeenStore → Vertex → Type 0
IsVariableOf at place store w = (k : ℕ) × (k < length store.selected) × (w ≡ variable_of at place (k, variable_class store k))

added_variable : (at : At) (place : ℕ) (store : SeenStore) (n j : ℕ) (w : Vertex) → slice_get (take n (variable_vertices at place store)) j ≡ Some w → IsVariableOf at place store w
added_variable at place store n j w e =
    let m = in_map (variable_of at place) (variables_from store 0 store.selected) j w (in_front n (variable_vertices at place store) j w e) in
    let x = entry_in store 0 store.selected j m.0 m.1 in
    (x.0, x.1, sym m.2 ∙ (ap (variable_of at place) x.2 ∙ ap (λ k. variable_of at place (k, variable_class store x.0)) (none x.0))) where
      none : (n : ℕ) → 0 + n ≡ n
      none n = omega arith

-- ---- what is kept

abbrev Found : List Store → At → (place variable : ℕ) → Class → Type 0
Found stores at place variable class = (d : Store) × (slice_get stores place ≡ Some d) × (at ≡ d.at) × (variable < length d.store.selected) × (class ≡ variable_class d.store variable)

pub start : AreKept [] []
start = record { found = λ i v place variable class e is. absurd cc; alone = λ i place v d e there same. absurd cc }

both_stored : (place variable : ℕ) (class : Class) (made : Made) → IsStored made → AreBothStored (stored place variable class) made
both_stored place variable class (stored s v c) h = tt
both_stored place variable class (operation o) h = absurd h

pub may_stand : (stores : List Store) (vs : List Vertex) (place : ℕ) (d : Store) → AreKept stores vs → slice_get stores place ≡ Some d → All (MayStandBeside d.at place) vs
may_stand stores vs place d kept there = all_at (MayStandBeside d.at place) vs (λ i w e. record {
  stored_alone = λ same variable class. both_stored place variable class w.made (kept.alone i place w d e there same);
  called = λ variable class one. called i w e variable class w.made refl one;
}) where
  called : (i : ℕ) (w : Vertex) → slice_get vs i ≡ Some w → (variable : ℕ) (class : Class) (made : Made) → w.made ≡ made → OfOneStore (stored place variable class) made → d.at ≡ w.at
  called i w e variable class (operation o) is one = absurd one
  called i w e variable class (stored s v c) is one =
      (let f = kept.found i w s v c e is in ap (λ (x : Store). x.at) (inside d f.0 (sym there ∙ (ap (slice_get stores) one ∙ f.1))) ∙ sym f.2)

of_operation : (o : Op) (place variable : ℕ) (class : Class) → operation o ≡ stored place variable class → ⊥
of_operation o place variable class h = cc

pub computed : (stores : List Store) (at : At) (old new : List Vertex) → AreKept stores old → CallsAreLower at stores → Extends at old new → AreKept stores new
computed stores at old new kept lower grown = record {
  found = λ i v place variable class e is. elim (parts i v e) [ inl h ↦ kept.found i v place variable class h is | inr h ↦ absurd (of_operation (new_one h).1 place variable class (sym (new_one h).2 ∙ is)) ];
  alone = λ i place v d e there same. elim (parts i v e) [ inl h ↦ kept.alone i place v d h there same | inr h ↦ absurd (above v d (new_one h).0 same (lower place d there)) ];
} where
  parts : (i : ℕ) (v : Vertex) → slice_get new i ≡ Some v → (slice_get old i ≡ Some v) ⊎ ((j : ℕ) × (slice_get grown.0 j ≡ Some v))
  parts i v e = in_parts old grown.0 i v (subst (λ vs. slice_get vs i ≡ Some v) grown.2 e)

  new_one : {v : Vertex} → (j : ℕ) × (slice_get grown.0 j ≡ Some v) → IsOf at v
  new_one {v} h = of_expression at (length old) grown.0 grown.1 h.0 v h.1

  above : (v : Vertex) (d : Store) → v.at ≡ at → v.at.number ≡ d.at.number → d.at.number < at.number → ⊥
  above v d e same l = (let n : v.at.number ≡ at.number = ap (λ (x : At). x.number) e in omega (arith, n, same, l))

abbrev place_in : Made → ℕ
place_in made = elim made [ stored s v c ↦ s | operation o ↦ 0 ]

abbrev variable_in : Made → ℕ
variable_in made = elim made [ stored s v c ↦ v | operation o ↦ 0 ]

pub tall : (stores : List Store) (place : ℕ) (d : Store) (old new : List Vertex) → AreKept stores old → slice_get stores place ≡ Some d → AddsVariables d.at place d.store old new → AreKept stores new
tall stores place d old new kept there grown = record {
  found = λ i v s variable class e is. elim (parts i v e) [ inl h ↦ kept.found i v s variable class h is | inr h ↦ its_own v s variable class (new_one v h) is ];
  alone = λ i s v x e at same. elim (parts i v e) [ inl h ↦ kept.alone i s v x h at same | inr h ↦ subst (λ (w : Vertex). IsStored w.made) (sym (new_one v h).2) tt ];
} where
  parts : (i : ℕ) (v : Vertex) → slice_get new i ≡ Some v → (slice_get old i ≡ Some v) ⊎ ((j : ℕ) × (slice_get (take grown.0 (variable_vertices d.at place d.store)) j ≡ Some v))
  parts i v e = in_parts old (take grown.0 (variable_vertices d.at place d.store)) i v (subst (λ vs. slice_get vs i ≡ Some v) grown.1 e)

  new_one : (v : Vertex) → (j : ℕ) × (slice_get (take grown.0 (variable_vertices d.at place d.store)) j ≡ Some v) → IsVariableOf d.at place d.store v
  new_one v h = added_variable d.at place d.store grown.0 h.0 v h.1

  its_own : (v : Vertex) (s variable : ℕ) (class : Class) → IsVariableOf d.at place d.store v → v.made ≡ stored s variable class → Found stores v.at s variable class
  its_own v s variable class x is =
      let k = x.0 in let c = variable_class d.store k in
      let same : stored place k c ≡ stored s variable class = sym (ap (λ (w : Vertex). w.made) x.2) ∙ is in
      let p : place ≡ s = ap place_in same in let q : k ≡ variable = ap variable_in same in
      let r : c ≡ class = of_class c same in
      (d, subst (λ n. slice_get stores n ≡ Some d) p there, ap (λ (w : Vertex). w.at) x.2, subst (λ n. n < length d.store.selected) q x.1, sym r ∙ ap (variable_class d.store) q) where
        of_class : {a b m n : ℕ} {y z : Class} (none : Class) → stored a m y ≡ stored b n z → y ≡ z
        of_class none e = ap (λ made. elim made [ stored s v c ↦ c | operation o ↦ none ]) e

pub made_more : (stores : List Store) (at : At) (store : SeenStore) (vs : List Vertex) → AreKept stores vs → All (IsLower at) vs → AreKept (stores ++ record { at = at; store = store } ∷ []) vs
made_more stores at store vs kept lower =
    let new : Store = record { at = at; store = store } in record {
      found = λ i v place variable class e is. (let f = kept.found i v place variable class e is in (f.0, get_left stores (new ∷ []) place f.0 f.1, f.2, f.3, f.4));
      alone = λ i place v d e there same. elim (old_or_new stores new d place there) [ inl h ↦ kept.alone i place v d e h same | inr h ↦ absurd (above v d (at_place (IsLower at) vs i v lower e) (sym (ap (λ (x : Store). x.at.number) h.1)) same) ];
    } where
      above : (v : Vertex) (d : Store) → v.at.number < at.number → d.at.number ≡ at.number → v.at.number ≡ d.at.number → ⊥
      above v d l e same = omega (arith, l, e, same)

pub changed_more : (stores : List Store) (place : ℕ) (d : Store) (store : SeenStore) (vs : List Vertex) → AreKept stores vs → slice_get stores place ≡ Some d → AreKept (stores ++ record { at = d.at; store = store } ∷ []) vs
changed_more stores place d store vs kept there =
    let new : Store = record { at = d.at; store = store } in record {
      found = λ i v s variable class e is. (let f = kept.found i v s variable class e is in (f.0, get_left stores (new ∷ []) s f.0 f.1, f.2, f.3, f.4));
      alone = λ i s v x e at same. elim (old_or_new stores new x s at) [ inl h ↦ kept.alone i s v x e h same | inr h ↦ kept.alone i place v d e there (same ∙ sym (ap (λ (y : Store). y.at.number) h.1)) ];
    }

pub lower : (at next : At) (place : ℕ) (store : SeenStore) (old new : List Vertex) → at.number < next.number → AddsVariables at place store old new → All (IsLower next) old → All (IsLower next) new
lower at next place store old new l grown all =
    let ws = take grown.0 (variable_vertices at place store) in
    subst (All (IsLower next)) (sym grown.1)
    (All-append (IsLower next) old ws all (all_at (IsLower next) ws (λ j w e. subst (IsLower next) (sym (added_variable at place store grown.0 j w e).2) l)))

-- ---- what was so before

pub stored_before : (files : Files) (stores later : List Store) (old more : List Vertex) (columns : Columns) → AreKept stores old → AreStored files (stores ++ later) (old ++ more) columns → AreStored files stores old columns
stored_before files stores later old more columns kept are i v place variable class there is =
    let c = are i v place variable class (get_left old more i v there) is in
    let k = kept.found i v place variable class there is in
    let same : c.found ≡ k.0 = inside c.found k.0 (sym c.there ∙ get_left stores later place k.0 k.1) in
    record { found = k.0; there = k.1; called = k.2; selected = k.3; kind = k.4; told = c.told ∙ ap (λ d. column_outcome files place d variable) same }

pub means_before : (at : At) (place : ℕ) (store : SeenStore) (old new : List Vertex) (columns : Columns) (f : ℕ → Tall) → AddsVariables at place store old new → IsMeaning columns new f → IsMeaning columns old f
means_before at place store old new columns f grown m = meaning_kept columns old (take grown.0 (variable_vertices at place store)) f (subst (λ vs. IsMeaning columns vs f) grown.1 m)
