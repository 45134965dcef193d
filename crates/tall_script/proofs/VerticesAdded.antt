-- Each vertex that an expression adds keeps what a graph keeps of its numbers.
use Rattle.std.proofs.Common.{◌≡◌, ℕ, zero, suc, ◌+◌, ◌≤◌, ◌<◌, List, [], ◌∷◌, ◌++◌, refl, ap, sym, subst, arith, inl, inr, ◌⊎◌}
use Rattle.std.proofs.lemmas.List.{length-append}
use Rattle.std.proofs.lemmas.List.Elements.{All-nil, All-cons, All-head, All-tail, All-append}
use Rattle.std.specs.List.{All}
use Rattle.std.specs.Prelude.{true, length, map, slice_get, Option, None, Some}
use Rattle.tall_value.specs.declared.class.Class.{Class}
use Rattle.tall_value.specs.declared.functions.Method.{Method}
use Rattle.tall_semantics.specs.Additions.{MayAdd}
use Rattle.tall_semantics.specs.Deferred.{Vertex, AllBelow}
use Rattle.tall_semantics.specs.Faults.{At}
use Rattle.tall_semantics.specs.Numbered.{MayShare, never_fails}
use Rattle.tall_semantics.specs.Operations.{Op, constant, group, Part, operation}
use Rattle.tall_script.specs.VertexLaws.{vertex, AllOf, Adds, one_operation, behind_a_scalar, over_columns, of_groups, IsLower, variable_of, MayStandBeside, MayFollow}

abbrev some_vertex : Vertex → Option Vertex
some_vertex v = Some v

of_each : (P : Vertex → Type 0) (vs : List Vertex) (j : ℕ) (w : Vertex) → All P vs → slice_get vs j ≡ some_vertex w → P w
of_each P [] j w h e = absurd cc
of_each P (v ∷ vs) zero w h e = subst P (inside v w e) (All-head P v vs h) where
  inside : (x y : Vertex) → some_vertex x ≡ some_vertex y → x ≡ y
  inside x y e = ap (λ o. elim o [ Some z ↦ z | None ↦ x ]) e
of_each P (v ∷ vs) (suc j) w h e = of_each P vs j w (All-tail P v vs h) e

-- a vertex beside which one of this expression may stand
abbrev Fine : At → Op → List ℕ → Vertex → Type 0
Fine at o args w = (w.at.number < at.number) ⊎ ((w.at.number ≡ at.number) × MayShare (vertex at o args) w)

no_higher : (a b : ℕ) (P : Type 0) → (a < b) ⊎ ((a ≡ b) × P) → a ≤ b
no_higher a b P (inl h) = omega (arith, h)
no_higher a b P (inr h) = (let e : a ≡ b = h.0 in omega (arith, e))

shares : (a b : ℕ) (P : Type 0) → (a < b) ⊎ ((a ≡ b) × P) → b ≡ a → P
shares a b P (inl h) e = absurd (omega (arith, h, e))
shares a b P (inr h) e = h.1

add_one : (vs : List Vertex) (at : At) (o : Op) (args : List ℕ) → AllBelow (length vs) args → All (Fine at o args) vs → MayAdd vs (vertex at o args)
add_one vs at o args below fine = record {
  below = below;
  lower = λ a w among e. no_higher w.at.number at.number (MayShare (vertex at o args) w) (of_each (Fine at o args) vs a w fine e);
  calls = λ j w e one. absurd one;
  shared = λ j w e same. shares w.at.number at.number (MayShare (vertex at o args) w) (of_each (Fine at o args) vs j w fine e) same;
}

-- ---- lists

lower_fine : (at : At) (o : Op) (args : List ℕ) (vs : List Vertex) → All (IsLower at) vs → All (Fine at o args) vs
lower_fine at o args [] h = All-nil (Fine at o args)
lower_fine at o args (v ∷ vs) h = All-cons (Fine at o args) v vs (inl (All-head (IsLower at) v vs h)) (lower_fine at o args vs (All-tail (IsLower at) v vs h))

one_more_fine : (at : At) (o : Op) (args : List ℕ) (vs : List Vertex) (w : Vertex) → All (Fine at o args) vs → Fine at o args w → All (Fine at o args) (vs ++ w ∷ [])
one_more_fine at o args vs w h f = All-append (Fine at o args) vs (w ∷ []) h (All-cons (Fine at o args) w [] f (All-nil (Fine at o args)))

more_below : (n m : ℕ) (args : List ℕ) → n ≤ m → AllBelow n args → AllBelow m args
more_below n m [] l h = tt
more_below n m (a ∷ args) l h = (further n m a l h.0, more_below n m args l h.1) where
  further : (x y z : ℕ) → x ≤ y → z < x → z < y
  further x y z l h = omega (arith, l, h)

longer : (vs : List Vertex) (w : Vertex) → length (vs ++ w ∷ []) ≡ length vs + 1
longer vs w = length-append vs (w ∷ [])

no_less : (vs : List Vertex) (w : Vertex) → length vs ≤ length (vs ++ w ∷ [])
no_less vs w = (let e = longer vs w in omega (arith, e))

-- ---- forms

abbrev NeverFails : Op → Type 0
NeverFails o = never_fails (operation o) ≡ true

columns_follow : (vs : List Vertex) (at : At) (o : Op) (n : ℕ) (columns : List (List ℕ)) → NeverFails o → n ≤ length vs → AllOf (AllBelow n) columns
    → ((args : List ℕ) → All (Fine at o args) vs) → MayFollow vs (map (vertex at o) columns)
columns_follow vs at o n [] safe l below fine = tt
columns_follow vs at o n (args ∷ columns) safe l below fine =
    let w = vertex at o args in (
      add_one vs at o args (more_below n (length vs) args l below.0) (fine args),
      columns_follow (vs ++ w ∷ []) at o n columns safe (at_most n (length vs) (length (vs ++ w ∷ [])) l (no_less vs w)) below.1
          (λ more. one_more_fine at o more vs w (fine more) (inr (refl, inr (inr (inl safe))))),
    ) where
      at_most : (a b c : ℕ) → a ≤ b → b ≤ c → a ≤ c
      at_most a b c h k = omega (arith, h, k)

parts_follow : (vs : List Vertex) (at : At) (m : Method) (n : ℕ) (args : List ℕ) (parts : List Part) → n ≤ length vs → AllBelow n args
    → ((part : Part) → All (Fine at (group m part) args) vs) → MayFollow vs (map (λ part. vertex at (group m part) args) parts)
parts_follow vs at m n args [] l below fine = tt
parts_follow vs at m n args (part ∷ parts) l below fine =
    let w = vertex at (group m part) args in (
      add_one vs at (group m part) args (more_below n (length vs) args l below) (fine part),
      parts_follow (vs ++ w ∷ []) at m n args parts (at_most n (length vs) (length (vs ++ w ∷ [])) l (no_less vs w)) below
          (λ other. one_more_fine at (group m other) args vs w (fine other) (inr (refl, inr (inl (refl, refl, refl))))),
    ) where
      at_most : (a b c : ℕ) → a ≤ b → b ≤ c → a ≤ c
      at_most a b c h k = omega (arith, h, k)

itself : (n : ℕ) → n ≤ n
itself n = omega arith

pub expression_follows : (vs ws : List Vertex) (at : At) → All (IsLower at) vs → Adds at (length vs) ws → MayFollow vs ws
expression_follows vs _ at lower (one_operation o args below) = (add_one vs at o args below (lower_fine at o args vs lower), tt)
expression_follows vs _ at lower (behind_a_scalar c o args below) =
    let w = vertex at (constant c) [] in (
      add_one vs at (constant c) [] tt (lower_fine at (constant c) [] vs lower),
      (
        add_one (vs ++ w ∷ []) at o args (subst (λ n. AllBelow n args) (sym (longer vs w)) below)
            (one_more_fine at o args vs w (lower_fine at o args vs lower) (inr (refl, inr (inr (inr refl))))),
        tt,
      ),
    )
expression_follows vs _ at lower (over_columns o columns safe below) =
    columns_follow vs at o (length vs) columns safe (itself (length vs)) below (λ args. lower_fine at o args vs lower)
expression_follows vs _ at lower (of_groups m parts args below) =
    parts_follow vs at m (length vs) args parts (itself (length vs)) below (λ part. lower_fine at (group m part) args vs lower)

-- ---- variables of a datastore

beside_another : (at : At) (place variable : ℕ) (class : Class) → MayStandBeside at place (variable_of at place (variable, class))
beside_another at place variable class = record { stored_alone = λ e v c. tt; called = λ v c e. refl }

one_variable : (vs : List Vertex) (at : At) (place : ℕ) (x : ℕ × Class) → All (MayStandBeside at place) vs → MayAdd vs (variable_of at place x)
one_variable vs at place x fine = record {
  below = tt;
  lower = λ a w among e. absurd among;
  calls = λ j w e one. (of_each (MayStandBeside at place) vs j w fine e).called x.0 x.1 one;
  shared = λ j w e same. inl ((of_each (MayStandBeside at place) vs j w fine e).stored_alone (sym same) x.0 x.1);
}

pub variables_follow : (vs : List Vertex) (at : At) (place : ℕ) (xs : List (ℕ × Class)) → All (MayStandBeside at place) vs → MayFollow vs (map (variable_of at place) xs)
variables_follow vs at place [] fine = tt
variables_follow vs at place (x ∷ xs) fine =
    let w = variable_of at place x in (
      one_variable vs at place x fine,
      variables_follow (vs ++ w ∷ []) at place xs
          (All-append (MayStandBeside at place) vs (w ∷ []) fine (All-cons (MayStandBeside at place) w [] (beside_another at place x.0 x.1) (All-nil (MayStandBeside at place)))),
    )
