-- What each part of an expression keeps of its values and of the state, the whole keeps.
use Rattle.std.proofs.Common.{ℕ, List, [], ◌∷◌, Bool, true, false}
use Rattle.std.specs.Prelude.{if◌then◌else◌, Option, None, Some, Result, Ok, Err}
use Rattle.tall_grammar.specs.declared.expressions.Prefix.{Prefix}
use Rattle.tall_grammar.specs.declared.expressions.Infix.{Infix}
use Rattle.tall_grammar.specs.Trees.{Tree, tree, Args, no_args, value_arg, colon_arg}
use Rattle.tall_grammar.specs.Trees as trees
use Rattle.tall_local.specs.Arguments.{Argument, given, colon, function}
use Rattle.tall_local.specs.Expressions.{Language, Valued, gives, stops, go_on, answered, Callee, a_function, no_function, a_value, callee, handle_in, call_value, argument, value, arguments}
use Rattle.tall_local.specs.Memory.{Memory, scalar, column, table, texts}
use Rattle.tall_local.specs.Refusals.{Refusal, undefined, stop_at}
use Rattle.tall_local.specs.MemoryLaws.{OnGiven}
use Rattle.tall_local.specs.StateLaws.{IsKept}

-- an argument that is a value is so
abbrev pub ArgumentIs : {V : Type 0} → (V → Type 0) → Argument V → Type 0
ArgumentIs Is (given v) = Is v
ArgumentIs Is colon = Unit {0}
ArgumentIs Is (function name) = Unit {0}

abbrev pub ArgumentsAre : {V : Type 0} → (V → Type 0) → List (Argument V) → Type 0
ArgumentsAre Is [] = Unit {0}
ArgumentsAre Is (a ∷ args) = ArgumentIs Is a × ArgumentsAre Is args

-- a cell or a list of texts
abbrev pub IsLiteral : Memory → Type 0
IsLiteral (scalar c) = Unit {0}
IsLiteral (column x) = ⊥
IsLiteral (table t) = ⊥
IsLiteral (texts ts) = Unit {0}

-- an expression leaves a later state that is well, and gives what is so in it
abbrev pub Gives : {W S : Type 0} → (S → S → Type 0) → (S → Type 0) → (S → W → Type 0) → S → Valued W S → Type 0
Gives R Well Is s (gives w t) = R s t × Well t × Is t w
Gives R Well Is s (stops stop t) = R s t × Well t

module _ {F V S : Type 0} (L : Language F V S) (R : S → S → Type 0) (kept : IsKept R) (Well : S → Type 0) (Is : S → V → Type 0)
    (later : (s t : S) (v : V) → R s t → Is s v → Is t v)
    (literals : (s : S) (m : Memory) → IsLiteral m → Is s (L.literal m))
    (names : (s : S) (x : List ℕ) → Well s → OnGiven (Is s) (L.name s x))
    (prefixes : (s : S) (n l : ℕ) (op : Prefix) (v : V) → Is s v → OnGiven (Is s) (L.prefix_value n l op v))
    (infixes : (s : S) (n l : ℕ) (op : Infix) (v w : V) → Is s v → Is s w → OnGiven (Is s) (L.infix_value n l op v w))
    (members : (s : S) (v : V) (x : List ℕ) → Is s v → OnGiven (Is s) (L.member v x))
    (indexes : (s : S) (n l : ℕ) (v : V) (args : List (Argument V)) → Is s v → ArgumentsAre (Is s) args → OnGiven (Is s) (L.index n l v args))
    (calls : (n l : ℕ) (f : F) (args : List (Argument V)) (s : S) → Well s → ArgumentsAre (Is s) args → Gives R Well Is s (L.call n l f args s)) where
  abbrev IsArgument : S → Argument V → Type 0
  IsArgument s a = ArgumentIs (Is s) a

  abbrev pub AreArguments : S → List (Argument V) → Type 0
  AreArguments s args = ArgumentsAre (Is s) args

  from_later : {W : Type 0} (P : S → W → Type 0) (s t : S) (r : Valued W S) → R s t → Gives R Well P t r → Gives R Well P s r
  from_later P s t (gives w u) h k = (kept.both s t u h k.0, k.1, k.2)
  from_later P s t (stops stop u) h k = (kept.both s t u h k.0, k.1)

  on : {W X : Type 0} (Q : S → W → Type 0) (P : S → X → Type 0) (s : S) (v : Valued W S) (f : W → S → Valued X S) → Gives R Well Q s v
      → ((w : W) (t : S) → R s t → Well t → Q t w → Gives R Well P t (f w t)) → Gives R Well P s (go_on v f)
  on Q P s (gives w t) f h k = from_later P s t (f w t) h.0 (k w t h.0 h.1 h.2)
  on Q P s (stops stop t) f h k = h

  an_answer : (line : ℕ) (s : S) (r : Result V Refusal) → Well s → OnGiven (Is s) r → Gives R Well Is s (answered line s r)
  an_answer line s (Ok v) w h = (kept.nothing s, w, h)
  an_answer line s (Err e) w h = (kept.nothing s, w)

  one_argument : (a : Option (ℕ × List ℕ)) (first : S → Valued V S) → ((t : S) → Well t → Gives R Well Is t (first t)) → (s : S) → Well s
      → Gives R Well IsArgument s (argument L a first s)
  one_argument None first h s w = on Is IsArgument s (first s) _ (h s w) (λ v t r u i. (kept.nothing t, u, i))
  one_argument (Some a) first h s w = by_test (L.function_is_there a.1) where
    by_test : (b : Bool) → Gives R Well IsArgument s (if b then gives (function a.1) s else stops (stop_at a.0 (undefined a.1)) s)
    by_test true = (kept.nothing s, w, tt)
    by_test false = (kept.nothing s, w)

  a_call : (n l : ℕ) (c : Callee F) (first : S → Valued V S) (rest : Bool → S → Valued (List (Argument V)) S) → ((t : S) → Well t → Gives R Well Is t (first t))
      → ((takes : Bool) (t : S) → Well t → Gives R Well AreArguments t (rest takes t)) → (s : S) → Well s → Gives R Well Is s (call_value L n l c first rest s)
  a_call n l (a_function f) first rest h k s w =
      on AreArguments Is s (rest (L.takes_handles f) s) _ (k (L.takes_handles f) s w) (λ args t r u i. calls n l f args t u i)
  a_call n l (no_function line name) first rest h k s w = (kept.nothing s, w)
  a_call n l a_value first rest h k s w =
      on Is Is s (first s) _ (h s w) (λ v t r u i. on AreArguments Is t (rest false t) _ (k false t u)
      (λ args x q y j. an_answer l x (L.index n l v args) y (indexes x n l v args (later t x v q i) j)))

  later_argument : (s t : S) (a : Argument V) → R s t → IsArgument s a → IsArgument t a
  later_argument s t (given v) r i = later s t v r i
  later_argument s t colon r i = tt
  later_argument s t (function name) r i = tt

  mutual
    pub value_is : (e : Tree) (s : S) → Well s → Gives R Well Is s (value L e s)
    value_is (tree n l (trees.number d)) s w = (kept.nothing s, w, literals s _ tt)
    value_is (tree n l (trees.text t)) s w = (kept.nothing s, w, literals s _ tt)
    value_is (tree n l (trees.name x)) s w = an_answer l s (L.name s x) w (names s x w)
    value_is (tree n l (trees.list es)) s w = (kept.nothing s, w, literals s _ tt)
    value_is (tree n l (trees.handle x)) s w = (kept.nothing s, w)
    value_is (tree n l (trees.prefixed op e)) s w =
        on Is Is s (value L e s) _ (value_is e s w) (λ v t r u i. an_answer l t (L.prefix_value n l op v) u (prefixes t n l op v i))
    value_is (tree n l (trees.joined op e f)) s w =
        on Is Is s (value L e s) _ (value_is e s w) (λ v t r u i. on Is Is t (value L f t) _ (value_is f t u)
        (λ x y q z j. an_answer l y (L.infix_value n l op v x) z (infixes y n l op v x (later t y v q i) j)))
    value_is (tree n l (trees.member e x)) s w =
        on Is Is s (value L e s) _ (value_is e s w) (λ v t r u i. an_answer l t (L.member v x) u (members t v x i))
    value_is (tree n l (trees.call e args)) s w =
        a_call n l (callee L s e) (λ t. value L e t) (λ takes t. arguments L args takes t) (λ t u. value_is e t u) (λ takes t u. arguments_are args takes t u) s w

    pub arguments_are : (args : Args) (takes : Bool) (s : S) → Well s → Gives R Well AreArguments s (arguments L args takes s)
    arguments_are no_args takes s w = (kept.nothing s, w, tt)
    arguments_are (value_arg e args) takes s w =
        on IsArgument AreArguments s (argument L (handle_in takes e) (λ t. value L e t) s) _ (one_argument (handle_in takes e) (λ t. value L e t) (λ t u. value_is e t u) s w)
        (λ a t r u i. on AreArguments AreArguments t (arguments L args takes t) _ (arguments_are args takes t u)
        (λ rest x q y j. (kept.nothing x, y, (later_argument t x a q i, j))))
    arguments_are (colon_arg args) takes s w =
        on AreArguments AreArguments s (arguments L args takes s) _ (arguments_are args takes s w) (λ rest t r u i. (kept.nothing t, u, (tt, i)))
