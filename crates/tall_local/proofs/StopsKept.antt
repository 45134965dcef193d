-- What the refusal of each part of an expression is, the refusal of the whole is.
use Rattle.std.proofs.Common.{ℕ, List, Bool, true, false}
use Rattle.std.specs.Prelude.{if◌then◌else◌, Option, None, Some, Result, Ok, Err}
use Rattle.tall_grammar.specs.declared.expressions.Prefix.{Prefix}
use Rattle.tall_grammar.specs.declared.expressions.Infix.{Infix}
use Rattle.tall_grammar.specs.Trees.{Tree, tree, Args, no_args, value_arg, colon_arg}
use Rattle.tall_grammar.specs.Trees as trees
use Rattle.tall_local.specs.Arguments.{Argument, function}
use Rattle.tall_local.specs.Expressions.{Language, Valued, gives, stops, go_on, answered, Callee, a_function, no_function, a_value, callee, handle_in, call_value, argument, value, arguments}
use Rattle.tall_local.specs.FunctionFaults.{OnRefused, OnStopped}
use Rattle.tall_local.specs.Refusals.{Refusal, undefined, stop_at}

module _ {F V S : Type 0} (L : Language F V S) (Is : Refusal → Type 0)
    (unknown : (x : List ℕ) → Is (undefined x))
    (handles : (x : List ℕ) → Is (L.handle x))
    (names : (s : S) (x : List ℕ) → OnRefused Is (L.name s x))
    (prefixes : (n l : ℕ) (op : Prefix) (v : V) → OnRefused Is (L.prefix_value n l op v))
    (infixes : (n l : ℕ) (op : Infix) (v w : V) → OnRefused Is (L.infix_value n l op v w))
    (members : (v : V) (x : List ℕ) → OnRefused Is (L.member v x))
    (indexes : (n l : ℕ) (v : V) (args : List (Argument V)) → OnRefused Is (L.index n l v args))
    (calls : (n l : ℕ) (f : F) (args : List (Argument V)) (s : S) → OnStopped Is (L.call n l f args s)) where
  on : {W X : Type 0} (v : Valued W S) (f : W → S → Valued X S) → OnStopped Is v → ((w : W) (t : S) → OnStopped Is (f w t)) → OnStopped Is (go_on v f)
  on (gives w t) f h k = k w t
  on (stops stop t) f h k = h

  an_answer : (line : ℕ) (s : S) (r : Result V Refusal) → OnRefused Is r → OnStopped Is (answered line s r)
  an_answer line s (Ok v) h = tt
  an_answer line s (Err e) h = h

  argument_answer : Bool → ℕ → List ℕ → S → Valued (Argument V) S
  argument_answer b l x s = if b then gives (function x) s else stops (stop_at l (undefined x)) s

  by_test : (b : Bool) (l : ℕ) (x : List ℕ) (s : S) → OnStopped Is (argument_answer b l x s)
  unfolding argument_answer
  by_test true l x s = tt
  by_test false l x s = unknown x

  one_argument : (a : Option (ℕ × List ℕ)) (first : S → Valued V S) → ((t : S) → OnStopped Is (first t)) → (s : S) → OnStopped Is (argument L a first s)
  unfolding argument_answer
  one_argument None first h s = on (first s) _ (h s) (λ v t. tt)
  one_argument (Some a) first h s = by_test (L.function_is_there a.1) a.0 a.1 s

  a_call : (n l : ℕ) (c : Callee F) (first : S → Valued V S) (rest : Bool → S → Valued (List (Argument V)) S) → ((t : S) → OnStopped Is (first t))
      → ((takes : Bool) (t : S) → OnStopped Is (rest takes t)) → (s : S) → OnStopped Is (call_value L n l c first rest s)
  a_call n l (a_function f) first rest h k s = on (rest (L.takes_handles f) s) _ (k (L.takes_handles f) s) (λ args t. calls n l f args t)
  a_call n l (no_function line name) first rest h k s = unknown name
  a_call n l a_value first rest h k s =
      on (first s) _ (h s) (λ v t. on (rest false t) _ (k false t) (λ args u. an_answer l u (L.index n l v args) (indexes n l v args)))

  mutual
    pub value_stops : (e : Tree) (s : S) → OnStopped Is (value L e s)
    value_stops (tree n l (trees.number d)) s = tt
    value_stops (tree n l (trees.text t)) s = tt
    value_stops (tree n l (trees.name x)) s = an_answer l s (L.name s x) (names s x)
    value_stops (tree n l (trees.list es)) s = tt
    value_stops (tree n l (trees.handle x)) s = handles x
    value_stops (tree n l (trees.prefixed op e)) s = on (value L e s) _ (value_stops e s) (λ v t. an_answer l t (L.prefix_value n l op v) (prefixes n l op v))
    value_stops (tree n l (trees.joined op e f)) s =
        on (value L e s) _ (value_stops e s) (λ v t. on (value L f t) _ (value_stops f t) (λ w u. an_answer l u (L.infix_value n l op v w) (infixes n l op v w)))
    value_stops (tree n l (trees.member e x)) s = on (value L e s) _ (value_stops e s) (λ v t. an_answer l t (L.member v x) (members v x))
    value_stops (tree n l (trees.call e args)) s =
        a_call n l (callee L s e) (λ t. value L e t) (λ takes t. arguments L args takes t) (λ t. value_stops e t) (λ takes t. arguments_stop args takes t) s

    pub arguments_stop : (args : Args) (takes : Bool) (s : S) → OnStopped Is (arguments L args takes s)
    arguments_stop no_args takes s = tt
    arguments_stop (value_arg e args) takes s =
        on (argument L (handle_in takes e) (λ t. value L e t) s) _ (one_argument (handle_in takes e) (λ t. value L e t) (λ t. value_stops e t) s)
        (λ a t. on (arguments L args takes t) _ (arguments_stop args takes t) (λ rest u. tt))
    arguments_stop (colon_arg args) takes s = on (arguments L args takes s) _ (arguments_stop args takes s) (λ rest t. tt)
