-- To list the calls of an expression changes nothing of what it gives.
use Rattle.std.proofs.Common.{◌≡◌, ℕ, List, Bool, true, false, refl, ap, ◌∙◌}
use Rattle.std.specs.Prelude.{if◌then◌else◌, Option, None, Some, Result, Ok, Err}
use Rattle.tall_grammar.specs.Trees.{Tree, tree, Args, no_args, value_arg, colon_arg}
use Rattle.tall_grammar.specs.Trees as trees
use Rattle.tall_local.specs.Arguments.{Argument}
use Rattle.tall_local.specs.CallsMade.{Call, with_calls, listing, unlisted}
use Rattle.tall_local.specs.Expressions.{Language, Valued, gives, stops, go_on, answered, Callee, a_function, no_function, a_value, callee, handle_in, call_value, argument, value, arguments}
use Rattle.tall_local.specs.Refusals.{Refusal}

unlisted_with : {W S C : Type 0} (calls : C) (v : Valued W S) → unlisted (with_calls calls v) ≡ v
unlisted_with calls (gives w s) = refl
unlisted_with calls (stops stop s) = refl

unlisted_answer : {V S C : Type 0} (line : ℕ) (s : S) (calls : C) (r : Result V Refusal) → unlisted (answered line (s, calls) r) ≡ answered line s r
unlisted_answer line s calls (Ok v) = refl
unlisted_answer line s calls (Err e) = refl

unlisted_choice : {W S C : Type 0} (b : Bool) (u v : Valued W (S × C)) (w x : Valued W S) → unlisted u ≡ w → unlisted v ≡ x → unlisted (if b then u else v) ≡ (if b then w else x)
unlisted_choice true u v w x h k = h
unlisted_choice false u v w x h k = k

on_unlisted : {W X S C : Type 0} (u : Valued W (S × C)) (v : Valued W S) (f : W → S × C → Valued X (S × C)) (g : W → S → Valued X S) → unlisted u ≡ v
    → ((w : W) (s : S × C) → unlisted (f w s) ≡ g w s.0) → unlisted (go_on u f) ≡ go_on v g
on_unlisted (gives w s) v f g h k = k w s ∙ ap (λ (x : Valued _ _). go_on x g) h
on_unlisted (stops stop s) v f g h k = ap (λ (x : Valued _ _). go_on x g) h

module _ {F V S : Type 0} (L : Language F V S) where
  abbrev Listed : Type 0
  Listed = S × List (Call F V S)

  same_callee : (e : Tree) (s : Listed) → callee (listing L) s e ≡ callee L s.0 e
  same_callee (tree n l (trees.number d)) s = refl
  same_callee (tree n l (trees.text t)) s = refl
  same_callee (tree n l (trees.name x)) s = refl
  same_callee (tree n l (trees.list es)) s = refl
  same_callee (tree n l (trees.handle x)) s = refl
  same_callee (tree n l (trees.prefixed op e)) s = refl
  same_callee (tree n l (trees.joined op e f)) s = refl
  same_callee (tree n l (trees.member e x)) s = refl
  same_callee (tree n l (trees.call e args)) s = refl

  one_argument : (a : Option (ℕ × List ℕ)) (first : Listed → Valued V Listed) (own : S → Valued V S) → ((t : Listed) → unlisted (first t) ≡ own t.0) → (s : Listed)
      → unlisted (argument (listing L) a first s) ≡ argument L a own s.0
  one_argument None first own h s = on_unlisted (first s) (own s.0) _ _ (h s) (λ v t. refl)
  one_argument (Some a) first own h s = unlisted_choice (L.function_is_there a.1) _ _ _ _ refl refl

  one_call : (n l : ℕ) (c : Callee F) (first : Listed → Valued V Listed) (own : S → Valued V S) (rest : Bool → Listed → Valued (List (Argument V)) Listed) (own_rest : Bool → S → Valued (List (Argument V)) S)
      → ((t : Listed) → unlisted (first t) ≡ own t.0) → ((takes : Bool) (t : Listed) → unlisted (rest takes t) ≡ own_rest takes t.0) → (s : Listed)
      → unlisted (call_value (listing L) n l c first rest s) ≡ call_value L n l c own own_rest s.0
  one_call n l (a_function f) first own rest own_rest h k s =
      on_unlisted (rest (L.takes_handles f) s) (own_rest (L.takes_handles f) s.0) _ _ (k (L.takes_handles f) s) (λ args t. unlisted_with _ (L.call n l f args t.0))
  one_call n l (no_function line name) first own rest own_rest h k s = refl
  one_call n l a_value first own rest own_rest h k s =
      on_unlisted (first s) (own s.0) _ _ (h s) (λ v t. on_unlisted (rest false t) (own_rest false t.0) _ _ (k false t) (λ args u. unlisted_answer l u.0 u.1 (L.index n l v args)))

  mutual
    pub value_unlisted : (e : Tree) (s : Listed) → unlisted (value (listing L) e s) ≡ value L e s.0
    value_unlisted (tree n l (trees.number d)) s = refl
    value_unlisted (tree n l (trees.text t)) s = refl
    value_unlisted (tree n l (trees.name x)) s = unlisted_answer l s.0 s.1 (L.name s.0 x)
    value_unlisted (tree n l (trees.list es)) s = refl
    value_unlisted (tree n l (trees.handle x)) s = refl
    value_unlisted (tree n l (trees.prefixed op e)) s =
        on_unlisted (value (listing L) e s) (value L e s.0) _ _ (value_unlisted e s) (λ v t. unlisted_answer l t.0 t.1 (L.prefix_value n l op v))
    value_unlisted (tree n l (trees.joined op e f)) s =
        on_unlisted (value (listing L) e s) (value L e s.0) _ _ (value_unlisted e s)
        (λ v t. on_unlisted (value (listing L) f t) (value L f t.0) _ _ (value_unlisted f t) (λ w u. unlisted_answer l u.0 u.1 (L.infix_value n l op v w)))
    value_unlisted (tree n l (trees.member e x)) s =
        on_unlisted (value (listing L) e s) (value L e s.0) _ _ (value_unlisted e s) (λ v t. unlisted_answer l t.0 t.1 (L.member v x))
    value_unlisted (tree n l (trees.call e args)) s =
        one_call n l (callee (listing L) s e) (λ t. value (listing L) e t) (λ t. value L e t) (λ takes t. arguments (listing L) args takes t) (λ takes t. arguments L args takes t)
        (λ t. value_unlisted e t) (λ takes t. arguments_unlisted args takes t) s
        ∙ ap (λ c. call_value L n l c (λ t. value L e t) (λ takes t. arguments L args takes t) s.0) (same_callee e s)

    pub arguments_unlisted : (args : Args) (takes : Bool) (s : Listed) → unlisted (arguments (listing L) args takes s) ≡ arguments L args takes s.0
    arguments_unlisted no_args takes s = refl
    arguments_unlisted (value_arg e args) takes s =
        on_unlisted (argument (listing L) (handle_in takes e) (λ t. value (listing L) e t) s) (argument L (handle_in takes e) (λ t. value L e t) s.0) _ _
        (one_argument (handle_in takes e) (λ t. value (listing L) e t) (λ t. value L e t) (λ t. value_unlisted e t) s)
        (λ a t. on_unlisted (arguments (listing L) args takes t) (arguments L args takes t.0) _ _ (arguments_unlisted args takes t) (λ rest u. refl))
    arguments_unlisted (colon_arg args) takes s =
        on_unlisted (arguments (listing L) args takes s) (arguments L args takes s.0) _ _ (arguments_unlisted args takes s) (λ rest t. refl)
