-- A change of the state that no name and no call looks at goes through a whole expression.
use Rattle.std.proofs.Common.{◌≡◌, ℕ, List, Bool, true, false, refl, ap, ◌∙◌}
use Rattle.std.specs.Prelude.{if◌then◌else◌, Option, None, Some, Result, Ok, Err}
use Rattle.tall_grammar.specs.Trees.{Tree, tree, Args, no_args, value_arg, colon_arg}
use Rattle.tall_grammar.specs.Trees as trees
use Rattle.tall_local.specs.Arguments.{Argument}
use Rattle.tall_local.specs.Expressions.{Language, Valued, gives, stops, go_on, answered, Callee, a_function, no_function, a_value, callee_named, callee, handle_in, call_value, argument, value, arguments}
use Rattle.tall_local.specs.Refusals.{Refusal}

-- the same answer with another state
abbrev pub with_state : {V S : Type 0} → (S → S) → Valued V S → Valued V S
with_state h (gives v s) = gives v (h s)
with_state h (stops stop s) = stops stop (h s)

pub lifted_answer : {V S : Type 0} (h : S → S) (line : ℕ) (s : S) (r : Result V Refusal) → answered line (h s) r ≡ with_state h (answered line s r)
lifted_answer h line s (Ok v) = refl
lifted_answer h line s (Err e) = refl

pub lifted_choice : {V S : Type 0} (h : S → S) (b : Bool) (v w x y : Valued V S) → v ≡ with_state h x → w ≡ with_state h y
    → (if b then v else w) ≡ with_state h (if b then x else y)
lifted_choice h true v w x y e f = e
lifted_choice h false v w x y e f = f

module _ {F V S : Type 0} (L : Language F V S) (h : S → S)
    (same_value : (s : S) (x : List ℕ) → L.has_value (h s) x ≡ L.has_value s x)
    (same_name : (s : S) (x : List ℕ) → L.name (h s) x ≡ L.name s x)
    (same_call : (n l : ℕ) (f : F) (args : List (Argument V)) (s : S) → L.call n l f args (h s) ≡ with_state h (L.call n l f args s)) where
  on_lifted : {W X : Type 0} (u v : Valued W S) (f : W → S → Valued X S) → u ≡ with_state h v → ((w : W) (t : S) → f w (h t) ≡ with_state h (f w t))
      → go_on u f ≡ with_state h (go_on v f)
  on_lifted u (gives w t) f e k = ap (λ (x : Valued _ S). go_on x f) e ∙ k w t
  on_lifted u (stops stop t) f e k = ap (λ (x : Valued _ S). go_on x f) e

  lifted_callee : (e : Tree) (s : S) → callee L (h s) e ≡ callee L s e
  lifted_callee (tree n l (trees.number d)) s = refl
  lifted_callee (tree n l (trees.text t)) s = refl
  lifted_callee (tree n l (trees.name x)) s = ap (λ b. if b then a_value else callee_named l x (L.function_named x)) (same_value s x)
  lifted_callee (tree n l (trees.list es)) s = refl
  lifted_callee (tree n l (trees.handle x)) s = refl
  lifted_callee (tree n l (trees.prefixed op e)) s = refl
  lifted_callee (tree n l (trees.joined op e f)) s = refl
  lifted_callee (tree n l (trees.member e x)) s = refl
  lifted_callee (tree n l (trees.call e args)) s = refl

  lifted_argument : (a : Option (ℕ × List ℕ)) (first : S → Valued V S) → ((t : S) → first (h t) ≡ with_state h (first t)) → (s : S)
      → argument L a first (h s) ≡ with_state h (argument L a first s)
  lifted_argument None first k s = on_lifted (first (h s)) (first s) _ (k s) (λ v t. refl)
  lifted_argument (Some a) first k s = lifted_choice h (L.function_is_there a.1) _ _ _ _ refl refl

  lifted_call : (n l : ℕ) (c : Callee F) (first : S → Valued V S) (rest : Bool → S → Valued (List (Argument V)) S)
      → ((t : S) → first (h t) ≡ with_state h (first t)) → ((takes : Bool) (t : S) → rest takes (h t) ≡ with_state h (rest takes t)) → (s : S)
      → call_value L n l c first rest (h s) ≡ with_state h (call_value L n l c first rest s)
  lifted_call n l (a_function f) first rest i k s = on_lifted (rest (L.takes_handles f) (h s)) (rest (L.takes_handles f) s) _ (k (L.takes_handles f) s) (λ args t. same_call n l f args t)
  lifted_call n l (no_function line name) first rest i k s = refl
  lifted_call n l a_value first rest i k s =
      on_lifted (first (h s)) (first s) _ (i s) (λ v t. on_lifted (rest false (h t)) (rest false t) _ (k false t) (λ args u. lifted_answer h l u (L.index n l v args)))

  mutual
    pub lifted_value : (e : Tree) (s : S) → value L e (h s) ≡ with_state h (value L e s)
    lifted_value (tree n l (trees.number d)) s = refl
    lifted_value (tree n l (trees.text t)) s = refl
    lifted_value (tree n l (trees.name x)) s = ap (λ r. answered l (h s) r) (same_name s x) ∙ lifted_answer h l s (L.name s x)
    lifted_value (tree n l (trees.list es)) s = refl
    lifted_value (tree n l (trees.handle x)) s = refl
    lifted_value (tree n l (trees.prefixed op e)) s = on_lifted (value L e (h s)) (value L e s) _ (lifted_value e s) (λ v t. lifted_answer h l t (L.prefix_value n l op v))
    lifted_value (tree n l (trees.joined op e f)) s =
        on_lifted (value L e (h s)) (value L e s) _ (lifted_value e s)
        (λ v t. on_lifted (value L f (h t)) (value L f t) _ (lifted_value f t) (λ w u. lifted_answer h l u (L.infix_value n l op v w)))
    lifted_value (tree n l (trees.member e x)) s = on_lifted (value L e (h s)) (value L e s) _ (lifted_value e s) (λ v t. lifted_answer h l t (L.member v x))
    lifted_value (tree n l (trees.call e args)) s =
        ap (λ c. call_value L n l c (λ t. value L e t) (λ takes t. arguments L args takes t) (h s)) (lifted_callee e s)
        ∙ lifted_call n l (callee L s e) (λ t. value L e t) (λ takes t. arguments L args takes t) (λ t. lifted_value e t) (λ takes t. lifted_arguments args takes t) s

    pub lifted_arguments : (args : Args) (takes : Bool) (s : S) → arguments L args takes (h s) ≡ with_state h (arguments L args takes s)
    lifted_arguments no_args takes s = refl
    lifted_arguments (value_arg e args) takes s =
        on_lifted (argument L (handle_in takes e) (λ t. value L e t) (h s)) (argument L (handle_in takes e) (λ t. value L e t) s) _
        (lifted_argument (handle_in takes e) (λ t. value L e t) (λ t. lifted_value e t) s)
        (λ a t. on_lifted (arguments L args takes (h t)) (arguments L args takes t) _ (lifted_arguments args takes t) (λ rest u. refl))
    lifted_arguments (colon_arg args) takes s = on_lifted (arguments L args takes (h s)) (arguments L args takes s) _ (lifted_arguments args takes s) (λ rest t. refl)
