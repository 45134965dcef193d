-- Expressions change a state by their calls alone.
use Rattle.std.proofs.Common.{◌≡◌, ℕ, List, Bool, true, false, refl, ap, sym}
use Rattle.std.proofs.lemmas.Bool.{and_parts, and_from, true≢false}
use Rattle.std.specs.Prelude.{if◌then◌else◌, ◌&&◌, not, Option, None, Some, Result, Ok, Err}
use Rattle.tall_grammar.specs.Trees.{Tree, tree, Args, no_args, value_arg, colon_arg}
use Rattle.tall_grammar.specs.Trees as trees
use Rattle.tall_local.specs.Arguments.{Argument, given}
use Rattle.tall_local.specs.Expressions.{Language, Valued, gives, stops, go_on, answered, a_value, callee_named, callee, handle_in, call_value, argument, value, arguments}
use Rattle.tall_local.specs.Refusals.{Refusal}
use Rattle.tall_local.specs.StateLaws.{state_after, IsKept, is_name_in, calls_none, calls_none_in, CallsKeepBut, CallsKeep}

not_true : (b : Bool) → not b ≡ true → b ≡ false
not_true false h = refl
not_true true h = absurd (true≢false (sym h))

module _ {F V S : Type 0} (L : Language F V S) (R : S → S → Type 0) (kept : IsKept R) (test : List ℕ → Bool) (calls : CallsKeepBut test L R) where
  kept_on : {W X : Type 0} (s : S) (v : Valued W S) (f : W → S → Valued X S) → R s (state_after v) → ((w : W) (t : S) → R t (state_after (f w t)))
      → R s (state_after (go_on v f))
  kept_on s (gives w t) f first rest = kept.both s t (state_after (f w t)) first (rest w t)
  kept_on s (stops stop t) f first rest = first

  kept_answer : (line : ℕ) (s : S) (r : Result V Refusal) → R s (state_after (answered line s r))
  kept_answer line s (Ok v) = kept.nothing s
  kept_answer line s (Err e) = kept.nothing s

  kept_choice : {X : Type 0} (b : Bool) (s : S) (v w : Valued X S) → R s (state_after v) → R s (state_after w) → R s (state_after (if b then v else w))
  kept_choice true s v w h k = h
  kept_choice false s v w h k = k

  kept_argument : (h : Option (ℕ × List ℕ)) (first : S → Valued V S) → ((t : S) → R t (state_after (first t))) → (s : S) → R s (state_after (argument L h first s))
  kept_argument None first h s = kept_on s (first s) (λ v t. gives (given v) t) (h s) (λ v t. kept.nothing t)
  kept_argument (Some h) first k s = kept_choice (L.function_is_there h.1) s _ _ (kept.nothing s) (kept.nothing s)

  -- a function that stands before parentheses is that of a name which the test doesn't tell
  kept_name : (x : List ℕ) (has : Bool) (found : Option F) → L.function_named x ≡ found → test x ≡ false → (n l m : ℕ) (first : S → Valued V S) (rest : Bool → S → Valued (List (Argument V)) S)
      → ((t : S) → R t (state_after (first t))) → ((takes : Bool) (t : S) → R t (state_after (rest takes t))) → (s : S)
      → R s (state_after (call_value L n l (if has then a_value else callee_named m x found) first rest s))
  kept_name x true found e untold n l m first rest h k s =
      kept_on s (first s) _ (h s) (λ v t. kept_on t (rest false t) _ (k false t) (λ args u. kept_answer l u (L.index n l v args)))
  kept_name x false None e untold n l m first rest h k s = kept.nothing s
  kept_name x false (Some f) e untold n l m first rest h k s =
      kept_on s (rest (L.takes_handles f) s) _ (k (L.takes_handles f) s) (λ args t. calls x n l f args t e untold)

  kept_value : (n l : ℕ) (first : S → Valued V S) (rest : Bool → S → Valued (List (Argument V)) S)
      → ((t : S) → R t (state_after (first t))) → ((takes : Bool) (t : S) → R t (state_after (rest takes t))) → (s : S)
      → R s (state_after (call_value L n l a_value first rest s))
  kept_value n l first rest h k s =
      kept_on s (first s) _ (h s) (λ v t. kept_on t (rest false t) _ (k false t) (λ args u. kept_answer l u (L.index n l v args)))

  kept_call : (n l : ℕ) (e : Tree) (first : S → Valued V S) (rest : Bool → S → Valued (List (Argument V)) S) → is_name_in test e ≡ false
      → ((t : S) → R t (state_after (first t))) → ((takes : Bool) (t : S) → R t (state_after (rest takes t))) → (s : S)
      → R s (state_after (call_value L n l (callee L s e) first rest s))
  kept_call n l (tree i j (trees.number d)) first rest untold h k s = kept_value n l first rest h k s
  kept_call n l (tree i j (trees.text t)) first rest untold h k s = kept_value n l first rest h k s
  kept_call n l (tree i j (trees.name x)) first rest untold h k s = kept_name x (L.has_value s x) (L.function_named x) refl untold n l j first rest h k s
  kept_call n l (tree i j (trees.list es)) first rest untold h k s = kept_value n l first rest h k s
  kept_call n l (tree i j (trees.handle x)) first rest untold h k s = kept_value n l first rest h k s
  kept_call n l (tree i j (trees.prefixed op e)) first rest untold h k s = kept_value n l first rest h k s
  kept_call n l (tree i j (trees.joined op e f)) first rest untold h k s = kept_value n l first rest h k s
  kept_call n l (tree i j (trees.member e x)) first rest untold h k s = kept_value n l first rest h k s
  kept_call n l (tree i j (trees.call e args)) first rest untold h k s = kept_value n l first rest h k s

  mutual
    pub value_kept_but : (e : Tree) (s : S) → calls_none test e ≡ true → R s (state_after (value L e s))
    value_kept_but (tree n l (trees.number d)) s c = kept.nothing s
    value_kept_but (tree n l (trees.text t)) s c = kept.nothing s
    value_kept_but (tree n l (trees.name x)) s c = kept_answer l s (L.name s x)
    value_kept_but (tree n l (trees.list es)) s c = kept.nothing s
    value_kept_but (tree n l (trees.handle x)) s c = kept.nothing s
    value_kept_but (tree n l (trees.prefixed op e)) s c = kept_on s (value L e s) _ (value_kept_but e s c) (λ v t. kept_answer l t (L.prefix_value n l op v))
    value_kept_but (tree n l (trees.joined op e f)) s c =
        let p = and_parts (calls_none test e) (calls_none test f) c in
        kept_on s (value L e s) _ (value_kept_but e s p.0) (λ v t. kept_on t (value L f t) _ (value_kept_but f t p.1) (λ w u. kept_answer l u (L.infix_value n l op v w)))
    value_kept_but (tree n l (trees.member e x)) s c = kept_on s (value L e s) _ (value_kept_but e s c) (λ v t. kept_answer l t (L.member v x))
    value_kept_but (tree n l (trees.call e args)) s c =
        let p = and_parts (not (is_name_in test e)) (calls_none test e && calls_none_in test args) c in
        let q = and_parts (calls_none test e) (calls_none_in test args) p.1 in
        kept_call n l e (λ t. value L e t) (λ takes t. arguments L args takes t) (not_true (is_name_in test e) p.0)
        (λ t. value_kept_but e t q.0) (λ takes t. arguments_kept_but args takes t q.1) s

    pub arguments_kept_but : (args : Args) (takes : Bool) (s : S) → calls_none_in test args ≡ true → R s (state_after (arguments L args takes s))
    arguments_kept_but no_args takes s c = kept.nothing s
    arguments_kept_but (value_arg e args) takes s c =
        let p = and_parts (calls_none test e) (calls_none_in test args) c in
        kept_on s (argument L (handle_in takes e) (λ t. value L e t) s) _ (kept_argument (handle_in takes e) (λ t. value L e t) (λ t. value_kept_but e t p.0) s)
        (λ a t. kept_on t (arguments L args takes t) _ (arguments_kept_but args takes t p.1) (λ rest u. kept.nothing u))
    arguments_kept_but (colon_arg args) takes s c = kept_on s (arguments L args takes s) _ (arguments_kept_but args takes s c) (λ rest t. kept.nothing t)

-- ---- where all calls keep it

abbrev no_name : List ℕ → Bool
no_name x = false

no_name_before : (e : Tree) → is_name_in no_name e ≡ false
no_name_before (tree n l (trees.number d)) = refl
no_name_before (tree n l (trees.text t)) = refl
no_name_before (tree n l (trees.name x)) = refl
no_name_before (tree n l (trees.list es)) = refl
no_name_before (tree n l (trees.handle x)) = refl
no_name_before (tree n l (trees.prefixed op e)) = refl
no_name_before (tree n l (trees.joined op e f)) = refl
no_name_before (tree n l (trees.member e x)) = refl
no_name_before (tree n l (trees.call e args)) = refl

mutual
  none_called : (e : Tree) → calls_none no_name e ≡ true
  none_called (tree n l (trees.number d)) = refl
  none_called (tree n l (trees.text t)) = refl
  none_called (tree n l (trees.name x)) = refl
  none_called (tree n l (trees.list es)) = refl
  none_called (tree n l (trees.handle x)) = refl
  none_called (tree n l (trees.prefixed op e)) = none_called e
  none_called (tree n l (trees.joined op e f)) = and_from (calls_none no_name e) (calls_none no_name f) (none_called e) (none_called f)
  none_called (tree n l (trees.member e x)) = none_called e
  none_called (tree n l (trees.call e args)) =
      and_from (not (is_name_in no_name e)) (calls_none no_name e && calls_none_in no_name args) (ap not (no_name_before e))
      (and_from (calls_none no_name e) (calls_none_in no_name args) (none_called e) (none_called_in args))

  none_called_in : (args : Args) → calls_none_in no_name args ≡ true
  none_called_in no_args = refl
  none_called_in (value_arg e args) = and_from (calls_none no_name e) (calls_none_in no_name args) (none_called e) (none_called_in args)
  none_called_in (colon_arg args) = none_called_in args

module _ {F V S : Type 0} (L : Language F V S) (R : S → S → Type 0) (kept : IsKept R) (calls : CallsKeep L R) where
  pub value_kept : (e : Tree) (s : S) → R s (state_after (value L e s))
  value_kept e s = value_kept_but L R kept no_name (λ x n l f args t there untold. calls n l f args t) e s (none_called e)

  pub arguments_kept : (args : Args) (takes : Bool) (s : S) → R s (state_after (arguments L args takes s))
  arguments_kept args takes s = arguments_kept_but L R kept no_name (λ x n l f args t there untold. calls n l f args t) args takes s (none_called_in args)
