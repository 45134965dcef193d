-- What each form of expression does, from what its parts do.
use Rattle.std.proofs.Common.{◌≡◌, refl, sym, subst, ap, ◌∙◌, ℕ}
use Rattle.std.specs.Prelude.{Bool, true, false, Result, Ok, Err, Option, None, Some}
use Rattle.tall_grammar.specs.declared.expressions.Prefix.{Prefix}
use Rattle.tall_grammar.specs.declared.expressions.Infix.{Infix}
use Rattle.tall_grammar.specs.Trees.{Tree, tree, Args}
use Rattle.tall_grammar.specs.Trees as trees
use Rattle.std.specs.Prelude.{List, map}
use Rattle.tall_local.specs.Arguments.{Argument}
use Rattle.tall_local.specs.Expressions.{Valued, gives, stops, go_on, answered, Callee, a_function, no_function, a_value, callee, call_value, value, arguments}
use Rattle.tall_local.specs.Refusals.{Stop, stop_at, undefined}
use Rattle.tall_local.specs.StateLaws.{state_after}
use Rattle.tall_local.proofs.StatesKept.{value_kept, arguments_kept}
use Rattle.tall_evaluate.specs.declared.languages.Argument as code
use Rattle.tall_evaluate.specs.Calls.{function_call, value_index}
use Rattle.tall_evaluate.specs.Senses.{Senses, Laws, Agrees, ArgumentsFit, Does, DoesValue, Refuses, argument_seen}
use Rattle.tall_evaluate.proofs.Sequences.{reached_on, reached_answer, failed, after, refused}

module _ {L G W E F V S I : Type 0} (m : Senses L G W E F V S I) (laws : Laws m) where
  index_on : (n l : ℕ) (args : Args) (i : I) (v : V) (u : S) → m.reaches u (state_after (value_index (m.defined i) n l v args u))
  index_on n l args i v u =
      reached_on m.reaches laws.reaches_on u (arguments (m.defined i) args false u) (λ vs t. answered l t ((m.defined i).index n l v vs))
      (arguments_kept (m.defined i) m.reaches laws.reaches_on (laws.calls_reach i) args false u)
      (λ vs t. reached_answer m.reaches laws.reaches_on l t ((m.defined i).index n l v vs))

  pub prefix_failed : (n l : ℕ) (op : Prefix) (e : Tree) (s t : L) (x : E)
      → DoesValue m (λ i v. value (m.defined i) e v) s t (Err x) → DoesValue m (λ i v. value (m.defined i) (tree n l (trees.prefixed op e)) v) s t (Err x)
  prefix_failed n l op e s t x h =
      failed m laws m.fits m.fits m.shown m.shown (λ i v. value (m.defined i) e v) (λ i w v. answered l v ((m.defined i).prefix_value n l op w))
      (λ i w v. reached_answer m.reaches laws.reaches_on l v ((m.defined i).prefix_value n l op w)) s t x h

  pub member_failed : (n l : ℕ) (name : List ℕ) (e : Tree) (s t : L) (x : E)
      → DoesValue m (λ i v. value (m.defined i) e v) s t (Err x) → DoesValue m (λ i v. value (m.defined i) (tree n l (trees.member e name)) v) s t (Err x)
  member_failed n l name e s t x h =
      failed m laws m.fits m.fits m.shown m.shown (λ i v. value (m.defined i) e v) (λ i w v. answered l v ((m.defined i).member w name))
      (λ i w v. reached_answer m.reaches laws.reaches_on l v ((m.defined i).member w name)) s t x h

  pub left_failed : (n l : ℕ) (op : Infix) (e f : Tree) (s t : L) (x : E)
      → DoesValue m (λ i v. value (m.defined i) e v) s t (Err x) → DoesValue m (λ i v. value (m.defined i) (tree n l (trees.joined op e f)) v) s t (Err x)
  left_failed n l op e f s t x h =
      failed m laws m.fits m.fits m.shown m.shown (λ i v. value (m.defined i) e v)
      (λ i w v. go_on (value (m.defined i) f v) (λ y z. answered l z ((m.defined i).infix_value n l op w y)))
      (λ i w v. reached_on m.reaches laws.reaches_on v (value (m.defined i) f v) (λ y z. answered l z ((m.defined i).infix_value n l op w y))
      (value_kept (m.defined i) m.reaches laws.reaches_on (laws.calls_reach i) f v)
      (λ y z. reached_answer m.reaches laws.reaches_on l z ((m.defined i).infix_value n l op w y))) s t x h

  pub prefix_after : (n l : ℕ) (op : Prefix) (e : Tree) (s t u : L) (w : W) (r : Result W E)
      → DoesValue m (λ i v. value (m.defined i) e v) s t (Ok w) → DoesValue m (λ i v. answered l v ((m.defined i).prefix_value n l op (m.shown i w))) t u r
      → DoesValue m (λ i v. value (m.defined i) (tree n l (trees.prefixed op e)) v) s u r
  prefix_after n l op e s t u w r h g =
      after m laws m.fits m.fits m.shown m.shown (λ i v. value (m.defined i) e v) (λ i w v. answered l v ((m.defined i).prefix_value n l op w)) s t u w r h g

  pub member_after : (n l : ℕ) (name : List ℕ) (e : Tree) (s t u : L) (w : W) (r : Result W E)
      → DoesValue m (λ i v. value (m.defined i) e v) s t (Ok w) → DoesValue m (λ i v. answered l v ((m.defined i).member (m.shown i w) name)) t u r
      → DoesValue m (λ i v. value (m.defined i) (tree n l (trees.member e name)) v) s u r
  member_after n l name e s t u w r h g =
      after m laws m.fits m.fits m.shown m.shown (λ i v. value (m.defined i) e v) (λ i w v. answered l v ((m.defined i).member w name)) s t u w r h g

  pub infix_failed : (n l : ℕ) (op : Infix) (e f : Tree) (s t u : L) (w : W) (x : E) (r : Result W E) → r ≡ Err x
      → DoesValue m (λ i v. value (m.defined i) e v) s t (Ok w) → DoesValue m (λ i v. value (m.defined i) f v) t u (Err x)
      → DoesValue m (λ i v. value (m.defined i) (tree n l (trees.joined op e f)) v) s u r
  infix_failed n l op e f s t u w x r is h g =
      subst (λ r. DoesValue m (λ i v. value (m.defined i) (tree n l (trees.joined op e f)) v) s u r) (sym is)
      (after m laws m.fits m.fits m.shown m.shown (λ i v. value (m.defined i) e v)
      (λ i w v. go_on (value (m.defined i) f v) (λ y z. answered l z ((m.defined i).infix_value n l op w y))) s t u w (Err x) h
      (failed m laws m.fits m.fits m.shown m.shown (λ i v. value (m.defined i) f v) (λ i y z. answered l z ((m.defined i).infix_value n l op (m.shown i w) y))
      (λ i y z. reached_answer m.reaches laws.reaches_on l z ((m.defined i).infix_value n l op (m.shown i w) y)) t u x g))

  pub infix_after : (n l : ℕ) (op : Infix) (e f : Tree) (s t u z : L) (w x : W) (r : Result W E)
      → DoesValue m (λ i v. value (m.defined i) e v) s t (Ok w) → DoesValue m (λ i v. value (m.defined i) f v) t u (Ok x)
      → DoesValue m (λ i v. answered l v ((m.defined i).infix_value n l op (m.shown i w) (m.shown i x))) u z r
      → DoesValue m (λ i v. value (m.defined i) (tree n l (trees.joined op e f)) v) s z r
  infix_after n l op e f s t u z w x r h g k =
      after m laws m.fits m.fits m.shown m.shown (λ i v. value (m.defined i) e v)
      (λ i w v. go_on (value (m.defined i) f v) (λ y z. answered l z ((m.defined i).infix_value n l op w y))) s t z w r h
      (after m laws m.fits m.fits m.shown m.shown (λ i v. value (m.defined i) f v) (λ i y z. answered l z ((m.defined i).infix_value n l op (m.shown i w) y)) t u z x r g k)

  -- ---- calls and indexes

  -- the same of what the definitions give, where the senses that hold give it
  pub wanted : (want want' : I → S → Valued V S) (s t : L) (r : Result W E)
      → ((i : I) → m.holds i s → want i (m.state i s) ≡ want' i (m.state i s)) → DoesValue m want' s t r → DoesValue m want s t r
  wanted want want' s t r is h = record {
    later = h.later;
    fits = h.fits;
    agrees = λ i holds. subst (λ w. Agrees (m.shown i) m.stop_of w r (m.state i t)) (sym (is i (laws.holds_before s t i h.later holds))) (h.agrees i holds);
    blames = h.blames;
    unfinished = λ i holds e same none.
        subst (λ w. m.reaches (m.state i t) (state_after w)) (sym (is i (laws.holds_before s t i h.later holds))) (h.unfinished i holds e same none);
  }

  pub function_after : (n l : ℕ) (e : Tree) (args : Args) (f : G) (s t : L) (r : Result W E)
      → ((i : I) → m.holds i s → callee (m.defined i) (m.state i s) e ≡ a_function (m.named f))
      → DoesValue m (λ i v. function_call (m.defined i) n l (m.named f) args v) s t r
      → DoesValue m (λ i v. value (m.defined i) (tree n l (trees.call e args)) v) s t r
  function_after n l e args f s t r is h =
      wanted (λ i v. value (m.defined i) (tree n l (trees.call e args)) v) (λ i v. function_call (m.defined i) n l (m.named f) args v) s t r
      (λ i holds. ap (λ c. call_value (m.defined i) n l c (λ t. value (m.defined i) e t) (λ takes t. arguments (m.defined i) args takes t) (m.state i s)) (is i holds)) h

  pub unknown : (n l k : ℕ) (name : List ℕ) (e : Tree) (args : Args) (s : L) (x : E)
      → ((i : I) → m.holds i s → callee (m.defined i) (m.state i s) e ≡ no_function k name)
      → Refuses m (λ i. stop_at k (undefined name)) s x
      → DoesValue m (λ i v. value (m.defined i) (tree n l (trees.call e args)) v) s s (Err x)
  unknown n l k name e args s x is h =
      refused m laws m.fits m.shown (λ i. stop_at k (undefined name)) (λ i v. value (m.defined i) (tree n l (trees.call e args)) v) s x
      (λ i holds. ap (λ c. call_value (m.defined i) n l c (λ t. value (m.defined i) e t) (λ takes t. arguments (m.defined i) args takes t) (m.state i s)) (is i holds)) h

  -- an expression before parentheses that is a value
  is_index : (n l : ℕ) (e : Tree) (args : Args) (s : L) → ((i : I) → m.holds i s → callee (m.defined i) (m.state i s) e ≡ a_value)
      → (i : I) → m.holds i s → value (m.defined i) (tree n l (trees.call e args)) (m.state i s)
      ≡ go_on (value (m.defined i) e (m.state i s)) (λ v t. value_index (m.defined i) n l v args t)
  is_index n l e args s is i holds =
      ap (λ c. call_value (m.defined i) n l c (λ t. value (m.defined i) e t) (λ takes t. arguments (m.defined i) args takes t) (m.state i s)) (is i holds)

  pub index_failed : (n l : ℕ) (e : Tree) (args : Args) (s t : L) (x : E)
      → ((i : I) → m.holds i s → callee (m.defined i) (m.state i s) e ≡ a_value)
      → DoesValue m (λ i v. value (m.defined i) e v) s t (Err x)
      → DoesValue m (λ i v. value (m.defined i) (tree n l (trees.call e args)) v) s t (Err x)
  index_failed n l e args s t x is h =
      wanted (λ i v. value (m.defined i) (tree n l (trees.call e args)) v) (λ i v. go_on (value (m.defined i) e v) (λ w t. value_index (m.defined i) n l w args t)) s t (Err x)
      (is_index n l e args s is)
      (failed m laws m.fits m.fits m.shown m.shown (λ i v. value (m.defined i) e v) (λ i w t. value_index (m.defined i) n l w args t) (index_on n l args) s t x h)

  pub index_after : (n l : ℕ) (e : Tree) (args : Args) (s t u : L) (w : W) (r : Result W E)
      → ((i : I) → m.holds i s → callee (m.defined i) (m.state i s) e ≡ a_value)
      → DoesValue m (λ i v. value (m.defined i) e v) s t (Ok w)
      → DoesValue m (λ i v. value_index (m.defined i) n l (m.shown i w) args v) t u r
      → DoesValue m (λ i v. value (m.defined i) (tree n l (trees.call e args)) v) s u r
  index_after n l e args s t u w r is h g =
      wanted (λ i v. value (m.defined i) (tree n l (trees.call e args)) v) (λ i v. go_on (value (m.defined i) e v) (λ w t. value_index (m.defined i) n l w args t)) s u r
      (is_index n l e args s is)
      (after m laws m.fits m.fits m.shown m.shown (λ i v. value (m.defined i) e v) (λ i w t. value_index (m.defined i) n l w args t) s t u w r h g)

  -- ---- the arguments of calls and of indexes

  module _ {X : Type 0} (items : X → List (code.Argument W)) (n l : ℕ) (args : Args) (s t : L) where
    abbrev Gives : Bool → Result X E → Type 0
    Gives takes r = Does {X = X} {Y = List (Argument V)} m (λ s a. ArgumentsFit (m.fits s) (items a)) (λ i a. map (argument_seen (m.shown i)) (items a))
        (λ i v. arguments (m.defined i) args takes v) s t r

    pub call_failed : (f : G) (takes : Bool) (e : E) → ((i : I) → m.holds i s → (m.defined i).takes_handles (m.named f) ≡ takes)
        → Gives takes (Err e) → DoesValue m (λ i v. function_call (m.defined i) n l (m.named f) args v) s t (Err e)
    call_failed f takes e is h =
        wanted (λ i v. function_call (m.defined i) n l (m.named f) args v)
        (λ i v. go_on (arguments (m.defined i) args takes v) (λ vs u. (m.defined i).call n l (m.named f) vs u)) s t (Err e)
        (λ i holds. ap (λ b. go_on (arguments (m.defined i) args b (m.state i s)) (λ vs u. (m.defined i).call n l (m.named f) vs u)) (is i holds))
        (failed m laws (λ s a. ArgumentsFit (m.fits s) (items a)) m.fits (λ i a. map (argument_seen (m.shown i)) (items a)) m.shown
        (λ i v. arguments (m.defined i) args takes v) (λ i vs u. (m.defined i).call n l (m.named f) vs u)
        (λ i vs u. laws.calls_reach i n l (m.named f) vs u) s t e h)

    pub call_after : (f : G) (takes : Bool) (a : X) (u : L) (r : Result W E) → ((i : I) → m.holds i s → (m.defined i).takes_handles (m.named f) ≡ takes)
        → Gives takes (Ok a) → DoesValue m (λ i v. (m.defined i).call n l (m.named f) (map (argument_seen (m.shown i)) (items a)) v) t u r
        → DoesValue m (λ i v. function_call (m.defined i) n l (m.named f) args v) s u r
    call_after f takes a u r is h g =
        wanted (λ i v. function_call (m.defined i) n l (m.named f) args v)
        (λ i v. go_on (arguments (m.defined i) args takes v) (λ vs u. (m.defined i).call n l (m.named f) vs u)) s u r
        (λ i holds. ap (λ b. go_on (arguments (m.defined i) args b (m.state i s)) (λ vs u. (m.defined i).call n l (m.named f) vs u)) (is i holds))
        (after m laws (λ s a. ArgumentsFit (m.fits s) (items a)) m.fits (λ i a. map (argument_seen (m.shown i)) (items a)) m.shown
        (λ i v. arguments (m.defined i) args takes v) (λ i vs u. (m.defined i).call n l (m.named f) vs u) s t u a r h g)

    pub items_failed : (w : W) (e : E) → Gives false (Err e) → DoesValue m (λ i v. value_index (m.defined i) n l (m.shown i w) args v) s t (Err e)
    items_failed w e h =
        failed m laws (λ s a. ArgumentsFit (m.fits s) (items a)) m.fits (λ i a. map (argument_seen (m.shown i)) (items a)) m.shown
        (λ i v. arguments (m.defined i) args false v) (λ i vs u. answered l u ((m.defined i).index n l (m.shown i w) vs))
        (λ i vs u. reached_answer m.reaches laws.reaches_on l u ((m.defined i).index n l (m.shown i w) vs)) s t e h

    pub items_after : (w : W) (a : X) (u : L) (r : Result W E) → Gives false (Ok a)
        → DoesValue m (λ i v. answered l v ((m.defined i).index n l (m.shown i w) (map (argument_seen (m.shown i)) (items a)))) t u r
        → DoesValue m (λ i v. value_index (m.defined i) n l (m.shown i w) args v) s u r
    items_after w a u r h g =
        after m laws (λ s a. ArgumentsFit (m.fits s) (items a)) m.fits (λ i a. map (argument_seen (m.shown i)) (items a)) m.shown
        (λ i v. arguments (m.defined i) args false v) (λ i vs u. answered l u ((m.defined i).index n l (m.shown i w) vs)) s t u a r h g

  pub failed_as : (want : I → S → Valued V S) (s t : L) (r : Result W E) (x : E) → r ≡ Err x → DoesValue m want s t (Err x) → DoesValue m want s t r
  failed_as want s t r x is h = subst (λ r. DoesValue m want s t r) (sym is) h

  -- the same expression
  pub as_tree : (x y : Tree) (s t : L) (r : Result W E) → x ≡ y
      → DoesValue m (λ i v. value (m.defined i) y v) s t r → DoesValue m (λ i v. value (m.defined i) x v) s t r
  as_tree x y s t r e h = subst (λ z. DoesValue m (λ i v. value (m.defined i) z v) s t r) (sym e) h
