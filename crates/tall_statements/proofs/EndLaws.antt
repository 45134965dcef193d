-- What follows the last expression of a statement.
use Rattle.std.proofs.Common.{ℕ, ◌≡◌, ◌∙◌, List, [], ◌++◌, refl, ap, sym, subst, append-nil}
use Rattle.std.specs.Prelude.{Bool, None, Some, Result, Ok, Err, Vec, IfErr, codes}
use Rattle.tall_grammar.specs.Trees.{Tree, tree}
use Rattle.tall_grammar.specs.Trees as trees
use Rattle.tall_local.specs.Memory.{Memory}
use Rattle.tall_local.specs.Names.{put_name}
use Rattle.tall_local.specs.Refusals.{Stop, bad_argument, stop_at}
use Rattle.tall_semantics.specs.Deferred.{IsMeaning, Vertex}
use Rattle.tall_semantics.specs.Talls.{Columns, Tall}
use Rattle.tall_deferred.specs.declared.values.ScriptValue.{ScriptValue}
use Rattle.tall_deferred.specs.Values.{value_at}
use Rattle.tall_script.specs.ScriptValues.{TallValue}
use Rattle.tall_script.specs.States.{State}
use Rattle.tall_script.specs.Statements.{Done, alone, assign, fails, set_name, set_names, shown_text, shows}
use Rattle.tall_script.specs.StatesFollow.{done_state}
use Rattle.tall_environment.specs.declared.failures.Failure.{Failure}
use Rattle.tall_environment.specs.declared.failures.Failure.TheVariants as failure
use Rattle.tall_environment.specs.declared.failures.Refusal.TheVariants as r
use Rattle.tall_environment.specs.Environments.{CallsAreAtMost, SeenEnvironment, numbered, state_at}
use Rattle.tall_environment.specs.Expressions.{OpensOn}
use Rattle.tall_environment.specs.Failures.{IsInside}
use Rattle.tall_environment.specs.Moves.{HaveDistinctFiles}
use Rattle.tall_stored.specs.StoredColumns.{AreStored}
use Rattle.tall_statements.specs.Answers.{Answers, Ends}
use Rattle.tall_statements.specs.Endings.{name_alone}
use Rattle.tall_statements.proofs.Naming.{names_open, set_at}

pub opens_same : (s t : State Tall) → t.opened ≡ s.opened → OpensOn s t
opens_same s t e = ([], e ∙ sym (append-nil s.opened))

no_stop : (stop : Stop) → None ≡ Some stop → ⊥
no_stop stop e = cc

not_ok : {V E : Type 0} (v : V) (e : E) → Ok v ≡ Err e → ⊥
not_ok v e h = cc

same_stop : (a b : Stop) → Some a ≡ Some b → a ≡ b
same_stop a b e = cc

-- a text is an answer
pub shown_answer : {Z : Type 0} (want : Done) (text : Vec ℕ Z) (t : State Tall) → want ≡ shows text.items t → Answers want (Ok text) t
shown_answer want text t h = record { agrees = h; unfinished = λ e is. absurd (not_ok text e is) }

-- want of memory is one, where no more is opened
pub memory_answer : {Z : Type 0} (want : Done) (t : State Tall) → (done_state want).opened ≡ t.opened → Answers {Z = Z} want (Err failure.Memory) t
memory_answer want t h = record { agrees = λ stop is. absurd (no_stop stop is); unfinished = λ e is none. opens_same t (done_state want) h }

-- nothing was done to the datastores
pub ends_named : {Z : Type 0} (want : (ℕ → Tall) → State Tall → Done) (old new : SeenEnvironment) (a : Result (Vec ℕ Z) Failure)
    → new ≡ record old { names = new.names } → IfErr a (λ e. e ≡ failure.Memory)
    → ((columns : Columns) (f : ℕ → Tall) → IsMeaning columns old.graph f → Answers (want f (state_at f old)) a (state_at f new)) → Ends want old new a
ends_named {Z = Z} want old new a same err tells = record {
  graph = ap (λ (e : SeenEnvironment). e.graph) same;
  opened = ap (λ (e : SeenEnvironment). e.opened) same;
  stored = λ files columns h. subst (λ ds. AreStored files ds old.graph columns) stores h;
  distinct = λ h. subst HaveDistinctFiles (sym stores) h;
  calls = λ n h. subst (CallsAreAtMost (numbered n)) (sym stores) h;
  inside = memory_inside a err;
  tells = tells;
} where
  stores : new.stores ≡ old.stores
  stores = ap (λ (e : SeenEnvironment). e.stores) same

  memory_inside : (a : Result (Vec ℕ Z) Failure) → IfErr a (λ e. e ≡ failure.Memory) → IfErr a IsInside
  memory_inside (Ok text) h = tt
  memory_inside (Err e) h = subst IsInside (sym h) tt

-- ---- one name

module _ {Z : Type 0} (shown : Bool) (name : List ℕ) (v : ScriptValue) (old new : SeenEnvironment) where
  pub assigned_ends : (start : List ℕ) (text : Vec ℕ Z) → start ≡ [] → new ≡ record old { names = put_name name v old.names }
      → ((columns : Columns) (f : ℕ → Tall) → IsMeaning columns old.graph f → text.items ≡ start ++ shown_text shown name (value_at f v))
      → Ends (λ f s. assign shown name (value_at f v) s) old new (Ok text)
  assigned_ends start text none same told =
      ends_named (λ f s. assign shown name (value_at f v) s) old new (Ok text) (same ∙ sym (ap (λ (e : SeenEnvironment). record old { names = e.names }) same)) tt
      (λ columns f m. shown_answer (assign shown name (value_at f v) (state_at f old)) text (state_at f new)
      (ap (λ t. shows t (set_name name (value_at f v) (state_at f old))) (sym (told columns f m ∙ ap (λ t. t ++ shown_text shown name (value_at f v)) none)) ∙ ap (λ s. shows text.items s) (sym (ap (state_at f) same ∙ set_at f name v old))))

  pub unassigned_ends : new ≡ old → Ends {Z = Z} (λ f s. assign shown name (value_at f v) s) old new (Err failure.Memory)
  unassigned_ends same =
      ends_named (λ f s. assign shown name (value_at f v) s) old new (Err failure.Memory) (same ∙ sym (ap (λ (e : SeenEnvironment). record old { names = e.names }) same)) refl
      (λ columns f m. memory_answer (assign shown name (value_at f v) (state_at f old)) (state_at f new) (sym (ap (λ (e : SeenEnvironment). e.opened) same)))

-- ---- several names

module _ {Z : Type 0} (shown : Bool) (names : List (List ℕ)) (vs : List Memory) (old new : SeenEnvironment) (same : new ≡ record old { names = new.names }) where
  pub named_ends : (text : Vec ℕ Z) → ((columns : Columns) (f : ℕ → Tall) → IsMeaning columns old.graph f → set_names shown names vs [] (state_at f old) ≡ shows text.items (state_at f new))
      → Ends (λ f s. set_names shown names vs [] s) old new (Ok text)
  named_ends text told = ends_named (λ f s. set_names shown names vs [] s) old new (Ok text) same tt (λ columns f m. shown_answer (set_names shown names vs [] (state_at f old)) text (state_at f new) (told columns f m))

  pub unnamed_ends : Ends {Z = Z} (λ f s. set_names shown names vs [] s) old new (Err failure.Memory)
  unnamed_ends =
      ends_named (λ f s. set_names shown names vs [] s) old new (Err failure.Memory) same refl
      (λ columns f m. memory_answer (set_names shown names vs [] (state_at f old)) (state_at f new) (names_open shown names vs [] (state_at f old) ∙ sym (ap (λ (e : SeenEnvironment). e.opened) same)))

-- ---- a name that is shown

module _ {Z : Type 0} (shown : Bool) (name : List ℕ) (v : ScriptValue) (e : SeenEnvironment) where
  pub shown_ends : (start : List ℕ) (vs : List Vertex) (text : Vec ℕ Z) → start ≡ [] → vs ≡ e.graph → ((columns : Columns) (f : ℕ → Tall) → IsMeaning columns vs f → text.items ≡ start ++ shown_text shown name (value_at f v))
      → Ends (λ f s. shows (shown_text shown name (value_at f v)) s) e e (Ok text)
  shown_ends start vs text none same told =
      ends_named (λ f s. shows (shown_text shown name (value_at f v)) s) e e (Ok text) refl tt
      (λ columns f m. shown_answer (shows (shown_text shown name (value_at f v)) (state_at f e)) text (state_at f e)
      (ap (λ t. shows t (state_at f e)) (sym (told columns f (subst (λ g. IsMeaning columns g f) (sym same) m) ∙ ap (λ t. t ++ shown_text shown name (value_at f v)) none))))

  pub unshown_ends : Ends {Z = Z} (λ f s. shows (shown_text shown name (value_at f v)) s) e e (Err failure.Memory)
  unshown_ends =
      ends_named (λ f s. shows (shown_text shown name (value_at f v)) s) e e (Err failure.Memory) refl refl
      (λ columns f m. memory_answer (shows (shown_text shown name (value_at f v)) (state_at f e)) (state_at f e) refl)

-- ---- the same end

pub ends_as : {Z : Type 0} (want due : (ℕ → Tall) → State Tall → Done) (old new : SeenEnvironment) (a : Result (Vec ℕ Z) Failure)
    → ((f : ℕ → Tall) (s : State Tall) → want f s ≡ due f s) → Ends want old new a → Ends due old new a
ends_as want due old new a same h = record {
  graph = h.graph;
  opened = h.opened;
  stored = h.stored;
  distinct = h.distinct;
  calls = h.calls;
  inside = h.inside;
  tells = λ columns f m. subst (λ w. Answers w a (state_at f new)) (same f (state_at f old)) (h.tells columns f m);
}

pub name_is : (shown : Bool) (e : Tree) (x : List ℕ) → Some x ≡ name_alone e → (v : TallValue) (s : State Tall) → shows (shown_text shown x v) s ≡ alone shown e v s
name_is shown (tree n l (trees.number d)) x is = absurd cc
name_is shown (tree n l (trees.text t)) x is = absurd cc
name_is shown (tree n l (trees.name y)) x is = λ v s. ap (λ z. shows (shown_text shown z v) s) (same x y is) where
  same : (a b : List ℕ) → Some a ≡ Some b → a ≡ b
  same a b h = cc
name_is shown (tree n l (trees.list es)) x is = absurd cc
name_is shown (tree n l (trees.handle y)) x is = absurd cc
name_is shown (tree n l (trees.prefixed op e)) x is = absurd cc
name_is shown (tree n l (trees.joined op e g)) x is = absurd cc
name_is shown (tree n l (trees.member e y)) x is = absurd cc
name_is shown (tree n l (trees.call e args)) x is = absurd cc

pub no_name_is : (shown : Bool) (e : Tree) → None ≡ name_alone e → (v : TallValue) (s : State Tall) → assign shown (codes "ans") v s ≡ alone shown e v s
no_name_is shown (tree n l (trees.number d)) is = λ v s. refl
no_name_is shown (tree n l (trees.text t)) is = λ v s. refl
no_name_is shown (tree n l (trees.name y)) is = absurd cc
no_name_is shown (tree n l (trees.list es)) is = λ v s. refl
no_name_is shown (tree n l (trees.handle y)) is = λ v s. refl
no_name_is shown (tree n l (trees.prefixed op e)) is = λ v s. refl
no_name_is shown (tree n l (trees.joined op e g)) is = λ v s. refl
no_name_is shown (tree n l (trees.member e y)) is = λ v s. refl
no_name_is shown (tree n l (trees.call e args)) is = λ v s. refl

pub alone_opens : (shown : Bool) (e : Tree) (v : TallValue) (s : State Tall) → OpensOn s (done_state (alone shown e v s))
alone_opens shown (tree n l (trees.number d)) v s = opens_same s (set_name (codes "ans") v s) refl
alone_opens shown (tree n l (trees.text t)) v s = opens_same s (set_name (codes "ans") v s) refl
alone_opens shown (tree n l (trees.name y)) v s = opens_same s s refl
alone_opens shown (tree n l (trees.list es)) v s = opens_same s (set_name (codes "ans") v s) refl
alone_opens shown (tree n l (trees.handle y)) v s = opens_same s (set_name (codes "ans") v s) refl
alone_opens shown (tree n l (trees.prefixed op e)) v s = opens_same s (set_name (codes "ans") v s) refl
alone_opens shown (tree n l (trees.joined op e g)) v s = opens_same s (set_name (codes "ans") v s) refl
alone_opens shown (tree n l (trees.member e y)) v s = opens_same s (set_name (codes "ans") v s) refl
alone_opens shown (tree n l (trees.call e args)) v s = opens_same s (set_name (codes "ans") v s) refl

-- ---- a refusal

pub refused_ends : {Z : Type 0} (line : ℕ) (e : SeenEnvironment) → Ends {Z = Z} (λ f s. fails (stop_at line bad_argument) s) e e (Err (failure.Refused line r.BadArgument))
refused_ends line e = record {
  graph = refl;
  opened = refl;
  stored = λ files columns h. h;
  distinct = λ h. h;
  calls = λ n h. h;
  inside = tt;
  tells = λ columns f m. record {
    agrees = λ stop is. ap (λ z. fails z (state_at f e)) (same_stop (stop_at line bad_argument) stop is);
    unfinished = λ g is none. opens_same (state_at f e) (state_at f e) refl;
  };
}
