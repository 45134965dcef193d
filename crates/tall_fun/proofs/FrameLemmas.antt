-- Expressions and statements over what a call has so far.
use Rattle.std.proofs.Common.{◌≡◌, refl, ℕ}
use Rattle.std.proofs.Common.{sym, ap, subst, List, [], ◌∷◌, ◌++◌, ◌∙◌}
use Rattle.std.specs.Prelude.{true, false, Option, None, Some, option_map, Result, Ok, Err}
use Rattle.std.specs.Option.{is_some}
use Rattle.tall_value.specs.Cells.{Seen}
use Rattle.tall_local.specs.Calls.{Ran, ends, breaks, assigned, local_value, with_local, or_break, pairs_with}
use Rattle.tall_local.specs.Expressions as expressions
use Rattle.tall_local.specs.Expressions.{Valued, gives, stops}
use Rattle.tall_local.specs.Locals.{Held, value, store, iterator, no_value, Locals, memory_of, function_language}
use Rattle.tall_local.specs.Memory.{Memory}
use Rattle.tall_local.specs.Names.{put_name}
use Rattle.tall_local.specs.Pairs.{Pair, added, with_pair, misfit}
use Rattle.tall_local.specs.Refusals.{Refusal, bad_class, Stop, stop_at}
use Rattle.tall_kv.specs.declared.faults.PairFault.{PairFault}
use Rattle.tall_kv.specs.declared.faults.PairFault.TheVariants as pair
use Rattle.tall_kv.specs.Faults.{IsFaultOf}
use Rattle.tall_memory.specs.declared.faults.MemoryFault.{MemoryFault}
use Rattle.tall_fun.specs.declared.failures.Failure.{Failure}
use Rattle.tall_fun.specs.declared.scope.Scope.{Scope}
use Rattle.tall_fun.specs.declared.values.LocalValue.{LocalValue}
use Rattle.tall_fun.specs.Failures.{memory_refusal, pair_stop, stop_of}
use Rattle.tall_fun.specs.Scopes.{scope_senses, scope_state}
use Rattle.tall_fun.specs.Values.{held_seen}
use Rattle.tall_fun.proofs.ValueLemmas.{answers_at, some_is}
use Rattle.tall_grammar.specs.Trees.{Tree, tree, Args, no_args, value_arg, colon_arg}
use Rattle.tall_grammar.specs.Trees as trees
use Rattle.tall_evaluate.specs.Orders.{AreInOrder, ArgsAreInOrder, own_number}
use Rattle.tall_evaluate.specs.Senses.{Agrees, DoesValue}

mutual
  pub any_order : (e : Tree) → AreInOrder (λ m n. Unit {0}) e
  any_order (tree n l (trees.number d)) = tt
  any_order (tree n l (trees.text t)) = tt
  any_order (tree n l (trees.name s)) = tt
  any_order (tree n l (trees.handle s)) = tt
  any_order (tree n l (trees.list es)) = tt
  any_order (tree n l (trees.prefixed op e)) = (any_order e, tt)
  any_order (tree n l (trees.joined op e f)) = (any_order e, tt, any_order f, tt)
  any_order (tree n l (trees.member e s)) = (any_order e, tt)
  any_order (tree n l (trees.call e args)) = (any_order e, any_args args (own_number e), tt)

  any_args : (args : Args) (n : ℕ) → ArgsAreInOrder (λ m n. Unit {0}) n args
  any_args no_args n = tt
  any_args (value_arg e args) n = (tt, any_order e, any_args args (own_number e))
  any_args (colon_arg args) n = any_args args n

-- ---- what an expression leaves

pub evaluated_by : (i : List Seen) (e : Tree) (s : Locals) (old new : Scope) (r : Result LocalValue Failure) → scope_state old ≡ s → old.values.now.cells ≡ i
    → DoesValue scope_senses (λ key_values t. expressions.value (function_language key_values) e t) old new r
    → Agrees {W = LocalValue} held_seen stop_of (local_value i e s) r (record s { given = new.given })
evaluated_by i e s old new r is over does =
    subst (λ (t : Locals). Agrees {W = LocalValue} held_seen stop_of (local_value i e t) r (record t { given = new.given })) is
    (subst (λ t. Agrees {W = LocalValue} held_seen stop_of (local_value i e (scope_state old)) r t) (ap scope_state does.later)
    (does.agrees i (ap (λ (x : Scope). x.values.now.cells) does.later ∙ over)))

-- ---- what goes on after an expression

module _ (key_values : List Seen) (e : Tree) (s : Locals) (f : Held → Locals → Ran) where
  pub with_given : (h : Held) (t : Locals) → local_value key_values e s ≡ gives h t → with_local key_values e s f ≡ f h t
  with_given h t is = ap (λ v. elim v [ gives h t ↦ f h t | stops stop t ↦ breaks stop t ]) is

  pub with_stopped : (stop : Stop) (t : Locals) → local_value key_values e s ≡ stops stop t → with_local key_values e s f ≡ breaks stop t
  with_stopped stop t is = ap (λ v. elim v [ gives h t ↦ f h t | stops stop t ↦ breaks stop t ]) is

-- ---- answers on a line

pub broken_at : {A : Type 0} (line : ℕ) (t : Locals) (want : Result A Refusal) (g : A → Ran) (f : MemoryFault) (stop : Stop)
    → ((r : Refusal) → memory_refusal f ≡ Some r → want ≡ Err r) → option_map (stop_at line) (memory_refusal f) ≡ Some stop
    → or_break line t want g ≡ breaks stop t
broken_at {A} line t want g f stop h e = let x = answers_at line want f stop h e in ap (λ (r : Result A Refusal). or_break line t r g) x.1 ∙ ap (λ z. breaks z t) x.2

pub breaks_so : (o : Option Stop) (a stop : Stop) (t : Locals) → o ≡ Some a → o ≡ Some stop → breaks a t ≡ breaks stop t
breaks_so o a stop t h k = ap (λ z. breaks z t) (some_is a stop (sym h ∙ k))

pub none_stops : {B : Type 0} (o : Option Stop) (stop : Stop) → o ≡ None → o ≡ Some stop → B
none_stops {B} o stop h k = absurd (never (sym h ∙ k))
  where
    never : None ≡ Some stop → ⊥
    never e = cc

-- ---- names that take a value

pub memory_assigned : (line : ℕ) (name : List ℕ) (h : Held) (s : Locals) → is_some (memory_of h) ≡ true → assigned line name h s ≡ ends (record s { names = put_name name h s.names })
memory_assigned line name (value v) s t = refl
memory_assigned line name store s t = absurd (cc)
memory_assigned line name iterator s t = absurd (cc)
memory_assigned line name no_value s t = absurd (cc)

pub other_assigned : (line : ℕ) (name : List ℕ) (h : Held) (s : Locals) (stop : Stop) → is_some (memory_of h) ≡ false → Some (stop_at line bad_class) ≡ Some stop → assigned line name h s ≡ breaks stop s
other_assigned line name (value v) s stop t is = absurd (cc)
other_assigned line name store s stop t is = ap (λ x. breaks x s) (some_is (stop_at line bad_class) stop is)
other_assigned line name iterator s stop t is = ap (λ x. breaks x s) (some_is (stop_at line bad_class) stop is)
other_assigned line name no_value s stop t is = ap (λ x. breaks x s) (some_is (stop_at line bad_class) stop is)

pub value_is : (h : Held) (m : Memory) → memory_of h ≡ Some m → h ≡ value m
value_is (value v) m e = ap value (some_is v m e)
value_is store m e = absurd (cc)
value_is iterator m e = absurd (cc)
value_is no_value m e = absurd (cc)

-- ---- pairs

-- no value in memory
pub no_key : (line : ℕ) (ps : List Pair) (key v : Held) → memory_of key ≡ None → pairs_with line ps store key v ≡ Err bad_class
no_key line ps (value k) v h = absurd (cc)
no_key line ps store v h = refl
no_key line ps iterator v h = refl
no_key line ps no_value v h = refl

pub no_value_of : (line : ℕ) (ps : List Pair) (key v : Held) → memory_of v ≡ None → pairs_with line ps store key v ≡ Err bad_class
no_value_of line ps (value k) (value w) h = absurd (cc)
no_value_of line ps (value k) store h = refl
no_value_of line ps (value k) iterator h = refl
no_value_of line ps (value k) no_value h = refl
no_value_of line ps store v h = refl
no_value_of line ps iterator v h = refl
no_value_of line ps no_value v h = refl

pub both_in_memory : (line : ℕ) (ps : List Pair) (key v : Held) (k w : Memory) → memory_of key ≡ Some k → memory_of v ≡ Some w → pairs_with line ps store key v ≡ added line ps k w
both_in_memory line ps key v k w hk hw = ap (λ x. pairs_with line ps store x v) (value_is key k hk) ∙ ap (λ y. pairs_with line ps store (value k) y) (value_is v w hw)

named_pair : (o : Option Stop) (fault : PairFault) (stop : Stop) → IsFaultOf o fault → pair_stop fault ≡ Some stop → o ≡ Some stop
named_pair o (pair.KeyClass line) stop h e = h ∙ e
named_pair o (pair.ValueClass line) stop h e = h ∙ e
named_pair o (pair.TooManyRows line) stop h e = h ∙ e
named_pair o pair.Memory stop h e = absurd (never e)
  where
    never : None ≡ Some stop → ⊥
    never e = cc

pub misfit_breaks : (line : ℕ) (ps : List Pair) (p : Pair) (s : Locals) (g : List Pair → Ran) (fault : PairFault) (stop : Stop)
    → IsFaultOf (option_map (stop_at line) (misfit ps p)) fault → pair_stop fault ≡ Some stop → or_break line s (with_pair ps p) g ≡ breaks stop s
misfit_breaks line ps p s g fault stop h e = found (misfit ps p) (named_pair (option_map (stop_at line) (misfit ps p)) fault stop h e)
  where
    found : (m : Option Refusal) → option_map (stop_at line) m ≡ Some stop → or_break line s (elim m [ None ↦ Ok (ps ++ p ∷ []) | Some refusal ↦ Err refusal ]) g ≡ breaks stop s
    found None is = absurd (cc)
    found (Some r) is = ap (λ z. breaks z s) (some_is (stop_at line r) stop is)

pub same_after : (key_values : List Seen) (e : Tree) (s : Locals) (f g : Held → Locals → Ran) → ((h : Held) (t : Locals) → f h t ≡ g h t) → with_local key_values e s f ≡ with_local key_values e s g
same_after key_values e s f g k = found (local_value key_values e s)
  where
    found : (v : Valued Held Locals)
        → ◌≡◌ {A = Ran} (elim v [ gives h t ↦ f h t | stops stop t ↦ breaks stop t ]) (elim v [ gives h t ↦ g h t | stops stop t ↦ breaks stop t ])
    found (gives h t) = k h t
    found (stops stop t) = refl
