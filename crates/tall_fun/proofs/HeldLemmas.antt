-- Values in memory among the values of a function, and what is done with them.
use Rattle.std.proofs.Common.{◌≡◌, refl, sym, subst, ap, ◌∙◌, suc, List, [], ◌∷◌, length}
use Rattle.std.specs.Prelude.{true, false, if◌then◌else◌, Option, None, Some, option_map, Result, Err}
use Rattle.std.specs.Option.{is_some, option_copied}
use Rattle.std.specs.Borrow.{Bor}
use Rattle.tall_grammar.specs.declared.expressions.Infix.{Infix}
use Rattle.tall_local.specs.Arguments.{Argument, given, colon, function, rows_at, all_variables_at, index_of, value_given}
use Rattle.tall_local.specs.Lists.{all_of, in_front_of}
use Rattle.tall_local.specs.Locals.{Held, value, store, iterator, no_value, memory_of, memories_of, with_memory, held, held_binary, held_values, held_function, held_index, argument_by}
use Rattle.tall_local.specs.Applications.{application, takes}
use Rattle.tall_local.specs.MemoryFunctions.{memory_application}
use Rattle.tall_local.specs.declared.functions.ValueFunction.{ValueFunction}
use Rattle.tall_local.specs.Memory.{Memory, scalar_in}
use Rattle.tall_local.specs.MemoryIndexing.{memory_index}
use Rattle.tall_local.specs.MemoryOperators.{memory_binary, binary_of}
use Rattle.tall_local.specs.Refusals.{Refusal, bad_class, bad_argument, and_then, or_refuse}
use Rattle.tall_memory.specs.declared.faults.MemoryFault.{MemoryFault}
use Rattle.tall_memory.specs.declared.faults.MemoryFault.TheVariants as fault
use Rattle.tall_memory.specs.declared.values.MemoryValue.{MemoryValue}
use Rattle.tall_memory.specs.Values.{Gives}
use Rattle.tall_fun.specs.declared.values.LocalValue.{LocalValue}
use Rattle.tall_fun.specs.Values.{GivesHeld, held_seen, memory_given, only_value, value_before_colon}
use Rattle.tall_fun.proofs.ValueLemmas.{some_is}

pub shown_copied : (o : Option (Bor LocalValue)) → option_map (λ v. held_seen v.now) o ≡ option_map held_seen (option_copied o)
shown_copied None = refl
shown_copied (Some v) = refl

-- what is done with a lent value, and kept
pub computed : (h : Held) (f : Memory → Result Memory Refusal) (m : Memory) (a : Result MemoryValue MemoryFault) (r : Result LocalValue MemoryFault)
    → memory_of h ≡ Some m → Gives (f m) a → ((want : Result Memory Refusal) → Gives want a → GivesHeld (held want) r) → GivesHeld (with_memory h f) r
computed (value v) f m a r e g k = k (f v) (subst (λ x. Gives (f x) a) (sym (some_is v m e)) g)
computed store f m a r e g k = absurd (cc)
computed iterator f m a r e g k = absurd (cc)
computed no_value f m a r e g k = absurd (cc)

-- the same of a value that is computed already
pub computed_held : (h : Held) (f : Memory → Result Memory Refusal) (m : Memory) (r : Result LocalValue MemoryFault)
    → memory_of h ≡ Some m → GivesHeld (held (f m)) r → GivesHeld (with_memory h f) r
computed_held (value v) f m r e g = subst (λ x. GivesHeld (held (f x)) r) (sym (some_is v m e)) g
computed_held store f m r e g = absurd (cc)
computed_held iterator f m r e g = absurd (cc)
computed_held no_value f m r e g = absurd (cc)

pub computed_left : (op : Infix) (h k : Held) (m : Memory) (r : Result LocalValue MemoryFault) → memory_of h ≡ Some m → GivesHeld (held_binary op (value m) k) r → GivesHeld (held_binary op h k) r
computed_left op (value v) k m r e g = subst (λ x. GivesHeld (held_binary op (value x) k) r) (sym (some_is v m e)) g
computed_left op store k m r e g = absurd (cc)
computed_left op iterator k m r e g = absurd (cc)
computed_left op no_value k m r e g = absurd (cc)

pub computed_right : (op : Infix) (v m : Memory) (k : Held) (a : Result MemoryValue MemoryFault) (r : Result LocalValue MemoryFault) → memory_of k ≡ Some m → Gives (memory_binary (binary_of op) v m) a
    → ((want : Result Memory Refusal) → Gives want a → GivesHeld (held want) r) → GivesHeld (held_binary op (value v) k) r
computed_right op v m (value w) a r e g k = k (memory_binary (binary_of op) v w) (subst (λ x. Gives (memory_binary (binary_of op) v x) a) (sym (some_is w m e)) g)
computed_right op v m store a r e g k = absurd (cc)
computed_right op v m iterator a r e g k = absurd (cc)
computed_right op v m no_value a r e g k = absurd (cc)

-- ---- indexes

pub index_refused : (v : Memory) (args : List (Argument Held)) → is_some (all_of (argument_by memory_of) args) ≡ false
    → GivesHeld (held (and_then (or_refuse bad_class (all_of (argument_by memory_of) args)) (λ given. memory_index v (index_of given)))) (Err fault.BadClass)
index_refused v args t = go (all_of (argument_by memory_of) args) t
  where
    go : (o : Option (List (Argument Memory))) → is_some o ≡ false → GivesHeld (held (and_then (or_refuse bad_class o) (λ given. memory_index v (index_of given)))) (Err fault.BadClass)
    go None t = λ r e. ap Err (some_is bad_class r e)
    go (Some gs) t = absurd (cc)

module _ (v m : Memory) (a : Result MemoryValue MemoryFault) (r : Result LocalValue MemoryFault)
    (keep : (want : Result Memory Refusal) → Gives want a → GivesHeld (held want) r) where
  pub index_rows : (args : List (Argument Held)) (h : Held) → is_some (all_of (argument_by memory_of) args) ≡ true → only_value args ≡ Some h
      → ((x : Memory) → memory_of h ≡ Some x → m ≡ x) → Gives (memory_index v (Some (rows_at m))) a
      → GivesHeld (held (and_then (or_refuse bad_class (all_of (argument_by memory_of) args)) (λ given. memory_index v (index_of given)))) r
  index_rows (given (value x) ∷ []) h t o e g =
      keep (memory_index v (Some (rows_at x))) (subst (λ y. Gives (memory_index v (Some (rows_at y))) a) (e x (ap memory_of (sym (some_is (value x) h o)))) g)
  index_rows (given store ∷ []) h t o e g = absurd (cc)
  index_rows (given iterator ∷ []) h t o e g = absurd (cc)
  index_rows (given no_value ∷ []) h t o e g = absurd (cc)
  index_rows (colon ∷ []) h t o e g = absurd (cc)
  index_rows (function name ∷ []) h t o e g = absurd (cc)
  index_rows [] h t o e g = absurd (cc)
  index_rows (b ∷ c ∷ args) h t o e g = absurd (cc)

  pub index_variables : (args : List (Argument Held)) (h : Held) → is_some (all_of (argument_by memory_of) args) ≡ true → value_before_colon args ≡ Some h
      → ((x : Memory) → memory_of h ≡ Some x → m ≡ x) → Gives (memory_index v (Some (all_variables_at m))) a
      → GivesHeld (held (and_then (or_refuse bad_class (all_of (argument_by memory_of) args)) (λ given. memory_index v (index_of given)))) r
  index_variables (given (value x) ∷ colon ∷ []) h t o e g =
      keep (memory_index v (Some (all_variables_at x))) (subst (λ y. Gives (memory_index v (Some (all_variables_at y))) a) (e x (ap memory_of (sym (some_is (value x) h o)))) g)
  index_variables (given store ∷ colon ∷ []) h t o e g = absurd (cc)
  index_variables (given iterator ∷ colon ∷ []) h t o e g = absurd (cc)
  index_variables (given no_value ∷ colon ∷ []) h t o e g = absurd (cc)
  index_variables (colon ∷ colon ∷ []) h t o e g = absurd (cc)
  index_variables (function name ∷ colon ∷ []) h t o e g = absurd (cc)
  index_variables [] h t o e g = absurd (cc)
  index_variables (b ∷ []) h t o e g = absurd (cc)
  index_variables (b ∷ given c ∷ args) h t o e g = absurd (cc)
  index_variables (b ∷ function name ∷ args) h t o e g = absurd (cc)
  index_variables (b ∷ colon ∷ c ∷ args) h t o e g = absurd (cc)

-- arguments of another form are no index
other_rest : (b : Argument Memory) (o : Option (List (Argument Memory))) (gs : List (Argument Memory)) → in_front_of (Some b) o ≡ Some gs → (ws : List (Argument Memory)) × (gs ≡ b ∷ ws) × (o ≡ Some ws)
other_rest b (Some ws) gs e = (ws, sym (some_is (b ∷ ws) gs e), refl)
other_rest b None gs e = absurd (cc)

pub other_form : (args : List (Argument Held)) (gs : List (Argument Memory)) → only_value args ≡ None → value_before_colon args ≡ None
    → all_of (argument_by memory_of) args ≡ Some gs → index_of gs ≡ None
other_form [] gs a b e = ap index_of (sym (some_is [] gs e))
other_form (colon ∷ args) gs a b e = let w = other_rest colon (all_of (argument_by memory_of) args) gs e in ap index_of w.1
other_form (function name ∷ args) gs a b e = let w = other_rest (function name) (all_of (argument_by memory_of) args) gs e in ap index_of w.1
other_form (given h ∷ []) gs a b e = absurd (cc)
other_form (given h ∷ colon ∷ []) gs a b e = absurd (cc)
other_form (given (value x) ∷ colon ∷ c ∷ args) gs a b e =
    let w = other_rest (given x) (in_front_of (Some colon) (all_of (argument_by memory_of) (c ∷ args))) gs e in
    let u = other_rest colon (all_of (argument_by memory_of) (c ∷ args)) w.0 w.2 in
    ap index_of (w.1 ∙ ap (λ ys. given x ∷ ys) u.1) ∙ longer c args u.0 u.2
  where
    none_front : (o : Option (Argument Memory)) (os : Option (List (Argument Memory))) → in_front_of o os ≡ Some [] → ⊥
    none_front (Some y) (Some ys) k = cc
    none_front (Some y) None k = cc
    none_front None os k = cc

    longer : (c : Argument Held) (args : List (Argument Held)) (ws : List (Argument Memory)) → all_of (argument_by memory_of) (c ∷ args) ≡ Some ws → index_of (given x ∷ colon ∷ ws) ≡ None
    longer c args [] k = absurd (none_front (argument_by memory_of c) (all_of (argument_by memory_of) args) k)
    longer c args (y ∷ ys) k = refl
other_form (given (value x) ∷ given (value y) ∷ args) gs a b e =
    let w = other_rest (given x) (in_front_of (Some (given y)) (all_of (argument_by memory_of) args)) gs e in
    let u = other_rest (given y) (all_of (argument_by memory_of) args) w.0 w.2 in
    ap index_of (w.1 ∙ ap (λ ys. given x ∷ ys) u.1)
other_form (given (value x) ∷ given store ∷ args) gs a b e = absurd (cc)
other_form (given (value x) ∷ given iterator ∷ args) gs a b e = absurd (cc)
other_form (given (value x) ∷ given no_value ∷ args) gs a b e = absurd (cc)
other_form (given (value x) ∷ function name ∷ args) gs a b e =
    let w = other_rest (given x) (in_front_of (Some (function name)) (all_of (argument_by memory_of) args)) gs e in
    let u = other_rest (function name) (all_of (argument_by memory_of) args) w.0 w.2 in
    ap index_of (w.1 ∙ ap (λ ys. given x ∷ ys) u.1)
other_form (given store ∷ c ∷ args) gs a b e = absurd (cc)
other_form (given iterator ∷ c ∷ args) gs a b e = absurd (cc)
other_form (given no_value ∷ c ∷ args) gs a b e = absurd (cc)

pub index_other : (v : Memory) (a : Result MemoryValue MemoryFault) (r : Result LocalValue MemoryFault) → ((want : Result Memory Refusal) → Gives want a → GivesHeld (held want) r)
    → (args : List (Argument Held)) → is_some (all_of (argument_by memory_of) args) ≡ true → only_value args ≡ None → value_before_colon args ≡ None
    → Gives (memory_index v None) a
    → GivesHeld (held (and_then (or_refuse bad_class (all_of (argument_by memory_of) args)) (λ given. memory_index v (index_of given)))) r
index_other v a r keep args t o b g = go (all_of (argument_by memory_of) args) refl t
  where
    go : (os : Option (List (Argument Memory))) → all_of (argument_by memory_of) args ≡ os → is_some os ≡ true
        → GivesHeld (held (and_then (or_refuse bad_class os) (λ given. memory_index v (index_of given)))) r
    go (Some gs) is t = subst (λ i. GivesHeld (held (memory_index v i)) r) (sym (other_form args gs o b is)) (keep (memory_index v None) g)
    go None is t = absurd (cc)

-- ---- arguments of functions of values

all_first : (a : Argument Held) (args : List (Argument Held)) (vs : List Memory) → all_of memory_given (a ∷ args) ≡ Some vs
    → (v : Memory) × (ws : List Memory) × (memory_given a ≡ Some v) × (all_of memory_given args ≡ Some ws) × (vs ≡ v ∷ ws)
all_first a args vs e = go (memory_given a) (all_of memory_given args) refl refl e
  where
    go : (o : Option Memory) (os : Option (List Memory)) → memory_given a ≡ o → all_of memory_given args ≡ os → in_front_of o os ≡ Some vs
        → (v : Memory) × (ws : List Memory) × (memory_given a ≡ Some v) × (all_of memory_given args ≡ Some ws) × (vs ≡ v ∷ ws)
    go (Some v) (Some ws) p q e = (v, ws, p, q, sym (some_is (v ∷ ws) vs e))
    go (Some v) None p q e = absurd (cc)
    go None os p q e = absurd (cc)

abbrev pub Listed : List (Argument Held) → List Memory → Type 0
Listed args ms = (vs : List Memory) → all_of memory_given args ≡ Some vs → ms ≡ vs

pub listed_none : Listed [] []
listed_none vs e = some_is [] vs e

pub listed_one : (a : Argument Held) (args : List (Argument Held)) (m : Memory) (ms : List Memory) → ((v : Memory) → memory_given a ≡ Some v → m ≡ v) → Listed args ms → Listed (a ∷ args) (m ∷ ms)
listed_one a args m ms h k vs e =
    let x = all_first a args vs e in ap (λ y. y ∷ ms) (h x.0 x.2) ∙ ap (λ ys. x.0 ∷ ys) (k x.1 x.3) ∙ sym x.4

-- ---- a call of a function of values

value_parts : (args : List (Argument Held)) (hs : List Held) → all_of value_given args ≡ Some hs
    → (length hs ≡ length args) × (all_of memory_given args ≡ memories_of hs) × (is_some (all_of (argument_by memory_of) args) ≡ is_some (memories_of hs))
value_parts [] hs e = let is : [] ≡ hs = some_is [] hs e in (sym (ap length is), ap memories_of is, ap (λ x. is_some (memories_of x)) is)
value_parts (colon ∷ args) hs e = absurd (cc)
value_parts (function name ∷ args) hs e = absurd (cc)
value_parts (given h ∷ args) hs e = go (all_of value_given args) refl e (λ ws is. value_parts args ws is)
  where
    front : (o : Option Memory) (os : Option (List (Argument Memory))) (ps : Option (List Memory)) → is_some os ≡ is_some ps
        → is_some (in_front_of (option_map given o) os) ≡ is_some (in_front_of o ps)
    front (Some v) (Some xs) (Some ys) q = refl
    front (Some v) None None q = refl
    front (Some v) (Some xs) None q = absurd (cc)
    front (Some v) None (Some ys) q = absurd (cc)
    front None os ps q = refl

    go : (o : Option (List Held)) → all_of value_given args ≡ o → in_front_of (Some h) o ≡ Some hs
        → ((ws : List Held) → all_of value_given args ≡ Some ws → (length ws ≡ length args) × (all_of memory_given args ≡ memories_of ws) × (is_some (all_of (argument_by memory_of) args) ≡ is_some (memories_of ws)))
        → (length hs ≡ suc (length args)) × (in_front_of (memory_of h) (all_of memory_given args) ≡ memories_of hs) × (is_some (in_front_of (option_map given (memory_of h)) (all_of (argument_by memory_of) args)) ≡ is_some (memories_of hs))
    go (Some ws) p e k =
        let is : h ∷ ws ≡ hs = some_is (h ∷ ws) hs e in
        let parts = k ws p in (
          sym (ap length is) ∙ ap suc parts.0,
          ap (λ o. in_front_of (memory_of h) o) parts.1 ∙ ap memories_of is,
          front (memory_of h) (all_of (argument_by memory_of) args) (memories_of ws) parts.2 ∙ ap (λ x. is_some (memories_of x)) is,
        )
    go None p e k = absurd (cc)

module _ (f : ValueFunction) (args : List (Argument Held)) where
  pub called_not_given : is_some (all_of value_given args) ≡ false → GivesHeld (held_function f args) (Err fault.BadArgument)
  unfolding held_function
  called_not_given t = go (all_of value_given args) t
    where
      go : (o : Option (List Held)) → is_some o ≡ false → GivesHeld (held (and_then (or_refuse bad_argument o) (held_values f))) (Err fault.BadArgument)
      go None t = λ r e. ap Err (some_is bad_argument r e)
      go (Some hs) t = absurd (cc)

  pub called_not_taken : is_some (all_of value_given args) ≡ true → takes f (length args) ≡ false → GivesHeld (held_function f args) (Err fault.BadArgument)
  unfolding held_function
  called_not_taken t few = go (all_of value_given args) refl t
    where
      go : (o : Option (List Held)) → all_of value_given args ≡ o → is_some o ≡ true → GivesHeld (held (and_then (or_refuse bad_argument o) (held_values f))) (Err fault.BadArgument)
      go (Some hs) is t = λ r e.
          let n : takes f (length hs) ≡ false = ap (λ k. takes f k) (value_parts args hs is).0 ∙ few in
          ap (λ b. held (if b then and_then (or_refuse bad_class (memories_of hs)) (λ vs. and_then (or_refuse bad_argument (application scalar_in f vs)) memory_application) else Err bad_argument)) n ∙ ap Err (some_is bad_argument r e)
      go None is t = absurd (cc)

  pub called_not_in_memory : is_some (all_of value_given args) ≡ true → takes f (length args) ≡ true → is_some (all_of (argument_by memory_of) args) ≡ false
      → GivesHeld (held_function f args) (Err fault.BadClass)
  unfolding held_function
  called_not_in_memory t many out = go (all_of value_given args) refl t
    where
      no_memories : (o : Option (List Memory)) → is_some o ≡ false → held (and_then (or_refuse bad_class o) (λ vs. and_then (or_refuse bad_argument (application scalar_in f vs)) memory_application)) ≡ Err bad_class
      no_memories None t = refl
      no_memories (Some vs) t = absurd (cc)

      go : (o : Option (List Held)) → all_of value_given args ≡ o → is_some o ≡ true → GivesHeld (held (and_then (or_refuse bad_argument o) (held_values f))) (Err fault.BadClass)
      go (Some hs) is t = λ r e.
          let parts = value_parts args hs is in
          ap (λ b. held (if b then and_then (or_refuse bad_class (memories_of hs)) (λ vs. and_then (or_refuse bad_argument (application scalar_in f vs)) memory_application) else Err bad_argument))
          (ap (λ k. takes f k) parts.0 ∙ many)
          ∙ no_memories (memories_of hs) (sym parts.2 ∙ out) ∙ ap Err (some_is bad_class r e)
      go None is t = absurd (cc)

  pub called_in_memory : (a : Result MemoryValue MemoryFault) (r : Result LocalValue MemoryFault) → is_some (all_of value_given args) ≡ true → takes f (length args) ≡ true
      → is_some (all_of (argument_by memory_of) args) ≡ true
      → ((vs : List Memory) → all_of memory_given args ≡ Some vs → Gives (and_then (or_refuse bad_argument (application scalar_in f vs)) memory_application) a)
      → ((want : Result Memory Refusal) → Gives want a → GivesHeld (held want) r) → GivesHeld (held_function f args) r
  unfolding held_function
  called_in_memory a r t many inside g keep = go (all_of value_given args) refl t
    where
      all_there : (o : Option (List Memory)) → all_of memory_given args ≡ o → is_some o ≡ true
          → GivesHeld (held (and_then (or_refuse bad_class o) (λ vs. and_then (or_refuse bad_argument (application scalar_in f vs)) memory_application))) r
      all_there (Some vs) is t = keep (and_then (or_refuse bad_argument (application scalar_in f vs)) memory_application) (g vs is)
      all_there None is t = absurd (cc)

      go : (o : Option (List Held)) → all_of value_given args ≡ o → is_some o ≡ true → GivesHeld (held (and_then (or_refuse bad_argument o) (held_values f))) r
      go (Some hs) is t =
          let parts = value_parts args hs is in
          subst (λ b. GivesHeld (held (if b then and_then (or_refuse bad_class (memories_of hs)) (λ vs. and_then (or_refuse bad_argument (application scalar_in f vs)) memory_application) else Err bad_argument)) r)
          (sym (ap (λ k. takes f k) parts.0 ∙ many)) (all_there (memories_of hs) parts.1 (sym parts.2 ∙ inside))
      go None is t = absurd (cc)

pub indexed_held : (h : Held) (args : List (Argument Held)) (m : Memory) (r : Result LocalValue MemoryFault) → memory_of h ≡ Some m
    → GivesHeld (held (and_then (or_refuse bad_class (all_of (argument_by memory_of) args)) (λ given. memory_index m (index_of given)))) r → GivesHeld (held_index h args) r
unfolding held_index
indexed_held h args m r e g =
    computed_held h (λ v. and_then (or_refuse bad_class (all_of (argument_by memory_of) args)) (λ given. memory_index v (index_of given))) m r e g

pub indexed_none : (h : Held) (args : List (Argument Held)) → memory_of h ≡ None → GivesHeld (held_index h args) (Err fault.BadClass)
unfolding held_index
indexed_none (value v) args e = absurd (cc)
indexed_none store args e = λ r k. ap Err (some_is bad_class r k)
indexed_none iterator args e = λ r k. ap Err (some_is bad_class r k)
indexed_none no_value args e = λ r k. ap Err (some_is bad_class r k)
