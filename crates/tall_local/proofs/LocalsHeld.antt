-- The names of a function stand for values that can be held.
use Rattle.std.proofs.Common.{ℕ, List, [], ◌∷◌, Bool, true, false}
use Rattle.std.specs.Prelude.{if◌then◌else◌, length, slice_get, Option, None, Some, Result, Ok, Err}
use Rattle.std.specs.Str.{bytes_eq}
use Rattle.tall_value.specs.Cells.{Seen}
use Rattle.tall_grammar.specs.declared.expressions.Infix.{Infix}
use Rattle.tall_grammar.specs.Trees.{Tree}
use Rattle.tall_local.specs.declared.functions.LocalFunction.{LocalFunction}
use Rattle.tall_local.specs.declared.functions.LocalFunction.TheVariants.{OfValues, HasNext, GetNext, Elsewhere}
use Rattle.tall_local.specs.declared.functions.ValueFunction.{ValueFunction}
use Rattle.tall_local.specs.Applications.{application, takes}
use Rattle.tall_local.specs.Arguments.{Argument, given, colon, function, value_given, index_of}
use Rattle.tall_local.specs.Calls.{local_value}
use Rattle.tall_local.specs.Constants.{constant_named}
use Rattle.tall_local.specs.Expressions.{Valued, gives, stops, answered}
use Rattle.tall_local.specs.Lists.{all_of, in_front_of}
use Rattle.tall_local.specs.Locals.{Held, store, iterator, no_value, Locals, set_local, read_local, with_memory, is_held_scalar, held_binary, held_infix, held_index, held_values, held_function, held_call, is_only_iterator, next_value, argument_by, memory_of, memories_of, function_language}
use Rattle.tall_local.specs.Locals as held
use Rattle.tall_local.specs.Memory.{Memory, scalar, column, table, texts, scalar_in}
use Rattle.tall_local.specs.MemoryFunctions.{memory_application}
use Rattle.tall_local.specs.MemoryIndexing.{memory_index, memory_member}
use Rattle.tall_local.specs.MemoryLaws.{CanBeHeld, OnGiven, OperandsCanBeHeld, HeldCanBe, NamesCanBeHeld, GivesHeld}
use Rattle.tall_local.specs.MemoryOperators.{memory_prefix, memory_binary, binary_of, unary_of, scalars_fit}
use Rattle.tall_local.specs.Names.{named}
use Rattle.tall_local.specs.Refusals.{Refusal, undefined, bad_class, bad_argument, and_then, or_refuse}
use Rattle.tall_local.specs.StateLaws.{IsKept}
use Rattle.tall_local.proofs.ApplicationOperands.{operands_of}
use Rattle.tall_local.proofs.MemoryClasses.{unary_held, binary_held, index_held, member_held, application_held}
use Rattle.tall_local.proofs.ValuesKept.{IsLiteral, ArgumentIs, ArgumentsAre, Gives, value_is}

abbrev Answers : Result Held Refusal → Type 0
Answers r = OnGiven HeldCanBe r

held_given : (r : Result Memory Refusal) → OnGiven CanBeHeld r → Answers (held.held r)
held_given (Ok v) h = h
held_given (Err e) h = tt

with_a_memory : (h : Held) (f : Memory → Result Memory Refusal) → HeldCanBe h → ((v : Memory) → CanBeHeld v → OnGiven CanBeHeld (f v)) → Answers (with_memory h f)
with_a_memory (held.value v) f i k = held_given (f v) (k v i)
with_a_memory store f i k = tt
with_a_memory iterator f i k = tt
with_a_memory no_value f i k = tt

prefixed : (op : _) (v : Memory) → CanBeHeld v → OnGiven CanBeHeld (memory_prefix op v)
unfolding memory_prefix
prefixed op v h = unary_held (unary_of op) v h

two_held : (op : Infix) (v w : Held) → HeldCanBe v → HeldCanBe w → Answers (held_binary op v w)
two_held op (held.value v) (held.value w) h k = held_given (memory_binary (binary_of op) v w) (binary_held (binary_of op) v w h k)
two_held op (held.value v) store h k = tt
two_held op (held.value v) iterator h k = tt
two_held op (held.value v) no_value h k = tt
two_held op store w h k = tt
two_held op iterator w h k = tt
two_held op no_value w h k = tt

either : (b : Bool) (q r : Result Held Refusal) → Answers q → Answers r → Answers (if b then q else r)
either true q r h k = h
either false q r h k = k

an_infix : (op : Infix) (v w : Held) → HeldCanBe v → HeldCanBe w → Answers (held_infix op v w)
unfolding held_infix
an_infix op v w h k = either (scalars_fit op (is_held_scalar v) (is_held_scalar w)) (held_binary op v w) (Err bad_argument) (two_held op v w h k) tt

then_given : {A : Type 0} (r : Result A Refusal) (f : A → Result Memory Refusal) → ((a : A) → OnGiven CanBeHeld (f a)) → OnGiven CanBeHeld (and_then r f)
then_given (Ok a) f k = k a
then_given (Err e) f k = tt

an_index : (h : Held) (args : List (Argument Held)) → HeldCanBe h → Answers (held_index h args)
unfolding held_index
an_index h args i =
    with_a_memory h (λ v. and_then (or_refuse bad_class (all_of (argument_by memory_of) args)) (λ given. memory_index v (index_of given))) i
    (λ v j. then_given (or_refuse bad_class (all_of (argument_by memory_of) args)) (λ given. memory_index v (index_of given)) (λ given. index_held v (index_of given) j))

-- ---- functions of values

abbrev AllHeld : List Held → Type 0
AllHeld [] = Unit {0}
AllHeld (h ∷ hs) = HeldCanBe h × AllHeld hs

abbrev AllCan : List Memory → Type 0
AllCan [] = Unit {0}
AllCan (v ∷ vs) = CanBeHeld v × AllCan vs

abbrev OnSome : {A : Type 0} → (A → Type 0) → Option A → Type 0
OnSome Is None = Unit {0}
OnSome Is (Some a) = Is a

in_front : {A : Type 0} (Is : A → Type 0) (Are : List A → Type 0) → ((a : A) (rest : List A) → Is a → Are rest → Are (a ∷ rest)) → (a : Option A) (rest : Option (List A))
    → OnSome Is a → OnSome Are rest → OnSome Are (in_front_of a rest)
in_front Is Are more (Some a) (Some rest) h k = more a rest h k
in_front Is Are more (Some a) None h k = tt
in_front Is Are more None rest h k = tt

memory_can : (h : Held) → HeldCanBe h → OnSome CanBeHeld (memory_of h)
memory_can (held.value v) i = i
memory_can store i = tt
memory_can iterator i = tt
memory_can no_value i = tt

memories_can : (hs : List Held) → AllHeld hs → OnSome AllCan (memories_of hs)
memories_can [] h = tt
memories_can (x ∷ hs) h = in_front CanBeHeld AllCan (λ a rest i j. (i, j)) (memory_of x) (memories_of hs) (memory_can x h.0) (memories_can hs h.1)

value_can : (a : Argument Held) → ArgumentIs HeldCanBe a → OnSome HeldCanBe (value_given a)
value_can (given v) i = i
value_can colon i = tt
value_can (function name) i = tt

values_can : (args : List (Argument Held)) → ArgumentsAre HeldCanBe args → OnSome AllHeld (all_of value_given args)
values_can [] h = tt
values_can (a ∷ args) h = in_front HeldCanBe AllHeld (λ x rest i j. (i, j)) (value_given a) (all_of value_given args) (value_can a h.0) (values_can args h.1)

on_present : {A : Type 0} (Is : A → Type 0) (e : Refusal) (o : Option A) (f : A → Result Memory Refusal) → OnSome Is o → ((a : A) → Is a → OnGiven CanBeHeld (f a))
    → OnGiven CanBeHeld (and_then (or_refuse e o) f)
on_present Is e None f h k = tt
on_present Is e (Some a) f h k = k a h

either_memory : (b : Bool) (q r : Result Memory Refusal) → OnGiven CanBeHeld q → OnGiven CanBeHeld r → OnGiven CanBeHeld (if b then q else r)
either_memory true q r h k = h
either_memory false q r h k = k

of_memories : (f : ValueFunction) (vs : List Memory) → AllCan vs → OnGiven CanBeHeld (and_then (or_refuse bad_argument (application scalar_in f vs)) memory_application)
of_memories f vs h =
    on_present OperandsCanBeHeld bad_argument (application scalar_in f vs) memory_application (operands_of f vs h) (λ a i. application_held a i)

of_values : (f : ValueFunction) (hs : List Held) → AllHeld hs → OnGiven CanBeHeld (held_values f hs)
of_values f hs h =
    either_memory (takes f (length hs)) (and_then (or_refuse bad_class (memories_of hs)) (λ vs. and_then (or_refuse bad_argument (application scalar_in f vs)) memory_application)) (Err bad_argument)
    (on_present AllCan bad_class (memories_of hs) (λ vs. and_then (or_refuse bad_argument (application scalar_in f vs)) memory_application) (memories_can hs h) (λ vs i. of_memories f vs i)) tt

a_function : (f : ValueFunction) (args : List (Argument Held)) → ArgumentsAre HeldCanBe args → Answers (held_function f args)
unfolding held_function
a_function f args h =
    held_given (and_then (or_refuse bad_argument (all_of value_given args)) (held_values f))
    (on_present AllHeld bad_argument (all_of value_given args) (held_values f) (values_can args h) (λ hs i. of_values f hs i))

-- ---- expressions

abbrev Same : Locals → Locals → Type 0
Same s t = Unit {0}

abbrev Well : Locals → Type 0
Well s = NamesCanBeHeld s.names

abbrev Leaves : Locals → Valued Held Locals → Type 0
Leaves s r = Gives Same Well (λ t h. HeldCanBe h) s r

same_kept : IsKept Same
same_kept = record { nothing = λ s. tt; both = λ s t u h k. tt }

a_constant : (name : List ℕ) (c : Option Seen) → Answers (elim c [ Some d ↦ Ok (held.value (scalar d)) | None ↦ Err (undefined name) ])
a_constant name (Some c) = tt
a_constant name None = tt

of_option : (name : List ℕ) (h : Option Held) → OnSome HeldCanBe h → Answers (read_local name h)
of_option name (Some (held.value v)) i = i
of_option name (Some store) i = tt
of_option name (Some iterator) i = tt
of_option name (Some no_value) i = tt
of_option name None i = a_constant name (constant_named name)

named_can : (name : List ℕ) (names : List (List ℕ × Held)) → NamesCanBeHeld names → OnSome HeldCanBe (named names name)
named_can name [] h = tt
named_can name (entry ∷ names) h = by_test (bytes_eq entry.0 name) (named_can name names h.1) where
  by_test : (b : Bool) → OnSome HeldCanBe (named names name) → OnSome HeldCanBe (if b then Some entry.1 else named names name)
  by_test true rest = h.0
  by_test false rest = rest

an_answer : (line : ℕ) (s : Locals) (r : Result Held Refusal) → Well s → Answers r → Leaves s (answered line s r)
an_answer line s (Ok v) w h = (tt, w, h)
an_answer line s (Err e) w h = (tt, w)

choice : (b : Bool) (s : Locals) (v x : Valued Held Locals) → Leaves s v → Leaves s x → Leaves s (if b then v else x)
choice true s v x h k = h
choice false s v x h k = k

a_next : (line : ℕ) (c : Option Seen) (s : Locals) → Well s → Leaves s (next_value line c s)
a_next line (Some c) s w = (tt, w, tt)
a_next line None s w = (tt, w)

a_call : (key_values : List Seen) (line : ℕ) (f : LocalFunction) (args : List (Argument Held)) (s : Locals) → Well s → ArgumentsAre HeldCanBe args → Leaves s (held_call key_values line f args s)
unfolding held_call
a_call key_values line (OfValues f) args s w h = an_answer line s (held_function f args) w (a_function f args h)
a_call key_values line HasNext args s w h = choice (is_only_iterator args) s _ _ (tt, w, tt) (tt, w)
a_call key_values line GetNext args s w h = choice (is_only_iterator args) s _ _ (a_next line (slice_get key_values s.given) s w) (tt, w)
a_call key_values line Elsewhere args s w h = (tt, w)

literal_can : (m : Memory) → IsLiteral m → CanBeHeld m
literal_can (scalar c) i = tt
literal_can (column x) i = absurd i
literal_can (table t) i = absurd i
literal_can (texts ts) i = tt

pub expression_can : (key_values : List Seen) (e : Tree) (s : Locals) → Well s → Leaves s (local_value key_values e s)
expression_can key_values e s w =
    value_is (function_language key_values) Same same_kept Well (λ t h. HeldCanBe h) (λ t u v r i. i) (λ t m i. literal_can m i)
    (λ t x u. of_option x (named t.names x) (named_can x t.names u)) (λ t n l op v i. with_a_memory v (memory_prefix op) i (λ m j. prefixed op m j))
    (λ t n l op v x i j. an_infix op v x i j) (λ t v x i. with_a_memory v (λ m. memory_member m x) i (λ m j. member_held m x j))
    (λ t n l v args i j. an_index v args i) (λ n l f args t u i. a_call key_values l f args t u i) e s w

as_held : (s : Locals) (r : Valued Held Locals) → Leaves s r → GivesHeld r
as_held s (gives h t) i = (i.2, i.1)
as_held s (stops stop t) i = i.1

pub expression_held : (key_values : List Seen) (e : Tree) (s : Locals) → NamesCanBeHeld s.names → GivesHeld (local_value key_values e s)
expression_held key_values e s w = as_held s (local_value key_values e s) (expression_can key_values e s w)
