-- What expressions of scalars come to by the definitions.
use Rattle.std.proofs.Common.{◌≡◌, refl, sym, subst, ap, ◌∙◌, ℕ, List, [], ◌∷◌, ◌+◌, length}
use Rattle.std.specs.Prelude.{Bool, true, false, if◌then◌else◌, nat_lt, ℤ, Option, None, Some, Result, Ok, Err, codes, slice_get}
use Rattle.tall_value.specs.declared.class.Class.{Class}
use Rattle.tall_value.specs.declared.class.Kind.{Kind}
use Rattle.tall_value.specs.declared.faults.ClassFault.{ClassFault}
use Rattle.tall_value.specs.declared.cell.Cell.{Cell}
use Rattle.tall_value.specs.Cells.{Seen, seen, double, logical, seen_kind}
use Rattle.tall_value.specs.CellOperators.{binary_cell}
use Rattle.tall_value.specs.ClassTables.{binary_kind, class_result}
use Rattle.tall_value.specs.Index.{cell_at}
use Rattle.std.specs.Option.{IfSome}
use Rattle.tall_column.specs.Columns.{SeenColumn}
use Rattle.tall_grammar.specs.Trees.{Tree, tree, Args, no_args, value_arg}
use Rattle.tall_grammar.specs.Trees as trees
use Rattle.tall_grammar.specs.declared.expressions.Infix.{Infix}
use Rattle.tall_grammar.specs.declared.expressions.Infix.TheVariants as between
use Rattle.tall_local.specs.Arguments.{given, rows_at}
use Rattle.tall_local.specs.Calls.{is_iterator, local_value}
use Rattle.tall_local.specs.Expressions.{Callee, Valued, gives, go_on, answered, a_value, callee_named, arguments, call_value}
use Rattle.tall_local.specs.Functions.{local_function_named}
use Rattle.tall_local.specs.declared.functions.LocalFunction.{LocalFunction}
use Rattle.tall_local.specs.declared.functions.LocalFunction.TheVariants.{GetNext, HasNext}
use Rattle.tall_local.specs.Locals.{Held, value, store, iterator, no_value, Locals, function_language, held, held_binary, held_call, held_index, held_infix, is_held, next_value, read_local}
use Rattle.tall_local.specs.Memory.{Memory, scalar, column}
use Rattle.tall_local.specs.MemoryIndexing.{indexed_cell, memory_index}
use Rattle.tall_local.specs.MemoryOperators.{binary_of, memory_binary, scalar_result, scalars_fit, with_kind}
use Rattle.tall_local.specs.Names.{named}
use Rattle.tall_local.specs.Pairs.{Pair}
use Rattle.tall_local.specs.Refusals.{Refusal, bad_argument}
use Rattle.tall_fun.specs.Frames.{name_in}
use Rattle.tall_fun.specs.Plain.{ComesTo, iterator_in}
use Rattle.tall_fun.proofs.ValueLemmas.{some_is}

-- ---- operators

both_fit : (op : Infix) → scalars_fit op true true ≡ true
both_fit between.Or = refl
both_fit between.And = refl
both_fit between.Eq = refl
both_fit between.Ne = refl
both_fit between.Lt = refl
both_fit between.Le = refl
both_fit between.Gt = refl
both_fit between.Ge = refl
both_fit between.Add = refl
both_fit between.Sub = refl
both_fit between.DotMul = refl
both_fit between.DotDiv = refl
both_fit between.Mul = refl
both_fit between.Div = refl

kind_taken : (kinds : Result Kind ClassFault) (k : Class) (r : Result Memory Refusal) → class_result kinds ≡ Ok k → with_kind kinds (λ j. r) ≡ r
kind_taken (Ok j) k r h = refl
kind_taken (Err e) k r h = absurd (cc)

pub joined_gives : (op : Infix) (a b c : Seen) (k : Class) → class_result (binary_kind (binary_of op) (seen_kind a) true (seen_kind b) true) ≡ Ok k
    → binary_cell (binary_of op) a b ≡ Ok c → held_infix op (value (scalar a)) (value (scalar b)) ≡ Ok (value (scalar c))
unfolding held_infix memory_binary
joined_gives op a b c k classes cell =
    ap (λ (z : Bool). if z then held_binary op (value (scalar a)) (value (scalar b)) else Err bad_argument) (both_fit op)
    ∙ ap held (kind_taken (binary_kind (binary_of op) (seen_kind a) true (seen_kind b) true) k (scalar_result (binary_cell (binary_of op) a b)) classes)
    ∙ ap (λ r. held (scalar_result r)) cell

-- ---- indexes

pub cell_indexed : (x : SeenColumn) (d : Option ℤ) (k : Seen) (r : Option Cell) → double d ≡ k → IfSome r (λ c. cell_at d x.cells ≡ Some (seen c))
    → IfSome r (λ c. memory_index (column x) (Some (rows_at (scalar k))) ≡ Ok (scalar (seen c)))
unfolding memory_index
cell_indexed x d k None is at = tt
cell_indexed x d k (Some c) is at = ap (λ j. memory_index (column x) (Some (rows_at (scalar j)))) (sym is) ∙ ap indexed_cell at

-- ---- expressions

module _ (key_values : List Seen) (names : List (List ℕ × Held)) (n l : ℕ) where
  abbrev state : ℕ → ℕ → List Pair → Locals
  state so_many turns pairs = record { names = names; given = so_many; turns = turns; pairs = pairs }

  pub number_comes : (d : Option ℤ) (so_many : ℕ) → ComesTo key_values (tree n l (trees.number d)) names so_many (double d) so_many
  number_comes d so_many = record { comes = λ turns pairs. refl }

  pub name_comes : (x : List ℕ) (c : Seen) (so_many : ℕ) → named names x ≡ Some (value (scalar c)) → ComesTo key_values (tree n l (trees.name x)) names so_many c so_many
  name_comes x c so_many is = record { comes = λ turns pairs. ap (λ o. answered l (state so_many turns pairs) (read_local x o)) is }

  pub joined_comes : (op : Infix) (e f : Tree) (so_many between after : ℕ) (a b c : Seen) → ComesTo key_values e names so_many a between → ComesTo key_values f names between b after
      → held_infix op (value (scalar a)) (value (scalar b)) ≡ Ok (value (scalar c)) → ComesTo key_values (tree n l (trees.joined op e f)) names so_many c after
  joined_comes op e f so_many between after a b c left right is = record {
    comes = λ turns pairs.
        ap (λ x. go_on x (λ v t. go_on (local_value key_values f t) (λ w u. answered l u (held_infix op v w)))) (left.comes turns pairs)
        ∙ ap (λ x. go_on x (λ w u. answered l u (held_infix op (value (scalar a)) w))) (right.comes turns pairs)
        ∙ ap (λ r. answered l (state after turns pairs) r) is;
  }

  module _ (m k : ℕ) (f : List ℕ) where
    abbrev called : Args → Tree
    called args = tree n l (trees.call (tree m k (trees.name f)) args)

    -- a call where the callee is known
    abbrev call_of : Args → Callee LocalFunction → Locals → Valued Held Locals
    call_of args callee s =
        call_value (function_language key_values) n l callee (λ t. local_value key_values (tree m k (trees.name f)) t) (λ takes t. arguments (function_language key_values) args takes t) s

    pub index_comes : (e : Tree) (x : SeenColumn) (i c : Seen) (before after : ℕ) → named names f ≡ Some (value (column x)) → ComesTo key_values e names before i after
        → memory_index (column x) (Some (rows_at (scalar i))) ≡ Ok (scalar c) → ComesTo key_values (called (value_arg e no_args)) names before c after
    unfolding held_index
    index_comes e x i c before after is argument at = record {
      comes = λ turns pairs.
          ap (λ o. call_of (value_arg e no_args) (if is_held o then a_value else callee_named k f (local_function_named f)) (state before turns pairs)) is
          ∙ ap (λ o. go_on (answered k (state before turns pairs) (read_local f o)) (λ v t. go_on (arguments (function_language key_values) (value_arg e no_args) false t) (λ args u. answered l u (held_index v args)))) is
          ∙ ap (λ w. go_on (go_on (go_on w (λ v t. gives (given v) t)) (λ a t. go_on (gives [] t) (λ rest u. gives (a ∷ rest) u))) (λ args u. answered l u (held_index (value (column x)) args))) (argument.comes turns pairs)
          ∙ ap (λ r. answered l (state after turns pairs) (held r)) at;
    }

    module _ (e : Tree) (before : ℕ) (hidden : named names f ≡ None) (is_iterator_name : iterator_in names (name_in e) ≡ true) where
      -- a call of a function with the iterator
      function_called : (g : LocalFunction) (turns : ℕ) (pairs : List Pair) → local_function_named f ≡ Some g
          → local_value key_values (called (value_arg e no_args)) (state before turns pairs) ≡ held_call key_values l g (given iterator ∷ []) (state before turns pairs)
      function_called g turns pairs is =
          ap (λ o. call_of (value_arg e no_args) (if is_held o then a_value else callee_named k f (local_function_named f)) (state before turns pairs)) hidden
          ∙ ap (λ o. call_of (value_arg e no_args) (callee_named k f o) (state before turns pairs)) is
          ∙ ap (λ w. go_on (go_on (go_on w (λ v t. gives (given v) t)) (λ a t. go_on (gives [] t) (λ rest u. gives (a ∷ rest) u))) (λ args t. held_call key_values l g args t)) (argument_is e is_iterator_name)
        where
          iterator_read : (o : Option Held) (x : List ℕ) → is_iterator o ≡ true → read_local x o ≡ Ok iterator
          iterator_read (Some iterator) x h = refl
          iterator_read (Some (value v)) x h = absurd (cc)
          iterator_read (Some store) x h = absurd (cc)
          iterator_read (Some no_value) x h = absurd (cc)
          iterator_read None x h = absurd (cc)

          argument_is : (e : Tree) → iterator_in names (name_in e) ≡ true → local_value key_values e (state before turns pairs) ≡ gives iterator (state before turns pairs)
          argument_is (tree i j (trees.name x)) h = ap (λ r. answered j (state before turns pairs) r) (iterator_read (named names x) x h)
          argument_is (tree i j (trees.number d)) h = absurd (cc)
          argument_is (tree i j (trees.text t)) h = absurd (cc)
          argument_is (tree i j (trees.list es)) h = absurd (cc)
          argument_is (tree i j (trees.handle x)) h = absurd (cc)
          argument_is (tree i j (trees.prefixed op g)) h = absurd (cc)
          argument_is (tree i j (trees.joined op g h1)) h = absurd (cc)
          argument_is (tree i j (trees.member g x)) h = absurd (cc)
          argument_is (tree i j (trees.call g args)) h = absurd (cc)

      pub get_next_comes : (c : Seen) → f ≡ codes "getnext" → slice_get key_values before ≡ Some c → ComesTo key_values (called (value_arg e no_args)) names before c (before + 1)
      unfolding held_call local_function_named
      get_next_comes c is at = record {
        comes = λ turns pairs.
            function_called GetNext turns pairs (ap local_function_named is)
            ∙ ap (λ o. next_value l o (state before turns pairs)) at;
      }

      pub has_next_comes : f ≡ codes "hasnext" → ComesTo key_values (called (value_arg e no_args)) names before (logical (nat_lt before (length key_values))) before
      unfolding held_call local_function_named
      has_next_comes is = record { comes = λ turns pairs. function_called HasNext turns pairs (ap local_function_named is) }

-- ---- the same of what may have been found

pub some_joined : (key_values : List Seen) (names : List (List ℕ × Held)) (n l : ℕ) (op : Infix) (e f whole : Tree) (so_many between after : ℕ) (a b : Seen) (r : Option Cell)
    → whole ≡ tree n l (trees.joined op e f) → ComesTo key_values e names so_many a between → ComesTo key_values f names between b after
    → IfSome r (λ c. held_infix op (value (scalar a)) (value (scalar b)) ≡ Ok (value (scalar (seen c)))) → IfSome r (λ c. ComesTo key_values whole names so_many (seen c) after)
some_joined kv names n l op e f whole so_many between after a b None whole_is left right is = tt
some_joined kv names n l op e f whole so_many between after a b (Some c) whole_is left right is =
    subst (λ t. ComesTo kv t names so_many (seen c) after) (sym whole_is) (joined_comes kv names n l op e f so_many between after a b (seen c) left right is)

pub some_indexed : (key_values : List Seen) (names : List (List ℕ × Held)) (n l m k : ℕ) (f : List ℕ) (e : Tree) (x : SeenColumn) (i : Seen) (before after : ℕ) (r : Option Cell)
    → named names f ≡ Some (value (column x)) → ComesTo key_values e names before i after → IfSome r (λ c. memory_index (column x) (Some (rows_at (scalar i))) ≡ Ok (scalar (seen c)))
    → IfSome r (λ c. ComesTo key_values (tree n l (trees.call (tree m k (trees.name f)) (value_arg e no_args))) names before (seen c) after)
some_indexed kv names n l m k f e x i before after None is argument at = tt
some_indexed kv names n l m k f e x i before after (Some c) is argument at = index_comes kv names n l m k f e x i (seen c) before after is argument at

pub some_next : (key_values : List Seen) (names : List (List ℕ × Held)) (n l m k : ℕ) (f : List ℕ) (e : Tree) (before after : ℕ) (r : Option Cell)
    → named names f ≡ None → iterator_in names (name_in e) ≡ true → f ≡ codes "getnext" → IfSome r (λ c. (slice_get key_values before ≡ Some (seen c)) × (after ≡ before + 1))
    → IfSome r (λ c. ComesTo key_values (tree n l (trees.call (tree m k (trees.name f)) (value_arg e no_args))) names before (seen c) after)
some_next kv names n l m k f e before after None hidden iter is at = tt
some_next kv names n l m k f e before after (Some c) hidden iter is at =
    subst (λ a. ComesTo kv (tree n l (trees.call (tree m k (trees.name f)) (value_arg e no_args))) names before (seen c) a) (sym at.1)
    (get_next_comes kv names n l m k f e before hidden iter (seen c) is at.0)

-- an expression that is a name, called
pub name_called : (key_values : List Seen) (names : List (List ℕ × Held)) (n l : ℕ) (callee whole : Tree) (f : List ℕ) (args : Args) (before after : ℕ) (r : Option Cell)
    → whole ≡ tree n l (trees.call callee args) → name_in callee ≡ Some f
    → ((m k : ℕ) → IfSome r (λ c. ComesTo key_values (tree n l (trees.call (tree m k (trees.name f)) args)) names before (seen c) after))
    → IfSome r (λ c. ComesTo key_values whole names before (seen c) after)
name_called kv names n l (tree m k (trees.name x)) whole f args before after r whole_is is h =
    subst (λ t. IfSome r (λ c. ComesTo kv t names before (seen c) after)) (ap (λ x. tree n l (trees.call (tree m k (trees.name x)) args)) (sym (some_is x f is)) ∙ sym whole_is) (h m k)
name_called kv names n l (tree m k (trees.number d)) whole f args before after r whole_is is h = absurd (cc)
name_called kv names n l (tree m k (trees.text s)) whole f args before after r whole_is is h = absurd (cc)
name_called kv names n l (tree m k (trees.list es)) whole f args before after r whole_is is h = absurd (cc)
name_called kv names n l (tree m k (trees.handle x)) whole f args before after r whole_is is h = absurd (cc)
name_called kv names n l (tree m k (trees.prefixed op e)) whole f args before after r whole_is is h = absurd (cc)
name_called kv names n l (tree m k (trees.joined op e g)) whole f args before after r whole_is is h = absurd (cc)
name_called kv names n l (tree m k (trees.member e x)) whole f args before after r whole_is is h = absurd (cc)
name_called kv names n l (tree m k (trees.call e given_args)) whole f args before after r whole_is is h = absurd (cc)
