-- What is built of a script: a part of an expression with its height, or nothing where that is above the limit; and of
-- statements what they are, or the line of the first expression that is higher than it may be.
use Rattle.std.specs.Prelude.{ℕ, ◌+◌, if◌then◌else◌, nat_lt, max, List, [], ◌∷◌, ◌++◌, Option, Some, None, Result, Ok, Err}
use Rattle.tall_grammar.specs.declared.expressions.Prefix.{Prefix}
use Rattle.tall_grammar.specs.declared.expressions.Infix.{Infix}
use Rattle.tall_grammar.specs.declared.faults.TooHigh.{TooHigh}
use Rattle.tall_grammar.specs.Refusals.{limit, height, args_height, first_too_high}
use Rattle.tall_grammar.specs.Trees.{Tree, tree, Shape, list, prefixed, joined, member, call, Args, no_args, value_arg, colon_arg}
use Rattle.tall_grammar.specs.Views.{trees_of, args_of}

abbrev pub Kept : Type 0 → Type 0
Kept A = Option (A × ℕ)

abbrev pub keep : {A : Type 0} → A → ℕ → Kept A
keep a h = if nat_lt limit h then None else Some (a, h)

-- one above a part
abbrev pub above : {A B : Type 0} → (A → B) → Kept A → Kept B
above f None = None
above f (Some p) = keep (f p.0) (1 + p.1)

-- one above two parts
abbrev pub above_both : {A B C : Type 0} → (A → B → C) → Kept A → Kept B → Kept C
above_both f None q = None
above_both f (Some p) None = None
above_both f (Some p) (Some q) = keep (f p.0 q.0) (1 + max p.1 q.1)

-- two parts together
abbrev pub together : {A B C : Type 0} → (A → B → C) → Kept A → Kept B → Kept C
together f None q = None
together f (Some p) None = None
together f (Some p) (Some q) = Some (f p.0 q.0, max p.1 q.1)

-- what is kept of an expression
abbrev pub kept : Tree → Kept Tree
kept e = keep e (height e)

-- ---- expressions by their parts

abbrev pub leaf : Shape → ℕ → ℕ → Kept Tree
leaf shape l n = Some (tree n l shape, 1)

abbrev pub list_height : List Tree → ℕ
list_height [] = 1
list_height (e ∷ es) = 2

abbrev pub list_of : List Tree → ℕ → ℕ → Kept Tree
list_of es l n = Some (tree n l (list (trees_of es)), list_height es)

abbrev pub prefixed_of : Prefix → Kept Tree → ℕ → ℕ → Kept Tree
prefixed_of o e l n = above (λ e. tree n l (prefixed o e)) e

abbrev pub joined_of : Infix → Kept Tree → Kept Tree → ℕ → ℕ → Kept Tree
joined_of o e f l n = above_both (λ e f. tree n l (joined o e f)) e f

abbrev pub member_of : Kept Tree → List ℕ → ℕ → ℕ → Kept Tree
member_of e s l n = above (λ e. tree n l (member e s)) e

abbrev pub call_of : Kept Tree → Kept (List (Option Tree)) → ℕ → ℕ → Kept Tree
call_of e args l n = above_both (λ e xs. tree n l (call e (args_of xs))) e args

-- ---- arguments

abbrev pub no_arguments : Kept (List (Option Tree))
no_arguments = Some ([], 0)

abbrev pub a_colon : Kept (Option Tree)
a_colon = Some (None, 0)

abbrev pub a_value : Kept Tree → Kept (Option Tree)
a_value None = None
a_value (Some p) = Some (Some p.0, p.1)

abbrev pub and_argument : Kept (List (Option Tree)) → Kept (Option Tree) → Kept (List (Option Tree))
and_argument args a = together (λ xs x. xs ++ x ∷ []) args a

abbrev pub options_of : Args → List (Option Tree)
options_of no_args = []
options_of (value_arg e args) = Some e ∷ options_of args
options_of (colon_arg args) = None ∷ options_of args

abbrev pub kept_args : Args → Kept (List (Option Tree))
kept_args args = keep (options_of args) (args_height args)

-- ---- statements

abbrev pub Flagged : Type 0 → Type 0
Flagged A = Result A TooHigh

abbrev pub flagged_by : {A : Type 0} → Option ℕ → A → Flagged A
flagged_by None a = Ok a
flagged_by (Some l) a = Err (record { line = l })

-- what holds these expressions
abbrev pub flagged : {A : Type 0} → List Tree → A → Flagged A
flagged es a = flagged_by (first_too_high es) a

-- an expression on line l
abbrev pub settled : {A : Type 0} → ℕ → Kept A → Flagged A
settled l None = Err (record { line = l })
settled l (Some p) = Ok p.0

abbrev pub with_it : {A B : Type 0} → (A → B) → Flagged A → Flagged B
with_it f (Ok a) = Ok (f a)
with_it f (Err high) = Err high

abbrev pub with_both : {A B C : Type 0} → (A → B → C) → Flagged A → Flagged B → Flagged C
with_both f (Ok a) (Ok b) = Ok (f a b)
with_both f (Ok a) (Err high) = Err high
with_both f (Err high) b = Err high

abbrev pub and_last : {A : Type 0} → Flagged (List A) → Flagged A → Flagged (List A)
and_last found a = with_both (λ xs x. xs ++ x ∷ []) found a
