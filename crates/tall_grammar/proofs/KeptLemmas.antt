-- What is kept of an expression, by what is kept of its parts.
use Rattle.std.proofs.Common.{◌≡◌, ℕ, ◌+◌, max, true, false, List, [], ◌∷◌, ◌++◌, Option, Some, None, refl, sym, ap, ◌∙◌, arith, append_assoc}
use Rattle.std.proofs.lemmas.Bool.Decides.{nat_tests}
use Rattle.std.specs.Prelude.{nat_lt, if◌then◌else◌}
use Rattle.tall_grammar.specs.declared.expressions.Prefix.{Prefix}
use Rattle.tall_grammar.specs.declared.expressions.Infix.{Infix}
use Rattle.tall_grammar.specs.Refusals.{limit, height, args_height}
use Rattle.tall_grammar.specs.Trees.{Tree, tree, prefixed, joined, member, call, Args, no_args, value_arg, colon_arg}
use Rattle.tall_grammar.specs.Views.{args_of}
use Rattle.tall_grammar.specs.Kept.{Kept, keep, above, above_both, together, kept, prefixed_of, joined_of, member_of, call_of, no_arguments, a_colon, a_value, and_argument, options_of, kept_args}

keep_none : {A : Type 0} (a : A) (h : ℕ) → nat_lt limit h ≡ true → keep a h ≡ None
keep_none a h e = ap (λ b. if b then None else Some (a, h)) e

keep_some : {A : Type 0} (a : A) (h : ℕ) → nat_lt limit h ≡ false → keep a h ≡ Some (a, h)
keep_some a h e = ap (λ b. if b then None else Some (a, h)) e

high_up : (h : ℕ) → nat_lt limit h ≡ true → nat_lt limit (1 + h) ≡ true
high_up h e = grind (arith, nat_tests)

high_left : (h k : ℕ) → nat_lt limit h ≡ true → nat_lt limit (max h k) ≡ true
high_left h k e = grind (arith, nat_tests)

high_right : (h k : ℕ) → nat_lt limit k ≡ true → nat_lt limit (max h k) ≡ true
high_right h k e = grind (arith, nat_tests)

low_both : (h k : ℕ) → nat_lt limit h ≡ false → nat_lt limit k ≡ false → nat_lt limit (max h k) ≡ false
low_both h k e f = grind (arith, nat_tests)

pub above_keep : {A B : Type 0} (f : A → B) (a : A) (h : ℕ) → above f (keep a h) ≡ keep (f a) (1 + h)
above_keep f a h = (elim (nat_lt limit h) as (λ b. nat_lt limit h ≡ b → above f (if b then None else Some (a, h)) ≡ keep (f a) (1 + h)) [
  | true ↦ λ e. sym (keep_none (f a) (1 + h) (high_up h e))
  | false ↦ λ e. refl
]) refl

pub above_both_keep : {A B C : Type 0} (f : A → B → C) (a : A) (h : ℕ) (b : B) (k : ℕ) → above_both f (keep a h) (keep b k) ≡ keep (f a b) (1 + max h k)
above_both_keep f a h b k = (elim (nat_lt limit h) as (λ x. nat_lt limit h ≡ x → above_both f (if x then None else Some (a, h)) (keep b k) ≡ keep (f a b) (1 + max h k)) [
  | true ↦ λ e. sym (keep_none (f a b) (1 + max h k) (high_up (max h k) (high_left h k e)))
  | false ↦ λ e. (elim (nat_lt limit k) as (λ y. nat_lt limit k ≡ y → above_both f (Some (a, h)) (if y then None else Some (b, k)) ≡ keep (f a b) (1 + max h k)) [
    | true ↦ λ g. sym (keep_none (f a b) (1 + max h k) (high_up (max h k) (high_right h k g)))
    | false ↦ λ g. refl
  ]) refl
]) refl

pub together_keep : {A B C : Type 0} (f : A → B → C) (a : A) (h : ℕ) (b : B) (k : ℕ) → together f (keep a h) (keep b k) ≡ keep (f a b) (max h k)
together_keep f a h b k = (elim (nat_lt limit h) as (λ x. nat_lt limit h ≡ x → together f (if x then None else Some (a, h)) (keep b k) ≡ keep (f a b) (max h k)) [
  | true ↦ λ e. sym (keep_none (f a b) (max h k) (high_left h k e))
  | false ↦ λ e. (elim (nat_lt limit k) as (λ y. nat_lt limit k ≡ y → together f (Some (a, h)) (if y then None else Some (b, k)) ≡ keep (f a b) (max h k)) [
    | true ↦ λ g. sym (keep_none (f a b) (max h k) (high_right h k g))
    | false ↦ λ g. sym (keep_some (f a b) (max h k) (low_both h k e g))
  ]) refl
]) refl

pub a_value_keep : (e : Tree) (h : ℕ) → a_value (keep e h) ≡ keep (Some e) h
a_value_keep e h = elim (nat_lt limit h) as (λ b. a_value (if b then None else Some (e, h)) ≡ (if b then None else Some (Some e, h))) [
  | true ↦ refl
  | false ↦ refl
]

pub prefixed_kept : (o : Prefix) (e : Tree) (l n : ℕ) → prefixed_of o (kept e) l n ≡ kept (tree n l (prefixed o e))
prefixed_kept o e l n = above_keep (λ e. tree n l (prefixed o e)) e (height e)

pub joined_kept : (o : Infix) (e f : Tree) (l n : ℕ) → joined_of o (kept e) (kept f) l n ≡ kept (tree n l (joined o e f))
joined_kept o e f l n = above_both_keep (λ e f. tree n l (joined o e f)) e (height e) f (height f)

pub member_kept : (e : Tree) (s : List ℕ) (l n : ℕ) → member_of (kept e) s l n ≡ kept (tree n l (member e s))
member_kept e s l n = above_keep (λ e. tree n l (member e s)) e (height e)

pub options_back : (args : Args) → args_of (options_of args) ≡ args
options_back no_args = refl
options_back (value_arg e args) = ap (value_arg e) (options_back args)
options_back (colon_arg args) = ap colon_arg (options_back args)

pub call_kept : (e : Tree) (args : Args) (l n : ℕ) → call_of (kept e) (kept_args args) l n ≡ kept (tree n l (call e args))
call_kept e args l n =
    above_both_keep (λ e xs. tree n l (call e (args_of xs))) e (height e) (options_of args) (args_height args)
    ∙ ap (λ a. keep (tree n l (call e a)) (1 + max (height e) (args_height args))) (options_back args)

-- the arguments so far, and those that follow
abbrev pub with_args_behind : Kept (List (Option Tree)) → Args → Kept (List (Option Tree))
with_args_behind found args = together (λ xs ys. xs ++ ys) found (kept_args args)

together_assoc : (found : Kept (List (Option Tree))) (x : Option Tree) (h : ℕ) (ys : List (Option Tree)) (k : ℕ)
    → together (λ xs ys. xs ++ ys) (and_argument found (keep x h)) (keep ys k) ≡ together (λ xs ys. xs ++ ys) found (keep (x ∷ ys) (max h k))
together_assoc None x h ys k = refl
together_assoc (Some p) x h ys k = (elim (nat_lt limit h) as (λ b. nat_lt limit h ≡ b
    → together (λ xs ys. xs ++ ys) (and_argument (Some p) (if b then None else Some (x, h))) (keep ys k) ≡ together (λ xs ys. xs ++ ys) (Some p) (keep (x ∷ ys) (max h k))) [
      | true ↦ λ e. sym (ap (together (λ xs ys. xs ++ ys) (Some p)) (keep_none (x ∷ ys) (max h k) (high_left h k e)))
      | false ↦ λ e. (elim (nat_lt limit k) as (λ b. nat_lt limit k ≡ b
          → together (λ xs ys. xs ++ ys) (Some (p.0 ++ x ∷ [], max p.1 h)) (if b then None else Some (ys, k)) ≡ together (λ xs ys. xs ++ ys) (Some p) (keep (x ∷ ys) (max h k))) [
            | true ↦ λ g. sym (ap (together (λ xs ys. xs ++ ys) (Some p)) (keep_none (x ∷ ys) (max h k) (high_right h k g)))
            | false ↦ λ g.
                let same : max (max p.1 h) k ≡ max p.1 (max h k) = omega arith in
                ap (λ w. Some (w, max (max p.1 h) k)) (append_assoc p.0 (x ∷ []) ys) ∙ (ap (λ z. Some (p.0 ++ x ∷ ys, z)) same
                ∙ sym (ap (together (λ xs ys. xs ++ ys) (Some p)) (keep_some (x ∷ ys) (max h k) (low_both h k e g))))
          ]) refl
    ]) refl

pub value_behind : (found : Kept (List (Option Tree))) (e : Tree) (args : Args)
    → with_args_behind (and_argument found (a_value (kept e))) args ≡ with_args_behind found (value_arg e args)
value_behind found e args =
    ap (λ a. together (λ xs ys. xs ++ ys) (and_argument found a) (kept_args args)) (a_value_keep e (height e))
    ∙ together_assoc found (Some e) (height e) (options_of args) (args_height args)

pub colon_behind : (found : Kept (List (Option Tree))) (args : Args)
    → with_args_behind (and_argument found a_colon) args ≡ with_args_behind found (colon_arg args)
colon_behind found args =
    let same : max 0 (args_height args) ≡ args_height args = omega arith in
    together_assoc found None 0 (options_of args) (args_height args)
    ∙ ap (λ h. together (λ xs ys. xs ++ ys) found (keep (None ∷ options_of args) h)) same

last_one : (found : Kept (List (Option Tree))) → together (λ xs ys. xs ++ ys) found (keep [] 0) ≡ found
last_one None = refl
last_one (Some p) =
    let same : max p.1 0 ≡ p.1 = omega arith in
    ap (λ w. Some (w, max p.1 0)) (append_nil p.0) ∙ ap (λ z. Some (p.0, z)) same where
      append_nil : {A : Type 0} (xs : List A) → xs ++ [] ≡ xs
      append_nil [] = refl
      append_nil (x ∷ xs) = ap (λ w. x ∷ w) (append_nil xs)

pub none_behind : (found : Kept (List (Option Tree))) → with_args_behind found no_args ≡ found
none_behind found = last_one found

pub none_before : (args : Args) → with_args_behind no_arguments args ≡ kept_args args
none_before args = elim (nat_lt limit (args_height args)) as (λ b. together (λ xs ys. xs ++ ys) no_arguments (if b then None else Some (options_of args, args_height args)) ≡ (if b then None else Some (options_of args, args_height args))) [
  | true ↦ refl
  | false ↦ let same : max 0 (args_height args) ≡ args_height args = omega arith in ap (λ z. Some (options_of args, z)) same
]
