-- The line of the first expression that is too high, by the parts of what holds it.
use Rattle.std.proofs.Common.{◌≡◌, ℕ, max, Bool, true, false, List, [], ◌∷◌, ◌++◌, Option, Some, None, refl, sym, ap, ◌∙◌, arith}
use Rattle.std.proofs.lemmas.Bool.Decides.{nat_tests}
use Rattle.std.specs.Prelude.{nat_lt, if◌then◌else◌, Ok, Err}
use Rattle.tall_grammar.specs.Lexemes.{Lexeme}
use Rattle.tall_grammar.specs.Refusals.{limit, height, args_height, line_of, first_too_high, args_trees}
use Rattle.tall_grammar.specs.Trees.{Tree, Args}
use Rattle.tall_grammar.specs.Grammar.{IsExpr, one_conj, or_conj, IsConj, one_cmp, and_cmp, IsCmp, one_sum, compared_sum, IsSum, one_prod, added_prod, IsProd, one_pre, multiplied_pre, IsPre, one_post, prefixed_pre, IsPost, one_primary, member_of, call_of, IsPrimary, a_number, a_text, a_name, inside, a_list, a_handle, in_braces, in_brackets}
use Rattle.tall_grammar.specs.Grammar.{AreArgs, without_args, with_args, AreSomeArgs, last_value, last_colon, next_value, next_colon}
use Rattle.tall_grammar.specs.Kept.{kept, kept_args, options_of, Flagged, flagged_by, flagged, settled, with_it, with_both}

-- ---- the line of an expression

mutual
  pub line_of_expr : (l m : ℕ) (ts : List Lexeme) (e : Tree) (n : ℕ) → IsExpr l m ts e n → line_of e ≡ l
  line_of_expr l m ts e n (one_conj l1 m1 n1 ts1 e1 r) = line_of_conj l1 m1 ts1 e1 n1 r
  line_of_expr l m ts e n (or_conj l1 m1 k1 n1 p ts1 us e1 f r q) = refl

  line_of_conj : (l m : ℕ) (ts : List Lexeme) (e : Tree) (n : ℕ) → IsConj l m ts e n → line_of e ≡ l
  line_of_conj l m ts e n (one_cmp l1 m1 n1 ts1 e1 r) = line_of_cmp l1 m1 ts1 e1 n1 r
  line_of_conj l m ts e n (and_cmp l1 m1 k1 n1 p ts1 us e1 f r q) = refl

  line_of_cmp : (l m : ℕ) (ts : List Lexeme) (e : Tree) (n : ℕ) → IsCmp l m ts e n → line_of e ≡ l
  line_of_cmp l m ts e n (one_sum l1 m1 n1 ts1 e1 r) = line_of_sum l1 m1 ts1 e1 n1 r
  line_of_cmp l m ts e n (compared_sum l1 m1 k1 n1 p s o ts1 us e1 f r h q) = refl

  line_of_sum : (l m : ℕ) (ts : List Lexeme) (e : Tree) (n : ℕ) → IsSum l m ts e n → line_of e ≡ l
  line_of_sum l m ts e n (one_prod l1 m1 n1 ts1 e1 r) = line_of_prod l1 m1 ts1 e1 n1 r
  line_of_sum l m ts e n (added_prod l1 m1 k1 n1 p s o ts1 us e1 f r h q) = refl

  line_of_prod : (l m : ℕ) (ts : List Lexeme) (e : Tree) (n : ℕ) → IsProd l m ts e n → line_of e ≡ l
  line_of_prod l m ts e n (one_pre l1 m1 n1 ts1 e1 r) = line_of_pre l1 m1 ts1 e1 n1 r
  line_of_prod l m ts e n (multiplied_pre l1 m1 k1 n1 p s o ts1 us e1 f r h q) = refl

  line_of_pre : (l m : ℕ) (ts : List Lexeme) (e : Tree) (n : ℕ) → IsPre l m ts e n → line_of e ≡ l
  line_of_pre l m ts e n (one_post l1 m1 n1 ts1 e1 r) = line_of_post l1 m1 ts1 e1 n1 r
  line_of_pre l m ts e n (prefixed_pre l1 m1 n1 p s o ts1 e1 h r) = refl

  line_of_post : (l m : ℕ) (ts : List Lexeme) (e : Tree) (n : ℕ) → IsPost l m ts e n → line_of e ≡ l
  line_of_post l m ts e n (one_primary l1 m1 n1 ts1 e1 r) = line_of_primary l1 m1 ts1 e1 n1 r
  line_of_post l m ts e n (member_of l1 m1 n1 p q s ts1 e1 r) = refl
  line_of_post l m ts e n (call_of l1 m1 k1 n1 p q ts1 us e1 args r a) = refl

  line_of_primary : (l m : ℕ) (ts : List Lexeme) (e : Tree) (n : ℕ) → IsPrimary l m ts e n → line_of e ≡ l
  line_of_primary l m ts e n (a_number l1 m1 p s) = refl
  line_of_primary l m ts e n (a_text l1 m1 p s) = refl
  line_of_primary l m ts e n (a_name l1 m1 p s) = refl
  line_of_primary l m ts e n (inside l1 m1 n1 p q us e1 r) = line_of_expr l1 m1 us e1 n1 r
  line_of_primary l m ts e n (a_list l1 m1 n1 us e1 (in_braces l2 m2 n2 p q vs es r)) = refl
  line_of_primary l m ts e n (a_list l1 m1 n1 us e1 (in_brackets l2 m2 n2 p q u s vs es r)) = refl
  line_of_primary l m ts e n (a_handle l1 m1 p q s) = refl

-- ---- parts together

flagged_two : {A B C : Type 0} (f : A → B → C) (es fs : List Tree) (a : A) (b : B) → with_both f (flagged es a) (flagged fs b) ≡ flagged (es ++ fs) (f a b)
flagged_two f [] fs a b = none f (first_too_high fs) a b where
  none : {A B C : Type 0} (f : A → B → C) (o : Option ℕ) (a : A) (b : B) → with_both f (Ok a) (flagged_by o b) ≡ flagged_by o (f a b)
  none f None a b = refl
  none f (Some l) a b = refl
flagged_two {A} {B} {C} f (e ∷ es) fs a b = elim (nat_lt limit (height e)) as (λ x. with_both f (flagged_by (if x then Some (line_of e) else first_too_high es) a) (flagged fs b) ≡ flagged_by (if x then Some (line_of e) else first_too_high (es ++ fs)) (f a b)) [
  | true ↦ refl
  | false ↦ flagged_two f es fs a b
]

pub flagged_both : {A B C : Type 0} (f : A → B → C) (es fs : List Tree) (a : A) (b : B) → with_both f (flagged es a) (flagged fs b) ≡ flagged (es ++ fs) (f a b)
flagged_both f es fs a b = flagged_two f es fs a b

pub flagged_it : {A B : Type 0} (f : A → B) (es : List Tree) (a : A) → with_it f (flagged es a) ≡ flagged es (f a)
flagged_it {A} {B} f es a = by (first_too_high es) where
  by : (o : Option ℕ) → with_it f (flagged_by o a) ≡ flagged_by o (f a)
  by None = refl
  by (Some l) = refl

-- ---- one expression, and arguments

pub settled_kept : (l : ℕ) (e : Tree) → line_of e ≡ l → settled l (kept e) ≡ flagged (e ∷ []) e
settled_kept l e h = elim (nat_lt limit (height e)) as (λ x. settled l (if x then None else Some (e, height e)) ≡ flagged_by (if x then Some (line_of e) else None) e) [
  | true ↦ ap (λ (z : ℕ). let r : Flagged Tree = Err (record { line = z }) in r) (sym h)
  | false ↦ refl
]

all_on_line : (l m : ℕ) (ts : List Lexeme) (args : Args) (n : ℕ) → AreSomeArgs l m ts args n → first_too_high (args_trees args) ≡ (if nat_lt limit (args_height args) then Some l else None)
all_on_line l m ts args n (last_value l1 m1 n1 ts1 e r) =
    let h = line_of_expr l1 m1 ts1 e n1 r in
    let same : max (height e) 0 ≡ height e = omega arith in
    ap (λ z. if nat_lt limit (height e) then Some z else None) h ∙ ap (λ z. if nat_lt limit z then Some l1 else None) (sym same)
all_on_line l m ts args n (last_colon l1 m1 p) = refl
all_on_line l m ts args n (next_value l1 m1 k1 n1 p ts1 us e args1 r q) =
    value_first (height e) (args_height args1) l1 (line_of e) (first_too_high (args_trees args1)) (line_of_expr l1 m1 ts1 e k1 r) (all_on_line l1 k1 us args1 n1 q) where
      value_first : (h k l z : ℕ) (o : Option ℕ) → z ≡ l → o ≡ (if nat_lt limit k then Some l else None) → (if nat_lt limit h then Some z else o) ≡ (if nat_lt limit (max h k) then Some l else None)
      value_first h k l z o same rest = (elim (nat_lt limit h) as (λ x. nat_lt limit h ≡ x → (if x then Some z else o) ≡ (if nat_lt limit (max h k) then Some l else None)) [
        | true ↦ λ e. let g : nat_lt limit (max h k) ≡ true = grind (arith, nat_tests) in ap Some same ∙ sym (ap (λ b. if b then Some l else None) g)
        | false ↦ λ e. let g : nat_lt limit (max h k) ≡ nat_lt limit k = low h k e in rest ∙ sym (ap (λ b. if b then Some l else None) g)
      ]) refl where
        low : (h k : ℕ) → nat_lt limit h ≡ false → nat_lt limit (max h k) ≡ nat_lt limit k
        low h k e = (elim (nat_lt limit k) as (λ x. nat_lt limit k ≡ x → nat_lt limit (max h k) ≡ x) [
          | true ↦ λ f. grind (arith, nat_tests)
          | false ↦ λ f. grind (arith, nat_tests)
        ]) refl
all_on_line l m ts args n (next_colon l1 m1 n1 p q us args1 r) = all_on_line l1 m1 us args1 n1 r

args_on_line : (l m : ℕ) (ts : List Lexeme) (args : Args) (n : ℕ) → AreArgs l m ts args n → first_too_high (args_trees args) ≡ (if nat_lt limit (args_height args) then Some l else None)
args_on_line l m ts args n (without_args l1 m1) = refl
args_on_line l m ts args n (with_args l1 m1 n1 ts1 args1 r) = all_on_line l1 m1 ts1 args1 n1 r

pub settled_args : (l m : ℕ) (ts : List Lexeme) (args : Args) (n : ℕ) → AreArgs l m ts args n → settled l (kept_args args) ≡ flagged (args_trees args) (options_of args)
settled_args l m ts args n r =
    by (nat_lt limit (args_height args)) ∙ sym (ap (λ o. flagged_by o (options_of args)) (args_on_line l m ts args n r)) where
      by : (b : Bool) → settled l (if b then None else Some (options_of args, args_height args)) ≡ flagged_by (if b then Some l else None) (options_of args)
      by true = refl
      by false = refl
