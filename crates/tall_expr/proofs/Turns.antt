-- Loops that count turns up, beside readers that count them down; signs as operators; names in a set.
use Rattle.std.proofs.Common.{◌≡◌, refl, ℕ, suc, ◌+◌, ◌-◌, ◌<◌, ◌≤◌, ap, ◌∙◌, sym, arith, List, [], ◌∷◌, Option, Some, None, ◌||◌, length, take, map, String, string_bytes, Ok, Err}
use Rattle.std.specs.List.{list_any}
use Rattle.std.specs.BTreeMap.{is_at}
use Rattle.std.specs.Cmp.Lexicographic.{slice_cmp}
use Rattle.std.specs.Ordering.{nat_cmp}
use Rattle.std.proofs.lemmas.List.{map-append}
use Rattle.std.proofs.lemmas.Map.Text.{is_eq-slice_cmp}
use Rattle.tall_grammar.specs.Lexemes.{Lexeme, is_text, all_but_last}
use Rattle.tall_grammar.specs.declared.faults.Fault.TheVariants.{OutOfTurns}
use Rattle.tall_grammar.specs.Readers.{Outcome, front_as, operator_of, text_if}
use Rattle.tall_expr.specs.Gives.{is_sign_token}
use Rattle.tall_grammar.specs.Kept.{Flagged, with_it, and_last}

pub one_more : {X : Type 0} {x : X} (f : ℕ → X) (n at : ℕ) → at < n → x ≡ f (n - at) → x ≡ f (suc (n - (at + 1)))
one_more f n at below e = let turn : n - at ≡ suc (n - (at + 1)) = omega arith in e ∙ ap f turn

pub deeper : {X : Type 0} (f : ℕ → X) (n : ℕ) → 0 < n → f n ≡ f (suc (n - 1))
deeper f n some = let e : n ≡ suc (n - 1) = omega arith in ap f e

pub of_sign : {O : Type 0} (op : List ℕ → Option O) (ts : List Lexeme) (s : List ℕ) → front_as (text_if is_sign_token) ts ≡ Some s
    → front_as (operator_of op) ts ≡ op s
of_sign op [] s h = absurd cc
of_sign op (t ∷ ts) s h = grind arith

pub of_no_sign : {O : Type 0} (op : List ℕ → Option O) (ts : List Lexeme) → front_as (text_if is_sign_token) ts ≡ None
    → front_as (operator_of op) ts ≡ None
of_no_sign op [] h = refl
of_no_sign op (t ∷ ts) h = grind arith

pub front_taken : (bs : List ℕ) → all_but_last bs ≡ take (length bs - 1) bs
front_taken [] = refl
front_taken (b ∷ []) = refl
front_taken (b ∷ c ∷ bs) =
    let e : length (b ∷ c ∷ bs) - 1 ≡ suc (length (c ∷ bs) - 1) = omega arith in
    ap (λ x. b ∷ x) (front_taken (c ∷ bs)) ∙ ap (λ n. take n (b ∷ c ∷ bs)) (sym e)

-- the view of what was found with one more
pub with_last : {A B : Type 0} (f : A → B) (found : Flagged (List A)) (a : Flagged A)
    → with_it (map f) (and_last found a) ≡ and_last (with_it (map f) found) (with_it f a)
with_last f (Ok xs) (Ok x) = ap Ok (map-append f xs (x ∷ []))
with_last f (Ok xs) (Err h) = refl
with_last f (Err h) a = refl

-- a set of names has this text
pub among : {Y : Type 0} (text : List ℕ) (names : List (String Y))
    → list_any (is_at (λ k. slice_cmp nat_cmp text (string_bytes k))) names ≡ list_any (is_text text) (map string_bytes names)
among text [] = refl
among text (k ∷ ks) =
    let e = is_eq-slice_cmp text (string_bytes k) in
    let r = among text ks in
    ap (λ b. b || list_any (is_at (λ k. slice_cmp nat_cmp text (string_bytes k))) ks) e ∙ ap (λ b. is_text text (string_bytes k) || b) r

-- a reader whose turns have run out
pub run_out : {A : Type 0} {x : Outcome A} (f : ℕ → Outcome A) (n at : ℕ) → n ≤ at → f 0 ≡ Err OutOfTurns → x ≡ f (n - at) → x ≡ Err OutOfTurns
run_out f n at past none e = let over : n - at ≡ 0 = omega (arith, past) in e ∙ ap f over ∙ none
