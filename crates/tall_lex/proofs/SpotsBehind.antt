-- The spot behind bytes, by its line, its place and what stands before it in its line.
use Rattle.std.proofs.Common.{◌≡◌, ◌≢◌, ◌≤◌, ◌∙◌, ℕ, refl, sym, ap, Bool, true, false, cond, not, ◌&&◌, List, [], ◌∷◌, ◌++◌, ◌+◌, ◌-◌, drop, length, append_assoc, arith, inl, inr, subst}
use Rattle.std.specs.Prelude.{◌==◌}
use Rattle.std.specs.List.{list_all, suffix_len, prefix_len, count_by}
use Rattle.std.proofs.lemmas.Bool.{cond-true, cond-false, cases_eq, ne_eqb}
use Rattle.std.proofs.lemmas.Grind.{common_steps}
use Rattle.std.proofs.lemmas.List.{length-append, append-nil, reverse-append, drop-append-le}
use Rattle.std.proofs.lemmas.List.Folds.{list_all-append}
use Rattle.std.proofs.lemmas.List.Sums.{suffix_len-le-length, sum_by-append}
use Rattle.tall_lex.specs.declared.places.Spot.{Spot}
use Rattle.tall_lex.specs.Bytes.{is_space}
use Rattle.tall_lex.specs.Places.{behind, past}
use Rattle.tall_lex.specs.ScriptGrammar.{line_behind, line_so_far, place_behind, is_bare}

abbrev pub spot_behind : List ℕ → Spot
spot_behind before = record { line = line_behind before; place = place_behind before; bare = is_bare before }

same_spot : (l k p q : ℕ) (a b : Bool) → l ≡ k → p ≡ q → a ≡ b → Path Spot (record { line = l; place = p; bare = a }) (record { line = k; place = q; bare = b })
same_spot l k p q a b e f g = cc

abbrev is_no_feed : ℕ → Bool
is_no_feed b = not (b == 10)

abbrev is_feed : ℕ → Bool
is_feed b = b == 10

add-zero : (n : ℕ) → n + (0 + 0) ≡ n
add-zero n = omega arith

and_true : (b : Bool) → (b && true) ≡ b
and_true true = refl
and_true false = refl

suffix_one : (p : ℕ → Bool) (xs : List ℕ) (x : ℕ) → suffix_len p (xs ++ x ∷ []) ≡ cond (p x) (1 + suffix_len p xs) 0
suffix_one p xs x = ap (prefix_len p) (reverse-append xs (x ∷ []))

feed_line : (before : List ℕ) → line_so_far (before ++ 10 ∷ []) ≡ []
feed_line before =
    ap (λ n. drop (length (before ++ 10 ∷ []) - n) (before ++ 10 ∷ [])) (suffix_one is_no_feed before 10)
    ∙ (grind (arith, common_steps))

other_line : (before : List ℕ) (b : ℕ) → b ≢ 10 → line_so_far (before ++ b ∷ []) ≡ line_so_far before ++ b ∷ []
other_line before b other =
    let k = suffix_len is_no_feed before in
    let within : k ≤ length before = suffix_len-le-length is_no_feed before in
    let len : length (before ++ b ∷ []) ≡ length before + 1 = length-append before (b ∷ []) in
    let start : length (before ++ b ∷ []) - (1 + k) ≡ length before - k = omega (arith, len, within) in
    ap (λ n. drop (length (before ++ b ∷ []) - n) (before ++ b ∷ []))
    (suffix_one is_no_feed before b ∙ cond-true (is_no_feed b) (1 + k) 0 (ap not (ne_eqb b 10 other)))
    ∙ ap (λ n. drop n (before ++ b ∷ [])) start
    ∙ drop-append-le (length before - k) before (b ∷ []) (omega arith)

one_behind : (before : List ℕ) (b : ℕ) → spot_behind (before ++ b ∷ []) ≡ behind (spot_behind before) b
one_behind before b = elim (cases_eq b 10) [
  | inl e ↦
      let count : count_by is_feed (before ++ 10 ∷ []) ≡ count_by is_feed before + 1 = sum_by-append (λ x. cond (is_feed x) 1 0) before (10 ∷ []) in
      subst (λ c. spot_behind (before ++ c ∷ []) ≡ behind (spot_behind before) c) (sym e)
      (same_spot (line_behind (before ++ 10 ∷ [])) (line_behind before + 1) (place_behind (before ++ 10 ∷ [])) 1 (is_bare (before ++ 10 ∷ [])) true
      (omega (arith, count)) (ap (λ t. 1 + length t) (feed_line before)) (ap (list_all is_space) (feed_line before)))
  | inr other ↦
      let no : (b == 10) ≡ false = ne_eqb b 10 other in
      let count : count_by is_feed (before ++ b ∷ []) ≡ count_by is_feed before =
      sum_by-append (λ x. cond (is_feed x) 1 0) before (b ∷ []) ∙ ap (λ c. count_by is_feed before + (0 + cond c 1 0)) no ∙ add-zero (count_by is_feed before) in
      let len : length (line_so_far before ++ b ∷ []) ≡ length (line_so_far before) + 1 = length-append (line_so_far before) (b ∷ []) in
      let line = other_line before b other in
      same_spot (line_behind (before ++ b ∷ [])) (line_behind before) (place_behind (before ++ b ∷ [])) (place_behind before + 1)
      (is_bare (before ++ b ∷ [])) (is_bare before && is_space b)
      (ap (λ n. 1 + n) count) (let place : place_behind (before ++ b ∷ []) ≡ 1 + length (line_so_far before ++ b ∷ []) = ap (λ t. 1 + length t) line in omega (arith, place, len))
      (ap (list_all is_space) line ∙ list_all-append is_space (line_so_far before) (b ∷ []) ∙ ap (λ c. is_bare before && c) (and_true (is_space b)))
      ∙ sym (cond-false (b == 10) (record { line = line_behind before + 1; place = 1; bare = true })
      (record { line = line_behind before; place = place_behind before + 1; bare = is_bare before && is_space b }) no)
]

pub past_behind : (before text : List ℕ) → past (spot_behind before) text ≡ spot_behind (before ++ text)
past_behind before [] = ap spot_behind (sym (append-nil before))
past_behind before (b ∷ text) =
    ap (λ s. past s text) (sym (one_behind before b)) ∙ past_behind (before ++ b ∷ []) text ∙ ap spot_behind (append_assoc before (b ∷ []) text)
