-- Rests of lines.
use Rattle.std.proofs.Common.{◌≡◌, ◌≢◌, ◌∙◌, ℕ, suc, refl, sym, ap, subst, Bool, true, cond, not, ◌&&◌, List, [], ◌∷◌, ◌++◌, ◌+◌, length, append_assoc, arith, inl, inr, ◌⊎◌}
use Rattle.std.specs.Prelude.{◌==◌, Ok, Err}
use Rattle.std.specs.List.{list_all}
use Rattle.std.proofs.lemmas.Bool.{and_parts, and_from, or_cases, true≢false, cases_eq, eqb-true, ne_eqb, not-true}
use Rattle.std.proofs.lemmas.List.{length-append}
use Rattle.tall_lex.specs.Bytes.{first, second, is_space, starts_blank, starts_stray}
use Rattle.tall_lex.specs.Pieces.{line_rest, is_blank_line, is_block_opener}
use Rattle.tall_lex.specs.GapGrammar.{is_plain, LineEnding, end_of_script, line_feed, return_and_line_feed, RestOfLine, rest_of_line, BlankLine, blank_line, BlockOpener, block_opener}

-- ---- where a line ends

at_plain : (n b : ℕ) (text : List ℕ) → is_plain b ≡ true → line_rest n (b ∷ text) ≡ line_rest (n + 1) text
at_plain n b text h =
    let both = and_parts (not (b == 10)) (not (b == 13)) h in
    ap (λ p. cond p (Ok n) (cond (starts_stray (b ∷ text)) (Err n) (line_rest (n + 1) text))) (not-true (b == 10) both.0)
    ∙ ap (λ p. cond (p && not (second (b ∷ text) == 10)) (Err n) (line_rest (n + 1) text)) (not-true (b == 13) both.1)

at_front : (n : ℕ) (bytes text : List ℕ) → list_all is_plain bytes ≡ true → line_rest n (bytes ++ text) ≡ line_rest (n + length bytes) text
at_front n [] text h = let e : n ≡ n + 0 = omega arith in ap (λ k. line_rest k text) e
at_front n (b ∷ bytes) text h =
    let both = and_parts (is_plain b) (list_all is_plain bytes) h in
    let e : (n + 1) + length bytes ≡ n + suc (length bytes) = omega arith in
    at_plain n b (bytes ++ text) both.0 ∙ at_front (n + 1) bytes text both.1 ∙ ap (λ k. line_rest k text) e

at_ending : (n : ℕ) (ending behind : List ℕ) → LineEnding ending behind → line_rest n (ending ++ behind) ≡ Ok (n + length ending)
at_ending n ending behind end_of_script = let e : n ≡ n + 0 = omega arith in ap Ok e
at_ending n ending behind (line_feed rest) = let e : n ≡ n + 0 = omega arith in ap Ok e
at_ending n ending behind (return_and_line_feed rest) = refl

pub line_is : (n : ℕ) (line behind : List ℕ) → RestOfLine line behind → line_rest n (line ++ behind) ≡ Ok (n + length line)
line_is n line behind (rest_of_line bytes ending rest all ends) =
    let e : (n + length bytes) + length ending ≡ n + length (bytes ++ ending) = omega (arith, length-append bytes ending) in
    ap (line_rest n) (append_assoc bytes ending behind) ∙ at_front n bytes (ending ++ behind) all
    ∙ at_ending (n + length bytes) ending behind ends ∙ ap Ok e

pub stray_is : (n : ℕ) (bytes rest : List ℕ) → list_all is_plain bytes ≡ true → first rest ≢ 10
    → line_rest n (bytes ++ 13 ∷ rest) ≡ Err (n + length bytes)
stray_is n bytes rest all other =
    at_front n bytes (13 ∷ rest) all
    ∙ ap (λ p. cond (not p) (Err (n + length bytes)) (line_rest ((n + length bytes) + 1) rest)) (ne_eqb (first rest) 10 other)

-- a line feed follows a line, or nothing
followed_by : (ending behind : List ℕ) → LineEnding ending behind → (behind ≡ []) ⊎ (first behind ≡ 10)
followed_by ending behind end_of_script = inl refl
followed_by ending behind (line_feed rest) = inr refl
followed_by ending behind (return_and_line_feed rest) = inr refl

pub feed_behind : (line behind : List ℕ) (b : ℕ) → RestOfLine line (b ∷ behind) → b ≡ 10
feed_behind line behind b (rest_of_line bytes ending rest all ending_is) = elim (followed_by ending (b ∷ behind) ending_is) [
  | inl none ↦ cc
  | inr e ↦ e
]

-- ---- each text begins with a line, or with a stray carriage return behind plain bytes

pub data LineFound : List ℕ → Type 0 where
  ends : (line behind : List ℕ) → RestOfLine line behind → LineFound (line ++ behind)
  strays : (bytes rest : List ℕ) → list_all is_plain bytes ≡ true → first rest ≢ 10 → LineFound (bytes ++ 13 ∷ rest)

plain_more : (b : ℕ) (bytes : List ℕ) → b ≢ 10 → b ≢ 13 → list_all is_plain bytes ≡ true → list_all is_plain (b ∷ bytes) ≡ true
plain_more b bytes no_feed no_return all =
    and_from (is_plain b) (list_all is_plain bytes)
    (and_from (not (b == 10)) (not (b == 13)) (ap not (ne_eqb b 10 no_feed)) (ap not (ne_eqb b 13 no_return))) all

line_more : (b : ℕ) (line behind : List ℕ) → b ≢ 10 → b ≢ 13 → RestOfLine line behind → RestOfLine (b ∷ line) behind
line_more b line behind no_feed no_return (rest_of_line bytes ending rest all ending_is) =
    rest_of_line (b ∷ bytes) ending behind (plain_more b bytes no_feed no_return all) ending_is

found_more : (b : ℕ) (text : List ℕ) → b ≢ 10 → b ≢ 13 → LineFound text → LineFound (b ∷ text)
found_more b text no_feed no_return (ends line behind is) = ends (b ∷ line) behind (line_more b line behind no_feed no_return is)
found_more b text no_feed no_return (strays bytes rest all other) = strays (b ∷ bytes) rest (plain_more b bytes no_feed no_return all) other

return_found : (text : List ℕ) → LineFound (13 ∷ text)
return_found [] = strays [] [] refl (λ e. absurd (omega (arith, e)))
return_found (c ∷ text) = elim (cases_eq c 10) [
  | inl e ↦ subst (λ b. LineFound (13 ∷ b ∷ text)) (sym e) (ends (13 ∷ []) (10 ∷ text) (rest_of_line [] (13 ∷ []) (10 ∷ text) refl (return_and_line_feed text)))
  | inr other ↦ strays [] (c ∷ text) refl other
]

pub line_found : (text : List ℕ) → LineFound text
line_found [] = ends [] [] (rest_of_line [] [] [] refl end_of_script)
line_found (b ∷ text) = elim (cases_eq b 10) [
  | inl e ↦ subst (λ c. LineFound (c ∷ text)) (sym e) (ends [] (10 ∷ text) (rest_of_line [] [] (10 ∷ text) refl (line_feed text)))
  | inr no_feed ↦ elim (cases_eq b 13) [
    | inl e ↦ subst (λ c. LineFound (c ∷ text)) (sym e) (return_found text)
    | inr no_return ↦ found_more b text no_feed no_return (line_found text)
  ]
]

-- ---- blanks up to the line's end

pub space_is : (b : ℕ) → is_space b ≡ true → (b ≡ 32) ⊎ (b ≡ 9)
space_is b h = elim (or_cases (b == 32) (b == 9) h) [
  | inl e ↦ inl (eqb-true b 32 e)
  | inr e ↦ inr (eqb-true b 9 e)
]

at_space : (b : ℕ) (text : List ℕ) → is_space b ≡ true → is_blank_line (b ∷ text) ≡ is_blank_line text
at_space b text h = elim (space_is b h) [
  | inl e ↦ subst (λ c. is_blank_line (c ∷ text) ≡ is_blank_line text) (sym e) refl
  | inr e ↦ subst (λ c. is_blank_line (c ∷ text) ≡ is_blank_line text) (sym e) refl
]

at_spaces : (blanks text : List ℕ) → list_all is_space blanks ≡ true → is_blank_line (blanks ++ text) ≡ is_blank_line text
at_spaces [] text h = refl
at_spaces (b ∷ blanks) text h =
    let both = and_parts (is_space b) (list_all is_space blanks) h in
    at_space b (blanks ++ text) both.0 ∙ at_spaces blanks text both.1

at_blank_ending : (ending behind : List ℕ) → LineEnding ending behind → is_blank_line (ending ++ behind) ≡ true
at_blank_ending ending behind end_of_script = refl
at_blank_ending ending behind (line_feed rest) = refl
at_blank_ending ending behind (return_and_line_feed rest) = refl

blank_is : (line behind : List ℕ) → BlankLine line behind → is_blank_line (line ++ behind) ≡ true
blank_is line behind (blank_line blanks ending rest all ending_is) =
    ap is_blank_line (append_assoc blanks ending behind) ∙ at_spaces blanks (ending ++ behind) all ∙ at_blank_ending ending behind ending_is

data BlankFound : List ℕ → Type 0 where
  blank_found : (line behind : List ℕ) → BlankLine line behind → BlankFound (line ++ behind)

blank_more : (b : ℕ) (text : List ℕ) → is_space b ≡ true → BlankFound text → BlankFound (b ∷ text)
blank_more b text h (blank_found line behind (blank_line blanks ending rest all ending_is)) =
    blank_found (b ∷ line) behind (blank_line (b ∷ blanks) ending behind (and_from (is_space b) (list_all is_space blanks) h all) ending_is)

return_line_feed : (b : ℕ) (text : List ℕ) → (b == 13) ≡ true → (first text == 10) ≡ true → BlankFound (b ∷ text)
return_line_feed b [] h k = absurd (true≢false (sym k))
return_line_feed b (c ∷ text) h k =
    subst (λ x. BlankFound (x ∷ c ∷ text)) (sym (eqb-true b 13 h))
    (subst (λ x. BlankFound (13 ∷ x ∷ text)) (sym (eqb-true c 10 k))
    (blank_found (13 ∷ []) (10 ∷ text) (blank_line [] (13 ∷ []) (10 ∷ text) refl (return_and_line_feed text))))

blank_in : (text : List ℕ) → is_blank_line text ≡ true → BlankFound text
blank_in [] h = blank_found [] [] (blank_line [] [] [] refl end_of_script)
blank_in (b ∷ text) h = elim (or_cases (b == 10) (starts_blank (b ∷ text) && is_blank_line text) h) [
  | inl e ↦ subst (λ c. BlankFound (c ∷ text)) (sym (eqb-true b 10 e)) (blank_found [] (10 ∷ text) (blank_line [] [] (10 ∷ text) refl (line_feed text)))
  | inr more ↦
      let both = and_parts (starts_blank (b ∷ text)) (is_blank_line text) more in
      elim (or_cases (is_space b) ((b == 13) && (first text == 10)) both.0) [
        | inl space ↦ blank_more b text space (blank_in text both.1)
        | inr return ↦ let pair = and_parts (b == 13) (first text == 10) return in return_line_feed b text pair.0 pair.1
      ]
]

-- ---- '%{'

pub opener_is : (bare : Bool) (text : List ℕ) → BlockOpener bare text → is_block_opener bare text ≡ true
opener_is bare text (block_opener line behind is) = blank_is line behind is

opener_at : (text : List ℕ) → BlankFound text → BlockOpener true (37 ∷ 123 ∷ text)
opener_at text (blank_found line behind is) = block_opener line behind is

pub opener_in : (bare : Bool) (text : List ℕ) → is_block_opener bare (37 ∷ text) ≡ true → BlockOpener bare (37 ∷ text)
opener_in bare [] h = absurd (true≢false (sym h))
opener_in bare (b ∷ text) h =
    let one = and_parts (b == 123) (bare && is_blank_line text) h in
    let two = and_parts bare (is_blank_line text) one.1 in
    subst (λ c. BlockOpener bare (37 ∷ c ∷ text)) (sym (eqb-true b 123 one.0))
    (subst (λ c. BlockOpener c (37 ∷ 123 ∷ text)) (sym two.0) (opener_at text (blank_in text two.1)))
