-- Texts by the grammar of tokens.
use Rattle.std.proofs.Common.{◌≡◌, ◌≢◌, ◌<◌, ◌∙◌, ℕ, suc, refl, sym, ap, subst, Bool, true, false, cond, not, ◌&&◌, List, [], ◌∷◌, ◌++◌, ◌+◌, length, Some, None, append_assoc, arith, inl, inr, ◌⊎◌}
use Rattle.std.specs.Prelude.{nat_lt, ◌==◌}
use Rattle.std.proofs.lemmas.Bool.{and_parts, and_from, or_cases, cond-true, cond-false, true≢false, cases_Bool, cases_eq, le-ltb, lt-ltb, eqb-true, ne_eqb, eq-eqb}
use Rattle.std.proofs.lemmas.List.{length-append}
use Rattle.std.proofs.Math.Seq.{take-append_seam}
use Rattle.tall_num.proofs.Digits.{prefix_len_all}
use Rattle.tall_num.proofs.Derived.{prefix_front}
use Rattle.tall_lex.specs.declared.tokens.TokenKind.TheVariants.{Text}
use Rattle.tall_lex.specs.declared.pieces.Piece.{Piece}
use Rattle.tall_lex.specs.declared.pieces.Piece.TheVariants.{Token, Bad}
use Rattle.tall_lex.specs.Bytes.{first, is_quote}
use Rattle.tall_lex.specs.Pieces.{text_piece, text_len, before_return, closed_text, piece_at}
use Rattle.tall_lex.specs.TokenGrammar.{Inside, nothing, byte, quote_twice, Quoted, quoted, has_no_return, a_text}
use Rattle.tall_lex.specs.BadTokens.{EndsLine, script_ends, line_ends, open_text, return_in_text, quote_behind_value}
use Rattle.tall_lex.proofs.Found.{Found, found_token, found_bad}

-- ---- the length of a text, byte by byte

at_byte : (quote n b : ℕ) (text : List ℕ) → b ≢ quote → b ≢ 10 → text_len quote n false (b ∷ text) ≡ text_len quote (n + 1) false text
at_byte quote n b text other inline =
    ap (λ p. cond (p && true) None (text_len quote (n + 1) ((b == quote) && true) text)) (ne_eqb b 10 inline)
    ∙ ap (λ p. text_len quote (n + 1) (p && true) text) (ne_eqb b quote other)

at_quote : (quote n : ℕ) (text : List ℕ) → quote ≢ 10 → text_len quote n false (quote ∷ text) ≡ text_len quote (n + 1) true text
at_quote quote n text inline =
    ap (λ p. cond (p && true) None (text_len quote (n + 1) ((quote == quote) && true) text)) (ne_eqb quote 10 inline)
    ∙ ap (λ p. text_len quote (n + 1) (p && true) text) (eq-eqb quote quote refl)

at_second_quote : (quote n : ℕ) (text : List ℕ) → quote ≢ 10 → text_len quote n true (quote ∷ text) ≡ text_len quote (n + 1) false text
at_second_quote quote n text inline =
    ap (λ p. cond (not p) (Some n) (cond ((quote == 10) && false) None (text_len quote (n + 1) ((quote == quote) && false) text))) (eq-eqb quote quote refl)
    ∙ ap (λ p. cond (p && false) None (text_len quote (n + 1) ((quote == quote) && false) text)) (ne_eqb quote 10 inline)
    ∙ ap (λ p. text_len quote (n + 1) (p && false) text) (eq-eqb quote quote refl)

at_close : (quote n : ℕ) (text : List ℕ) → first text ≢ quote → text_len quote n true text ≡ Some n
at_close quote n [] other = refl
at_close quote n (b ∷ text) other =
    ap (λ p. cond (not p) (Some n) (cond ((b == 10) && false) None (text_len quote (n + 1) ((b == quote) && false) text))) (ne_eqb b quote other)

closed_len : (quote n : ℕ) (inside behind : List ℕ) → Inside quote inside → quote ≢ 10 → first behind ≢ quote
    → text_len quote n false (inside ++ quote ∷ behind) ≡ Some (n + suc (length inside))
closed_len quote n inside behind (nothing q) inline other =
    at_quote quote n behind inline ∙ at_close quote (n + 1) behind other
closed_len quote n inside behind (byte q b rest no_quote no_end is) inline other =
    let e : (n + 1) + suc (length rest) ≡ n + suc (suc (length rest)) = omega arith in
    at_byte quote n b (rest ++ quote ∷ behind) no_quote no_end ∙ closed_len quote (n + 1) rest behind is inline other ∙ ap Some e
closed_len quote n inside behind (quote_twice q rest is) inline other =
    let e : ((n + 1) + 1) + suc (length rest) ≡ n + suc (suc (suc (length rest))) = omega arith in
    at_quote quote n (quote ∷ (rest ++ quote ∷ behind)) inline ∙ at_second_quote quote (n + 1) (rest ++ quote ∷ behind) inline
    ∙ closed_len quote ((n + 1) + 1) rest behind is inline other ∙ ap Some e

open_len : (quote n : ℕ) (inside behind : List ℕ) → Inside quote inside → quote ≢ 10 → EndsLine behind
    → text_len quote n false (inside ++ behind) ≡ None
open_len quote n inside behind (nothing q) inline script_ends = refl
open_len quote n inside behind (nothing q) inline (line_ends rest) = refl
open_len quote n inside behind (byte q b rest no_quote no_end is) inline ends =
    at_byte quote n b (rest ++ behind) no_quote no_end ∙ open_len quote (n + 1) rest behind is inline ends
open_len quote n inside behind (quote_twice q rest is) inline ends =
    at_quote quote n (quote ∷ (rest ++ behind)) inline ∙ at_second_quote quote (n + 1) (rest ++ behind) inline
    ∙ open_len quote ((n + 1) + 1) rest behind is inline ends

-- ---- what is behind a quote

pub data TextEnd : ℕ → List ℕ → Type 0 where
  closed : (quote : ℕ) (inside behind : List ℕ) → Inside quote inside → first behind ≢ quote → TextEnd quote (inside ++ quote ∷ behind)
  unclosed : (quote : ℕ) (inside behind : List ℕ) → Inside quote inside → EndsLine behind → TextEnd quote (inside ++ behind)

one_more : (quote b : ℕ) (text : List ℕ) → b ≢ quote → b ≢ 10 → TextEnd quote text → TextEnd quote (b ∷ text)
one_more quote b text other inline (closed q inside behind is no_more) = closed quote (b ∷ inside) behind (byte quote b inside other inline is) no_more
one_more quote b text other inline (unclosed q inside behind is ends) = unclosed quote (b ∷ inside) behind (byte quote b inside other inline is) ends

two_more : (quote : ℕ) (text : List ℕ) → TextEnd quote text → TextEnd quote (quote ∷ quote ∷ text)
two_more quote text (closed q inside behind is no_more) = closed quote (quote ∷ quote ∷ inside) behind (quote_twice quote inside is) no_more
two_more quote text (unclosed q inside behind is ends) = unclosed quote (quote ∷ quote ∷ inside) behind (quote_twice quote inside is) ends

mutual
  text_end : (quote : ℕ) (text : List ℕ) → 10 < quote → TextEnd quote text
  text_end quote [] q = unclosed quote [] [] (nothing quote) script_ends
  text_end quote (b ∷ text) q = elim (cases_eq b 10) [
    | inl e ↦ subst (λ c. TextEnd quote (c ∷ text)) (sym e) (unclosed quote [] (10 ∷ text) (nothing quote) (line_ends text))
    | inr inline ↦ elim (cases_eq b quote) [
      | inl e ↦ subst (λ c. TextEnd quote (c ∷ text)) (sym e) (quote_end quote text q)
      | inr other ↦ one_more quote b text other inline (text_end quote text q)
    ]
  ]

  quote_end : (quote : ℕ) (text : List ℕ) → 10 < quote → TextEnd quote (quote ∷ text)
  quote_end quote [] q = closed quote [] [] (nothing quote) (λ e. absurd (omega (arith, e, q)))
  quote_end quote (b ∷ text) q = elim (cases_eq b quote) [
    | inl e ↦ subst (λ c. TextEnd quote (quote ∷ c ∷ text)) (sym e) (two_more quote text (text_end quote text q))
    | inr other ↦ closed quote [] (b ∷ text) (nothing quote) other
  ]

-- ---- returns in a text

pub data Returns : List ℕ → Type 0 where
  no_return : (text : List ℕ) → has_no_return text ≡ true → Returns text
  a_return : (bytes others : List ℕ) → has_no_return bytes ≡ true → Returns (bytes ++ 13 ∷ others)

return_behind : (b : ℕ) (text : List ℕ) → b ≢ 13 → Returns text → Returns (b ∷ text)
return_behind b text other (no_return t all) = no_return (b ∷ text) (and_from (not (b == 13)) (has_no_return text) (ap not (ne_eqb b 13 other)) all)
return_behind b text other (a_return bytes others all) =
    a_return (b ∷ bytes) others (and_from (not (b == 13)) (has_no_return bytes) (ap not (ne_eqb b 13 other)) all)

returns_in : (text : List ℕ) → Returns text
returns_in [] = no_return [] refl
returns_in (b ∷ text) = elim (cases_eq b 13) [
  | inl e ↦ subst (λ c. Returns (c ∷ text)) (sym e) (a_return [] text refl)
  | inr other ↦ return_behind b text other (returns_in text)
]

-- ---- what begins at a quote

quote_is : (quote : ℕ) → is_quote quote ≡ true → (quote ≡ 39) ⊎ (quote ≡ 34)
quote_is quote h = elim (or_cases (quote == 39) (quote == 34) h) [
  | inl e ↦ inl (eqb-true quote 39 e)
  | inr e ↦ inr (eqb-true quote 34 e)
]

above_line_feed : (quote : ℕ) → is_quote quote ≡ true → 10 < quote
above_line_feed quote h = elim (quote_is quote h) [
  | inl e ↦ omega (arith, e)
  | inr e ↦ omega (arith, e)
]

closed_found : (bare closes : Bool) (text behind : List ℕ) → Quoted text → first behind ≢ first text
    → (closes && (first text == 39)) ≡ false → Returns text → Found bare closes (text ++ behind)
closed_found bare closes text behind is other free (no_return t all) = found_token bare closes Text text behind (a_text text is all) (free, other)
closed_found bare closes text behind is other free (a_return bytes others all) =
    subst (Found bare closes) (sym (append_assoc bytes (13 ∷ others) behind))
    (found_bad bare closes bytes (13 ∷ (others ++ behind)) (return_in_text bare closes bytes others behind is all free other))

end_found : (bare closes : Bool) (quote : ℕ) (text : List ℕ) → is_quote quote ≡ true → (closes && (quote == 39)) ≡ false
    → TextEnd quote text → Found bare closes (quote ∷ text)
end_found bare closes quote text is free (unclosed q inside behind items ends) =
    found_bad bare closes [] (quote ∷ (inside ++ behind)) (open_text bare closes quote inside behind is items ends)
end_found bare closes quote text is free (closed q inside behind items other) =
    subst (λ t. Found bare closes (quote ∷ t)) (append_assoc inside (quote ∷ []) behind)
    (closed_found bare closes (quote ∷ (inside ++ quote ∷ [])) behind (quoted quote inside is items) other free (returns_in (quote ∷ (inside ++ quote ∷ []))))

value_found : (bare closes : Bool) (quote : ℕ) (text : List ℕ) → closes ≡ true → quote ≡ 39 → Found bare closes (quote ∷ text)
value_found bare closes quote text c q =
    subst (λ b. Found bare closes (b ∷ text)) (sym q)
    (subst (λ b. Found bare b (39 ∷ text)) (sym c) (found_bad bare true [] (39 ∷ text) (quote_behind_value bare text)))

pub text_found : (bare closes : Bool) (text : List ℕ) → is_quote (first text) ≡ true → Found bare closes text
text_found bare closes [] h = absurd (true≢false (sym h))
text_found bare closes (quote ∷ text) h = elim (cases_Bool (closes && (quote == 39))) [
  | inl e ↦ let both = and_parts closes (quote == 39) e in value_found bare closes quote text both.0 (eqb-true quote 39 both.1)
  | inr free ↦ end_found bare closes quote text h free (text_end quote text (above_line_feed quote h))
]

-- ---- the piece of it

quote_piece : (bare closes : Bool) (quote : ℕ) (text : List ℕ) → is_quote quote ≡ true
    → piece_at bare closes (quote ∷ text) ≡ text_piece closes (quote ∷ text)
unfolding piece_at
quote_piece bare closes quote text h = elim (quote_is quote h) [
  | inl e ↦ subst (λ q. piece_at bare closes (q ∷ text) ≡ text_piece closes (q ∷ text)) (sym e) refl
  | inr e ↦ subst (λ q. piece_at bare closes (q ∷ text) ≡ text_piece closes (q ∷ text)) (sym e) refl
]

quoted_piece : (bare closes : Bool) (text behind : List ℕ) → Quoted text → (closes && (first text == 39)) ≡ false → first behind ≢ first text
    → piece_at bare closes (text ++ behind) ≡ cond (nat_lt (before_return text) (length text)) (Bad (before_return text)) (Token Text (length text))
unfolding text_piece
quoted_piece bare closes text behind (quoted quote inside is items) free other =
    let whole = quote ∷ (inside ++ quote ∷ []) in
    let inline : quote ≢ 10 = (let over = above_line_feed quote is in λ e. absurd (omega (arith, over, e))) in
    let len : 1 + suc (length inside) ≡ length whole = omega (arith, length-append inside (quote ∷ [])) in
    quote_piece bare closes quote ((inside ++ quote ∷ []) ++ behind) is
    ∙ cond-false (closes && (quote == 39)) _ _ free
    ∙ ap (λ t. closed_text (whole ++ behind) (text_len quote 1 false t)) (append_assoc inside (quote ∷ []) behind)
    ∙ ap (closed_text (whole ++ behind)) (closed_len quote 1 inside behind items inline other ∙ ap Some len)
    ∙ ap (λ t. cond (nat_lt (before_return t) (length whole)) (Bad (before_return t)) (Token Text (length whole))) (take-append_seam whole behind)

pub text_is : (bare closes : Bool) (text behind : List ℕ) → Quoted text → has_no_return text ≡ true
    → (closes && (first text == 39)) ≡ false → first behind ≢ first text
    → piece_at bare closes (text ++ behind) ≡ Token Text (length text)
text_is bare closes text behind is all free other =
    let clean : before_return text ≡ length text = prefix_len_all (λ b. not (b == 13)) text all in
    quoted_piece bare closes text behind is free other
    ∙ cond-false (nat_lt (before_return text) (length text)) _ _ (le-ltb (before_return text) (length text) (omega (arith, clean)))

pub return_in_text_is : (bare closes : Bool) (bytes others behind : List ℕ) → Quoted (bytes ++ 13 ∷ others) → has_no_return bytes ≡ true
    → (closes && (first (bytes ++ 13 ∷ others) == 39)) ≡ false → first behind ≢ first (bytes ++ 13 ∷ others)
    → piece_at bare closes (bytes ++ 13 ∷ (others ++ behind)) ≡ Bad (length bytes)
return_in_text_is bare closes bytes others behind is all free other =
    let text = bytes ++ 13 ∷ others in
    let clean : before_return text ≡ length bytes = prefix_front (λ b. not (b == 13)) bytes (13 ∷ others) all refl in
    let long : length text ≡ length bytes + suc (length others) = length-append bytes (13 ∷ others) in
    ap (piece_at bare closes) (sym (append_assoc bytes (13 ∷ others) behind))
    ∙ quoted_piece bare closes text behind is free other
    ∙ cond-true (nat_lt (before_return text) (length text)) _ _ (lt-ltb (before_return text) (length text) (omega (arith, clean, long)))
    ∙ ap Bad clean

pub open_text_is : (bare closes : Bool) (quote : ℕ) (inside behind : List ℕ) → is_quote quote ≡ true → Inside quote inside → EndsLine behind
    → piece_at bare closes (quote ∷ (inside ++ behind)) ≡ Bad 0
unfolding text_piece
open_text_is bare closes quote inside behind is items ends =
    let inline : quote ≢ 10 = (let over = above_line_feed quote is in λ e. absurd (omega (arith, over, e))) in
    quote_piece bare closes quote (inside ++ behind) is
    ∙ ap (λ o. cond (closes && (quote == 39)) (Bad 0) (closed_text (quote ∷ (inside ++ behind)) o)) (open_len quote 1 inside behind items inline ends)
    ∙ either_way (closes && (quote == 39)) (Bad 0)
  where
    either_way : (b : Bool) (x : Piece) → cond b x x ≡ x
    either_way true x = refl
    either_way false x = refl

pub quote_behind_value_is : (bare : Bool) (rest : List ℕ) → piece_at bare true (39 ∷ rest) ≡ Bad 0
unfolding piece_at text_piece
quote_behind_value_is bare rest = refl
