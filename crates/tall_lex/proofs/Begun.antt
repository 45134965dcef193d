-- The pieces of a script are what the grammar of tokens has, and something begins at each byte.
use Rattle.std.proofs.Common.{◌≡◌, ◌<◌, ℕ, sym, subst, Bool, List, [], ◌∷◌, ◌++◌, ◌+◌, length, arith, inl, inr}
use Rattle.std.specs.Prelude.{◌==◌}
use Rattle.std.specs.Char.{is_ascii_alphabetic, is_ascii_digit}
use Rattle.std.proofs.lemmas.Bool.{cases_Bool, cases_eq, or_from, ne_eqb}
use Rattle.std.proofs.lemmas.List.{length-append}
use Rattle.tall_lex.specs.declared.tokens.TokenKind.{TokenKind}
use Rattle.tall_lex.specs.declared.pieces.Piece.TheVariants.{Token, Bad}
use Rattle.tall_lex.specs.Bytes.{is_quote, is_space}
use Rattle.tall_lex.specs.Pieces.{piece_at}
use Rattle.tall_lex.specs.TokenGrammar.{NameBytes, letter_first, NumberBytes, number_bytes, Quoted, quoted, IsSign, IsToken, a_name, a_number, a_text, a_word, a_sign, a_line_end, MayStand}
use Rattle.tall_lex.specs.GapGrammar.{PassedOver, blank, return_before_line_feed, comment, joined_line, dots_in_the_last_line, BlockOpener, block_opener}
use Rattle.tall_lex.specs.BadTokens.{BadToken, stray_return, return_in_comment, return_behind_dots, return_in_text, opener, no_whole_number, letter_behind_number, quote_behind_value, two_ands, two_ors, long_name, open_text, no_token}
use Rattle.tall_lex.proofs.Found.{Found}
use Rattle.tall_lex.proofs.NamePieces.{name_found, plain_name_is, word_is, long_name_is, word_bytes}
use Rattle.tall_lex.proofs.TextPieces.{text_found, text_is, return_in_text_is, open_text_is, quote_behind_value_is}
use Rattle.tall_lex.proofs.GapPieces.{blank_found, return_found, comment_found, stray_return_is, return_in_comment_is, return_behind_dots_is, opener_piece}
use Rattle.tall_lex.proofs.SignPieces.{sign_found, line_end_found, sign_is, line_end_is, no_token_is, two_ands_is, two_ors_is}
use Rattle.tall_lex.proofs.NumberPieces.{number_found, number_is, no_whole_number_is, letter_behind_number_is, some_digits}

pub token_is : (bare closes : Bool) (kind : TokenKind) (text behind : List ℕ) → IsToken kind text → MayStand closes kind text behind
    → piece_at bare closes (text ++ behind) ≡ Token kind (length text)
token_is bare closes kind text behind (a_name t is short none) stand = plain_name_is bare closes text behind is short none stand
token_is bare closes kind text behind (a_number t is whole) stand = number_is bare closes text behind is whole stand.0 stand.1
token_is bare closes kind text behind (a_text t is all) stand = text_is bare closes text behind is all stand.0 stand.1
token_is bare closes kind text behind (a_word t word) stand = word_is bare closes text behind word stand
token_is bare closes kind text behind (a_sign t is) stand = sign_is bare closes text behind is stand.0 stand.1 stand.2
token_is bare closes kind text behind a_line_end stand = line_end_is bare closes behind

pub bad_is : (bare closes : Bool) (skipped rest : List ℕ) → BadToken bare closes skipped rest
    → piece_at bare closes (skipped ++ rest) ≡ Bad (length skipped)
bad_is bare closes skipped rest (stray_return s c t other) = stray_return_is bare closes t other
bad_is bare closes skipped rest (return_in_comment s c bytes t none all other) = return_in_comment_is bare closes bytes t none all other
bad_is bare closes skipped rest (return_behind_dots s c bytes t all other) = return_behind_dots_is bare closes bytes t all other
bad_is bare closes skipped rest (return_in_text s c bytes others behind is all free other) =
    return_in_text_is bare closes bytes others behind is all free other
bad_is bare closes skipped rest (opener s c t is) = opener_piece bare closes rest is
bad_is bare closes skipped rest (no_whole_number s c text behind is longest none) = no_whole_number_is bare closes text behind is longest none
bad_is bare closes skipped rest (letter_behind_number s c text behind is longest whole letter) =
    letter_behind_number_is bare closes skipped rest is longest whole letter
bad_is bare closes skipped rest (quote_behind_value s t) = quote_behind_value_is bare t
bad_is bare closes skipped rest (two_ands s c t) = two_ands_is bare closes t
bad_is bare closes skipped rest (two_ors s c t) = two_ors_is bare closes t
bad_is bare closes skipped rest (long_name s c text behind is longest long) = long_name_is bare closes text behind is long longest
bad_is bare closes skipped rest (open_text s c quote inside behind is items ends) = open_text_is bare closes quote inside behind is items ends
bad_is bare closes skipped rest (no_token s c b t late none) = no_token_is bare closes b t late none

pub begin_found : (bare closes : Bool) (b : ℕ) (text : List ℕ) → Found bare closes (b ∷ text)
begin_found bare closes b text = elim (cases_Bool (is_ascii_alphabetic b)) [
  | inl letter ↦ name_found bare closes (b ∷ text) letter
  | inr no_letter ↦ elim (cases_Bool (is_ascii_digit b)) [
    | inl digit ↦ number_found bare closes (b ∷ text) digit
    | inr no_digit ↦ elim (cases_Bool (is_quote b)) [
      | inl quote ↦ text_found bare closes (b ∷ text) quote
      | inr no_quote ↦ elim (cases_Bool (is_space b)) [
        | inl space ↦ blank_found bare closes b text space
        | inr no_space ↦ elim (cases_eq b 10) [
          | inl e ↦ subst (λ c. Found bare closes (c ∷ text)) (sym e) (line_end_found bare closes text)
          | inr no_feed ↦ elim (cases_eq b 13) [
            | inl e ↦ subst (λ c. Found bare closes (c ∷ text)) (sym e) (return_found bare closes text)
            | inr no_return ↦ elim (cases_eq b 37) [
              | inl e ↦ subst (λ c. Found bare closes (c ∷ text)) (sym e) (comment_found bare closes text)
              | inr no_percent ↦
                  sign_found bare closes b text
                  (or_from (is_ascii_alphabetic b) _ no_letter (or_from (is_ascii_digit b) _ no_digit (or_from (is_quote b) _ no_quote
                  (or_from (is_space b) _ no_space (or_from (b == 10) _ (ne_eqb b 10 no_feed)
                  (or_from (b == 13) (b == 37) (ne_eqb b 13 no_return) (ne_eqb b 37 no_percent)))))))
            ]
          ]
        ]
      ]
    ]
  ]
]

-- ---- none of them is empty

name_some : (text : List ℕ) → NameBytes text → 0 < length text
name_some text (letter_first b bytes letter all) = omega arith

number_some : (text : List ℕ) → NumberBytes text → 0 < length text
number_some text (number_bytes whole fraction exponent e all frac exp) =
    let one : 0 < length whole = some_digits whole all in
    let len : length (whole ++ (fraction ++ exponent)) ≡ length whole + length (fraction ++ exponent) = length-append whole (fraction ++ exponent) in
    omega (arith, one, len)

quoted_some : (text : List ℕ) → Quoted text → 0 < length text
quoted_some text (quoted quote inside is items) = omega arith

sign_some : (text : List ℕ) → IsSign text → 0 < length text
sign_some [] is = cc
sign_some (b ∷ text) is = omega arith

opener_some : (bare : Bool) (text : List ℕ) → BlockOpener bare text → 0 < length text
opener_some bare text (block_opener line behind is) = omega arith

pub token_some : (kind : TokenKind) (text : List ℕ) → IsToken kind text → 0 < length text
token_some kind text (a_name t is short none) = name_some text is
token_some kind text (a_number t is whole) = number_some text is
token_some kind text (a_text t is all) = quoted_some text is
token_some kind text (a_word t word) = name_some text (word_bytes text word).0
token_some kind text (a_sign t is) = sign_some text is
token_some kind text a_line_end = omega arith

pub gap_some : (bare : Bool) (text behind : List ℕ) → PassedOver bare text behind → 0 < length text
gap_some bare text behind (blank s b rest h) = omega arith
gap_some bare text behind (return_before_line_feed s rest) = omega arith
gap_some bare text behind (comment s line rest none is) = omega arith
gap_some bare text behind (joined_line s line rest is) = omega arith
gap_some bare text behind (dots_in_the_last_line s line is) = omega arith

pub some_front : (text behind : List ℕ) → 0 < length text → 0 < length (text ++ behind)
some_front text behind h = omega (arith, h, length-append text behind)

some_behind : (text behind : List ℕ) → 0 < length behind → 0 < length (text ++ behind)
some_behind text behind h = omega (arith, h, length-append text behind)

pub bad_some : (bare closes : Bool) (skipped rest : List ℕ) → BadToken bare closes skipped rest → 0 < length (skipped ++ rest)
bad_some bare closes skipped rest (stray_return s c t other) = omega arith
bad_some bare closes skipped rest (return_in_comment s c bytes t none all other) = omega arith
bad_some bare closes skipped rest (return_behind_dots s c bytes t all other) = omega arith
bad_some bare closes skipped rest (return_in_text s c bytes others behind is all free other) = some_behind bytes (13 ∷ (others ++ behind)) (omega arith)
bad_some bare closes skipped rest (opener s c t is) = opener_some bare rest is
bad_some bare closes skipped rest (no_whole_number s c text behind is longest none) = some_front text behind (number_some text is)
bad_some bare closes skipped rest (letter_behind_number s c text behind is longest whole letter) = some_front skipped rest (number_some skipped is)
bad_some bare closes skipped rest (quote_behind_value s t) = omega arith
bad_some bare closes skipped rest (two_ands s c t) = omega arith
bad_some bare closes skipped rest (two_ors s c t) = omega arith
bad_some bare closes skipped rest (long_name s c text behind is longest long) = some_front text behind (name_some text is)
bad_some bare closes skipped rest (open_text s c quote inside behind is items ends) = omega arith
bad_some bare closes skipped rest (no_token s c b t late none) = omega arith
