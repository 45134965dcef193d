-- Names and words by the grammar of tokens.
use Rattle.std.proofs.Common.{◌≡◌, ◌≤◌, ◌<◌, ◌∙◌, ℕ, refl, sym, ap, subst, Bool, true, false, cond, ◌&&◌, List, [], ◌∷◌, ◌++◌, ◌+◌, take, drop, length, one-add, arith, inl, inr}
use Rattle.std.specs.Prelude.{nat_lt}
use Rattle.std.specs.List.{list_all, prefix_len}
use Rattle.std.specs.Char.{is_ascii_alphabetic}
use Rattle.std.proofs.lemmas.Bool.{and_parts, and_from, or_left, cond-true, cond-false, true≢false, cases_Bool, cases_lt, ltb-true, le-ltb, lt-ltb, false_from_ne_true}
use Rattle.std.proofs.lemmas.List.{take-append-drop}
use Rattle.std.proofs.lemmas.List.Folds.{list_all-append}
use Rattle.std.proofs.Math.Seq.{take-append_seam}
use Rattle.tall_num.proofs.Digits.{list_all_prefix}
use Rattle.tall_num.proofs.Derived.{prefix_front}
use Rattle.tall_lex.specs.declared.tokens.TokenKind.TheVariants.{Name, Word}
use Rattle.tall_lex.specs.declared.pieces.Piece.TheVariants.{Token, Bad}
use Rattle.tall_lex.specs.Bytes.{first, is_name_byte, is_reserved, reserved}
use Rattle.tall_lex.specs.Pieces.{name_piece, piece_at}
use Rattle.tall_lex.specs.TokenGrammar.{NameBytes, letter_first, a_name, a_word, IsLongest}
use Rattle.tall_lex.specs.BadTokens.{long_name}
use Rattle.tall_lex.proofs.Found.{Found, found_token, found_bad}
use Rattle.tall_lex.proofs.Fronts.{stops}
use Rattle.tall_lex.proofs.Words.{one_of_good}

all_of_name : (text : List ℕ) → NameBytes text → list_all is_name_byte text ≡ true
all_of_name text (letter_first b bytes letter all) = and_from (is_name_byte b) (list_all is_name_byte bytes) (or_left (is_ascii_alphabetic b) _ letter) all

pub first_of_name : (text : List ℕ) → NameBytes text → is_ascii_alphabetic (first text) ≡ true
first_of_name text (letter_first b bytes letter all) = letter

name_more : (text more : List ℕ) → NameBytes text → list_all is_name_byte more ≡ true → NameBytes (text ++ more)
name_more text more (letter_first b bytes letter all) h =
    letter_first b (bytes ++ more) letter (list_all-append is_name_byte bytes more ∙ and_from _ _ all h)

-- a name is the longest where no byte of a name follows, and there alone
longest_name : (text behind : List ℕ) → is_name_byte (first behind) ≡ false → IsLongest NameBytes text behind
longest_name text behind h [] rest e name = refl
longest_name text behind h (m ∷ more) rest e name =
    let both = and_parts (list_all is_name_byte text) (list_all is_name_byte (m ∷ more))
    (sym (list_all-append is_name_byte text (m ∷ more)) ∙ all_of_name (text ++ m ∷ more) name) in
    let here = and_parts (is_name_byte m) (list_all is_name_byte more) both.1 in
    absurd (true≢false (sym here.0 ∙ ap (λ t. is_name_byte (first t)) (sym e) ∙ h))

name_ends : (text behind : List ℕ) → NameBytes text → IsLongest NameBytes text behind → is_name_byte (first behind) ≡ false
name_ends text [] name longest = refl
name_ends text (b ∷ rest) name longest =
    false_from_ne_true (is_name_byte b)
    (λ yes. let none : b ∷ [] ≡ [] = longest (b ∷ []) rest refl (name_more text (b ∷ []) name (and_from (is_name_byte b) true yes refl)) in cc)

-- ---- what begins at a letter

front_is_name : (text : List ℕ) → is_ascii_alphabetic (first text) ≡ true → NameBytes (take (prefix_len is_name_byte text) text)
front_is_name [] h = absurd (true≢false (sym h))
front_is_name (b ∷ rest) h =
    subst (λ n. NameBytes (take n (b ∷ rest)))
    (sym (cond-true (is_name_byte b) (1 + prefix_len is_name_byte rest) 0 (or_left (is_ascii_alphabetic b) _ h) ∙ one-add _))
    (letter_first b (take (prefix_len is_name_byte rest) rest) h (list_all_prefix is_name_byte rest))

pub name_found : (bare closes : Bool) (text : List ℕ) → is_ascii_alphabetic (first text) ≡ true → Found bare closes text
name_found bare closes text letter =
    let n = prefix_len is_name_byte text in
    let front = take n text in
    let behind = drop n text in
    let is = front_is_name text letter in
    let longest = longest_name front behind (stops is_name_byte text refl) in
    subst (Found bare closes) (take-append-drop n text)
    (elim (cases_lt 63 (length front)) [
      | inl long ↦ found_bad bare closes [] (front ++ behind) (long_name bare closes front behind is longest long)
      | inr short ↦ elim (cases_Bool (is_reserved front)) [
        | inl word ↦ found_token bare closes Word front behind (a_word front word) longest
        | inr none ↦ found_token bare closes Name front behind (a_name front is short none) longest
      ]
    ])

-- ---- and what is in the grammar is the piece

pub name_is : (bare closes : Bool) (text behind : List ℕ) → NameBytes text → IsLongest NameBytes text behind
    → piece_at bare closes (text ++ behind) ≡ cond (nat_lt 63 (length text)) (Bad 0) (Token (cond (is_reserved text) Word Name) (length text))
unfolding piece_at name_piece
name_is bare closes text behind (letter_first b bytes letter all) longest =
    let is = letter_first b bytes letter all in
    let whole = b ∷ bytes in
    cond-true (is_ascii_alphabetic b) (name_piece (whole ++ behind)) _ letter
    ∙ ap (λ n. cond (nat_lt 63 n) (Bad 0) (Token (cond (is_reserved (take n (whole ++ behind))) Word Name) n))
    (prefix_front is_name_byte whole behind (all_of_name whole is) (name_ends whole behind is longest))
    ∙ ap (λ t. cond (nat_lt 63 (length whole)) (Bad 0) (Token (cond (is_reserved t) Word Name) (length whole))) (take-append_seam whole behind)

-- ---- the reserved words are names but for their meaning

abbrev is_short_name : List ℕ → Bool
is_short_name text = is_ascii_alphabetic (first text) && (list_all is_name_byte text && nat_lt (length text) 64)

short_name : (text : List ℕ) → is_short_name text ≡ true → NameBytes text × (length text ≤ 63)
short_name [] h = absurd (true≢false (sym h))
short_name (b ∷ bytes) h =
    let one = and_parts (is_ascii_alphabetic b) _ h in
    let two = and_parts (list_all is_name_byte (b ∷ bytes)) (nat_lt (length (b ∷ bytes)) 64) one.1 in
    let three = and_parts (is_name_byte b) (list_all is_name_byte bytes) two.0 in
    (letter_first b bytes one.0 three.1, let under : length (b ∷ bytes) < 64 = ltb-true (length (b ∷ bytes)) 64 two.1 in omega (arith, under))

pub word_bytes : (text : List ℕ) → is_reserved text ≡ true → NameBytes text × (length text ≤ 63)
unfolding is_reserved
word_bytes text h = short_name text (one_of_good is_short_name reserved text h refl)

pub word_is : (bare closes : Bool) (text behind : List ℕ) → is_reserved text ≡ true → IsLongest NameBytes text behind
    → piece_at bare closes (text ++ behind) ≡ Token Word (length text)
word_is bare closes text behind word longest =
    let is = word_bytes text word in
    name_is bare closes text behind is.0 longest
    ∙ cond-false (nat_lt 63 (length text)) _ _ (le-ltb 63 (length text) is.1)
    ∙ ap (λ k. Token k (length text)) (cond-true (is_reserved text) Word Name word)

pub plain_name_is : (bare closes : Bool) (text behind : List ℕ) → NameBytes text → length text ≤ 63 → is_reserved text ≡ false
    → IsLongest NameBytes text behind → piece_at bare closes (text ++ behind) ≡ Token Name (length text)
plain_name_is bare closes text behind is short none longest =
    name_is bare closes text behind is longest
    ∙ cond-false (nat_lt 63 (length text)) _ _ (le-ltb 63 (length text) short)
    ∙ ap (λ k. Token k (length text)) (cond-false (is_reserved text) Word Name none)

pub long_name_is : (bare closes : Bool) (text behind : List ℕ) → NameBytes text → 63 < length text
    → IsLongest NameBytes text behind → piece_at bare closes (text ++ behind) ≡ Bad 0
long_name_is bare closes text behind is long longest =
    name_is bare closes text behind is longest ∙ cond-true (nat_lt 63 (length text)) _ _ (lt-ltb 63 (length text) long)
