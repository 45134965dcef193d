-- Blanks, comments, joined lines and stray carriage returns by the grammar of tokens.
use Rattle.std.proofs.Common.{◌≡◌, ◌≢◌, ◌≤◌, ◌<◌, ◌∙◌, ℕ, refl, sym, ap, subst, Bool, true, false, cond, List, [], ◌∷◌, ◌++◌, ◌+◌, length, one-add, append_assoc, arith, inl, inr}
use Rattle.std.specs.Prelude.{nat_lt}
use Rattle.std.specs.List.{list_all}
use Rattle.std.proofs.lemmas.Bool.{cond-true, cond-false, true≢false, cases_Bool, cases_eq, le-ltb, lt-ltb, ne_eqb, false_from_ne_true}
use Rattle.std.proofs.lemmas.List.{length-append}
use Rattle.tall_lex.specs.declared.pieces.Piece.TheVariants.{Gap, Bad}
use Rattle.tall_lex.specs.Bytes.{first, is_space}
use Rattle.tall_lex.specs.Pieces.{piece_at, comment_piece, joined_piece, sign_piece, is_block_opener, to_line_end, with_line_end, line_rest}
use Rattle.tall_lex.specs.GapGrammar.{is_plain, RestOfLine, BlockOpener, block_opener, PassedOver, blank, return_before_line_feed, comment, joined_line, dots_in_the_last_line}
use Rattle.tall_lex.specs.BadTokens.{stray_return, return_in_comment, return_behind_dots, opener}
use Rattle.tall_lex.proofs.Found.{Found, found_gap, found_bad}
use Rattle.tall_lex.proofs.Lines.{line_is, stray_is, LineFound, ends, strays, line_found, space_is, opener_is, opener_in, feed_behind}

-- ---- blanks and stray returns

space_piece : (bare closes : Bool) (b : ℕ) (text : List ℕ) → is_space b ≡ true → piece_at bare closes (b ∷ text) ≡ Gap 1
unfolding piece_at
space_piece bare closes b text h = elim (space_is b h) [
  | inl e ↦ subst (λ c. piece_at bare closes (c ∷ text) ≡ Gap 1) (sym e) refl
  | inr e ↦ subst (λ c. piece_at bare closes (c ∷ text) ≡ Gap 1) (sym e) refl
]

pub blank_found : (bare closes : Bool) (b : ℕ) (text : List ℕ) → is_space b ≡ true → Found bare closes (b ∷ text)
blank_found bare closes b text h = found_gap bare closes (b ∷ []) text (blank bare b text h)

pub stray_return_is : (bare closes : Bool) (rest : List ℕ) → first rest ≢ 10 → piece_at bare closes (13 ∷ rest) ≡ Bad 0
unfolding piece_at sign_piece
stray_return_is bare closes rest other = ap (λ p. cond p (Gap 1) (Bad 0)) (ne_eqb (first rest) 10 other)

pub return_found : (bare closes : Bool) (text : List ℕ) → Found bare closes (13 ∷ text)
return_found bare closes [] = found_bad bare closes [] (13 ∷ []) (stray_return bare closes [] (λ e. absurd (omega (arith, e))))
return_found bare closes (c ∷ text) = elim (cases_eq c 10) [
  | inl e ↦ subst (λ b. Found bare closes (13 ∷ b ∷ text)) (sym e) (found_gap bare closes (13 ∷ []) (10 ∷ text) (return_before_line_feed bare text))
  | inr other ↦ found_bad bare closes [] (13 ∷ c ∷ text) (stray_return bare closes (c ∷ text) other)
]

-- ---- comments

no_opener : (bare : Bool) (text : List ℕ) → (BlockOpener bare (37 ∷ text) → ⊥) → is_block_opener bare (37 ∷ text) ≡ false
no_opener bare text none = false_from_ne_true (is_block_opener bare (37 ∷ text)) (λ yes. none (opener_in bare text yes))

comment_is : (bare closes : Bool) (text : List ℕ) → (BlockOpener bare (37 ∷ text) → ⊥)
    → piece_at bare closes (37 ∷ text) ≡ to_line_end (line_rest 1 text)
unfolding piece_at comment_piece
comment_is bare closes text none = cond-false (is_block_opener bare (37 ∷ text)) (Bad 0) (to_line_end (line_rest 1 text)) (no_opener bare text none)

pub return_in_comment_is : (bare closes : Bool) (bytes rest : List ℕ) → (BlockOpener bare (37 ∷ (bytes ++ 13 ∷ rest)) → ⊥)
    → list_all is_plain bytes ≡ true → first rest ≢ 10 → piece_at bare closes (37 ∷ (bytes ++ 13 ∷ rest)) ≡ Bad (length (37 ∷ bytes))
return_in_comment_is bare closes bytes rest none all other =
    comment_is bare closes (bytes ++ 13 ∷ rest) none ∙ ap to_line_end (stray_is 1 bytes rest all other) ∙ ap Bad (one-add (length bytes))

pub opener_piece : (bare closes : Bool) (text : List ℕ) → BlockOpener bare text → piece_at bare closes text ≡ Bad 0
unfolding piece_at comment_piece
opener_piece bare closes text (block_opener line behind is) =
    cond-true (is_block_opener true (37 ∷ 123 ∷ (line ++ behind))) _ _ (opener_is true (37 ∷ 123 ∷ (line ++ behind)) (block_opener line behind is))

comment_line_found : (bare closes : Bool) (text : List ℕ) → (BlockOpener bare (37 ∷ text) → ⊥) → LineFound text → Found bare closes (37 ∷ text)
comment_line_found bare closes text none (ends line behind is) = found_gap bare closes (37 ∷ line) behind (comment bare line behind none is)
comment_line_found bare closes text none (strays bytes rest all other) =
    found_bad bare closes (37 ∷ bytes) (13 ∷ rest) (return_in_comment bare closes bytes rest none all other)

pub comment_found : (bare closes : Bool) (text : List ℕ) → Found bare closes (37 ∷ text)
comment_found bare closes text = elim (cases_Bool (is_block_opener bare (37 ∷ text))) [
  | inl is ↦ found_bad bare closes [] (37 ∷ text) (opener bare closes (37 ∷ text) (opener_in bare text is))
  | inr none ↦ comment_line_found bare closes text (λ is. absurd (true≢false (sym (opener_is bare (37 ∷ text) is) ∙ none))) (line_found text)
]

-- ---- joined lines

joined_is : (bare closes : Bool) (text : List ℕ)
    → piece_at bare closes (46 ∷ 46 ∷ 46 ∷ text) ≡ with_line_end (46 ∷ 46 ∷ 46 ∷ text) (line_rest 3 text)
unfolding piece_at joined_piece
joined_is bare closes text = refl

joined_line_is : (bare closes : Bool) (line behind : List ℕ) → RestOfLine line (10 ∷ behind)
    → piece_at bare closes ((46 ∷ 46 ∷ 46 ∷ (line ++ 10 ∷ [])) ++ behind) ≡ Gap (length (46 ∷ 46 ∷ 46 ∷ (line ++ 10 ∷ [])))
joined_line_is bare closes line behind is =
    let text = 46 ∷ 46 ∷ 46 ∷ (line ++ 10 ∷ behind) in
    let short : 3 + length line < length text = omega (arith, length-append line (10 ∷ behind)) in
    let len : (3 + length line) + 1 ≡ length (46 ∷ 46 ∷ 46 ∷ (line ++ 10 ∷ [])) = omega (arith, length-append line (10 ∷ [])) in
    ap (λ t. piece_at bare closes (46 ∷ 46 ∷ 46 ∷ t)) (append_assoc line (10 ∷ []) behind)
    ∙ joined_is bare closes (line ++ 10 ∷ behind) ∙ ap (with_line_end text) (line_is 3 line (10 ∷ behind) is)
    ∙ ap Gap (cond-true (nat_lt (3 + length line) (length text)) ((3 + length line) + 1) (3 + length line) (lt-ltb (3 + length line) (length text) short) ∙ len)

last_line_is : (bare closes : Bool) (line : List ℕ) → RestOfLine line []
    → piece_at bare closes ((46 ∷ 46 ∷ 46 ∷ line) ++ []) ≡ Gap (length (46 ∷ 46 ∷ 46 ∷ line))
last_line_is bare closes line is =
    let text = 46 ∷ 46 ∷ 46 ∷ (line ++ []) in
    let all : length text ≤ 3 + length line = omega (arith, length-append line []) in
    let len : 3 + length line ≡ length (46 ∷ 46 ∷ 46 ∷ line) = omega arith in
    joined_is bare closes (line ++ []) ∙ ap (with_line_end text) (line_is 3 line [] is)
    ∙ ap Gap (cond-false (nat_lt (3 + length line) (length text)) ((3 + length line) + 1) (3 + length line) (le-ltb (3 + length line) (length text) all) ∙ len)

pub return_behind_dots_is : (bare closes : Bool) (bytes rest : List ℕ) → list_all is_plain bytes ≡ true → first rest ≢ 10
    → piece_at bare closes (46 ∷ 46 ∷ 46 ∷ (bytes ++ 13 ∷ rest)) ≡ Bad (length (46 ∷ 46 ∷ 46 ∷ bytes))
return_behind_dots_is bare closes bytes rest all other =
    let len : 3 + length bytes ≡ length (46 ∷ 46 ∷ 46 ∷ bytes) = omega arith in
    joined_is bare closes (bytes ++ 13 ∷ rest) ∙ ap (with_line_end (46 ∷ 46 ∷ 46 ∷ (bytes ++ 13 ∷ rest))) (stray_is 3 bytes rest all other) ∙ ap Bad len

joined_to : (bare closes : Bool) (line behind : List ℕ) → RestOfLine line behind → Found bare closes (46 ∷ 46 ∷ 46 ∷ (line ++ behind))
joined_to bare closes line [] is = found_gap bare closes (46 ∷ 46 ∷ 46 ∷ line) [] (dots_in_the_last_line bare line is)
joined_to bare closes line (b ∷ behind) is =
    let e = feed_behind line behind b is in
    subst (λ c. Found bare closes (46 ∷ 46 ∷ 46 ∷ (line ++ c ∷ behind))) (sym e)
    (subst (λ t. Found bare closes (46 ∷ 46 ∷ 46 ∷ t)) (append_assoc line (10 ∷ []) behind)
    (found_gap bare closes (46 ∷ 46 ∷ 46 ∷ (line ++ 10 ∷ [])) behind (joined_line bare line behind (subst (λ c. RestOfLine line (c ∷ behind)) e is))))

dots_line_found : (bare closes : Bool) (text : List ℕ) → LineFound text → Found bare closes (46 ∷ 46 ∷ 46 ∷ text)
dots_line_found bare closes text (ends line behind is) = joined_to bare closes line behind is
dots_line_found bare closes text (strays bytes rest all other) =
    found_bad bare closes (46 ∷ 46 ∷ 46 ∷ bytes) (13 ∷ rest) (return_behind_dots bare closes bytes rest all other)

pub dots_found : (bare closes : Bool) (text : List ℕ) → Found bare closes (46 ∷ 46 ∷ 46 ∷ text)
dots_found bare closes text = dots_line_found bare closes text (line_found text)

-- ---- all that is passed over

pub gap_is : (bare closes : Bool) (text behind : List ℕ) → PassedOver bare text behind → piece_at bare closes (text ++ behind) ≡ Gap (length text)
unfolding piece_at
gap_is bare closes text behind (blank s b rest h) = space_piece bare closes b behind h
gap_is bare closes text behind (return_before_line_feed s rest) = refl
gap_is bare closes text behind (comment s line rest none is) =
    comment_is bare closes (line ++ behind) none ∙ ap to_line_end (line_is 1 line behind is) ∙ ap Gap (one-add (length line))
gap_is bare closes text behind (joined_line s line rest is) = joined_line_is bare closes line behind is
gap_is bare closes text behind (dots_in_the_last_line s line is) = last_line_is bare closes line is
