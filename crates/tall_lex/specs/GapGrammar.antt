-- What is passed over between tokens: blanks, comments and joined lines.
use Rattle.std.specs.Prelude.{◌≡◌, ℕ, ◌==◌, ◌&&◌, not, Bool, true, List, [], ◌∷◌, ◌++◌}
use Rattle.std.specs.List.{list_all}
use Rattle.tall_lex.specs.Bytes.{is_space}

-- neither a line feed nor a carriage return
abbrev pub is_plain : ℕ → Bool
is_plain b = not (b == 10) && not (b == 13)

-- How a line ends, and what follows: the script's end, or a line feed, before which a carriage return may stand. The
-- line feed is part of what follows.
pub data LineEnding : List ℕ → List ℕ → Type 0 where
  end_of_script : LineEnding [] []
  line_feed : (behind : List ℕ) → LineEnding [] (10 ∷ behind)
  return_and_line_feed : (behind : List ℕ) → LineEnding (13 ∷ []) (10 ∷ behind)

-- the rest of a line, and what follows
pub data RestOfLine : List ℕ → List ℕ → Type 0 where
  rest_of_line : (bytes ending behind : List ℕ) → list_all is_plain bytes ≡ true → LineEnding ending behind
      → RestOfLine (bytes ++ ending) behind

-- the rest of a line that has blanks alone, and what follows
pub data BlankLine : List ℕ → List ℕ → Type 0 where
  blank_line : (blanks ending behind : List ℕ) → list_all is_space blanks ≡ true → LineEnding ending behind
      → BlankLine (blanks ++ ending) behind

-- a '%{' with blanks alone behind it in its line; the flag says that no others stand before it
pub data BlockOpener : Bool → List ℕ → Type 0 where
  block_opener : (line behind : List ℕ) → BlankLine line behind → BlockOpener true (37 ∷ 123 ∷ (line ++ behind))

-- what is passed over, and what follows; the flag says that only blanks stand before it in its line
pub data PassedOver : Bool → List ℕ → List ℕ → Type 0 where
  -- the carriage return of a line's end, a space or a tab
  return_before_line_feed : (bare : Bool) (behind : List ℕ) → PassedOver bare (13 ∷ []) (10 ∷ behind)
  blank : (bare : Bool) (b : ℕ) (behind : List ℕ) → is_space b ≡ true → PassedOver bare (b ∷ []) behind
  -- '%' and the rest of its line, but no '%{' that is all of its line
  comment : (bare : Bool) (line behind : List ℕ) → (BlockOpener bare (37 ∷ (line ++ behind)) → ⊥) → RestOfLine line behind
      → PassedOver bare (37 ∷ line) behind
  -- '...', the rest of its line, and the line feed if there is one
  joined_line : (bare : Bool) (line behind : List ℕ) → RestOfLine line (10 ∷ behind)
      → PassedOver bare (46 ∷ 46 ∷ 46 ∷ (line ++ 10 ∷ [])) behind
  dots_in_the_last_line : (bare : Bool) (line : List ℕ) → RestOfLine line [] → PassedOver bare (46 ∷ 46 ∷ 46 ∷ line) []
