-- Kinds of bytes of a script, and the words of the language.
use Rattle.std.specs.Prelude.{ℕ, ◌==◌, ◌&&◌, ◌||◌, not, Bool, List, [], ◌∷◌, slice_index, nat_eq, codes}
use Rattle.std.specs.List.{list_any}
use Rattle.std.specs.Cmp.Lexicographic.{pointwise}
use Rattle.std.specs.Char.{is_ascii_alphabetic, is_ascii_digit}

-- the first byte, or 0 where there is none
abbrev pub first : List ℕ → ℕ
first text = slice_index text 0

-- the second byte, or 0 where there is none
abbrev pub second : List ℕ → ℕ
second text = slice_index text 1

-- an ASCII letter, an ASCII digit or '_'
abbrev pub is_name_byte : ℕ → Bool
is_name_byte b = is_ascii_alphabetic b || (is_ascii_digit b || (b == 95))

-- a space or a tab
abbrev pub is_space : ℕ → Bool
is_space b = (b == 32) || (b == 9)

-- a blank stands first: a space, a tab, or a carriage return directly before a line feed
abbrev pub starts_blank : List ℕ → Bool
starts_blank text = is_space (first text) || ((first text == 13) && (second text == 10))

-- a carriage return stands first, and no line feed directly behind it
abbrev pub starts_stray : List ℕ → Bool
starts_stray text = (first text == 13) && not (second text == 10)

-- a ''' or a '"'
abbrev pub is_quote : ℕ → Bool
is_quote b = (b == 39) || (b == 34)

-- the reserved words
abbrev pub reserved : List (List ℕ)
reserved = codes "function" ∷ codes "end" ∷ codes "if" ∷ codes "elseif" ∷ codes "else" ∷ codes "while" ∷ codes "for"
    ∷ codes "break" ∷ codes "continue" ∷ codes "return" ∷ codes "switch" ∷ codes "case" ∷ codes "otherwise" ∷ codes "try"
    ∷ codes "catch" ∷ codes "global" ∷ codes "persistent" ∷ codes "parfor" ∷ codes "spmd" ∷ codes "classdef" ∷ []

unfoldable pub is_reserved : List ℕ → Bool
is_reserved word = list_any (λ w. pointwise nat_eq w word) reserved

-- a sign of one byte
abbrev pub is_sign : ℕ → Bool
is_sign b = list_any (λ s. s == b) (codes "+-*/<>&|~=()[]{},;:.@")

-- a sign of two bytes: .* ./ == ~= <= >=
abbrev pub is_sign_pair : ℕ → ℕ → Bool
is_sign_pair a b = ((a == 46) && ((b == 42) || (b == 47))) || (list_any (λ s. s == a) (codes "=~<>") && (b == 61))

-- && or ||, which are no signs
abbrev pub is_doubled : ℕ → ℕ → Bool
is_doubled a b = ((a == 38) && (b == 38)) || ((a == 124) && (b == 124))
