-- What the reader of scripts says of tokens: the script, the line of the first token with which no script goes on, or the
-- line of the first expression that is too high. And what is then said of bytes.
use Rattle.std.specs.Prelude.{ℕ, ◌-◌, List, [], ◌∷◌, drop, length, nat_lt, if◌then◌else◌, Option, Some, None, Ok, Err}
use Rattle.tall_lex.specs.Tokens.{Lexed, tokens_of_bytes}
use Rattle.tall_grammar.specs.declared.faults.Fault.TheVariants.{Stop, OutOfTurns, Memory}
use Rattle.tall_grammar.specs.Lexemes.{Lexeme, lexemes_of}
use Rattle.tall_grammar.specs.Kept.{Flagged}
use Rattle.tall_grammar.specs.Readers.{Outcome, input}
use Rattle.tall_grammar.specs.Refusals.{Verdict, bad_token, last_line, longest, read, syntax_at, too_deep, too_deep_at, too_long}
use Rattle.tall_grammar.specs.ScriptReader.{program}
use Rattle.tall_grammar.specs.Trees.{SeenScript}

abbrev pub of_flag : Flagged SeenScript → Verdict
of_flag (Ok s) = read s
of_flag (Err high) = too_deep_at high.line

-- the line of the first of these tokens, or the last line
abbrev pub line_from : ℕ → List Lexeme → ℕ
line_from last [] = last
line_from last (t ∷ ts) = t.line

-- a syntax fault at the token before which so many are left
abbrev pub syntax_from : ℕ → List Lexeme → ℕ → Verdict
syntax_from last ts n = syntax_at (line_from last (drop (length ts - n) ts))

-- of tokens whose last line is given; nothing where the reader ran out of turns or depth
abbrev pub said : ℕ → List Lexeme → Outcome (Flagged SeenScript) → Option Verdict
said last ts (Ok p) = Some (of_flag p.0)
said last ts (Err (Stop n)) = Some (syntax_from last ts n)
said last ts (Err OutOfTurns) = None
said last ts (Err Memory) = None

-- with the line of the first token that is too deep, if there is one
abbrev pub lexemes_said : ℕ → ℕ → ℕ → List Lexeme → Option ℕ → Option Verdict
lexemes_said turns depth last ts (Some line) = Some (too_deep_at line)
lexemes_said turns depth last ts None = said last ts (program turns depth (input ts 1))

abbrev pub tokens_said : ℕ → ℕ → List ℕ → Lexed → Option Verdict
tokens_said turns depth bytes (Err bad) = Some (bad_token bad.0 bad.1)
tokens_said turns depth bytes (Ok tokens) =
    lexemes_said turns depth (last_line bytes) (lexemes_of bytes tokens) (too_deep (lexemes_of bytes tokens))

-- what the bytes are, by so many turns and so great a depth; nothing where these run out
abbrev pub verdict : ℕ → ℕ → List ℕ → Option Verdict
verdict turns depth bytes =
    if nat_lt longest (length bytes) then Some too_long else tokens_said turns depth bytes (tokens_of_bytes bytes)
