-- The first script and the demo, from their bytes to what they print.
use Rattle.std.proofs.Common.{◌≡◌, [], ◌∷◌, refl, sym, subst}
use Rattle.std.specs.Prelude.{⊤, Some, codes}
use Rattle.std.proofs.Math.Utf8.{encode}
use Rattle.std.specs.Str.{chars, is_utf8}
use Rattle.std.specs.Str.Lossy.{utf8_valid_len}
use Rattle.clap.proofs.OnLiterals.{clap_on_literals}
use Rattle.tall_lex.specs.Bytes.{is_reserved}
use Rattle.tall_lex.specs.Numbers.{is_whole_number}
use Rattle.tall_lex.specs.Pieces.{piece_at, name_piece, number_piece, number_len, fraction_len, exponent_len, text_piece, comment_piece, joined_piece, sign_piece}
use Rattle.tall_lex.specs.Tokens.{tokens_from, tokens_of_bytes}
use Rattle.tall_grammar.specs.ExprReader.{args_from, post_from, signs_from, signed, chain_from, level, expr_within}
use Rattle.tall_grammar.specs.Readers.{listed_from}
use Rattle.tall_grammar.specs.Refusals.{Parses, read}
use Rattle.tall_grammar.specs.ScriptReader.{statements_from, arms_from, steps_from, steps_within, functions_from}
use Rattle.tall_grammar.specs.Trees.{SeenScript}
use Rattle.tall_grammar.proofs.OfBytes.{verdict_tells}
use Rattle.tall_outside.specs.Shelf.{Files}
use Rattle.tall_script.specs.Answers.{Answers, of_script}
use Rattle.tall_words.specs.Commands.{command, run_demo}
use Rattle.tall_words.specs.Demo.{rows_text, script_text}
use Rattle.tall_answer.specs.CommandAnswers.{AnswersAsked, AnswersWords, of_command}
use Rattle.tall_script_rows.specs.DemoRun.{demo_words, demo_script, demo_answer}
use Rattle.tall_script_rows.specs.Drafts.{script, shown, silent, sets, call, member, name, text, texts}
use Rattle.tall_script_rows.specs.FirstRun.{first_files, first_script_bytes}
use Rattle.tall_script_rows.specs.RowWords.{prints, whole_runs}

-- unfolded, it lets bytes be read by computing
unfoldable reading : ⊤
unfolding tokens_of_bytes utf8_valid_len is_utf8 chars encode tokens_from piece_at name_piece is_reserved number_piece number_len fraction_len exponent_len is_whole_number text_piece comment_piece joined_piece sign_piece args_from post_from signs_from signed chain_from level expr_within listed_from statements_from arms_from steps_from steps_within functions_from
reading = tt

first_script : SeenScript
first_script = script (
    silent 1 (sets "ds" (call "tabularTextDatastore" (text "a.csv" ∷ text "TextscanFormats" ∷ texts ("%d16" ∷ []) ∷ [])))
    ∷ silent 2 (sets "T" (call "tall" (name "ds" ∷ [])))
    ∷ silent 3 (sets "s" (call "sum" (member (name "T") "x" ∷ text "native" ∷ [])))
    ∷ shown 4 (sets "s" (call "gather" (name "s" ∷ []))) ∷ [])

parsed : Parses first_script_bytes (read first_script)
unfolding reading first_script
parsed = verdict_tells 60 5 first_script_bytes (read first_script) refl

pub first_answer : Answers first_files (codes "s.m") (prints (codes "s = int16 31767\n"))
unfolding whole_runs first_script
first_answer = of_script refl parsed

-- ---- the demo

demo_parsed : Parses script_text (read demo_script)
unfolding reading
demo_parsed = verdict_tells 90 6 script_text (read demo_script) refl

asked : command demo_words ≡ Some (run_demo 5 4)
unfolding clap_on_literals
asked = refl

over_five_rows : (files : Files) → AnswersAsked files (Some (run_demo 5 4)) demo_answer
unfolding whole_runs rows_text
over_five_rows files = of_command (of_script refl demo_parsed)

pub demo_answered : (files : Files) → AnswersWords files demo_words demo_answer
demo_answered files = subst (λ o. AnswersAsked files o demo_answer) (sym asked) (over_five_rows files)
