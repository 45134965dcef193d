-- The answer of what is no script, by computation.
use Rattle.std.specs.Prelude.{◌≡◌, [], codes, refl}
use Rattle.tall_grammar.specs.Refusals as parse
use Rattle.tall_script.specs.Answers.{answer_of, Answers, no_script}
use Rattle.tall_script_rows.specs.RowWords.{whole_runs, fails}

too_long : answer_of [] parse.too_long ≡ fails (codes "tallrun: script above 1048576 bytes\n")
unfolding whole_runs
too_long = refl

bad_token : answer_of [] (parse.bad_token 2 7) ≡ fails (codes "tallrun: line 2: bad token at 7\n")
unfolding whole_runs
bad_token = refl

-- 65 opening parentheses, 1, and 65 closing ones
too_deep : answer_of [] (parse.too_deep_at 1) ≡ fails (codes "tallrun: line 1: nested above 64\n")
unfolding whole_runs
too_deep = refl

-- a = 1 / x = (1 + 2;
no_script_goes_on : answer_of [] (parse.syntax_at 2) ≡ fails (codes "tallrun: line 2: syntax\n")
unfolding whole_runs
no_script_goes_on = refl

absent_script : Answers [] (codes "none.m") (fails (codes "tallrun: no file none.m\n"))
unfolding whole_runs
absent_script = no_script refl
