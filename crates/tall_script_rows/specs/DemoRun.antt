-- The demo over five rows, by the words that ask for it.
use Rattle.std.specs.Prelude.{List, [], ◌∷◌, codes}
use Rattle.clap.specs.Words.{Text}
use Rattle.tall_answer.specs.CommandAnswers.{CommandAnswer, done}
use Rattle.tall_grammar.specs.Trees.{SeenScript}
use Rattle.tall_script_rows.specs.Drafts.{name, text, texts, call, member, shown, silent, sets, gathers, script}

abbrev pub demo_words : List Text
demo_words = codes "tallrun" ∷ codes "--demo" ∷ codes "5" ∷ []

-- 1: ds = tabularTextDatastore('demo.csv', 'TextscanFormats', {'%q', '%d8'});
-- 2: T = tall(ds);
-- 3: [n, s, t] = gather(height(T), sum(T.v), sum(T.v, 'native'))
-- 4: G = gather(groupsummary(T, 'g', 'sum', 'v'))
abbrev pub demo_script : SeenScript
demo_script = script (
    silent 1 (sets "ds" (call "tabularTextDatastore" (text "demo.csv" ∷ text "TextscanFormats" ∷ texts ("%q" ∷ "%d8" ∷ []) ∷ []))) ∷
    silent 2 (sets "T" (call "tall" (name "ds" ∷ []))) ∷
    shown 3 (gathers ("n" ∷ "s" ∷ "t" ∷ []) (call "height" (name "T" ∷ []) ∷ call "sum" (member (name "T") "v" ∷ []) ∷ call "sum" (member (name "T") "v" ∷ text "native" ∷ []) ∷ [])) ∷
    shown 4 (sets "G" (call "gather" (call "groupsummary" (name "T" ∷ text "g" ∷ text "sum" ∷ text "v" ∷ []) ∷ []))) ∷ [])

-- demo.csv: g,v / g3,70 / g3,-2 / g3,1 / g0,-21 / g1,-53
abbrev pub demo_answer : CommandAnswer
demo_answer = record {
  status = done;
  text = codes "n = double 5\ns = double -5\nt = int8 -5\nG = table 3x3\n    g  GroupCount  sum_v\n    \"g0\"  1  -21\n    \"g1\"  1  -53\n    \"g3\"  3  69\n";
  line = [];
}
