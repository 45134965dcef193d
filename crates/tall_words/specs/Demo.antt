-- The files of the demo: a table of groups and small numbers from a linear congruential generator, and a script over it
-- (docs/LANGUAGE.md, "The demo").
use Rattle.std.specs.Prelude.{ℕ, zero, suc, ◌+◌, ◌*◌, ◌/◌, ◌%◌, List, [], ◌∷◌, ◌++◌, codes, pos, ◌-ℤ◌}
use Rattle.std.specs.Fmt.{decimal, signed_decimal}

-- the generator's next state
abbrev pub next_state : ℕ → ℕ
next_state s = (s * 1103515245 + 12345) % 2147483648

-- a group from g0 to g4 and a number from -128 to 127
abbrev pub row_text : ℕ → List ℕ
row_text r = codes "g" ++ (decimal (r % 5) ++ (codes "," ++ (signed_decimal (pos (r % 256) -ℤ pos 128) ++ codes "\n")))

-- the rows that come next, from the generator's state
unfoldable pub rows_text : ℕ → ℕ → List ℕ
rows_text zero s = []
rows_text (suc n) s = row_text (next_state s / 65536) ++ rows_text n (next_state s)

abbrev pub table_text : ℕ → List ℕ
table_text rows = codes "g,v\n" ++ rows_text rows 1

abbrev pub script_text : List ℕ
script_text =
    codes "ds = tabularTextDatastore('demo.csv', 'TextscanFormats', {'%q', '%d8'});\n"
    ++ codes "T = tall(ds);\n"
    ++ codes "[n, s, t] = gather(height(T), sum(T.v), sum(T.v, 'native'))\n"
    ++ codes "G = gather(groupsummary(T, 'g', 'sum', 'v'))\n"

-- the files by their names
abbrev pub demo_files : ℕ → List (List ℕ × List ℕ)
demo_files rows = (codes "demo.csv", table_text rows) ∷ (codes "demo.m", script_text) ∷ []
