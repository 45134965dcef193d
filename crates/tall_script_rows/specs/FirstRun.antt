-- The first script and the first file, by their bytes.
use Rattle.std.specs.Prelude.{ℕ, List, [], ◌∷◌, codes}
use Rattle.tall_outside.specs.Shelf.{Files}

-- ds = tabularTextDatastore('a.csv', 'TextscanFormats', {'%d16'});
-- T = tall(ds);
-- s = sum(T.x, 'native');
-- s = gather(s)
abbrev pub first_script_bytes : List ℕ
first_script_bytes = codes "ds = tabularTextDatastore('a.csv', 'TextscanFormats', {'%d16'});\nT = tall(ds);\ns = sum(T.x, 'native');\ns = gather(s)\n"

abbrev pub first_files : Files
first_files = (codes "s.m", first_script_bytes) ∷ (codes "a.csv", codes "x\n30000\n5000\n-1000\n") ∷ []
