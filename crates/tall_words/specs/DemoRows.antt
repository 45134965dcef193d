-- Worked values of the demo's table.
use Rattle.std.specs.Prelude.{◌≡◌, refl, codes}
use Rattle.std.specs.Fmt.{digits}
use Rattle.tall_words.specs.Demo.{rows_text, table_text}

five_rows : table_text 5 ≡ codes "g,v\ng3,70\ng3,-2\ng3,1\ng0,-21\ng1,-53\n"
unfolding rows_text digits
five_rows = refl
