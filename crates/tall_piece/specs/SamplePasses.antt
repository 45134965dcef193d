-- A pass over the sample of crates/tall_blocks: x, l = logical(x), y = 1 ./ l and s = cumsum(x) over two blocks. The column of y
-- and the carries of s are wanted.
use Rattle.std.specs.Prelude.{ℕ, Bool, None, List, [], ◌∷◌}
use Rattle.std.specs.List.{filter}
use Rattle.tall_value.specs.declared.functions.Scan.TheVariants.{CumSum}
use Rattle.tall_semantics.specs.Numbered.{levels_in}
use Rattle.tall_semantics.specs.Plans.{needed_of}
use Rattle.tall_blocks.specs.BlockSamples.{value, vertices}
use Rattle.tall_blocks.specs.PassWork.{cut_at}
use Rattle.tall_piece.specs.declared.wanted.Wanted.{Wanted}
use Rattle.tall_piece.specs.declared.wanted.Way.TheVariants as way

abbrev pub needed : List ℕ
needed = needed_of vertices (3 ∷ 4 ∷ [])

abbrev pub cut : ℕ → Bool
cut = cut_at 0 vertices value (levels_in value) needed 1 None

abbrev pub all : List ℕ
all = filter cut needed

abbrev pub wanted : List Wanted
wanted = record { node = 3; way = way.Rows } ∷ record { node = 4; way = way.Carries CumSum 0 } ∷ []
