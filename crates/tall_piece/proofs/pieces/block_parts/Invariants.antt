use Rattle.std.specs.Prelude.{List, Option, ◌++◌, drop}
use Rattle.tall_piece.specs.declared.parts.Part.{Part}
use Rattle.tall_piece.specs.Joins.{AreWays}
use Rattle.tall_piece.specs.Worked.{AreMadeParts}
use Rattle.tall_piece.proofs.pieces.block_parts.Given as goal

abbrev pub invariant-loop-w : goal.invariant-loop-w
invariant-loop-w l =
    AreWays l.graph (drop l.w-index l.wanted)
    × ((os : List (Option Part)) → AreMadeParts l.graph l.block.table.now l.block.made.now l.block.first_row l.block.rows (drop l.w-index l.wanted) os
    → AreMadeParts l.graph l.block.table.now l.block.made.now l.block.first_row l.block.rows l.wanted (l.parts.items ++ os))
