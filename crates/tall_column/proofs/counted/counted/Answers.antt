use Rattle.std.specs.Prelude.{Ok}
use Rattle.std.proofs.Common.{◌≡◌, map, rules}
use Rattle.tall_value.specs.Cells.{logical, whole}
use Rattle.tall_value.specs.CellOperators.{to_integer}
use Rattle.tall_value.specs.Columns.{numbered}
use Rattle.tall_value.specs.Elementwise.{each_row}
use Rattle.tall_column.proofs.CountedLemmas.{counted-is}
use Rattle.tall_column.proofs.counted.counted.Goals as goal

pub returns-in-Ok : goal.returns-in-Ok
returns-in-Ok g c =
    let kind = g.I.Integer.KIND in
    let rows : each_row (to_integer kind) (numbered 0 (map (λ b. logical b) c.args.items.now)) ≡ Ok (numbered 0 (map (λ x. whole kind (g.I.IntClass.number x)) c.in-Ok.values.items)) = search rules in
    counted-is kind c.args.items.now (map (λ x. whole kind (g.I.IntClass.number x)) c.in-Ok.values.items) rows
