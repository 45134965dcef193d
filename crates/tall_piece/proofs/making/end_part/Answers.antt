use Rattle.std.specs.Prelude.{◌≡◌, ◌≤◌, length}
use Rattle.std.proofs.Common.{rules}
use Rattle.tall_part.specs.Parts.{kept_from, kept_to}
use Rattle.tall_piece.proofs.MakingLaws.{classes_taken, end_made, first_missing, last_missing, same_numbers, uneven}
use Rattle.tall_piece.proofs.making.end_part.Goals as goal

pub returns-in_default : goal.returns-in_default
returns-in_default c = first_missing c.args.graph.now c.args.block.now.table.now c.args.block.now.made.now c.args.block.now.first_row c.args.block.now.rows c.args.operation c.args.first c.args.last c.in_default.ensures.none

pub returns-in_default-column_in : goal.returns-in_default-column_in
returns-in_default-column_in c = last_missing c.args.graph.now c.args.block.now.table.now c.args.block.now.made.now c.args.block.now.first_row c.args.block.now.rows c.args.operation c.args.first c.args.last c.in_default-column_in.ensures.none

pub returns-then-len : goal.returns-then-len
returns-then-len c =
    let differ : length c.in-Some.keys.now.cells ≡ length c.in-Some-column_in.data.now.cells → ⊥ = search rules in
    uneven c.args.graph.now c.args.block.now.table.now c.args.block.now.made.now c.args.block.now.first_row c.args.block.now.rows c.args.operation c.args.first c.args.last c.in-Some.keys.now c.in-Some-column_in.data.now c.in-Some.ensures.some c.in-Some-column_in.ensures.some differ

pub of_columns-requires-clause-takes : goal.of_columns-requires-clause-takes
of_columns-requires-clause-takes c =
    classes_taken c.args.graph.now c.args.block.now.table.now c.args.block.now.made.now c.args.block.now.first_row c.args.block.now.rows c.args.operation c.args.first c.args.last c.in-Some.keys.now c.in-Some-column_in.data.now c.requires.columns
    c.in-Some.ensures.some c.in-Some-column_in.ensures.some c.requires.takes

pub returns : goal.returns
returns c =
    let from : c.kept_rows-from.result.0 ≡ kept_from c.args.operation (length c.in-Some.keys.now.cells) = search rules in
    let to : c.kept_rows-from.result.1 ≡ kept_to c.args.operation (length c.in-Some.keys.now.cells) = search rules in
    let within : c.kept_rows-from.result.1 ≤ length c.in-Some.keys.now.cells = search rules in
    end_made c.args.graph.now c.args.block.now.table.now c.args.block.now.made.now c.args.block.now.first_row c.args.block.now.rows c.args.operation c.args.first c.args.last c.in-Some.keys.now c.in-Some-column_in.data.now
    c.kept_rows-from.result.0 c.kept_rows-from.result.1 c.as_slice.result.now c.in_ok-part.part c.requires.columns c.in-Some.ensures.some c.in-Some-column_in.ensures.some from to c.kept_rows-from.ensures.ordered within
    (same_numbers c.args.graph.now c.args.block.now.table.now c.args.block.now.made.now c.args.block.now.first_row c.args.block.now.rows c.args.operation c.args.first c.args.last c.kept_rows-from.result.0 c.kept_rows-from.result.1
    c.in_ok-numbers.numbers.items c.as_slice.result.now c.as_slice.ensures.value c.in_ok-numbers.ensures)
    c.in_ok-part.ensures.some c.in_ok-part.ensures.rows
