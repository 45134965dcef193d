use Rattle.std.specs.Prelude.{◌+◌, ◌<◌, ◌≤◌, [], ◌∷◌, ◌++◌}
use Rattle.std.proofs.Common.{ap, sym, ◌∙◌, arith, append_assoc}
use Rattle.std.proofs.lemmas.List.{append-nil}
use Rattle.tall_semantics.specs.Outcomes.{rows_in}
use Rattle.tall_blocks.specs.RowPlaces.{row_number_at}
use Rattle.tall_block.specs.BlockWork.{numbers_between}
use Rattle.tall_block.proofs.RowBackLaws.{between_next, between_none, one_pushed}
use Rattle.tall_block.proofs.numbers.row_numbers.Goals as goal

pub loop-row-preserved : goal.loop-row-preserved
loop-row-preserved c = λ scalars carries work columns so_far f cut h block shown closed among there ordered within.
    let i = c.loop-row.invariant scalars carries work columns so_far f cut h block shown closed among there ordered within in
    let l : c.loop-row.row < c.args.to = c.loop-row-test.true in
    let k = c.row_number-number.ensures scalars carries work columns so_far f cut h block shown closed (record { among = among; there = there; within = omega (arith, l, within) }) in
    let pushed = c.in_ok-push_some.ensures ∙ one_pushed c.loop-row.numbers.items c.row_number-number.result (row_number_at (rows_in (h c.args.n)) c.loop-row.row) k in
    ap (λ ns. ns ++ numbers_between (h c.args.n) (c.loop-row.row + 1) c.args.to) pushed
    ∙ (append_assoc c.loop-row.numbers.items (row_number_at (rows_in (h c.args.n)) c.loop-row.row ∷ []) (numbers_between (h c.args.n) (c.loop-row.row + 1) c.args.to)
    ∙ (ap (λ ns. c.loop-row.numbers.items ++ ns) (sym (between_next (rows_in (h c.args.n)) c.loop-row.row c.args.to l within)) ∙ i))

pub returns : goal.returns
returns c = λ scalars carries work columns so_far f cut h block shown closed among there ordered within.
    let i = c.loop-row.invariant scalars carries work columns so_far f cut h block shown closed among there ordered within in
    let l : c.args.to ≤ c.loop-row.row = omega (arith, c.loop-row-test.false) in
    sym (ap (λ ns. c.loop-row.numbers.items ++ ns) (between_none (rows_in (h c.args.n)) c.loop-row.row c.args.to l) ∙ append-nil c.loop-row.numbers.items) ∙ i
