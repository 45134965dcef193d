use Rattle.std.specs.Prelude.{◌+◌, ◌<◌, ◌≤◌, Some}
use Rattle.std.proofs.Common.{ap, ◌∙◌, arith}
use Rattle.tall_block.proofs.numbers.row_number.Goals as goal

pub returns-in-Number : goal.returns-in-Number
returns-in-Number c = λ scalars carries work columns so_far f cut h block shown closed row.
    let i = c.loop-turn.invariant.1 scalars carries work columns so_far f cut h block shown closed row in
    ap Some (c.in-Number.ensures.told scalars carries work columns so_far f cut h block shown closed i.0 ∙ i.1)

pub returns-in-Lost : goal.returns-in-Lost
returns-in-Lost c = λ scalars carries work columns so_far f cut h block shown closed row.
    let i = c.loop-turn.invariant.1 scalars carries work columns so_far f cut h block shown closed row in
    absurd (c.in-Lost.ensures.told scalars carries work columns so_far f cut h block shown closed i.0)

pub loop-turn-preserved : goal.loop-turn-preserved
loop-turn-preserved c =
    let l : c.in-Of.operand < c.loop-turn.node = c.in-Of.ensures.before in
    let k : c.loop-turn.node + c.loop-turn._turn ≤ c.args.n = c.loop-turn.invariant.0 in (
      omega (arith, l, k),
      λ scalars carries work columns so_far f cut h block shown closed row.
          let i = c.loop-turn.invariant.1 scalars carries work columns so_far f cut h block shown closed row in
          let t = c.in-Of.ensures.told scalars carries work columns so_far f cut h block shown closed i.0 in
          (t.0, t.1 ∙ i.1),
    )
