use Rattle.std.proofs.Common.{◌≡◌, ◌<◌, ◌+◌, ◌-◌, ◌∙◌, sym, arith, length}
use Rattle.csv.proofs.RecordFacts.{prev-first, prev-next}
use Rattle.tall_cut.proofs.block.start_of.Goals as goal

pub returns-then-i-eq0 : goal.returns-then-i-eq0
returns-then-i-eq0 c = rw c.if-i-eq0.true (sym (prev-first _))

pub returns-else-i-eq0 : goal.returns-else-i-eq0
returns-else-i-eq0 c =
    let one : (c.args.i - 1) + 1 ≡ c.args.i = omega arith in
    let lt : (c.args.i - 1) + 1 < length c.args.ends.now.items = rw one c.requires in
    let e = rw one at (prev-next 0 c.args.ends.now.items (c.args.i - 1) c.index.result.now lt) in
    c.index.ensures ∙ sym e
