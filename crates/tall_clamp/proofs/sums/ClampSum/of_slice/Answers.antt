use Rattle.tall_clamp.proofs.RunLemmas.{first_and_rest, slice_is_fold}
use Rattle.tall_clamp.proofs.sums.ClampSum.of_slice.Goals as goal

pub returns-in-len1-up : goal.returns-in-len1-up
returns-in-len1-up g c =
    let ends = g.met.I.IntClass.narrow in
    slice_is_fold g.I.IntClass.MIN g.I.IntClass.MAX g.I.IntClass.number c.args.rows.now _ c.first-item.result c.of_run.result ends.0 ends.1
    c.of_run.ensures.input.0 c.of_run.ensures.input.1 c.of_run.ensures.value
    (first_and_rest c.args.rows.now c.first-item.result c.in-len1-up.len_at_least c.first-item.is)
