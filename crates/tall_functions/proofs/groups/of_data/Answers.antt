use Rattle.std.proofs.Common.{◌≡◌, sym}
use Rattle.tall_functions.proofs.GroupLemmas.{same_height}
use Rattle.tall_functions.proofs.groups.of_data.Goals as goal

pub summary-requires : goal.summary-requires
summary-requires c =
    record {
      even = same_height c.args.t.now c.args.key.now c.args.value.now c.in-Some.g.now c.in-Some-column.v.now c.height-rows.ensures.table (sym c.in-Some.ensures) (sym c.in-Some-column.ensures);
    }
