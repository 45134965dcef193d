use Rattle.std.proofs.Common.{◌∙◌, refl, sym}
use Rattle.tall_fold.proofs.PairLemmas.{length-paired, made_room}
use Rattle.tall_fold.proofs.ends.make_room.Goals as goal

pub returns-in_ok-pairs-clause-rows : goal.returns-in_ok-pairs-clause-rows
returns-in_ok-pairs-clause-rows c =
    made_room c.args.most _ _ _ c.len-len.result c.in_ok-pairs.ensures.0 (c.len-len.ensures ∙ sym (length-paired c.args.pairs.now.numbers.items c.args.pairs.now.cells.cells c.requires)) refl
