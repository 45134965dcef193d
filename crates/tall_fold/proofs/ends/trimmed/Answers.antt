use Rattle.std.proofs.Common.{◌∙◌, sym}
use Rattle.tall_fold.proofs.PairLemmas.{length-paired, trimmed_if}
use Rattle.tall_fold.proofs.ends.trimmed.Goals as goal

pub returns : goal.returns
returns c =
    trimmed_if c.behind.result c.args.last c.args.most c.len-len.result _ c.args.pairs.cells.class c.if-not-last.false (c.len-len.ensures ∙ sym (length-paired c.args.pairs.numbers.items c.args.pairs.cells.cells c.requires.even)) c.behind.ensures
