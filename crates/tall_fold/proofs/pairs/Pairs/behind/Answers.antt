use Rattle.std.proofs.Common.{◌∙◌, ap, drop}
use Rattle.tall_fold.proofs.PairLemmas.{behind_is, rest_is}
use Rattle.tall_fold.proofs.pairs.Pairs.behind.Goals as goal

pub returns : goal.returns
returns c =
    behind_is c.args.from c.args.self.now.numbers.items _ c.args.self.now.cells c.in_ok-slice.field-0 c.len.result c.requires.within c.requires.even (c.in_ok-from_slice.ensures.items ∙ rest_is c.args.from c.deref.result.now ∙ ap (drop c.args.from) c.deref.ensures.value) c.len.ensures c.in_ok-slice.ensures
