-- Pair by pair.
use Rattle.std.specs.Prelude.{◌+◌, map}
use Rattle.std.proofs.Common.{ap, ◌∙◌, arith}
use Rattle.tall_sources.specs.Given.{are_pairs, memory_in}
use Rattle.tall_sources.proofs.PairLoops.{new_so, pair_accepted, pair_refused, rest_of}
use Rattle.tall_sources.proofs.options.are_pairs.Goals as goal

pub returns-then-not-is_new_option : goal.returns-then-not-is_new_option
returns-then-not-is_new_option c =
    pair_refused c.args.pairs.now c.loop-at.at c.index-pairs-at.result c.is_new_option.result (are_pairs (map memory_in c.args.pairs.now)) c.loop-at-test.true c.index-pairs-at.is (c.is_new_option.ensures ∙ ap (new_so c.index-pairs-at.result) (rest_of c.args.pairs.now (c.loop-at.at + 2)))
    c.if-not-is_new_option.true c.loop-at.invariant.1

pub loop-at-preserved : goal.loop-at-preserved
loop-at-preserved c = (
  (let l = c.loop-at-test.true in omega (arith, l)),
  pair_accepted c.args.pairs.now c.loop-at.at c.index-pairs-at.result c.is_new_option.result (are_pairs (map memory_in c.args.pairs.now)) c.loop-at-test.true c.index-pairs-at.is (c.is_new_option.ensures ∙ ap (new_so c.index-pairs-at.result) (rest_of c.args.pairs.now (c.loop-at.at + 2)))
      c.if-not-is_new_option.false c.loop-at.invariant.1,
)
