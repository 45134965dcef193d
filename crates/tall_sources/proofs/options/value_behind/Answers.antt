-- No name is left.
use Rattle.std.specs.Prelude.{map}
use Rattle.std.proofs.Common.{arith}
use Rattle.tall_sources.specs.Given.{memory_in, value_behind}
use Rattle.tall_sources.proofs.PairLoops.{value_none}
use Rattle.tall_sources.proofs.options.value_behind.Goals as goal

pub returns : goal.returns
returns c =
    value_none c.args.pairs.now c.loop-at.at c.args.name.now (value_behind (map memory_in c.args.pairs.now) c.args.name.now) (let h = c.loop-at-test.false in omega (arith, h)) c.loop-at.invariant.1
