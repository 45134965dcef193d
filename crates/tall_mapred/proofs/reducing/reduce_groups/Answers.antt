use Rattle.std.proofs.Common.{◌+◌, ◌≤◌, arith, length, subst}
use Rattle.tall_grammar.specs.Views.{routine_of}
use Rattle.tall_mapred.proofs.PhaseLaws.{HasReduced, reduces_all}
use Rattle.tall_mapred.proofs.PieceLaws.{take_all}
use Rattle.tall_mapred.proofs.WindowLaws.{window_ends, window_reduced}
use Rattle.tall_mapred.proofs.reducing.reduce_groups.Goals as goal

pub returns-in-Err-clause-reduces : goal.returns-in-Err-clause-reduces
returns-in-Err-clause-reduces g c d =
    window_ends (routine_of c.args.function.now) c.args.groups.now c.loop-first.first c.min-count.result c.loop-first.out c.in-Err.fault c.loop-first.invariant.1 d (c.in-Err.ensures.appends d)

pub loop-first-preserved : goal.loop-first-preserved
loop-first-preserved g c =
    let within : c.loop-first.first + c.min-count.result ≤ length c.args.groups.now = (let least = c.min-count.ensures in let keys = c.len-keys.ensures in let more = c.loop-first-test.true in omega (arith, least, keys, more)) in
    (within, window_reduced (routine_of c.args.function.now) c.args.groups.now c.loop-first.first c.min-count.result c.loop-first.out c.reduce_window.new.out c.loop-first.invariant.1 (λ d rest. c.in-Ok.ensures.appends d rest))

pub returns-clause-reduces : goal.returns-clause-reduces
returns-clause-reduces g c d =
    let f = routine_of c.args.function.now in
    let all : length c.args.groups.now ≤ c.loop-first.first = (let keys = c.len-keys.ensures in let end = c.loop-first-test.false in omega (arith, keys, end)) in
    reduces_all f c.args.groups.now c.loop-first.out (subst (λ gs. HasReduced f gs c.loop-first.out) (take_all c.args.groups.now c.loop-first.first all) c.loop-first.invariant.1) d
