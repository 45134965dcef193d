use Rattle.std.specs.Prelude.{◌≡◌, ◌+◌, [], ◌∷◌, drop, option_map}
use Rattle.std.proofs.Common.{rules}
use Rattle.tall_semantics.specs.Faults.{fault_seen}
use Rattle.tall_piece.proofs.SumsLaws.{item_drop, nothing_left}
use Rattle.tall_pass.proofs.EndingListLaws.{last_fault, next_fault}
use Rattle.tall_pass.proofs.endings.least_fault.Goals as goal

pub loop-ended-preserved : goal.loop-ended-preserved
loop-ended-preserved c =
    let e : drop c.loop-ended.ended-index c.args.endings.now ≡ c.ended-item.result ∷ drop (c.loop-ended.ended-index + 1) c.args.endings.now = item_drop c.args.endings.now c.loop-ended.ended-index c.ended-item.result c.loop-ended-test.true c.ended-item.is in
    next_fault (drop c.loop-ended.ended-index c.args.endings.now) (drop (c.loop-ended.ended-index + 1) c.args.endings.now) c.args.endings.now c.ended-item.result (option_map fault_seen c.loop-ended.least) (option_map fault_seen c.fault_at_end.result)
    (option_map fault_seen c.earlier-least.result) e (search rules) (search rules) c.loop-ended.invariant

pub returns : goal.returns
returns c =
    let e : drop c.loop-ended.ended-index c.args.endings.now ≡ [] = nothing_left c.args.endings.now c.loop-ended.ended-index (search rules) in
    last_fault (drop c.loop-ended.ended-index c.args.endings.now) c.args.endings.now (option_map fault_seen c.loop-ended.least) e c.loop-ended.invariant
