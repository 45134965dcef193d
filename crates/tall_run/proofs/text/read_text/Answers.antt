use Rattle.std.proofs.Common.{rules, arith, ◌≡◌, ◌≤◌, ◌<◌, length}
use Rattle.tall_run.proofs.Reading.{read_to_end, read_to_limit}
use Rattle.tall_run.proofs.text.read_text.Goals as goal
use Rattle.tall_run.proofs.text.read_text.Goals.{else-loop-chunk-test, then-loop-chunk-test+in-Ok+then-count-eq0}

pub returns-clause-text : goal.returns-clause-text
returns-clause-text g c =
    let within : length c.loop-chunk.text.items ≤ 1048577 = c.loop-chunk.invariant.within in
    elim c.loop-chunk-test.branch [
      | else-loop-chunk-test w ↦
          let least : 1048577 ≤ length c.loop-chunk.text.items = search rules in
          let full : length c.loop-chunk.text.items ≡ 1048577 = omega (arith, within, least) in
          read_to_limit 1048577 _ _ _ c.loop-chunk.invariant.bytes full
      | then-loop-chunk-test+in-Ok+then-count-eq0 w ↦
          let none : w.in-Ok.count ≡ 0 = search rules in
          let some : 0 < length w.read.new.buf = search rules in
          read_to_end 1048577 _ _ _ _ w.read.new.buf w.in-Ok.count c.loop-chunk.invariant.bytes w.in-Ok.ensures.bytes.0 none
          (w.in-Ok.ensures.bytes.1 none some) within
    ]
