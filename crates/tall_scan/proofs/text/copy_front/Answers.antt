use Rattle.std.proofs.Common.{◌≡◌, ◌+◌, ◌∙◌, ◌++◌, ap, arith, length, sym, take-add}
use Rattle.std.proofs.lemmas.Simd.{length-chunk, length-put_chunk, take_more_put_chunk}
use lib.Lanes.{chunk}
use Rattle.tall_scan.proofs.text.copy_front.Goals as goal

pub loop-done-preserved : goal.loop-done-preserved
loop-done-preserved c =
    let l = c.loop-done in
    let v = chunk l.done 64 c.args.from.now in
    let long : length v ≡ 64 = length-chunk l.done 64 c.args.from.now (omega arith) in
    record {
      inside = omega arith;
      room = length-put_chunk l.done l.to v ∙ l.invariant.room;
      copied = take_more_put_chunk l.done l.to v (l.done + 64) (omega arith) (omega arith) ∙ ap (λ xs. xs ++ v) l.invariant.copied ∙ sym (take-add l.done 64 c.args.from.now);
    }
