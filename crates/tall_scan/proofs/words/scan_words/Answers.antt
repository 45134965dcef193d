use Rattle.std.proofs.Common.{arith}
use Rattle.tall_scan.proofs.Scans.{after_none, ended_none, words_more}
use Rattle.tall_scan.proofs.words.scan_words.Goals as goal

pub loop-taken-init : goal.loop-taken-init
loop-taken-init c = record {
  inside = omega arith;
  fewer = c.requires.most;
  scanned = λ a h. (rw (after_none c.args.delimiter a) h, ended_none c.args.delimiter a);
}

pub loop-taken-preserved : goal.loop-taken-preserved
loop-taken-preserved c = record {
  inside = omega arith;
  fewer = omega arith;
  scanned = words_more c.args.delimiter c.args.bytes.now c.loop-taken.taken c.loop-taken.ended c.in-Some.marked.ended c.args.start c.loop-taken.carry c.in-Some.marked.carry
      c.loop-taken.invariant.scanned c.in-Some.ensures;
}
