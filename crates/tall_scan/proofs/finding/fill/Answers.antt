use Rattle.std.proofs.Common.{◌≡◌, ◌-◌, arith}
use Rattle.tall_scan.specs.Finding.{source_left}
use Rattle.tall_scan.proofs.Fills.{scanned_as, scanned_kept, scanned_more, scanned_none}
use Rattle.tall_scan.proofs.finding.fill.Goals as goal

pub loop-turn-init : goal.loop-turn-init
loop-turn-init g c = record {
  begun = c.requires.begun;
  scanned = rw c.requires.none (scanned_none c.args.delimiter (source_left g.R.Read.remaining c.args.source.now));
  fewer = c.requires.most;
}

pub loop-turn-preserved : goal.loop-turn-preserved
loop-turn-preserved g c =
    let left = c.in-Ok.ensures.most in
    record {
      begun = c.in-Ok.ensures.begun;
      scanned = scanned_more c.args.delimiter c.loop-turn.bytes.items c.take_some.new.bytes.items (source_left g.R.Read.remaining c.args.source.now) (source_left g.R.Read.remaining c.wait.new.source)
          (source_left g.R.Read.remaining c.take_some.new.source) c.loop-turn.state c.loop-turn.ended c.in-Ok.scan
          (scanned_kept c.args.delimiter c.loop-turn.bytes.items (source_left g.R.Read.remaining c.args.source.now) (source_left g.R.Read.remaining c.loop-turn.source)
          (source_left g.R.Read.remaining c.wait.new.source) c.loop-turn.state c.loop-turn.ended c.loop-turn.invariant.scanned c.in-Some.ensures.left)
          c.in-Ok.ensures.adds;
      fewer = omega arith;
    }

pub returns-then-ended-most : goal.returns-then-ended-most
returns-then-ended-most g c =
    let all = c.if-ended-most.true in
    let full : c.in-Ok.scan.ended ≡ c.args.most - c.loop-turn.ended = omega arith in
    scanned_as c.args.delimiter c.take_some.new.bytes.items (source_left g.R.Read.remaining c.args.source.now) (source_left g.R.Read.remaining c.take_some.new.source) _ _ _ _
    (c.in-Ok.ensures.full full) all
    (scanned_more c.args.delimiter c.loop-turn.bytes.items c.take_some.new.bytes.items (source_left g.R.Read.remaining c.args.source.now) (source_left g.R.Read.remaining c.wait.new.source)
    (source_left g.R.Read.remaining c.take_some.new.source) c.loop-turn.state c.loop-turn.ended c.in-Ok.scan
    (scanned_kept c.args.delimiter c.loop-turn.bytes.items (source_left g.R.Read.remaining c.args.source.now) (source_left g.R.Read.remaining c.loop-turn.source)
    (source_left g.R.Read.remaining c.wait.new.source) c.loop-turn.state c.loop-turn.ended c.loop-turn.invariant.scanned c.in-Some.ensures.left)
    c.in-Ok.ensures.adds)
