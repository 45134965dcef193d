use Rattle.std.proofs.Common.{◌≡◌, ◌<◌, true}
use Rattle.tall_scan.specs.Finding.{Scanned, source_left}
use Rattle.tall_scan.proofs.finding.fill.Given as goal

abbrev pub invariant-loop-turn : goal.invariant-loop-turn
invariant-loop-turn g l = record {
  begun : l.source.begun ≡ true;
  scanned : Scanned l.delimiter l.bytes.items (source_left g.R.Read.remaining l.initial.source) (source_left g.R.Read.remaining l.source) l.state l.ended;
  fewer : l.ended < l.most;
}
