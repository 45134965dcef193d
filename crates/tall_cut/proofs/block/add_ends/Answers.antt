use Rattle.std.proofs.Common.{◌<◌, length, arith, ap, rules}
use Rattle.csv.specs.Records.{fields_of}
use Rattle.tall_cut.proofs.Blocks.{end_next, end_start, ends_next, ends_start}
use Rattle.tall_cut.proofs.block.add_ends.Goals as goal

pub loop-k-init : goal.loop-k-init
loop-k-init c = record {
  inside = c.requires;
  end = end_start c.args.from;
  room = omega (arith, c.in_ok-reserve.ensures.ok);
  ends = ends_start c.args.from c.reserve.new.self.items;
}

pub loop-k-preserved : goal.loop-k-preserved
loop-k-preserved c =
    let fields = fields_of c.args.row.now in
    let here : c.loop-k.k < length fields = search rules in
    let fits = c.if-to-end.false in
    let inside = c.loop-k.invariant.inside in
    let width = ap length c.field_at-width.ensures in
    record {
      inside = omega arith;
      end = end_next fields c.loop-k.k _ _ _ here c.loop-k.invariant.end width;
      room = omega arith;
      ends = ends_next fields c.loop-k.k _ _ _ _ _ _ here c.loop-k.invariant.end width c.loop-k.invariant.ends c.push_reserved.ensures.items;
    }
