use Rattle.std.proofs.Common.{◌≡◌, ◌<◌, ◌++◌, ◌∷◌, [], get_or, length, rules}
use Rattle.tall_cut.proofs.Blocks.{ends_copied, ends_start, joined_next, joined_start}
use Rattle.tall_cut.proofs.copying.add_fields.Goals as goal

pub loop-k-init : goal.loop-k-init
loop-k-init c = record { bytes = joined_start c.args.bytes.now.items; ends = ends_start (length c.args.bytes.now.items) c.args.ends.now.items }

pub loop-k-preserved : goal.loop-k-preserved
loop-k-preserved c =
    let here : c.loop-k.k < length (get_or c.args.from.now c.args.i []) = search rules in
    let long : c.extend_from_slice.new.self.items ≡ c.loop-k.bytes.items ++ c.field.result.now = search rules in
    let size : c.len.result ≡ length c.extend_from_slice.new.self.items = search rules in
    let last : c.push.new.self.items ≡ c.loop-k.ends.items ++ c.len.result ∷ [] = search rules in
    record {
      bytes = joined_next _ _ _ _ _ _ here c.field.ensures c.loop-k.invariant.bytes long;
      ends = ends_copied _ _ _ _ _ _ _ _ _ _ here c.field.ensures c.loop-k.invariant.bytes long size c.loop-k.invariant.ends last;
    }
