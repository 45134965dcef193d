use Rattle.std.proofs.Common.{length, sym, ap, ◌∙◌}
use Rattle.tall_kv.proofs.ByKeyLemmas.{length_beside}
use Rattle.tall_kv.proofs.groups.Groups.len.Goals as goal

pub returns : goal.returns
returns c = c.len.ensures ∙ sym (length_beside c.self.inside.keys.cells c.self.inside.columns.items c.self.invariant) ∙ ap length c.self.view_is
