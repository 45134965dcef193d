use Rattle.std.proofs.Common.{◌≡◌, length, sym, ap, ◌∙◌, arith, option_map, slice_get}
use Rattle.tall_value.specs.Cells.{seen}
use Rattle.tall_kv.proofs.ByKeyLemmas.{length_beside, key_beside}
use Rattle.tall_kv.proofs.groups.Groups.key.Goals as goal

pub get-requires : goal.get-requires
get-requires c =
    let e : length c.args.self.now ≡ length c.self.inside.keys.cells = ap length (sym c.self.view_is) ∙ length_beside c.self.inside.keys.cells c.self.inside.columns.items c.self.invariant in
    omega (arith, c.requires, e)

pub returns : goal.returns
returns c =
    ap (λ gs. option_map (λ g. g.key) (slice_get gs c.args.i)) (sym c.self.view_is)
    ∙ key_beside c.self.inside.keys.cells c.self.inside.columns.items c.args.i (seen c.get.result) c.self.invariant c.get.ensures.cell
