use Rattle.std.proofs.Common.{◌≡◌, length, sym, ap, ◌∙◌, arith, option_map, slice_get}
use Rattle.tall_kv.proofs.ByKeyLemmas.{length_beside, column_beside}
use Rattle.tall_kv.proofs.groups.Groups.values.Goals as goal

pub index-requires : goal.index-requires
index-requires c =
    let e : length c.args.self.now ≡ length c.self.inside.keys.cells = ap length (sym c.self.view_is) ∙ length_beside c.self.inside.keys.cells c.self.inside.columns.items c.self.invariant in
    omega (arith, c.requires, e, c.self.invariant)

pub returns : goal.returns
returns c =
    let e : length c.args.self.now ≡ length c.self.inside.keys.cells = ap length (sym c.self.view_is) ∙ length_beside c.self.inside.keys.cells c.self.inside.columns.items c.self.invariant in
    ap (λ gs. option_map (λ g. g.values) (slice_get gs c.args.i)) (sym c.self.view_is)
    ∙ column_beside c.self.inside.keys.cells c.self.inside.columns.items c.args.i c.index.result.now c.self.invariant (omega (arith, c.requires, e)) c.index.ensures
