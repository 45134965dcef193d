use Rattle.std.proofs.Common.{rules, ◌≡◌, ◌∙◌, ◌+◌, ◌++◌, [], ◌∷◌, ap, map}
use Rattle.std.specs.Prelude.{◌-◌}
use Rattle.std.specs.List.{range_with_len}
use Rattle.tall_store.specs.Names.{numbered_name, numbered_names}
use Rattle.tall_store.proofs.HeaderNames.{range_more}
use Rattle.tall_store.proofs.names.numbered_names.Goals as goal

pub loop-k-preserved : goal.loop-k-preserved
loop-k-preserved c =
    let pushed : c.push.new.self.items ≡ c.loop-k.names.items ++ c.in_ok-numbered_name.field-0 ∷ [] = search rules in
    ap (λ names. names ++ map numbered_name (range_with_len (c.loop-k.k + 1 + 1) (c.args.n - (c.loop-k.k + 1)))) pushed
    ∙ range_more numbered_name c.loop-k.names.items (c.args.n - c.loop-k.k) (c.args.n - (c.loop-k.k + 1)) (c.loop-k.k + 1) c.in_ok-numbered_name.field-0
    (numbered_names c.args.n) (search rules) c.in_ok-numbered_name.ensures c.loop-k.invariant
