-- One more of both.
use Rattle.std.specs.Prelude.{◌∷◌, [], ◌++◌, length}
use Rattle.std.proofs.Common.{ap, ◌∙◌, arith}
use Rattle.tall_sources.proofs.SourceLemmas.{count, one_added}
use Rattle.tall_sources.proofs.sources.Sources.add.Goals as goal

pub returns : goal.returns
returns c = (
  (let e = c.len-place.ensures in let n = ap length c.in_ok-reserve.ensures.items ∙ count c.self.inside.calls.items c.self.inside.stores.items c.args.self.now c.self.invariant c.self.view_is in omega (arith, e, n, c.reserve.new.self.ok.0)),
  one_added c.self.inside.calls.items c.self.inside.stores.items c.args.self.now c.self.invariant c.self.view_is c.push.new.self.items c.push_reserved.new.self.items c.args.at c.args.store c.in_ok-push.ensures.items
      (c.push_reserved.ensures.items ∙ ap (λ xs. xs ++ c.args.store ∷ []) c.in_ok-reserve.ensures.items),
)
