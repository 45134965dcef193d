use Rattle.std.proofs.Common.{length, refl}
use Rattle.tall_pass.specs.Takers.{shared_inputs}
use Rattle.tall_pass.proofs.WindowLaws.{are_pieces, waits_at}
use Rattle.tall_pass.proofs.window.pieces.Goals as goal

pub invariant_of-window-clause-ways : goal.invariant_of-window-clause-ways
invariant_of-window-clause-ways g c = ∣ c.requires.ways ∣₁

pub invariant_of-window-clause-waits : goal.invariant_of-window-clause-waits
invariant_of-window-clause-waits g c = waits_at (length c.args.shared.now.store.now.files) c.args.blocks.now c.requires.waits

pub returns : goal.returns
returns g c =
    are_pieces (shared_inputs c.args.shared.now) (length c.args.shared.now.store.now.files) c.args.first _ c.args.blocks.now c.work.result c.requires.waits refl c.work.ensures.all
    c.work.ensures.right
