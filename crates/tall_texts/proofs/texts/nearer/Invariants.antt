use Rattle.std.specs.Prelude.{vec_len, vec_capacity}
use Rattle.std.proofs.Common.{◌≡◌, take, length}
use Rattle.tall_texts.specs.Texts.{nearer}
use Rattle.tall_texts.proofs.texts.nearer.Given as goal

abbrev pub invariant-loop-end : goal.invariant-loop-end
invariant-loop-end l =
    (vec_capacity l.out ≡ length l.ends) × (vec_len l.out ≡ l.end-index) × (l.out.items ≡ nearer l.by (take l.end-index l.ends))
