use Rattle.std.proofs.Common.{ℕ, eqb, false, map, ap, ◌∙◌, arith, w8}
use Rattle.std.specs.Int.{bit_at}
use Rattle.std.proofs.lemmas.Simd.{bit_mask_l, bitmask_splat}
use Rattle.std.proofs.lemmas.List.{get_or-map}
use Rattle.tall_scan.specs.Words.{one_if}
use Rattle.tall_scan.proofs.words.equals.Goals as goal

pub returns : goal.returns
returns c k h =
    let p = λ (x : ℕ). eqb x c.args.byte in
    ap (λ n. bit_at n k) (bitmask_splat w8 eqb c.args.v 64 c.args.byte c.fits-v.0 (omega arith)) ∙ bit_mask_l (map p c.args.v) k
    ∙ ap one_if (get_or-map p c.args.v k 0 false (omega (arith, c.fits-v.0)))
