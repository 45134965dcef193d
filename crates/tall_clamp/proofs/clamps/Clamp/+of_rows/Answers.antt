use Rattle.std.proofs.Common.{◌≡◌, ◌≤ℤ◌, ◌∷◌, ◌++◌, arith, ap, map, ◌∙◌}
use Rattle.std.proofs.lemmas.Int.{ints}
use Rattle.std.proofs.lemmas.List.{map-append}
use Rattle.tall_clamp.proofs.SumLemmas.{more_rows}
use Rattle.tall_clamp.proofs.RunLemmas.{first_and_rest}
use Rattle.tall_clamp.proofs.clamps.Clamp.+of_rows.Goals as goal

pub returns-else-rest-le-MOST : goal.returns-else-rest-le-MOST
returns-else-rest-le-MOST g t c =
    let ends = g.met.I.IntClass.narrow in
    let number = g.I.IntClass.number in
    let order : g.I.IntClass.MIN ≤ℤ g.I.IntClass.MAX = omega (arith, ints, ends.2, ends.3) in
    let rows : map g.I.IntClass.number c.args.rows.now ≡ (g.I.IntClass.number c.first-item.result ∷ map g.I.IntClass.number c.split_at.result.0.now) ++ map g.I.IntClass.number c.split_at.result.1.now =
    ap (map number) (first_and_rest c.args.rows.now c.first-item.result c.in-len1-up.len_at_least c.first-item.is)
    ∙ ap (λ l. number c.first-item.result ∷ map number l) c.split_at.ensures.by_index.0
    ∙ ap (λ l. number c.first-item.result ∷ l) (map-append number c.split_at.result.0.now c.split_at.result.1.now) in
    more_rows g.I.IntClass.MIN g.I.IntClass.MAX c.of_run-else-rest-le-MOST.result c.of_rows.result c.then.result
    (g.I.IntClass.number c.first-item.result ∷ map g.I.IntClass.number c.split_at.result.0.now) (map g.I.IntClass.number c.split_at.result.1.now) _ order c.of_run-else-rest-le-MOST.ensures c.of_rows.ensures c.then.ensures rows
