use Rattle.std.proofs.Common.{rules, ◌≡◌, ◌∙◌, ap, length, sym}
use Rattle.std.specs.Prelude.{take}
use Rattle.tall_local.specs.Pairs.{column_of_cells}
use Rattle.tall_kv.proofs.StoreLemmas.{keys_of_pairs, values_of_pairs}
use Rattle.tall_kv.proofs.rows.Rows.into_columns.Goals as goal

pub returns-clause-keys : goal.returns-clause-keys
returns-clause-keys c =
    let r = c.args.self in
    let count : c.len-rows.result ≡ length r.lines.items = search rules in
    c.in_ok-keys.ensures ∙ ap (λ n. column_of_cells (take n r.keys.cells)) count ∙ ap column_of_cells (sym (keys_of_pairs r.lines.items r.keys.cells r.values.cells c.requires.keys c.requires.values))

pub returns-clause-values : goal.returns-clause-values
returns-clause-values c =
    let r = c.args.self in
    let count : c.len-rows.result ≡ length r.lines.items = search rules in
    c.in_ok-values.ensures ∙ ap (λ n. column_of_cells (take n r.values.cells)) count ∙ ap column_of_cells (sym (values_of_pairs r.lines.items r.keys.cells r.values.cells c.requires.keys c.requires.values))
