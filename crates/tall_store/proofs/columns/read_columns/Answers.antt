use Rattle.std.proofs.Common.{◌≡◌, ◌∙◌, ◌<◌, ap, length, get_or, rules}
use Rattle.tall_column.specs.Tables.{column_named}
use Rattle.tall_store.specs.Stores.{name_at}
use Rattle.tall_store.specs.Parts.{part_records}
use Rattle.tall_store.proofs.TableRows.{none_before}
use Rattle.tall_store.proofs.columns.read_columns.Goals as goal

pub read_next-requires-clause-new_name : goal.read_next-requires-clause-new_name
read_next-requires-clause-new_name c = λ none.
    let is : get_or c.places-place-items.result.now c.loop-place.place-index 0 ≡ get_or c.args.store.now.selected c.loop-place.place-index 0 =
    ap (λ xs. get_or xs c.loop-place.place-index 0) c.places-place-items.ensures.places in
    let within : c.loop-place.place-index < length c.args.store.now.selected = search rules in
    ap (λ p. column_named (name_at c.args.store.now p) c.loop-place.table) is
    ∙ ap (λ t. column_named (name_at c.args.store.now (get_or c.args.store.now.selected c.loop-place.place-index 0)) t) (c.loop-place.invariant.table none)
    ∙ none_before c.args.store.now (part_records c.args.part.now) c.args.store.now.selected c.loop-place.place-index within c.places-place-items.ensures.store.distinct
