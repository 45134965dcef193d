use Rattle.tall_group.proofs.SortLemmas.{numbers_given, sorted_numbers, sorted_given}
use Rattle.tall_value.specs.Classes.{kind_of}
use Rattle.tall_group.proofs.keys.sorted_numbers.Goals as goal

pub returns-clause-sorted : goal.returns-clause-sorted
returns-clause-sorted c =
    let s = c.in_ok-sort_keys.ensures in
    let r = c.number_column in
    sorted_given r.result (λ x. x.column) (λ x. x.places.items) _ _ _ r.ensures.column r.ensures.places
    (sorted_numbers (kind_of c.args.class) c.requires.numeric _ _ c.requires.exact c.requires.places s.reordered.0 s.sorted s.unique)

pub returns-clause-kinds : goal.returns-clause-kinds
returns-clause-kinds c = numbers_given (kind_of c.args.class) c.number_column.result (λ x. x.column) _ _ c.number_column.ensures.column
