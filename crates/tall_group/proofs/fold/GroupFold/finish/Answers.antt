use Rattle.tall_value.specs.Classes.{kind_of}
use Rattle.tall_group.proofs.NamedLemmas.{columns_even}
use Rattle.tall_group.proofs.fold.GroupFold.finish.Goals as goal

pub named-requires : goal.named-requires
named-requires c =
    let r = c.requires.rows in
    let s = c.args.self in
    columns_even s.method (kind_of s.value) r.0 r.1 c.in_ok-columns.columns (c.in_ok-columns.ensures.cells r.0 r.1 r.2)
