use Rattle.std.proofs.Common.{◌≡◌, sym, subst, length}
use Rattle.std.specs.Prelude.{None, is_ok}
use Rattle.tall_column.specs.Tables.{FitsHeight, column_named}
use Rattle.tall_column.proofs.TableLemmas.{table_after}
use Rattle.tall_column.proofs.table.Table.add.Goals as goal

pub invariant_of-self : goal.invariant_of-self
invariant_of-self c =
    table_after (is_ok c.push.result) c.self.inside.columns.items c.push.new.self.items c.args.name.now c.in-Ok.kept c.args.column c.self.invariant
    (subst (λ es. column_named c.args.name.now es ≡ None) (sym c.self.view_is) c.requires.new_name)
    (subst (λ es. FitsHeight (length c.args.column.cells) es) (sym c.self.view_is) c.requires.same_height)
    c.in-Ok.ensures c.push.ensures.items
