use Rattle.std.specs.Prelude.{ℤ, ◌≤ℤ◌}
use Rattle.std.proofs.Common.{◌≡◌, ◌∙◌, ap, map, refl, rules, subst, sym, true}
use Rattle.tall_value.specs.Cells.{double, whole}
use Rattle.tall_value.specs.Classes.{least, greatest}
use Rattle.tall_value.specs.CellOperators.{converted}
use Rattle.tall_value.specs.Columns.{numbered}
use Rattle.tall_value.specs.Elementwise.{scalar_rows}
use Rattle.tall_column.specs.Mapped.{AnswersIfMade}
use Rattle.tall_column.specs.Scalars.{is_bits}
use Rattle.tall_column.proofs.ScalarLemmas.{rows_of_bits}
use Rattle.tall_column.proofs.scalars.integer_with_double.Goals as goal

pub returns-then-is_bits : goal.returns-then-is_bits
returns-then-is_bits g c =
    let kind = g.I.Integer.KIND in
    let number = g.I.IntClass.number in
    let bits : is_bits c.args.op ≡ true = sym c.is_bits.ensures ∙ c.if-is_bits.true in
    let ends : least kind ≤ℤ greatest kind =
    subst (λ n. n ≤ℤ greatest kind) (sym g.met.I.Integer.least_is) (subst (λ n. g.I.IntClass.MIN ≤ℤ n) (sym g.met.I.Integer.greatest_is) g.met.I.Integer.within.1) in
    let value : number c.nearest-value.result ≡ converted kind c.args.scalar = c.nearest-value.ensures ∙ ap (λ n. converted kind n) c.amount.ensures in
    subst (λ rows. AnswersIfMade rows c.integer_beside.result)
    (sym (rows_of_bits (λ x. whole kind (number x)) number c.args.op c.args.scalar_left kind (number c.nearest-value.result) c.args.scalar c.args.items.now (λ a. refl) bits ends value))
    c.integer_beside.ensures
