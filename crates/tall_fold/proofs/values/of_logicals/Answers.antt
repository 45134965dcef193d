use Rattle.std.proofs.Common.{refl}
use Rattle.tall_value.specs.declared.class.Kind.TheVariants.{Logical}
use Rattle.tall_value.specs.Cells.{logical}
use Rattle.tall_fold.proofs.KeptLemmas.{total_of_logicals, any_of_logicals, all_of_logicals, nonzeros_of_logicals, numel_of, height_of}
use Rattle.tall_fold.proofs.values.of_logicals.Goals as goal

pub returns-in-Sum-false-default : goal.returns-in-Sum-false-default
returns-in-Sum-false-default c =
    rw (c.in-Sum-false-default.is, c.in-Sum-false-default.native-test)
    (total_of_logicals c.in-Sum-false-default.omitnan c.args.rows.now c.total_of_logicals.result c.total_of_logicals.ensures.total c.total_of_logicals.ensures.rows)

pub returns-in-Any : goal.returns-in-Any
returns-in-Any c = rw c.in-Any.is (any_of_logicals c.args.rows.now c.fold_rows.result c.fold_rows.ensures.value)

pub returns-in-All : goal.returns-in-All
returns-in-All c = rw c.in-All.is (all_of_logicals c.args.rows.now c.fold_rows-in-All.result c.fold_rows-in-All.ensures.value)

pub returns-in-Nnz : goal.returns-in-Nnz
returns-in-Nnz c = rw c.in-Nnz.is (nonzeros_of_logicals c.args.rows.now c.nonzeros.result c.nonzeros.ensures.value c.nonzeros.ensures.few)

pub returns-in-Numel : goal.returns-in-Numel
returns-in-Numel c = rw c.in-Numel.is (numel_of Logical (λ b. logical b) c.args.rows.now _ (λ b. refl) refl)

pub returns-in-Height : goal.returns-in-Height
returns-in-Height c = rw c.in-Height.is (height_of Logical (λ b. logical b) c.args.rows.now _ (λ b. refl) refl)
