use Rattle.std.proofs.Common.{refl}
use Rattle.tall_value.specs.declared.class.Kind.TheVariants.{Double}
use Rattle.tall_value.specs.Cells.{double}
use Rattle.tall_fold.proofs.KeptLemmas.{total_of_doubles, numbers_of_doubles, least_of_doubles, greatest_of_doubles, nonzeros_of_doubles, numel_of, height_of}
use Rattle.tall_fold.proofs.values.of_doubles.Goals as goal

pub returns-in-Sum-default-true : goal.returns-in-Sum-default-true
returns-in-Sum-default-true c =
    rw (c.in-Sum-default-true.is, c.in-Sum-default-true.omitnan-test)
    (numbers_of_doubles c.in-Sum-default-true.native c.args.rows.now c.total_of_numbers.result c.total_of_numbers.ensures.total c.total_of_numbers.ensures.rows)

pub returns-in-Sum-default-false : goal.returns-in-Sum-default-false
returns-in-Sum-default-false c =
    rw (c.in-Sum-default-false.is, c.in-Sum-default-false.omitnan-test)
    (total_of_doubles c.in-Sum-default-false.native c.args.rows.now c.of_wholes.result c.of_wholes.ensures)

pub returns-in-Min : goal.returns-in-Min
returns-in-Min c =
    rw c.in-Min.is (least_of_doubles c.args.rows.now c.extreme_of_doubles.result c.extreme_of_doubles.ensures.number c.extreme_of_doubles.ensures.rows c.extreme_of_doubles.ensures.within)

pub returns-in-Max : goal.returns-in-Max
returns-in-Max c =
    rw c.in-Max.is
    (greatest_of_doubles c.args.rows.now c.extreme_of_doubles-in-Max.result c.extreme_of_doubles-in-Max.ensures.number c.extreme_of_doubles-in-Max.ensures.rows c.extreme_of_doubles-in-Max.ensures.within)

pub returns-in-Nnz : goal.returns-in-Nnz
returns-in-Nnz c = rw c.in-Nnz.is (nonzeros_of_doubles c.args.rows.now c.nonzeros.result c.nonzeros.ensures.value c.nonzeros.ensures.few)

pub returns-in-Numel : goal.returns-in-Numel
returns-in-Numel c = rw c.in-Numel.is (numel_of Double (λ d. double d) c.args.rows.now _ (λ d. refl) refl)

pub returns-in-Height : goal.returns-in-Height
returns-in-Height c = rw c.in-Height.is (height_of Double (λ d. double d) c.args.rows.now _ (λ d. refl) refl)
