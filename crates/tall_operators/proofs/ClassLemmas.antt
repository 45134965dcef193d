-- Operators in an integer class, by its ends.
use Rattle.std.specs.Prelude.{ℤ, Option, Some}
use Rattle.std.proofs.Common.{◌≡◌, sym, ◌∙◌, ap}
use Rattle.tall_int.specs.Arithmetic.{operation}
use Rattle.tall_int.specs.declared.operators.Arith.{Arith}
use Rattle.tall_value.specs.declared.class.IntKind.{IntKind}
use Rattle.tall_value.specs.Classes.{least, greatest}
use Rattle.tall_value.specs.CellOperators.{in_class}

pub in_class-is : (k : IntKind) (op : Arith) (low high : ℤ) (a b : Option ℤ) (x y r : ℤ) → least k ≡ low → greatest k ≡ high → a ≡ Some x → b ≡ Some y
    → r ≡ operation op low high x y → r ≡ in_class k op a b
in_class-is k op low high a b x y r l h is also made =
    made ∙ ap (λ n. operation op n high x y) (sym l) ∙ ap (λ n. operation op (least k) n x y) (sym h)
    ∙ ap (λ n. in_class k op n (Some y)) (sym is) ∙ ap (λ n. in_class k op a n) (sym also)
