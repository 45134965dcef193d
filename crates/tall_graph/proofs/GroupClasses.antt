-- The class of a column of `groupsummary`, where the method takes the class of the data.
use Rattle.std.specs.Prelude.{◌≡◌, refl, Result, Ok, Err, [], ◌∷◌, get_or}
use Rattle.std.proofs.Common.{ap, sym, ◌∙◌}
use Rattle.tall_value.specs.declared.class.Class.{Class}
use Rattle.tall_value.specs.declared.class.Class.TheVariants as class
use Rattle.tall_value.specs.declared.class.Kind.{Kind}
use Rattle.tall_value.specs.declared.class.Kind.TheVariants.{Double}
use Rattle.tall_value.specs.declared.faults.ClassFault.{ClassFault}
use Rattle.tall_value.specs.declared.functions.Method.{Method}
use Rattle.tall_value.specs.declared.functions.Method.TheVariants as method
use Rattle.tall_value.specs.Classes.{class_of, kind_of}
use Rattle.tall_value.specs.FunctionClasses.{method_kind, class_results}
use Rattle.tall_semantics.specs.Operations.{Part, keys, counts, values}
use Rattle.tall_semantics.specs.Equality.{part_place}
use Rattle.tall_semantics.specs.Shapes.{ShapeRefusal, allowed, part_class, group_class}

abbrev class_ok : Class → Result Class ShapeRefusal
class_ok c = Ok c

abbrev of_columns : Part → (key value : Class) → Class
of_columns part key value = get_or (class_of (kind_of key) ∷ class.Double ∷ value ∷ []) (part_place part) class.Double

abbrev after : Part → Class → Result Kind ClassFault → Result Class ShapeRefusal
after part key r = allowed (part_class part (class_results (elim r [ Ok k ↦ Ok (kind_of key ∷ Double ∷ k ∷ []) | Err e ↦ Err e ])))

kind_in : Result Kind ClassFault → Kind
kind_in (Ok k) = k
kind_in (Err e) = Double

counted : (part : Part) (key : Class) (k : Kind) → Double ≡ k → group_class method.Count part key key ≡ class_ok (of_columns part key (class_of k))
counted keys key k h = refl
counted counts key k h = refl
counted values key k h = ap (λ k. class_ok (class_of k)) h

group_ok : (m : Method) (part : Part) (key column : Class) (k : Kind) → method_kind m (kind_of column) ≡ Ok k → group_class m part key column ≡ class_ok (of_columns part key (class_of k))
unfolding kind_in
group_ok method.Count part key column k h = counted part key k (ap kind_in h)
group_ok method.Sum part key column k h = ap (after part key) h
group_ok method.SumNative part key column k h = ap (after part key) h
group_ok method.Min part key column k h = ap (after part key) h
group_ok method.Max part key column k h = ap (after part key) h
group_ok method.Nnz part key column k h = ap (after part key) h
group_ok method.Nummissing part key column k h = ap (after part key) h

pub group_made : (m : Method) (part : Part) (key column : Class) (k : Kind) (value r : Class) → method_kind m (kind_of column) ≡ Ok k → value ≡ class_of k → r ≡ of_columns part key value
    → class_ok r ≡ group_class m part key column
group_made m part key column k value r h v e = ap class_ok (e ∙ ap (of_columns part key) v) ∙ sym (group_ok m part key column k h)
