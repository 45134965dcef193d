-- Carries, from what their fields hold.
use Rattle.std.proofs.Common.{◌≡◌, ℕ, ◌+◌, ◌<◌, ◌^◌, true, false, Ok, List, ◌++◌, length, refl, ap, sym, subst, ◌∙◌, arith, length-append}
use Rattle.std.specs.Prelude.{IsOk}
use Rattle.tall_value.specs.declared.class.Class.{Class}
use Rattle.tall_value.specs.declared.class.Kind.{Kind}
use Rattle.tall_value.specs.declared.class.Kind.TheVariants.{Integer, Logical, Double, Text}
use Rattle.tall_value.specs.declared.functions.Reduction.{Reduction}
use Rattle.tall_value.specs.declared.functions.Reduction.TheVariants.{Sum}
use Rattle.tall_value.specs.declared.functions.Scan.{Scan}
use Rattle.tall_value.specs.declared.functions.Scan.TheVariants.{CumSum, CumMin, CumMax}
use Rattle.tall_value.specs.Cells.{Seen}
use Rattle.tall_value.specs.Classes.{class_of, kind_of}
use Rattle.tall_value.specs.ClassTables.{class_result}
use Rattle.tall_value.specs.FunctionClasses.{scan_kind}
use Rattle.tall_value.proofs.KindLaws.{kind_again, same_ok}
use Rattle.tall_dense.specs.Columns.{SeenColumn}
use Rattle.tall_fold.specs.Summaries.{ComesTo, IsKeptOf}
use Rattle.tall_fold.specs.Carries.{IsCarried, IsCarry, IsFoldOf, IsResult, SeenCarry, result_kind, scan_fold}
use Rattle.tall_fold.specs.declared.kept.Kept.{Kept}
use Rattle.tall_fold.specs.declared.kept.Kept.TheVariants as kept

abbrev view : Scan → Class → ℕ → Kept → SeenCarry
view o k n a = record { operation = o; class = k; rows = n; kept = a }

ok_not : false ≡ true → ⊥
ok_not h = absurd cc

-- ---- the carry of a column or of a cell

logical_total : (cs : List Seen) (k : Kept) → IsKeptOf (Sum false false) Logical cs k → IsFoldOf CumSum Double cs k
logical_total cs (kept.Total s) h = record { form = refl; number = tt; comes = h.comes }
logical_total cs (kept.Clamp s) h = absurd (let f = h.form in cc)
logical_total cs (kept.Least s) h = absurd (let f = h.form in cc)
logical_total cs (kept.Greatest s) h = absurd (let f = h.form in cc)
logical_total cs (kept.Any s) h = absurd (let f = h.form in cc)
logical_total cs (kept.All s) h = absurd (let f = h.form in cc)
logical_total cs (kept.Number n) h = absurd (let f = h.form in cc)

pub as_result : (op : Scan) (a : Kind) (cs : List Seen) (k : Kept) → IsOk (class_result (scan_kind op a)) → IsKeptOf (scan_fold op a) a cs k → IsFoldOf op (result_kind a) cs k
as_result op (Integer j) cs k takes h = record { form = h.form; number = h.number; comes = h.comes }
as_result op Double cs k takes h = record { form = h.form; number = h.number; comes = h.comes }
as_result CumSum Logical cs k takes h = logical_total cs k h
as_result CumMin Logical cs k takes h = absurd (ok_not takes)
as_result CumMax Logical cs k takes h = absurd (ok_not takes)
as_result CumSum Text cs k takes h = absurd (ok_not takes)
as_result CumMin Text cs k takes h = absurd (ok_not takes)
as_result CumMax Text cs k takes h = absurd (ok_not takes)

result_is : (op : Scan) (a : Kind) → IsOk (class_result (scan_kind op a)) → IsResult (result_kind a)
result_is op (Integer j) takes = tt
result_is op Double takes = tt
result_is op Logical takes = tt
result_is CumSum Text takes = absurd (ok_not takes)
result_is CumMin Text takes = absurd (ok_not takes)
result_is CumMax Text takes = absurd (ok_not takes)

pub class_is : (op : Scan) (a : Kind) (class : Class) → class_result (scan_kind op a) ≡ Ok class → class ≡ class_of (result_kind a)
class_is CumSum (Integer j) class h = sym (same_ok _ _ h)
class_is CumSum Logical class h = sym (same_ok _ _ h)
class_is CumSum Double class h = sym (same_ok _ _ h)
class_is CumSum Text class h = absurd cc
class_is CumMin (Integer j) class h = sym (same_ok _ _ h)
class_is CumMin Logical class h = absurd cc
class_is CumMin Double class h = sym (same_ok _ _ h)
class_is CumMin Text class h = absurd cc
class_is CumMax (Integer j) class h = sym (same_ok _ _ h)
class_is CumMax Logical class h = absurd cc
class_is CumMax Double class h = sym (same_ok _ _ h)
class_is CumMax Text class h = absurd cc

made_is : (op : Scan) (a : Kind) → IsOk (class_result (scan_kind op a)) → class_result (scan_kind op a) ≡ Ok (class_of (result_kind a))
made_is CumSum (Integer j) takes = refl
made_is CumSum Logical takes = refl
made_is CumSum Double takes = refl
made_is CumSum Text takes = absurd (ok_not takes)
made_is CumMin (Integer j) takes = refl
made_is CumMin Logical takes = absurd (ok_not takes)
made_is CumMin Double takes = refl
made_is CumMin Text takes = absurd (ok_not takes)
made_is CumMax (Integer j) takes = refl
made_is CumMax Logical takes = absurd (ok_not takes)
made_is CumMax Double takes = refl
made_is CumMax Text takes = absurd (ok_not takes)

module _ (op : Scan) (a : Kind) (cs : List Seen) (n : ℕ) (k : Kept) (made : Class) (takes : IsOk (class_result (scan_kind op a))) (kind : made ≡ class_of (result_kind a))
    (rows : n ≡ length cs) (is : IsKeptOf (scan_fold op a) a cs k) where
  kind_is : kind_of made ≡ result_kind a
  kind_is = ap kind_of kind ∙ kind_again (result_kind a)

  fold_is : IsFoldOf op (kind_of made) cs k
  fold_is = subst (λ (b : Kind). IsFoldOf op b cs k) (sym kind_is) (as_result op a cs k takes is)

  pub carried : n < 2 ^ 40 → IsCarried op made n k
  carried few =
      record {
        kept = record { form = fold_is.form; few = few; within = (let w = is.within in omega (arith, rows, w)); number = fold_is.number };
        result_is = subst IsResult (sym kind_is) (result_is op a takes);
      }

  pub carry_is : IsCarry op made cs (view op made n k)
  carry_is = record { operation = refl; class_is = refl; rows = rows; comes = fold_is.comes }

  pub class_made : class_result (scan_kind op a) ≡ Ok made
  class_made = made_is op a takes ∙ ap Ok (sym kind)

-- ---- join

pub carry_join_is : (op : Scan) (class : Class) (cs ds : List Seen) (o p : Scan) (k l : Class) (m n : ℕ) (a b r : Kept) (s t : SeenCarry) → view o k m a ≡ s → view p l n b ≡ t
    → (ComesTo (scan_fold op (kind_of class)) (kind_of class) cs a → ComesTo (scan_fold op (kind_of class)) (kind_of class) ds b → ComesTo (scan_fold op (kind_of class)) (kind_of class) (cs ++ ds) r)
    → IsCarry op class cs s → IsCarry op class ds t → IsCarry op class (cs ++ ds) (view o k (m + n) r)
carry_join_is op class cs ds o p k l m n a b r s t v w comes first second =
    record {
      operation = ap (λ (x : SeenCarry). x.operation) v ∙ first.operation;
      class_is = ap (λ (x : SeenCarry). x.class) v ∙ first.class_is;
      rows = (let x : m ≡ length cs = ap (λ (x : SeenCarry). x.rows) v ∙ first.rows in let y : n ≡ length ds = ap (λ (x : SeenCarry). x.rows) w ∙ second.rows in let z = length-append cs ds in omega (arith, x, y, z));
      comes = comes (subst (ComesTo (scan_fold op (kind_of class)) (kind_of class) cs) (sym (ap (λ (x : SeenCarry). x.kept) v)) first.comes)
          (subst (ComesTo (scan_fold op (kind_of class)) (kind_of class) ds) (sym (ap (λ (x : SeenCarry). x.kept) w)) second.comes);
    }

-- ---- a column whose values were lent

pub kept_here : (op : Scan) (r : Reduction) (column lent : SeenColumn) (k : Kept) → lent ≡ column → r ≡ scan_fold op (kind_of column.class) → IsKeptOf r (kind_of lent.class) lent.cells k
    → IsKeptOf (scan_fold op (kind_of column.class)) (kind_of column.class) column.cells k
kept_here op r column lent k same fold is =
    subst (λ (f : Reduction). IsKeptOf f (kind_of column.class) column.cells k) fold
    (subst (λ (c : SeenColumn). IsKeptOf r (kind_of c.class) c.cells k) same is)
