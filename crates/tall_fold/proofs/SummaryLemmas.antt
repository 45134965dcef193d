-- Summaries, from what their fields hold.
use Rattle.std.proofs.Common.{◌≡◌, ℕ, ◌+◌, ◌<◌, ◌^◌, true, false, Result, Ok, Err, List, [], ◌∷◌, ◌++◌, length, refl, ap, sym, subst, ◌∙◌, arith, length-append}
use Rattle.std.specs.Prelude.{IsOk}
use Rattle.std.specs.List.{All}
use Rattle.std.proofs.lemmas.List.Elements.{All-append}
use Rattle.tall_clamp.specs.declared.faults.FinishFault.{FinishFault}
use Rattle.tall_clamp.specs.declared.faults.FinishFault.TheVariants as finish
use Rattle.tall_value.specs.declared.cell.Cell.{Cell}
use Rattle.tall_value.specs.declared.class.Class.{Class}
use Rattle.tall_value.specs.declared.class.Kind.{Kind}
use Rattle.tall_value.specs.declared.faults.ClassFault.{ClassFault}
use Rattle.tall_value.specs.declared.functions.Reduction.{Reduction}
use Rattle.tall_value.specs.Cells.{Seen, seen, seen_kind}
use Rattle.tall_value.specs.Classes.{class_of, kind_of}
use Rattle.tall_value.specs.ClassTables.{class_result}
use Rattle.tall_value.specs.Columns.{HasKind}
use Rattle.tall_value.specs.FunctionClasses.{reduction_class, reduction_kind}
use Rattle.tall_value.specs.Reductions.{reduced}
use Rattle.tall_value.proofs.FunctionLaws.{reduced_kind}
use Rattle.tall_dense.specs.Columns.{SeenColumn}
use Rattle.tall_fold.specs.Forms.{form_of}
use Rattle.tall_fold.specs.Summaries.{SeenSummary, IsSummary, IsKept, IsKeptOf, IsFound, Finishes, HasNumber, ComesTo, kept_form, kept_rows}
use Rattle.tall_fold.specs.declared.kept.Kept.{Kept}

abbrev view : Reduction → Class → ℕ → Kept → SeenSummary
view o k n a = record { operation = o; class = k; rows = n; kept = a }

-- ---- finish

pub kept_of_summary : (op : Reduction) (class : Class) (cs : List Seen) (o : Reduction) (k : Class) (n : ℕ) (a : Kept) (s : SeenSummary) → view o k n a ≡ s → IsKept o k n a → IsSummary op class cs s
    → IsKeptOf op (kind_of class) cs a
kept_of_summary op class cs o k n a s v i is =
    let ops : o ≡ op = ap (λ (t : SeenSummary). t.operation) v ∙ is.operation in
    let classes : k ≡ class = ap (λ (t : SeenSummary). t.class) v ∙ is.class_is in
    let rows : n ≡ length cs = ap (λ (t : SeenSummary). t.rows) v ∙ is.rows in
    let kept : s.kept ≡ a = sym (ap (λ (t : SeenSummary). t.kept) v) in
    record {
      form = i.form ∙ ap (λ (p : Reduction). form_of p (kind_of k)) ops ∙ ap (λ (c : Class). form_of op (kind_of c)) classes;
      within = (let w = i.within in omega (arith, rows, w));
      number = subst (λ (c : Class). HasNumber (kind_of c) a) classes i.number;
      cells = is.cells;
      comes = subst (ComesTo op (kind_of class) cs) kept is.comes;
    }

ok_not : false ≡ true → ⊥
ok_not h = absurd cc

ok_kind : (r : Result Kind ClassFault) → IsOk (class_result r) → IsOk r
ok_kind (Ok j) h = refl
ok_kind (Err e) h = absurd (ok_not h)

pub found_here : (op : Reduction) (class : Class) (cs : List Seen) (a : Kept) (k : Kind) (r : Result Cell FinishFault) → k ≡ kind_of class → IsOk (reduction_class op class)
    → ((o : Reduction) (ds : List Seen) → IsOk (reduction_kind o k) → IsKeptOf o k ds a → IsFound (reduced o k ds) r) → IsKeptOf op (kind_of class) cs a
    → IsFound (reduced op (kind_of class) cs) r
found_here op class cs a k r e takes f is =
    subst (λ (b : Kind). IsOk (reduction_kind op b) → IsKeptOf op b cs a → IsFound (reduced op b cs) r) e (f op cs) (ok_kind (reduction_kind op (kind_of class)) takes) is

class_found : (op : Reduction) (a : Kind) (cs : List Seen) (c : Seen) (r : Result Kind ClassFault) → reduction_kind op a ≡ r → IsOk (class_result r) → All (HasKind a) cs → reduced op a cs ≡ Ok c
    → class_result r ≡ Ok (class_of (seen_kind c))
class_found op a cs c (Ok j) e takes are is = ap (λ (k : Kind). Ok (class_of k)) (sym (reduced_kind op a j cs c are e is))
class_found op a cs c (Err x) e takes are is = absurd (ok_not takes)

pub finished : (op : Reduction) (class : Class) (cs : List Seen) (cell : Cell) (column made : SeenColumn) → IsOk (reduction_class op class) → All (HasKind (kind_of class)) cs
    → reduced op (kind_of class) cs ≡ Ok (seen cell) → made.cells ≡ [] → made.class ≡ class_of (seen_kind (seen cell)) → column ≡ record { class = made.class; cells = made.cells ++ seen cell ∷ [] }
    → (x : Seen) × (reduced op (kind_of class) cs ≡ Ok x) × (column.cells ≡ x ∷ []) × (reduction_class op class ≡ Ok column.class)
finished op class cs cell column made takes are is none of_class e = (
  seen cell,
  is,
  ap (λ (t : SeenColumn). t.cells) e ∙ ap (λ (l : List Seen). l ++ seen cell ∷ []) none,
  class_found op (kind_of class) cs (seen cell) (reduction_kind op (kind_of class)) refl takes are is ∙ ap Ok (sym (ap (λ (t : SeenColumn). t.class) e ∙ of_class)),
)

pub not_found : (op : Reduction) (class : Class) (cs : List Seen) (e : FinishFault) → IsFound (reduced op (kind_of class) cs) (Err e) → Finishes (reduced op (kind_of class) cs) op class (Err e)
not_found op class cs finish.Inexact h = h
not_found op class cs finish.NoRows h = h
not_found op class cs finish.Memory h = tt

-- ---- join

pub join_keeps : (o p : Reduction) (k l : Class) (m n : ℕ) (a b r : Kept) → l ≡ k → m + n < 2 ^ 40 → IsKept o k m a → IsKept p l n b
    → kept_form r ≡ kept_form a → kept_rows r ≡ kept_rows a + kept_rows b → ((c : Kind) → HasNumber c a → HasNumber c b → HasNumber c r)
    → IsKept o k (m + n) r
join_keeps o p k l m n a b r e few i j form rows number =
    record {
      form = form ∙ i.form;
      few = few;
      within = (let v = i.within in let w = j.within in omega (arith, rows, v, w));
      number = number (kind_of k) i.number (subst (λ (c : Class). HasNumber (kind_of c) b) e j.number);
    }

pub join_is : (op : Reduction) (class : Class) (cs ds : List Seen) (o p : Reduction) (k l : Class) (m n : ℕ) (a b r : Kept) (s t : SeenSummary) → view o k m a ≡ s → view p l n b ≡ t
    → ((q : Reduction) (c : Kind) (xs ys : List Seen) → ComesTo q c xs a → ComesTo q c ys b → ComesTo q c (xs ++ ys) r) → IsSummary op class cs s → IsSummary op class ds t
    → IsSummary op class (cs ++ ds) (view o k (m + n) r)
join_is op class cs ds o p k l m n a b r s t v w comes first second =
    record {
      operation = ap (λ (x : SeenSummary). x.operation) v ∙ first.operation;
      class_is = ap (λ (x : SeenSummary). x.class) v ∙ first.class_is;
      takes = first.takes;
      rows = (let x : m ≡ length cs = ap (λ (x : SeenSummary). x.rows) v ∙ first.rows in let y : n ≡ length ds = ap (λ (x : SeenSummary). x.rows) w ∙ second.rows in let z = length-append cs ds in omega (arith, x, y, z));
      cells = All-append (HasKind (kind_of class)) cs ds first.cells second.cells;
      comes = comes op (kind_of class) cs ds (subst (ComesTo op (kind_of class) cs) (sym (ap (λ (x : SeenSummary). x.kept) v)) first.comes) (subst (ComesTo op (kind_of class) ds) (sym (ap (λ (x : SeenSummary). x.kept) w)) second.comes);
    }
