use Rattle.std.proofs.Common.{◌≡◌, ◌∷◌, [], ◌∙◌, Ok, ap, arith, refl, subst}
use Rattle.std.specs.Prelude.{IsOk}
use Rattle.tall_value.specs.Cells.{seen, seen_kind}
use Rattle.tall_value.specs.Classes.{class_of, kind_of}
use Rattle.tall_value.specs.ClassTables.{class_result}
use Rattle.tall_value.specs.FunctionClasses.{scan_kind}
use Rattle.tall_value.proofs.KindLaws.{kind_again}
use Rattle.tall_fold.specs.Carries.{result_kind}
use Rattle.tall_fold.proofs.CarryLemmas.{carried, carry_is, class_made}
use Rattle.tall_fold.proofs.carries.Carry.of.Goals as goal

pub invariant_of-result : goal.invariant_of-result
invariant_of-result c =
    let a = seen_kind (seen c.args.cell.now) in
    let again : kind_of (class_of a) ≡ a = kind_again a in
    let takes : IsOk (class_result (scan_kind c.args.operation a)) = subst (λ (b : _). IsOk (class_result (scan_kind c.args.operation b))) again c.requires in
    let made : c.class-2.result ≡ class_of (result_kind a) = c.class-2.ensures ∙ ap class_of (c.kind_of_result.ensures ∙ ap result_kind (c.kind.ensures ∙ ap kind_of c.class.ensures ∙ again)) in
    carried c.args.operation a (seen c.args.cell.now ∷ []) 1 c.kept_of_cell.result c.class-2.result takes made refl c.kept_of_cell.ensures (omega arith)

pub returns-clause-class : goal.returns-clause-class
returns-clause-class c =
    let a = seen_kind (seen c.args.cell.now) in
    let again : kind_of (class_of a) ≡ a = kind_again a in
    let takes : IsOk (class_result (scan_kind c.args.operation a)) = subst (λ (b : _). IsOk (class_result (scan_kind c.args.operation b))) again c.requires in
    let made : c.class-2.result ≡ class_of (result_kind a) = c.class-2.ensures ∙ ap class_of (c.kind_of_result.ensures ∙ ap result_kind (c.kind.ensures ∙ ap kind_of c.class.ensures ∙ again)) in
    ap (λ (b : _). class_result (scan_kind c.args.operation b)) again
    ∙ class_made c.args.operation a (seen c.args.cell.now ∷ []) 1 c.kept_of_cell.result c.class-2.result takes made refl c.kept_of_cell.ensures

pub returns-clause-carry : goal.returns-clause-carry
returns-clause-carry c =
    let a = seen_kind (seen c.args.cell.now) in
    let again : kind_of (class_of a) ≡ a = kind_again a in
    let takes : IsOk (class_result (scan_kind c.args.operation a)) = subst (λ (b : _). IsOk (class_result (scan_kind c.args.operation b))) again c.requires in
    let made : c.class-2.result ≡ class_of (result_kind a) = c.class-2.ensures ∙ ap class_of (c.kind_of_result.ensures ∙ ap result_kind (c.kind.ensures ∙ ap kind_of c.class.ensures ∙ again)) in
    carry_is c.args.operation a (seen c.args.cell.now ∷ []) 1 c.kept_of_cell.result c.class-2.result takes made refl c.kept_of_cell.ensures
