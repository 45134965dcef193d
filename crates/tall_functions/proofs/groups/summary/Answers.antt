use Rattle.std.proofs.Common.{◌≡◌, ◌∙◌, ap, sym, Some, option_map, string_bytes}
use Rattle.tall_value.specs.Classes.{kind_of}
use Rattle.tall_value.specs.ClassTables.{class_result}
use Rattle.tall_value.specs.FunctionClasses.{method_kind}
use Rattle.tall_group.specs.GroupFolds.{form_of}
use Rattle.tall_group.specs.Summaries.{classes_by}
use Rattle.tall_group.proofs.GivenLemmas.{classes_are}
use Rattle.tall_functions.specs.Summaries.{names_with}
use Rattle.tall_functions.proofs.GroupLemmas.{class_ok, summary_from}
use Rattle.tall_functions.proofs.groups.summary.Goals as goal

pub returns-in-Some : goal.returns-in-Some
returns-in-Some c =
    let how = c.args.how in
    let key = c.args.key.now in
    let g = c.args.g.now in
    let v = c.args.v.now in
    let takes = class_ok (method_kind how (kind_of v.class)) _ (ap (λ k. class_result (method_kind how (kind_of k))) (sym c.class.ensures) ∙ (sym c.method_class.ensures ∙ c.in-Ok.is)) in
    let classes = classes_by (form_of how (kind_of v.class)) g.class (kind_of v.class) in
    let e = classes_are how g.class v.class takes in
    let names = c.in_ok-name-in-Ok.ensures key ∙ (ap (λ o. names_with key (option_map string_bytes o)) c.in-Some.is ∙ ap (λ n. names_with key (Some n)) (sym c.as_str.ensures.value)) in
    summary_from how key c.args.value.now g v (names_with key (Some c.as_str.result.now)) classes c.named_summary.result e names (c.named_summary.ensures classes e)
