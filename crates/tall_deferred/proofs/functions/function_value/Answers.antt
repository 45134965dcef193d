-- No function takes none, or more than four.
use Rattle.std.specs.Prelude.{map}
use Rattle.std.proofs.Common.{ap, sym, ◌∙◌}
use Rattle.std.proofs.lemmas.List.{length-map}
use Rattle.tall_script.specs.ScriptLanguage.{application_answer}
use Rattle.tall_deferred.specs.Values.{at_seen, lent_at}
use Rattle.tall_deferred.proofs.FormLaws.{none_taken}
use Rattle.tall_deferred.proofs.functions.function_value.Goals as goal

pub returns-clause-given : goal.returns-clause-given
returns-clause-given c columns f m =
    let n = length-map c.args.args.now (lent_at f) in
    ap (application_answer (at_seen c.args.at))
    (none_taken c.args.function (map (lent_at f) c.args.args.now)
    (λ e. c.if-count-eq1.false (sym n ∙ e)) (λ e. c.if-count-eq2.false (sym n ∙ e)) (λ e. c.if-count-eq3.false (sym n ∙ e)) (λ e. c.if-count-eq4.false (sym n ∙ e)))
