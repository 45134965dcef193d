use Rattle.std.specs.Prelude.{◌≡◌, false, map}
use Rattle.std.specs.Option.{is_some}
use Rattle.std.proofs.Common.{sym, subst, ap, ◌∙◌}
use Rattle.tall_grammar.specs.Views.{routine_of}
use Rattle.tall_local.specs.Refusals.{stop_at}
use Rattle.tall_script.specs.ScriptLanguage.{function_in, handle_refusal}
use Rattle.tall_evaluate.specs.Senses.{Refuses}
use Rattle.tall_expressions.specs.Evaluations.{script_senses}
use Rattle.tall_expressions.proofs.AnswerLaws.{not_there, undefined_refuses}
use Rattle.tall_expressions.proofs.language.EvaluationLanguage.handle.Goals as goal

pub returns-else-is_there : goal.returns-else-is_there
returns-else-is_there g c =
    subst (λ n. Refuses (script_senses g.S.Shelf) (λ i. stop_at c.args.line (handle_refusal i.setting.functions n)) c.args.self.now c.undefined_name.result) c.as_str-else-is_there.ensures
    (undefined_refuses g.S.Shelf c.args.self.now c.args.line c.as_str-else-is_there.result.now (λ i. stop_at c.args.line (handle_refusal i.setting.functions c.as_str-else-is_there.result.now)) c.undefined_name.result
    c.undefined_name.ensures.inside c.undefined_name.ensures.names (λ i holds.
    ap (stop_at c.args.line) (not_there i.setting.functions (map routine_of c.args.self.now.functions.now) c.as_str-else-is_there.result.now holds.functions
    (subst (λ n. is_some (function_in (map routine_of c.args.self.now.functions.now) n) ≡ false) (c.as_str.ensures ∙ sym c.as_str-else-is_there.ensures) (c.is_there.ensures ∙ c.if-is_there.false)))))
