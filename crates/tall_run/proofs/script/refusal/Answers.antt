use Rattle.std.proofs.Common.{refl, subst, sym}
use Rattle.std.specs.Prelude.{Some}
use Rattle.tall_grammar.specs.Refusals.{bad_token, syntax_at, too_deep_at, too_long}
use Rattle.tall_local.specs.FaultLines.{bad_token_text, syntax_text, too_deep_text, too_long_text}
use Rattle.tall_parse.specs.Parsed as parsed
use Rattle.tall_steps.specs.Ends.{refused}
use Rattle.tall_steps.specs.Steps.{HasEnd}
use Rattle.tall_run.specs.Scripts.{IsRefusalBy}
use Rattle.tall_steps.proofs.Progressing.{ended_as}
use Rattle.tall_run.proofs.script.refusal.Goals as goal

pub returns-in-TooLong : goal.returns-in-TooLong
returns-in-TooLong c =
    subst (λ f. HasEnd (IsRefusalBy (parsed.refusal f)) c.with_line.result) (sym c.in-TooLong.is)
    (ended_as (IsRefusalBy (Some too_long)) (refused too_long_text) c.with_line.result (too_long, refl, refl) (c.with_line.ensures (refused too_long_text) refl c.too_long_line.ensures))

pub returns-in-BadToken : goal.returns-in-BadToken
returns-in-BadToken c =
    let what = bad_token_text c.in-BadToken.line c.in-BadToken.place in
    subst (λ f. HasEnd (IsRefusalBy (parsed.refusal f)) c.with_line-in-BadToken.result) (sym c.in-BadToken.is)
    (ended_as (IsRefusalBy (Some (bad_token c.in-BadToken.line c.in-BadToken.place))) (refused what) c.with_line-in-BadToken.result (bad_token c.in-BadToken.line c.in-BadToken.place, refl, refl) (c.with_line-in-BadToken.ensures (refused what) refl c.bad_token_line.ensures))

pub returns-in-TooDeep : goal.returns-in-TooDeep
returns-in-TooDeep c =
    let what = too_deep_text c.in-TooDeep.line in
    subst (λ f. HasEnd (IsRefusalBy (parsed.refusal f)) c.with_line-in-TooDeep.result) (sym c.in-TooDeep.is)
    (ended_as (IsRefusalBy (Some (too_deep_at c.in-TooDeep.line))) (refused what) c.with_line-in-TooDeep.result (too_deep_at c.in-TooDeep.line, refl, refl) (c.with_line-in-TooDeep.ensures (refused what) refl c.too_deep_line.ensures))

pub returns-in-Syntax : goal.returns-in-Syntax
returns-in-Syntax c =
    let what = syntax_text c.in-Syntax.line in
    subst (λ f. HasEnd (IsRefusalBy (parsed.refusal f)) c.with_line-in-Syntax.result) (sym c.in-Syntax.is)
    (ended_as (IsRefusalBy (Some (syntax_at c.in-Syntax.line))) (refused what) c.with_line-in-Syntax.result (syntax_at c.in-Syntax.line, refl, refl) (c.with_line-in-Syntax.ensures (refused what) refl c.syntax_line.ensures))
