use Rattle.std.proofs.Common.{◌≡◌, ap, refl, subst}
use Rattle.std.specs.Prelude.{IfOk, Some}
use Rattle.tall_environment.specs.Failures as failures
use Rattle.tall_local.specs.FaultLines.{cannot_read, file_changed, file_too_large, outside_line, stop_line}
use Rattle.tall_local.specs.Refusals.{stop_at}
use Rattle.tall_steps.specs.Ends.{stopped, unread, changed, too_large}
use Rattle.tall_steps.specs.Failing.{end_of}
use Rattle.tall_steps.proofs.Progressing.{ended_as}
use Rattle.tall_steps.proofs.failing.ending_of.Goals as goal

pub returns-in-Refused : goal.returns-in-Refused
returns-in-Refused c =
    let e = stopped (stop_at c.in-Refused.line (failures.refusal_seen c.in-Refused.refusal)) in
    ended_as (λ x. end_of c.args.failure.now ≡ Some x) e c.with_line.result (ap end_of c.in-Refused.is)
    (c.with_line.ensures e refl (subst (λ r. IfOk c.stop_line.result (λ text. text.items ≡ stop_line (stop_at c.in-Refused.line r))) c.shown.ensures c.stop_line.ensures))

pub returns-in-Read : goal.returns-in-Read
returns-in-Read c =
    let e = unread c.in-Read.file in
    ended_as (λ x. end_of c.args.failure.now ≡ Some x) e c.with_line-in-Read.result (ap end_of c.in-Read.is)
    (c.with_line-in-Read.ensures e refl (subst (λ n. IfOk c.cannot_read_line.result (λ text. text.items ≡ outside_line (cannot_read n))) c.as_str.ensures c.cannot_read_line.ensures))

pub returns-in-TooLarge : goal.returns-in-TooLarge
returns-in-TooLarge c =
    let e = too_large c.in-TooLarge.file in
    ended_as (λ x. end_of c.args.failure.now ≡ Some x) e c.with_line-in-TooLarge.result (ap end_of c.in-TooLarge.is)
    (c.with_line-in-TooLarge.ensures e refl (subst (λ n. IfOk c.too_large_line.result (λ text. text.items ≡ outside_line (file_too_large n))) c.as_str-in-TooLarge.ensures c.too_large_line.ensures))

pub returns-in-Changed : goal.returns-in-Changed
returns-in-Changed c =
    let e = changed c.in-Changed.file c.in-Changed.first c.in-Changed.now in
    ended_as (λ x. end_of c.args.failure.now ≡ Some x) e c.with_line-in-Changed.result (ap end_of c.in-Changed.is)
    (c.with_line-in-Changed.ensures e refl
    (subst (λ n. IfOk c.changed_line.result (λ text. text.items ≡ outside_line (file_changed n c.in-Changed.first c.in-Changed.now))) c.as_str-in-Changed.ensures c.changed_line.ensures))
