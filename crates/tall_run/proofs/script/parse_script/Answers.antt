use Rattle.std.proofs.Common.{◌≡◌, ap, subst}
use Rattle.std.specs.Prelude.{IfSome}
use Rattle.tall_grammar.specs.Refusals as parse
use Rattle.tall_grammar.specs.Views.{program_of}
use Rattle.tall_parse.specs.Parsed as parsed
use Rattle.tall_run.proofs.Verdicts.{only_seen, refusal_of}
use Rattle.tall_run.proofs.script.parse_script.Goals as goal

pub returns-in-Ok-clause-script : goal.returns-in-Ok-clause-script
returns-in-Ok-clause-script c =
    only_seen c.args.text.now (parsed.seen c.parse.result) (parse.read (program_of c.in-Ok.script)) (ap parsed.seen c.in-Ok.is) c.parse.ensures.sound c.parse.ensures.complete

pub returns-in-Err-clause-refusal : goal.returns-in-Err-clause-refusal
returns-in-Err-clause-refusal c =
    refusal_of c.args.text.now (parsed.refusal c.in-Err.fault) (subst (λ r. IfSome (parsed.seen r) (parse.Parses c.args.text.now)) c.in-Err.is c.parse.ensures.sound)
    (λ w parses. subst (λ r. IfSome (parsed.seen r) (λ found. found ≡ w)) c.in-Err.is (c.parse.ensures.complete w parses)) c.refusal.result c.refusal.ensures
