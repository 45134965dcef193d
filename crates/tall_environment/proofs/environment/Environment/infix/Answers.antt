use Rattle.std.specs.Prelude.{[], ◌∷◌, length}
use Rattle.std.proofs.Common.{ap, ◌∙◌}
use Rattle.std.proofs.lemmas.List.Elements.{All-nil, All-cons}
use Rattle.tall_script.specs.ScriptValues as script
use Rattle.tall_deferred.specs.Values.{IsLent, at_seen, lent_at, value_at}
use Rattle.tall_environment.proofs.EnvironmentLaws.{computes_as}
use Rattle.tall_environment.proofs.environment.Environment.infix.Goals as goal

pub infix_lent-requires-clause-within : goal.infix_lent-requires-clause-within
infix_lent-requires-clause-within c = All-cons (IsLent (length c.args.self.now.graph)) c.lend.result (c.lend-2.result ∷ []) (c.lend.ensures.within (length c.args.self.now.graph) c.requires.left) (All-cons (IsLent (length c.args.self.now.graph)) c.lend-2.result [] (c.lend-2.ensures.within (length c.args.self.now.graph) c.requires.right) (All-nil (IsLent (length c.args.self.now.graph))))

pub returns : goal.returns
returns c =
    computes_as c.args.at.number (λ files f. script.infix_value (at_seen c.args.at) c.args.op (lent_at f c.lend.result) (lent_at f c.lend-2.result)) (λ files f. script.infix_value (at_seen c.args.at) c.args.op (value_at f c.args.left.now) (value_at f c.args.right.now)) c.args.self.now c.infix_lent.new.self c.infix_lent.result
    (λ files f. ap (λ v. script.infix_value (at_seen c.args.at) c.args.op v (lent_at f c.lend-2.result)) (c.lend.ensures.value f) ∙ ap (λ w. script.infix_value (at_seen c.args.at) c.args.op (value_at f c.args.left.now) w) (c.lend-2.ensures.value f)) c.infix_lent.ensures
