use Rattle.std.specs.Prelude.{[], length}
use Rattle.std.proofs.Common.{ap}
use Rattle.std.proofs.lemmas.List.Elements.{All-nil, All-cons}
use Rattle.tall_script.specs.ScriptValues as script
use Rattle.tall_deferred.specs.Values.{IsLent, at_seen, lent_at, value_at}
use Rattle.tall_environment.proofs.EnvironmentLaws.{computes_as}
use Rattle.tall_environment.proofs.environment.Environment.prefix.Goals as goal

pub prefix_lent-requires-clause-within : goal.prefix_lent-requires-clause-within
prefix_lent-requires-clause-within c = All-cons (IsLent (length c.args.self.now.graph)) c.lend.result [] (c.lend.ensures.within (length c.args.self.now.graph) c.requires.within) (All-nil (IsLent (length c.args.self.now.graph)))

pub returns : goal.returns
returns c =
    computes_as c.args.at.number (λ files f. script.prefix_value (at_seen c.args.at) c.args.op (lent_at f c.lend.result)) (λ files f. script.prefix_value (at_seen c.args.at) c.args.op (value_at f c.args.operand.now)) c.args.self.now c.prefix_lent.new.self c.prefix_lent.result
    (λ files f. ap (script.prefix_value (at_seen c.args.at) c.args.op) (c.lend.ensures.value f)) c.prefix_lent.ensures
