use Rattle.std.specs.Prelude.{[], length}
use Rattle.std.proofs.lemmas.List.Elements.{All-nil, All-cons}
use Rattle.tall_script.specs.ScriptValues as script
use Rattle.tall_deferred.specs.Values.{IsLent, at_seen, index_at, lent_at, value_at}
use Rattle.tall_environment.specs.Values.{arguments_at}
use Rattle.tall_environment.proofs.ArgumentLaws.{indexed_as}
use Rattle.tall_environment.proofs.EnvironmentLaws.{computes_as}
use Rattle.tall_environment.proofs.environment.Environment.index.Goals as goal

pub index_lent-requires-clause-within : goal.index_lent-requires-clause-within
index_lent-requires-clause-within c = All-cons (IsLent (length c.args.self.now.graph)) c.lend.result [] (c.lend.ensures.within (length c.args.self.now.graph) c.requires.whole) (All-nil (IsLent (length c.args.self.now.graph)))

pub returns : goal.returns
returns c =
    computes_as c.args.at.number (λ files f. script.index_value_of (at_seen c.args.at) (lent_at f c.lend.result) (index_at f c.index_of.result)) (λ files f. script.index_value (at_seen c.args.at) (value_at f c.args.whole.now) (arguments_at f c.args.args.now)) c.args.self.now c.index_lent.new.self c.index_lent.result
    (λ files f. indexed_as (at_seen c.args.at) (lent_at f c.lend.result) (value_at f c.args.whole.now) (index_at f c.index_of.result) (arguments_at f c.args.args.now) (c.lend.ensures.value f) (c.index_of.ensures.given f)) c.index_lent.ensures

pub index_lent-requires-clause-index : goal.index_lent-requires-clause-index
index_lent-requires-clause-index c = c.index_of.ensures.within (length c.args.self.now.graph) c.requires.args
