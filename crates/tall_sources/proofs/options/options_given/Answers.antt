-- Values in memory are the arguments.
use Rattle.std.specs.Prelude.{◌≡◌, IfOk, option_map}
use Rattle.std.proofs.Common.{subst, sym, ◌∙◌}
use Rattle.tall_store.specs.Options.{options_seen}
use Rattle.tall_sources.proofs.OptionLemmas.{all_in_memory}
use Rattle.tall_sources.proofs.options.options_given.Goals as goal

pub returns : goal.returns
returns c =
    subst (λ o. IfOk c.options_in_memory.result (λ found. option_map options_seen found ≡ o)) (all_in_memory c.args.args.now (sym c.are_in_memory.ensures ∙ c.if-not-are_in_memory.false)) c.options_in_memory.ensures
