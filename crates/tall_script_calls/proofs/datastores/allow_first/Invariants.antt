use Rattle.tall_sources.specs.Given.{options_lent}
use Rattle.tall_script_calls.specs.Making.{allowed_first}
use Rattle.tall_script_calls.proofs.datastores.allow_first.Given as goal

-- the first file once, where the options are accepted
abbrev pub ghost-allow_told : goal.ghost-allow_told
ghost-allow_told a = allowed_first (options_lent a._values.now.items)
