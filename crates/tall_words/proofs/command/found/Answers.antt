use Rattle.std.proofs.Common.{◌∙◌}
use Rattle.tall_words.proofs.Finding.{are_found, refused_words, simple_and_free}
use Rattle.tall_words.proofs.command.found.Goals as goal

pub returns-in-Ok-try_get_matches_from-clause-found :
    goal.returns-in-Ok-try_get_matches_from-clause-found
returns-in-Ok-try_get_matches_from-clause-found c =
    let told = c.in-Ok-try_get_matches_from.ensures in
    are_found c.in-Ok.parser _ c.in-Ok-try_get_matches_from.matches c.in-Ok.ensures told.parsed told.matches (told.kinds (simple_and_free c.in-Ok.parser c.in-Ok.ensures))

pub returns-in-Err-try_get_matches_from-clause-usage :
    goal.returns-in-Err-try_get_matches_from-clause-usage
returns-in-Err-try_get_matches_from-clause-usage c = λ usage.
    refused_words c.in-Ok.parser _ c.in-Err-try_get_matches_from.error c.in-Ok.ensures
    (c.in-Err-try_get_matches_from.ensures.kinds (simple_and_free c.in-Ok.parser c.in-Ok.ensures))
    (λ memory. let is = c.fault_of.ensures.memory (c.kind.ensures ∙ memory) in cc)
