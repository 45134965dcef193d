-- Each step keeps it.
use Rattle.tall_sources.proofs.KeptLaws.{start, computed, tall, made_more, changed_more, lower}
use Rattle.tall_sources.proofs.laws.datastores_are_kept.Goals as goal

pub returns : goal.returns
returns c = record { start = start; computed = computed; tall = tall; made = made_more; changed = changed_more; lower = lower }
