use Rattle.std.proofs.Common.{◌≡◌, ◌++◌, drop}
use Rattle.tall_store.proofs.texts.copy_texts.Given as goal

abbrev pub invariant-loop-text : goal.invariant-loop-text
invariant-loop-text l = l.copy.items ++ drop l.text-index l.texts ≡ l.texts
