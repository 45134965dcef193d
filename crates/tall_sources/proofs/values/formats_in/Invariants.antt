use Rattle.std.specs.Prelude.{◌≡◌, drop}
use Rattle.tall_local.specs.Lists.{all_of}
use Rattle.tall_local.specs.Names.{named}
use Rattle.tall_script.specs.StoreArguments.{formats}
use Rattle.tall_sources.proofs.ValueLemmas.{followed}
use Rattle.tall_sources.proofs.values.formats_in.Given as goal

-- the formats so far, before those of the texts that are left
abbrev pub invariant-loop-place : goal.invariant-loop-place
invariant-loop-place l = followed l.found.items (all_of (named formats) (drop l.place l.texts)) ≡ all_of (named formats) l.texts
