-- What a shelf counted before an opening, and what an answer of the opening blames.
use Rattle.std.specs.Prelude.{◌<◌, ◌^◌, Result, Ok, Err}
use Rattle.tall_outside.specs.Count.{Rose}
use Rattle.tall_outside.specs.ShelfCounts.{Counts}
use Rattle.tall_cut.specs.declared.feed.OpenedFile as opened
use Rattle.tall_store.specs.declared.faults.StoreFault.{StoreFault}
use Rattle.tall_store.specs.declared.faults.StoreFault.TheVariants.{BadArgument, NoFile, Failed, TooLarge, NoHeader, Memory}
use Rattle.tall_store.specs.Stores.{SeenStore}

-- what the shelf counted before an opening
abbrev pub opening_counts : {K : Type 0} → opened.Ghosts K → Counts
opening_counts k = record { misses = k.misses; faults = k.faults; came = 0 }

-- the counts that an answer blames have risen
abbrev pub IsExplained : Result SeenStore StoreFault → Counts → Counts → Type 0
IsExplained (Ok store) before after = Unit {0}
IsExplained (Err BadArgument) before after = Unit {0}
IsExplained (Err NoFile) before after = Rose before.misses after.misses
IsExplained (Err Failed) before after = Rose before.faults after.faults
IsExplained (Err TooLarge) before after = 2 ^ 50 < after.came
IsExplained (Err NoHeader) before after = Unit {0}
IsExplained (Err Memory) before after = Unit {0}

-- an answer that no file has a part in
abbrev pub IsInside : Result SeenStore StoreFault → Type 0
IsInside (Ok store) = Unit {0}
IsInside (Err BadArgument) = Unit {0}
IsInside (Err NoFile) = ⊥
IsInside (Err Failed) = ⊥
IsInside (Err TooLarge) = ⊥
IsInside (Err NoHeader) = Unit {0}
IsInside (Err Memory) = Unit {0}

-- an answer that comes only where the first file was opened
abbrev pub HasOpened : Result SeenStore StoreFault → Type 0
HasOpened (Ok store) = Unit {0}
HasOpened (Err BadArgument) = ⊥
HasOpened (Err NoFile) = Unit {0}
HasOpened (Err Failed) = Unit {0}
HasOpened (Err TooLarge) = Unit {0}
HasOpened (Err NoHeader) = Unit {0}
HasOpened (Err Memory) = ⊥

-- options that are not accepted are refused, unless memory was wanting
abbrev pub RefusesUnopened : Result SeenStore StoreFault → Type 0
RefusesUnopened (Ok store) = ⊥
RefusesUnopened (Err BadArgument) = Unit {0}
RefusesUnopened (Err NoFile) = ⊥
RefusesUnopened (Err Failed) = ⊥
RefusesUnopened (Err TooLarge) = ⊥
RefusesUnopened (Err NoHeader) = ⊥
RefusesUnopened (Err Memory) = Unit {0}
