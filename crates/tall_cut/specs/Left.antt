-- What a feed has left, and the feed under a source.
use Rattle.std.specs.Prelude.{ℕ, Bool, List, Option}
use Rattle.tall_outside.specs.declared.shelf.Shelf as shelf
use Rattle.tall_scan.specs.declared.source.Source.{Source}
use Rattle.tall_scan.specs.Finding.{source_reader}
use Rattle.tall_cut.specs.declared.feed.OpenedFile as opened
use Rattle.tall_cut.specs.declared.feed.Feed.{Feed}

-- the bytes that a feed still gives, where its shelf tells
abbrev pub feed_left : {S K : Type 0} {s : shelf.Ghosts S} {k : opened.Ghosts K} → Feed S K s k → Option (List ℕ)
feed_left {s = s} f = s.left f.shelf.now

-- the feed under a source came to the end of its file
abbrev pub is_at_end : {S K : Type 0} {s : shelf.Ghosts S} {k : opened.Ghosts K} → Source (Feed S K s k) → Bool
is_at_end source = (source_reader source).at_end
