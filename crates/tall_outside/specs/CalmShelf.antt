-- What a shelf over lent files holds and tells.
use Rattle.tall_outside.specs.MemShelf.{State, file_at, files_in, left_in, texts_of}
use Rattle.tall_outside.specs.declared.calm_shelf.CalmShelf.{CalmShelf}

abbrev pub state_of : CalmShelf → State
state_of s = record {
  files = files_in s.files.now;
  opened = texts_of s.asked.items;
  left = left_in (file_at s.files.now s.place) s.at;
  misses = s.misses;
  faults = 0;
  came = s.came;
}
