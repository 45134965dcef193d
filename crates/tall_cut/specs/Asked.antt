-- What is known of a shelf when one of its files is asked for, and what is known of it when it comes back.
use Rattle.std.specs.Prelude.{◌≡◌, ◌≤◌, ◌++◌, ◌∷◌, [], ℕ, List, Option, None, Some, length, option_map}
use Rattle.std.specs.Borrow.{GName}
use Rattle.tall_outside.specs.Shelf.{Files, file_in}
use Rattle.tall_outside.specs.declared.shelf.Shelf as shelf
use Rattle.tall_outside.specs.declared.shelf.Opening.{Opening}
use Rattle.tall_outside.specs.declared.shelf.Opening.TheVariants as o
use Rattle.tall_cut.specs.declared.feed.FeedFault.{FeedFault}
use Rattle.tall_cut.specs.declared.feed.FeedFault.TheVariants as fault
use Rattle.tall_cut.specs.declared.feed.OpenedFile as opened

-- the names that are told, and one more
abbrev pub and_name : Option (List (List ℕ)) → List ℕ → Option (List (List ℕ))
and_name names name = option_map (λ all. all ++ name ∷ []) names

-- the size of the file that a shelf holds under a name, where it tells
abbrev pub size_in : Option Files → List ℕ → Option ℕ
size_in None name = None
size_in (Some files) name = option_map length (file_in files name)

-- the members that name an opening are what its shelf and its arguments say
pub record Asks {S K : Type 0} (s : shelf.Ghosts S) (k : opened.Ghosts K) (by : GName) (now : S) (called : List ℕ) (most : ℕ) : Type 0 where
  pub lender : Some by ≡ k.lender
  pub held : s.held now ≡ k.held
  pub opened : and_name (s.opened now) called ≡ k.opened
  pub misses : s.misses now ≡ k.misses
  pub faults : s.faults now ≡ k.faults
  pub limit : most ≡ k.limit
  pub size : size_in (s.held now) called ≡ k.size

-- what is known of the shelf that comes back after a file of it was read
pub record Returns {S K : Type 0} (s : shelf.Ghosts S) (k : opened.Ghosts K) (by : GName) (now : S) : Type 0 where
  pub lender : Some by ≡ k.lender
  pub held : s.held now ≡ k.held
  pub opened : (names : List (List ℕ)) → k.opened ≡ Some names → s.opened now ≡ Some names
  pub misses : s.misses now ≡ k.misses
  pub faults : k.faults ≤ s.faults now

-- how the shelf's `open` ended, by the fault that it gave
abbrev pub opening_of : FeedFault → Opening
opening_of fault.NoSuch = o.NoSuch
opening_of fault.Failed = o.Failed
opening_of fault.Memory = o.Memory
