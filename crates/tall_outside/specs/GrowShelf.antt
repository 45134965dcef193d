-- What a shelf of one file that grows gives at each opening.
use Rattle.std.specs.Prelude.{◌≡◌, ℕ, List, [], drop, if◌then◌else◌, Option, Some, None, nat_lt}
use Rattle.std.specs.String.{string_bytes}
use Rattle.std.specs.Str.{bytes_eq}
use Rattle.tall_outside.specs.Count.{raised}
use Rattle.tall_outside.specs.Shelf.{Files}
use Rattle.tall_outside.specs.declared.shelf.Opening.{Opening}
use Rattle.tall_outside.specs.declared.shelf.Opening.TheVariants as o
use Rattle.tall_outside.specs.declared.grow_shelf.OpenPart.{OpenPart}
use Rattle.tall_outside.specs.declared.grow_shelf.OpenPart.TheVariants.{First, Later, Script}
use Rattle.tall_outside.specs.declared.grow_shelf.GrowShelf.{GrowShelf}

-- a name, its bytes at first and from an opening on, a script, and how often the name was opened
pub record Growth : Type 0 where
  pub name : List ℕ
  pub first : List ℕ
  pub later : List ℕ
  pub from : ℕ
  pub script_name : List ℕ
  pub script : List ℕ
  pub openings : ℕ

-- the bytes that the next opening of a name gives, where there is such a file
abbrev pub given : Growth → List ℕ → Option (List ℕ)
given g name =
    if bytes_eq g.name name
    then Some (if nat_lt (raised g.openings) g.from then g.first else g.later)
    else (if bytes_eq g.script_name name then Some g.script else None)

-- after an opening of a name
abbrev pub opened_once : Growth → List ℕ → Growth
opened_once g name = record g { openings = if bytes_eq g.name name then raised g.openings else g.openings }

-- the answer of `open` and what is then left to read
abbrev pub Gives : Option (List ℕ) → Opening → List ℕ → Type 0
Gives None answer left = (answer ≡ o.NoSuch) × (left ≡ [])
Gives (Some bytes) answer left = (answer ≡ o.Opened) × (left ≡ bytes)

abbrev pub growth_of : GrowShelf → Growth
growth_of s = record {
  name = string_bytes s.name;
  first = s.first.items;
  later = s.later.items;
  from = s.from;
  script_name = string_bytes s.script.0;
  script = s.script.1.items;
  openings = s.openings;
}

-- the bytes of what is open
abbrev pub bytes_of : Growth → Option OpenPart → List ℕ
bytes_of g None = []
bytes_of g (Some First) = g.first
bytes_of g (Some Later) = g.later
bytes_of g (Some Script) = g.script

abbrev pub left_of : GrowShelf → List ℕ
left_of s = drop s.at (bytes_of (growth_of s) s.part)

-- it tells neither what it holds nor what was opened
abbrev pub untold_files : Option Files
untold_files = None

abbrev pub untold_names : Option (List (List ℕ))
untold_names = None
