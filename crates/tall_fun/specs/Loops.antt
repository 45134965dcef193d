-- What a loop waits for.
use Rattle.std.specs.Prelude.{ℕ, Bool, false, ◌&&◌, not, if◌then◌else◌, List, Option, None, Some, codes}
use Rattle.std.specs.Str.{bytes_eq}
use Rattle.tall_local.specs.Calls.{is_iterator}
use Rattle.tall_local.specs.Locals.{Held, is_held}
use Rattle.tall_local.specs.Names.{named}

-- of a called name and its only argument: the argument of `hasnext`
abbrev pub has_next_in : Option (List ℕ) → Option (List ℕ) → Option (List ℕ)
has_next_in (Some f) x = if bytes_eq f (codes "hasnext") then x else None
has_next_in None x = None

-- the argument is the iterator, and `hasnext` is the function
abbrev pub waits_in : Option (List ℕ) → List (List ℕ × Held) → Bool
waits_in (Some x) names = not (is_held (named names (codes "hasnext"))) && is_iterator (named names x)
waits_in None names = false
