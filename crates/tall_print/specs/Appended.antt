-- What a call adds to a text.
use Rattle.std.specs.Prelude.{ℕ, ◌≡◌, List, ◌++◌, Result, Ok, Err}

-- a text begins with another
abbrev pub Begins : List ℕ → List ℕ → Type 0
Begins old new = (some : List ℕ) × (new ≡ old ++ some)

-- all of `more`; after a refusal the text begins as before
abbrev pub Appends : {A E : Type 0} → Result A E → List ℕ → List ℕ → List ℕ → Type 0
Appends (Ok a) old new more = new ≡ old ++ more
Appends (Err e) old new more = Begins old new

-- all of `more`, or nothing
abbrev pub AppendsOrKeeps : {A E : Type 0} → Result A E → List ℕ → List ℕ → List ℕ → Type 0
AppendsOrKeeps (Ok a) old new more = new ≡ old ++ more
AppendsOrKeeps (Err e) old new more = new ≡ old
