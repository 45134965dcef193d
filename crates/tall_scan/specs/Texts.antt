-- What a reader of a text of records still gives.
use Rattle.std.specs.Prelude.{ℕ, List, ◌∷◌, Option, Some, if◌then◌else◌}
use Rattle.tall_scan.specs.declared.text.Text.{Text}

-- the line feed before the bytes, and the bytes
abbrev pub text_left : Text → Option (List ℕ)
text_left t = Some (if t.shielded then 10 ∷ t.rest.now else t.rest.now)
