use Rattle.std.proofs.Common.{◌≡◌, ◌≤◌, map, take, length, string_bytes}
use Rattle.tall_value.specs.declared.class.Class.TheVariants as class
use Rattle.tall_value.specs.Cells.{text}
use Rattle.tall_group.proofs.keys.text_column.Given as goal

abbrev pub invariant-loop-i : goal.invariant-loop-i
invariant-loop-i l =
    (l.column ≡ record { class = class.Text; cells = map (λ e. text (string_bytes e.0)) (take l.i l.fn.texts.entries) })
    × (l.places.items ≡ map (λ e. e.1) (take l.i l.fn.texts.entries)) × (l.i-end ≡ length l.fn.texts.entries) × (l.i ≤ l.i-end)
