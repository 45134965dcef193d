use Rattle.std.proofs.Common.{◌≡◌, ◌∙◌, ap, sym, subst, string_bytes, take}
use Rattle.tall_value.specs.Cells.{text}
use Rattle.tall_group.specs.Numbers.{key_cell}
use Rattle.tall_group.specs.Tables.{IsTable, keys_shown}
use Rattle.tall_group.proofs.PlaceLemmas.{kept_cells, kept_numbers, kept_places}
use Rattle.tall_group.proofs.keys.Keys.truncate.Goals as goal

pub returns-in-Numbers-clause-keys : goal.returns-in-Numbers-clause-keys
returns-in-Numbers-clause-keys c kind =
    kept_cells (λ e. key_cell kind e.0) c.in-Numbers.numbers.entries c.truncate.new.self.entries c.args.len c.truncate.ensures.entries ∙ ap (λ k. take c.args.len (keys_shown kind k)) (sym c.in-Numbers.is)

pub returns-in-Numbers-clause-table : goal.returns-in-Numbers-clause-table
returns-in-Numbers-clause-table c kind h =
    let t = subst (IsTable kind) c.in-Numbers.is h in
    let e = c.truncate.ensures.entries in
    (t.0, kept_numbers kind c.in-Numbers.numbers.entries c.truncate.new.self.entries c.args.len e t.1, kept_places c.in-Numbers.numbers.entries c.truncate.new.self.entries c.args.len e t.2)

pub returns-in-Texts-clause-keys : goal.returns-in-Texts-clause-keys
returns-in-Texts-clause-keys c kind =
    kept_cells (λ e. text (string_bytes e.0)) c.in-Texts.texts.entries c.truncate-in-Texts.new.self.entries c.args.len c.truncate-in-Texts.ensures.entries ∙ ap (λ k. take c.args.len (keys_shown kind k)) (sym c.in-Texts.is)
