use Rattle.std.proofs.Common.{◌≡◌, ◌++◌, ◌∷◌, [], get_or, length, refl, rules}
use Rattle.tall_cut.proofs.Blocks.{closed_push, rows_push}
use Rattle.tall_cut.proofs.copying.add_record.Goals as goal

pub returns-clause-closed : goal.returns-clause-closed
returns-clause-closed c =
    let last : c.push.new.self.items ≡ c.args.block.now.ends.items ++ length c.add_fields.new.ends.items ∷ [] = search rules in
    closed_push _ _ _ _ _ _ _ (get_or c.args.from.now c.args.i []) c.requires.closed refl c.in_ok-add_fields.ensures.bytes c.in_ok-add_fields.ensures.ends last

pub returns-clause-records : goal.returns-clause-records
returns-clause-records c =
    let last : c.push.new.self.items ≡ c.args.block.now.ends.items ++ length c.add_fields.new.ends.items ∷ [] = search rules in
    rows_push _ _ _ _ _ _ _ (get_or c.args.from.now c.args.i []) c.requires.closed refl c.in_ok-add_fields.ensures.bytes c.in_ok-add_fields.ensures.ends last
