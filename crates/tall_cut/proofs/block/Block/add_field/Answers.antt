use Rattle.std.proofs.Common.{◌≡◌, ◌++◌, ◌∷◌, [], length, rules}
use Rattle.csv.specs.Records.{fields_of}
use Rattle.tall_cut.proofs.Blocks.{closed_push, field_pushed, rows_push}
use Rattle.tall_cut.proofs.block.Block.add_field.Goals as goal

pub returns-clause-closed : goal.returns-clause-closed
returns-clause-closed c =
    let bytes = c.args.self.now.bytes.items in
    let f = c.field_at.result.now in
    let long : c.extend_from_slice.new.self.items ≡ bytes ++ f = search rules in
    let size : c.len.result ≡ length c.extend_from_slice.new.self.items = search rules in
    let ends : c.push.new.self.items ≡ c.args.self.now.fields.items ++ c.len.result ∷ [] = search rules in
    let last : c.push-2.new.self.items ≡ c.args.self.now.ends.items ++ length c.push.new.self.items ∷ [] = search rules in
    let pushed = field_pushed (fields_of c.args.row.now) f bytes c.extend_from_slice.new.self.items c.args.self.now.fields.items c.push.new.self.items c.len.result c.requires.one c.field_at.ensures long size ends in
    closed_push _ _ _ _ _ _ f (fields_of c.args.row.now) c.requires.closed pushed.0 long pushed.1 last

pub returns-clause-records : goal.returns-clause-records
returns-clause-records c =
    let bytes = c.args.self.now.bytes.items in
    let f = c.field_at.result.now in
    let long : c.extend_from_slice.new.self.items ≡ bytes ++ f = search rules in
    let size : c.len.result ≡ length c.extend_from_slice.new.self.items = search rules in
    let ends : c.push.new.self.items ≡ c.args.self.now.fields.items ++ c.len.result ∷ [] = search rules in
    let last : c.push-2.new.self.items ≡ c.args.self.now.ends.items ++ length c.push.new.self.items ∷ [] = search rules in
    let pushed = field_pushed (fields_of c.args.row.now) f bytes c.extend_from_slice.new.self.items c.args.self.now.fields.items c.push.new.self.items c.len.result c.requires.one c.field_at.ensures long size ends in
    rows_push _ _ _ _ _ _ f (fields_of c.args.row.now) c.requires.closed pushed.0 long pushed.1 last
