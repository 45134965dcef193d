use Rattle.std.proofs.Common.{◌≡◌, ◌++◌, ◌∷◌, [], length, rules}
use Rattle.csv.specs.Records.{fields_of, text_of}
use Rattle.tall_cut.specs.Blocks.{ends_from}
use Rattle.tall_cut.proofs.Blocks.{closed_push, row_joined, rows_push}
use Rattle.tall_cut.proofs.block.Block.add.Goals as goal

pub returns-clause-closed : goal.returns-clause-closed
returns-clause-closed c =
    let row = c.close.new.row in
    let bytes = c.args.self.now.bytes.items in
    let long : c.extend_from_slice.new.self.items ≡ bytes ++ text_of row = search rules in
    let from : c.len-from.result ≡ length bytes = search rules in
    let to : c.len-2.result ≡ length c.extend_from_slice.new.self.items = search rules in
    let ends : c.add_ends.new.ends.items ≡ c.args.self.now.fields.items ++ ends_from (length bytes) (fields_of row) = rw from at c.in_ok-add_ends.ensures.ends in
    let text = row_joined row bytes _ _ _ c.in_ok-close.ensures.partial long from to c.in_ok-add_ends.ensures.all in
    let last : c.push.new.self.items ≡ c.args.self.now.ends.items ++ length c.add_ends.new.ends.items ∷ [] = search rules in
    closed_push _ _ _ _ _ _ _ (fields_of row) c.requires text long ends last

pub returns-clause-records : goal.returns-clause-records
returns-clause-records c =
    let row = c.close.new.row in
    let bytes = c.args.self.now.bytes.items in
    let long : c.extend_from_slice.new.self.items ≡ bytes ++ text_of row = search rules in
    let from : c.len-from.result ≡ length bytes = search rules in
    let to : c.len-2.result ≡ length c.extend_from_slice.new.self.items = search rules in
    let ends : c.add_ends.new.ends.items ≡ c.args.self.now.fields.items ++ ends_from (length bytes) (fields_of row) = rw from at c.in_ok-add_ends.ensures.ends in
    let text = row_joined row bytes _ _ _ c.in_ok-close.ensures.partial long from to c.in_ok-add_ends.ensures.all in
    let last : c.push.new.self.items ≡ c.args.self.now.ends.items ++ length c.add_ends.new.ends.items ∷ [] = search rules in
    rw (← c.in_ok-close.ensures.fields) (rows_push _ _ _ _ _ _ _ (fields_of row) c.requires text long ends last)
