use Rattle.std.specs.Prelude.{◌≡◌, length}
use Rattle.std.proofs.Common.{rules}
use Rattle.tall_cut.specs.Finding.{raw_records}
use Rattle.tall_piece.proofs.GivenLaws.{right_parts}
use Rattle.tall_piece.proofs.pieces.block_piece.Goals as goal

pub returns-in-Ok-table_piece : goal.returns-in-Ok-table_piece
returns-in-Ok-table_piece c =
    let same : c.parse.new.self ≡ raw_records c.args.block.now.raw = search rules in
    let many : c.len.result ≡ length c.parse.new.self = search rules in
    right_parts c.args.store.now c.args.graph.now c.args.known.now c.args.all.now c.args.wanted.now c.args.place c.args.block.now.file c.args.block.now.row c.parse.new.self (raw_records c.args.block.now.raw) c.in-Ok.table c.in-Ok-table_piece.parts
    c.len.result same c.in-Ok.ensures.table c.in-Ok.ensures.room many c.in-Ok-table_piece.ensures.rows c.in-Ok-table_piece.ensures.fits c.in-Ok-table_piece.ensures.right
