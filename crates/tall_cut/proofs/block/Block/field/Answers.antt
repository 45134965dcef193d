use Rattle.std.proofs.Common.{◌∙◌, length, sym, ap, arith}
use Rattle.csv.proofs.ReadFacts.{get-same}
use Rattle.csv.proofs.RecordFacts.{field-bounds, field-cut, field-get}
use Rattle.tall_cut.proofs.Blocks.{place_there}
use Rattle.tall_cut.proofs.block.Block.field.Goals as goal

pub start_of-start-requires : goal.start_of-start-requires
start_of-start-requires c = place_there c.args.self.now.bytes.items _ _ c.requires.place

pub index-requires : goal.index-requires
index-requires c = rw c.args.self.now.fields.ok.0 (place_there c.args.self.now.bytes.items _ _ c.requires.place)

pub slice_bounds-result-count : goal.slice_bounds-result-count
slice_bounds-result-count c =
    let here = place_there c.args.self.now.bytes.items _ _ c.requires.place in
    let end = c.index.ensures ∙ get-same _ _ _ 0 here in
    rw (c.start_of-start.ensures, end) (field-bounds 0 _ _ _ c.requires.inside.fields here).0

pub slice_bounds-result-start : goal.slice_bounds-result-start
slice_bounds-result-start c =
    let here = place_there c.args.self.now.bytes.items _ _ c.requires.place in
    let end = c.index.ensures ∙ get-same _ _ _ 0 here in
    let b = field-bounds 0 _ _ _ c.requires.inside.fields here in
    omega (arith, c.start_of-start.ensures, end, b.0, b.1, ap length c.as_slice.ensures.value)

pub slice_bounds-result-end : goal.slice_bounds-result-end
slice_bounds-result-end c =
    let here = place_there c.args.self.now.bytes.items _ _ c.requires.place in
    let end = c.index.ensures ∙ get-same _ _ _ 0 here in
    let b = field-bounds 0 _ _ _ c.requires.inside.fields here in
    omega (arith, c.start_of-start.ensures, end, b.0, b.1, ap length c.as_slice.ensures.value)

pub returns : goal.returns
returns c =
    let here = place_there c.args.self.now.bytes.items _ _ c.requires.place in
    let end = c.index.ensures ∙ get-same _ _ _ 0 here in
    rw (c.as_slice.ensures.value, c.start_of-start.ensures, end) (sym (field-get _ _ _ (field-cut 0 c.args.self.now.fields.items c.args.self.now.bytes.items c.args.place here)))
