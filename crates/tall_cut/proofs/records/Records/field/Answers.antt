use Rattle.std.proofs.Common.{◌∙◌, arith}
use Rattle.csv.proofs.RecordFacts.{cut-length}
use Rattle.tall_cut.proofs.Blocks.{field_inside, field_is, place_inside}
use Rattle.tall_cut.proofs.records.Records.field.Goals as goal

pub start_of-requires : goal.start_of-requires
start_of-requires c = place_inside _ _ _ _ c.self.view_is c.requires.record

pub field-requires-clause-place : goal.field-requires-clause-place
field-requires-clause-place c = rw c.start_of.ensures (field_inside _ _ _ _ _ c.self.view_is c.self.invariant.records c.requires.record c.requires.field)

pub overflow_add-start_of : goal.overflow_add-start_of
overflow_add-start_of c =
    let inside = field_inside _ _ _ _ _ c.self.view_is c.self.invariant.records c.requires.record c.requires.field in
    let size = cut-length 0 c.self.inside.block.fields.items c.self.inside.block.bytes.items in
    let at = c.start_of.ensures in
    let count = c.len-count.ensures in
    let same = c.self.inside.block.fields.ok.0 in
    omega arith

pub returns : goal.returns
returns c = c.field.ensures ∙ rw c.start_of.ensures (field_is _ _ _ _ _ c.self.view_is c.self.invariant.records c.requires.record c.requires.field)
