use Rattle.tall_cut.proofs.Blocks.{place_inside, width_is, width_low}
use Rattle.tall_cut.proofs.records.Records.width.Goals as goal

pub start_of-requires : goal.start_of-requires
start_of-requires c = place_inside _ _ _ _ c.self.view_is c.requires

pub index-requires : goal.index-requires
index-requires c =
    let inside = place_inside _ _ _ _ c.self.view_is c.requires in
    rw c.self.inside.block.ends.ok.0 inside

pub overflow_sub-result : goal.overflow_sub-result
overflow_sub-result c =
    rw (c.start_of.ensures, c.index.ensures) (width_low _ _ _ _ _ c.self.view_is c.self.invariant.records c.requires)

pub returns : goal.returns
returns c = rw (c.start_of.ensures, c.index.ensures) (width_is _ _ _ _ _ c.self.view_is c.self.invariant.records c.requires)
