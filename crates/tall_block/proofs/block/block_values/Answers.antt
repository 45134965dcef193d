use Rattle.std.specs.Prelude.{◌≤◌, length, option_map}
use Rattle.std.proofs.Common.{subst, arith}
use Rattle.tall_semantics.specs.Faults.{fault_seen}
use Rattle.tall_fuse.specs.Kept.{carry}
use Rattle.tall_block.specs.BlockWork.{AreBlockValues}
use Rattle.tall_block.proofs.StartLaws.{nothing_made, start_columns, start_short}
use Rattle.tall_block.proofs.WorkLaws.{looked_all}
use Rattle.tall_block.proofs.block.block_values.Goals as goal

pub loop-place-init : goal.loop-place-init
loop-place-init c = (
  start_columns c.args.graph.now c.args.table.now c.new-columns.result c.new-columns.ensures.empty c.keeps_its_rules.ensures.made,
  start_short c.args.graph.now c.args.table.now c.new-columns.result c.new-columns.ensures.empty c.height-height.ensures.table,
  λ columns so_far f cut h block. nothing_made block c.keeps_its_rules.ensures.made c.new-columns.result c.new-columns.ensures.empty (λ i. carry c.args.known.now i c.args.block),
)

pub returns-clause-values : goal.returns-clause-values
returns-clause-values c = λ columns so_far f cut h block.
    let past : length c.args.work.now ≤ c.loop-place.place = omega (arith, c.loop-place-test.false) in
    subst (λ xs. AreBlockValues c.args.graph.now c.args.table.now c.loop-place.columns f cut h xs (option_map fault_seen c.loop-place.fault)) (looked_all c.args.graph.now (λ i. carry c.args.known.now i c.args.block) c.args.work.now c.loop-place.place past)
    (c.loop-place.invariant.2 columns so_far f cut h block)
