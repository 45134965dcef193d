use Rattle.std.proofs.Common.{◌∙◌, ◌+◌, ap, sym, subst, ℕ}
use Rattle.tall_cut.specs.Finding.{raw_count, raw_records}
use Rattle.tall_cut.specs.Rows.{TakesMany}
use Rattle.tall_store.specs.FileSteps.{first_row, next_row, rows_left}
use Rattle.tall_store.proofs.FileLemmas.{follows_block}
use Rattle.tall_calls.proofs.counting.count_left.Goals as goal

pub loop-block-preserved : goal.loop-block-preserved
loop-block-preserved g c =
    let steps = c.in-Block.ensures.steps in
    record {
      front = c.give_back.ensures.place.1 ∙ c.in-Block.ensures.place.1 ∙ c.loop-block.invariant.front;
      follows = follows_block _ _ _ _ (first_row c.args.rows.now) (next_row c.loop-block.rows) (next_row c.give_back.new.self) (raw_count c.in-Block.block.raw) c.loop-block.invariant.follows
          (subst (λ left. TakesMany (rows_left c.loop-block.rows) (raw_records c.in-Block.block.raw) left) (sym c.give_back.ensures.left) steps.5)
          (sym c.in-Block.block.raw.counted)
          (c.give_back.ensures.place.2 ∙ steps.6 ∙ ap (λ (n : ℕ). n + raw_count c.in-Block.block.raw) steps.1);
    }
