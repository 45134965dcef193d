use Rattle.std.specs.Prelude.{refl}
use Rattle.std.proofs.lemmas.Option.{slice_get_read}
use Rattle.tall_block.proofs.WorkLaws.{among_at}
use Rattle.tall_block.proofs.block.first_missing.Goals as goal

pub lacks_its_carry-requires : goal.lacks_its_carry-requires
lacks_its_carry-requires c = c.requires c.index-work-place.result (among_at c.args.work.now c.loop-place.place c.index-work-place.result (slice_get_read c.args.work.now _ c.loop-place.place c.index-work-place.result refl c.loop-place-test.true c.index-work-place.is))

pub number_of-requires : goal.number_of-requires
number_of-requires c = c.requires c.index-work-place.result (among_at c.args.work.now c.loop-place.place c.index-work-place.result (slice_get_read c.args.work.now _ c.loop-place.place c.index-work-place.result refl c.loop-place-test.true c.index-work-place.is))
