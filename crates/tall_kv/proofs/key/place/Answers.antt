use Rattle.std.proofs.Common.{◌∙◌, ap}
use Rattle.std.specs.Prelude.{not}
use Rattle.tall_value.specs.Cells.{seen}
use Rattle.tall_kv.proofs.KeyLemmas.{same_place, same_answer}
use Rattle.tall_kv.proofs.key.place.Goals as goal

pub returns-clause-place : goal.returns-clause-place
returns-clause-place c = c.in_ok-found.ensures.index ∙ same_place c.of.result (seen c.args.cell.now) c.of.ensures c.args.met.now.keys

pub returns-clause-new : goal.returns-clause-new
returns-clause-new c = c.in_ok-found.ensures.added ∙ ap not (same_answer c.of.result (seen c.args.cell.now) c.of.ensures c.args.met.now.keys)
