use Rattle.std.proofs.Common.{subst, sym}
use Rattle.tall_semantics.specs.Deferred.{IsAmong}
use Rattle.tall_piece.specs.Joins.{AreWays}
use Rattle.tall_pass.specs.Work.{AreAllWanted}
use Rattle.tall_pass.proofs.BlockLaws.{places_within}
use Rattle.tall_pass.proofs.WayLaws.{all_are_wanted, ways_are}
use Rattle.tall_pass.proofs.WorkLaws.{work_within}
use Rattle.tall_pass.proofs.work.pass_work.Goals as goal

pub computed-requires : goal.computed-requires
computed-requires c = work_within c.args.graph.now c.requires.planned.0 c.requires.planned.1 c.args.pass.now c.requires.planned.2 c.keeps_its_rules.ensures.made

pub wanted-requires : goal.wanted-requires
wanted-requires c = work_within c.args.graph.now c.requires.planned.0 c.requires.planned.1 c.args.pass.now c.requires.planned.2 c.keeps_its_rules.ensures.made

pub returns-clause-places : goal.returns-clause-places
returns-clause-places c i h =
    places_within c.args.graph.now c.keeps_its_rules.ensures.made c.requires.planned.0 c.requires.planned.1 c.args.pass.now c.requires.planned.2 i
    (subst (λ xs. IsAmong xs i) c.in_ok-all.ensures h)

pub returns-clause-ways : goal.returns-clause-ways
returns-clause-ways c =
    subst (AreWays c.args.graph.now) (sym c.in_ok-wanted.ensures)
    (ways_are c.args.graph.now c.keeps_its_rules.ensures.made c.requires.planned.0 c.requires.planned.1 c.args.pass.now c.requires.planned.2)

pub returns-clause-results : goal.returns-clause-results
returns-clause-results c =
    subst (AreAllWanted c.args.graph.now c.args.pass.now) (sym c.in_ok-wanted.ensures)
    (all_are_wanted c.args.graph.now c.keeps_its_rules.ensures.made c.requires.planned.0 c.requires.planned.1 c.args.pass.now c.requires.planned.2)
