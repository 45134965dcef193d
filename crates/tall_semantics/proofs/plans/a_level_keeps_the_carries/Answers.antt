use Rattle.tall_semantics.specs.Deferred.{IsAmong}
use Rattle.tall_semantics.proofs.ScanLevelLaws.{scans_step, scan_ready, scans_by_levels, scans_by_ranks}
use Rattle.tall_semantics.proofs.plans.a_level_keeps_the_carries.Goals as goal

pub returns-clause-step : goal.returns-clause-step
returns-clause-step c ns scans needed had has = scans_step ns scans (IsAmong needed) (IsAmong had) (IsAmong has)

pub returns-clause-ready : goal.returns-clause-ready
returns-clause-ready c ns scans needed had = scan_ready ns scans (IsAmong needed) (IsAmong had)

pub returns-clause-levels : goal.returns-clause-levels
returns-clause-levels c = scans_by_levels

pub returns-clause-ranks : goal.returns-clause-ranks
returns-clause-ranks c = scans_by_ranks
