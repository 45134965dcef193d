use Rattle.tall_core.proofs.laws.each_place_once.Goals as goal
use Rattle.tall_core.proofs.Reaches.{reached_once}
use Rattle.tall_core.proofs.Traces.{once_always, whole_when_done}

pub returns-clause-once : goal.returns-clause-once
returns-clause-once g c = once_always

pub returns-clause-whole : goal.returns-clause-whole
returns-clause-whole g c = whole_when_done

pub returns-clause-reached : goal.returns-clause-reached
returns-clause-reached g c = reached_once
