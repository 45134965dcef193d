use Rattle.tall_semantics.specs.Deferred.{IsAmong}
use Rattle.tall_semantics.proofs.CandidateLaws.{known_no_fault, last_candidate, only}
use Rattle.tall_semantics.proofs.laws.the_last_candidate_is_the_fault.Goals as goal

pub returns-clause-known : goal.returns-clause-known
returns-clause-known c = known_no_fault

pub returns-clause-last : goal.returns-clause-last
returns-clause-last c = last_candidate

pub returns-clause-only : goal.returns-clause-only
returns-clause-only c ns work = only ns (IsAmong work)
