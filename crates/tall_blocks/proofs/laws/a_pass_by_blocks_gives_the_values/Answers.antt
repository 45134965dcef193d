use Rattle.tall_semantics.specs.Deferred.{IsAmong}
use Rattle.tall_blocks.proofs.PassLaws.{whole, rows_of_value, long_values, least_of_blocks}
use Rattle.tall_blocks.proofs.laws.a_pass_by_blocks_gives_the_values.Goals as goal

pub returns-clause-whole : goal.returns-clause-whole
returns-clause-whole c = whole

pub returns-clause-rows : goal.returns-clause-rows
returns-clause-rows c = rows_of_value

pub returns-clause-lengths : goal.returns-clause-lengths
returns-clause-lengths c = long_values

pub returns-clause-least : goal.returns-clause-least
returns-clause-least c columns of_stores vs f store cut bs pass work = least_of_blocks columns of_stores vs f store cut bs pass (IsAmong work)
