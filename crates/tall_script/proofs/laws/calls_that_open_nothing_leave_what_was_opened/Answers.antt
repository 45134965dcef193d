use Rattle.std.specs.Prelude.{[]}
use Rattle.tall_local.proofs.ListedCalls.{value_unlisted}
use Rattle.tall_script.specs.ScriptLanguage.{script_language}
use Rattle.tall_script.proofs.QuietCalls.{quiet_body}
use Rattle.tall_script.proofs.laws.calls_that_open_nothing_leave_what_was_opened.Goals as goal

pub returns-clause-statements : goal.returns-clause-statements
returns-clause-statements c setting line shown b s file q = quiet_body file setting line shown b s q

pub returns-clause-listed : goal.returns-clause-listed
returns-clause-listed c setting e s = value_unlisted (script_language setting) e (s, [])
