use Rattle.tall_lex.proofs.ByteScripts.{bytes_derived, bytes_are, bad_bytes_derived, bad_bytes_are}
use Rattle.tall_lex.proofs.laws.bytes_follow_the_grammar.Goals as goal

pub returns-clause-derived : goal.returns-clause-derived
returns-clause-derived c = bytes_derived

pub returns-clause-read : goal.returns-clause-read
returns-clause-read c = bytes_are

pub returns-clause-bad : goal.returns-clause-bad
returns-clause-bad c = bad_bytes_derived

pub returns-clause-refused : goal.returns-clause-refused
returns-clause-refused c = bad_bytes_are
