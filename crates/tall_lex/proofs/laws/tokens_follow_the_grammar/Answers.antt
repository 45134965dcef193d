use Rattle.tall_lex.proofs.Scripts.{tokens_derived, tokens_are, bad_derived, bad_token_is}
use Rattle.tall_lex.proofs.laws.tokens_follow_the_grammar.Goals as goal

pub returns-clause-derived : goal.returns-clause-derived
returns-clause-derived c = tokens_derived

pub returns-clause-read : goal.returns-clause-read
returns-clause-read c = tokens_are

pub returns-clause-bad : goal.returns-clause-bad
returns-clause-bad c = bad_derived

pub returns-clause-refused : goal.returns-clause-refused
returns-clause-refused c = bad_token_is
