-- What a call of the parser says that bytes are.
use Rattle.std.specs.Prelude.{Option, Some, None, Result, Ok, Err}
use Rattle.tall_grammar.specs.declared.scripts.ParseFault.{ParseFault}
use Rattle.tall_grammar.specs.declared.scripts.ParseFault.TheVariants.{TooLong, BadToken, TooDeep, Syntax, Memory}
use Rattle.tall_grammar.specs.declared.scripts.Script.{Script}
use Rattle.tall_grammar.specs.Refusals.{Verdict, read, too_long, bad_token, too_deep_at, syntax_at}
use Rattle.tall_grammar.specs.Views.{program_of}

abbrev pub refusal : ParseFault → Option Verdict
refusal TooLong = Some too_long
refusal (BadToken line place) = Some (bad_token line place)
refusal (TooDeep line) = Some (too_deep_at line)
refusal (Syntax line) = Some (syntax_at line)
refusal Memory = None

-- the script, or its refusal; for want of memory nothing
abbrev pub seen : Result Script ParseFault → Option Verdict
seen (Ok s) = Some (read (program_of s))
seen (Err fault) = refusal fault
