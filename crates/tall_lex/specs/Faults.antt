-- What a refusal says of a script.
use Rattle.std.specs.Prelude.{◌≡◌, Err}
use Rattle.tall_lex.specs.declared.tokens.LexFault.{LexFault}
use Rattle.tall_lex.specs.declared.tokens.LexFault.TheVariants.{BadToken, Memory}
use Rattle.tall_lex.specs.Tokens.{Lexed}

-- a bad token is the first of the script; for want of memory nothing is said
abbrev pub IsRefusal : LexFault → Lexed → Type 0
IsRefusal (BadToken line place) lexed = lexed ≡ Err (line, place)
IsRefusal Memory lexed = Unit {0}
