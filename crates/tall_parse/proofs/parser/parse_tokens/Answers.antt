use Rattle.std.proofs.Common.{◌+◌, length, sym}
use Rattle.tall_grammar.specs.Lexemes.{lexemes_of}
use Rattle.tall_grammar.specs.Refusals.{last_line}
use Rattle.tall_parse.specs.Parsed.{seen}
use Rattle.tall_parse.proofs.Told.{said_complete, said_sound}
use Rattle.tall_parse.proofs.parser.parse_tokens.Goals as goal

pub returns-in-None-clause-sound : goal.returns-in-None-clause-sound
returns-in-None-clause-sound c =
    said_sound (length c.args.tokens.now + 2) 66 (last_line c.args.text.now) (lexemes_of c.args.text.now c.args.tokens.now) (sym c.in-None.ensures)
    (seen c.read.result) c.read.ensures

pub returns-in-None-clause-complete : goal.returns-in-None-clause-complete
returns-in-None-clause-complete c =
    said_complete (length c.args.tokens.now + 2) 66 (last_line c.args.text.now) (lexemes_of c.args.text.now c.args.tokens.now) (sym c.in-None.ensures)
    (seen c.read.result) c.read.ensures
