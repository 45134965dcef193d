use Rattle.std.proofs.Common.{◌+◌, ◌∙◌, Err, ap, arith, length}
use Rattle.std.proofs.lemmas.List.{length-map}
use Rattle.tall_grammar.specs.Kept.{with_it}
use Rattle.tall_grammar.specs.Lexemes.{lexeme_of, lexemes_of}
use Rattle.tall_grammar.specs.Views.{program_of}
use Rattle.tall_parse.proofs.Told.{never_tired}
use Rattle.tall_parse.proofs.parser.read.Goals as goal

pub unreachable-requires : goal.unreachable-requires
unreachable-requires c =
    let same = length-map c.args.tokens.now (lexeme_of c.args.text.now) in
    never_tired (length c.args.tokens.now + 2) 66 (lexemes_of c.args.text.now c.args.tokens.now) (with_it program_of) _ _ _ c.requires.flat (omega (arith, same)) (omega arith) c.new.ensures c.script.ensures
    (c.in-Err-OutOfTurns.is ∙ ap Err c.in-Err-OutOfTurns.field-0-is)
