-- What a cursor shows, and what it keeps.
use Rattle.std.specs.List.{AllByRecursion}
use Rattle.tall_expr.specs.declared.cursor.Cursor.TheInside.{Inside}
use Rattle.tall_grammar.specs.Lexemes.{lexemes_of}
use Rattle.tall_grammar.specs.Readers.{Input, input}
use Rattle.tall_expr.specs.Gives.{IsSlice}

abbrev pub input_of : Inside → Input
input_of t = input (lexemes_of t.script.now t.rest.now) t.next

abbrev pub AreSlices : Inside → Type 0
AreSlices t = AllByRecursion (IsSlice t.script.now) t.rest.now
