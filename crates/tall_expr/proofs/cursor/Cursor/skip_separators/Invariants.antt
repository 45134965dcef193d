use Rattle.std.proofs.Common.{◌≡◌, length}
use Rattle.tall_grammar.specs.Readers.{without_separators}
use Rattle.tall_expr.proofs.cursor.Cursor.skip_separators.Given as goal

-- what is left has the same rest behind its separators
abbrev pub invariant-loop-self : goal.invariant-loop-self
invariant-loop-self l = (without_separators l.self.rest ≡ without_separators l.fn.self.rest) × (l.self.next ≡ l.fn.self.next)

abbrev pub decreases-loop-self : goal.decreases-loop-self
decreases-loop-self l = length l.self.rest
