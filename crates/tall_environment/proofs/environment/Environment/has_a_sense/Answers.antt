use Rattle.std.proofs.Common.{subst, ℕ}
use Rattle.tall_semantics.specs.Talls.{Columns, Tall}
use Rattle.tall_environment.specs.Expressions.{IsSense}
use Rattle.tall_environment.proofs.EnvironmentLaws.{columns_by, columns_stored}
use Rattle.tall_environment.proofs.environment.Environment.has_a_sense.Goals as goal

pub returns : goal.returns
returns c = λ files.
    let columns = columns_by files c.self.inside.sources in
    let s = c.keeps_its_rules.ensures.solved columns in
    subst (λ e. (columns : Columns) × (f : ℕ → Tall) × IsSense files e columns f) c.self.view_is
    (columns, s.0, record { stored = columns_stored files c.self.inside.sources c.self.inside.graph c.self.invariant.kept; solved = s.1 })
