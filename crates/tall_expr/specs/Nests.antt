-- A function value that reads expressions to a depth.
use Rattle.std.specs.Prelude.{ℕ, Option, Result}
use Rattle.std.specs.declared.alloc.Global.{Global}
use denote.Ref.{MutBor}
use Rattle.tall_grammar.specs.declared.expressions.Expr.{Expr}
use Rattle.tall_grammar.specs.declared.faults.Fault.{Fault}
use Rattle.tall_grammar.specs.ExprReader.{expr_within}
use Rattle.tall_grammar.specs.Readers.{Input}
use Rattle.tall_expr.specs.Gives.{Gives, kept_by}
use Rattle.tall_grammar.specs.Views.{tree_of}

pub record Nests (turns depth : ℕ) (pre : Global → MutBor Input → ℕ → ℕ → ℕ → Type 0)
    (post : Global → MutBor Input → ℕ → ℕ → ℕ → Result (Option (Expr × ℕ)) Fault → MutBor Input → Type 0) : Type 0 where
  pub callable : (alloc : Global) (old : MutBor Input) (line : ℕ) → pre alloc old turns depth line
  pub reads : (alloc : Global) (old new : MutBor Input) (line : ℕ) (r : Result (Option (Expr × ℕ)) Fault)
      → post alloc old turns depth line r new → Gives (kept_by tree_of) (expr_within turns depth line old.now) r new.now
