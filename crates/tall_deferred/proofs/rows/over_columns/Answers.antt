-- Column by column.
use Rattle.std.specs.Prelude.{ℕ, List, ◌≡◌, ◌+◌, drop, length}
use Rattle.std.specs.List.{All}
use Rattle.std.proofs.Common.{ap, subst, sym}
use Rattle.tall_script.specs.ScriptValues.{over_columns}
use Rattle.tall_script.specs.VertexLaws.{vertex}
use Rattle.tall_deferred.specs.Lists.{followed}
use Rattle.tall_deferred.specs.Rows.{rows_op, rows_args}
use Rattle.tall_deferred.specs.Values.{IsVariable, at_seen, variables_at}
use Rattle.tall_deferred.specs.declared.values.Variable.{Variable}
use Rattle.tall_deferred.proofs.Grown.{meaning_pushed, meaning_same}
use Rattle.tall_deferred.proofs.RowLaws.{kept, column_grown, columns_extend, column_turn, column_stop, columns_end, grown_within}
use Rattle.tall_deferred.proofs.rows.over_columns.Goals as goal

abbrev variable : List ℕ → ℕ → Variable
variable name node = record { name = name; node = node }

abbrev entry : goal.In_ok-add_variable → Variable
entry c = variable c.as_str-name.result.now c.in-Ok.node

pub loop-variable-preserved : goal.loop-variable-preserved
loop-variable-preserved c =
    let at = at_seen c.args.at in let rows = c.args.rows.now in let xs = c.args.variables.now in let x = c.variable-item.result in
    let v = vertex at (rows_op rows) (rows_args rows x.node) in
    let all = c.add_variable.new.variables.items in
    record {
      grown = column_grown at rows xs c.loop-variable.variable-index x c.args.graph.now c.loop-variable.graph c.kept_column.new.graph c.loop-variable-test.true c.variable-item.is c.loop-variable.invariant.grown c.in-Ok.ensures.pushed.1;
      within = subst (λ ys. All (IsVariable (length c.kept_column.new.graph)) ys) (sym c.in_ok-add_variable.ensures)
          (grown_within c.loop-variable.graph c.kept_column.new.graph v c.loop-variable.kept.items (entry c) c.in-Ok.ensures.pushed.0 c.in-Ok.ensures.pushed.1 c.loop-variable.invariant.within);
      given = λ columns f m.
          subst (λ ys. followed (variables_at f ys) (over_columns (kept at rows f) (variables_at f (drop (c.loop-variable.variable-index + 1) xs))) ≡ over_columns (kept at rows f) (variables_at f xs)) (sym c.in_ok-add_variable.ensures)
          (column_turn at rows f xs c.loop-variable.kept.items c.loop-variable.variable-index c.in-Ok.node x (entry c) (over_columns (kept at rows f) (variables_at f xs)) c.loop-variable-test.true c.variable-item.is (ap (λ s. variable s c.in-Ok.node) c.as_str-name.ensures)
          (c.in-Ok.ensures.means columns f m)
          (c.loop-variable.invariant.given columns f (meaning_pushed c.loop-variable.graph c.kept_column.new.graph v columns f c.in-Ok.ensures.pushed.1 m)));
    }

pub returns-in-Err-clause-extends : goal.returns-in-Err-clause-extends
returns-in-Err-clause-extends c =
    rw c.in-Err.ensures.pushed (columns_extend (at_seen c.args.at) c.args.rows.now c.args.variables.now c.loop-variable.variable-index c.args.graph.now c.loop-variable.graph c.requires.mask c.requires.within c.loop-variable.invariant.grown)

pub returns-in-Err-clause-given : goal.returns-in-Err-clause-given
returns-in-Err-clause-given c columns f m =
    let at = at_seen c.args.at in let rows = c.args.rows.now in let xs = c.args.variables.now in
    column_stop at rows f xs c.loop-variable.kept.items c.loop-variable.variable-index c.variable-item.result (over_columns (kept at rows f) (variables_at f xs)) c.in-Err.fault c.loop-variable-test.true c.variable-item.is
    (c.in-Err.ensures.means columns f m)
    (c.loop-variable.invariant.given columns f (meaning_same c.loop-variable.graph c.kept_column.new.graph columns f c.in-Err.ensures.pushed m))

pub returns-in_err-add_variable-clause-extends : goal.returns-in_err-add_variable-clause-extends
returns-in_err-add_variable-clause-extends c =
    let grown = column_grown (at_seen c.args.at) c.args.rows.now c.args.variables.now c.loop-variable.variable-index c.variable-item.result c.args.graph.now c.loop-variable.graph c.kept_column.new.graph c.loop-variable-test.true c.variable-item.is c.loop-variable.invariant.grown c.in-Ok.ensures.pushed.1 in
    columns_extend (at_seen c.args.at) c.args.rows.now c.args.variables.now (c.loop-variable.variable-index + 1) c.args.graph.now c.kept_column.new.graph c.requires.mask c.requires.within grown

pub returns-clause-extends : goal.returns-clause-extends
returns-clause-extends c =
    columns_extend (at_seen c.args.at) c.args.rows.now c.args.variables.now c.loop-variable.variable-index c.args.graph.now c.loop-variable.graph c.requires.mask c.requires.within c.loop-variable.invariant.grown

pub returns-clause-given : goal.returns-clause-given
returns-clause-given c columns f m =
    let at = at_seen c.args.at in let rows = c.args.rows.now in let xs = c.args.variables.now in
    columns_end at rows f xs c.loop-variable.kept.items c.loop-variable.variable-index (over_columns (kept at rows f) (variables_at f xs)) c.loop-variable-test.false (c.loop-variable.invariant.given columns f m)
