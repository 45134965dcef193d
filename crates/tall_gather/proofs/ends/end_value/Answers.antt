use Rattle.std.proofs.Common.{subst}
use Rattle.tall_semantics.specs.Faults.{At}
use Rattle.tall_semantics.specs.ShapesInOrder.{shape_at}
use Rattle.std.specs.Prelude.{Ok, Err}
use Rattle.tall_part.specs.Operations.{outcome_of_rows}
use Rattle.tall_part.specs.Results.{class_of_column}
use Rattle.tall_pass.specs.Fitting.{has_numbers}
use Rattle.tall_gather.specs.Smalls.{TellsAnswer}
use Rattle.tall_gather.proofs.AnswerLaws.{number_is}
use Rattle.tall_gather.proofs.EndLaws.{at_is, end_answer, end_class, end_fit, fault_fits, fault_told}
use Rattle.tall_gather.proofs.ends.end_value.Goals as goal

pub column_at-requires : goal.column_at-requires
column_at-requires c = (let w = c.in-Ok.ensures.classes c.args.e c.requires.part.0 c.requires.part.1 c.requires.part.2 c.requires.part.3 c.args.place c.requires.place in (w.0, w.1))

pub returns-in-Ok-clause-fits : goal.returns-in-Ok-clause-fits
returns-in-Ok-clause-fits c =
    let p = c.requires.part in
    let w = c.in-Ok.ensures.classes c.args.e p.0 p.1 p.2 p.3 c.args.place c.requires.place in
    end_fit c.args.e (shape_at c.args.graph.now c.args.n) c.column_at.result p.2
    (end_class (class_of_column c.args.e c.args.place p.0 p.1) c.in-Ok.columns.items c.args.place w.0 c.column_at.result (shape_at c.args.graph.now c.args.n).class w.1 c.column_at.ensures w.2 p.5.class_is)
    (c.in-Ok.ensures.heights c.args.e p.0 p.1 p.2 p.3 c.args.place c.column_at.result c.requires.place c.column_at.ensures) p.4 c.requires.space

pub returns-in-Ok-clause-told : goal.returns-in-Ok-clause-told
returns-in-Ok-clause-told c v a b rs ss e part =
    subst (λ (at : At). TellsAnswer (has_numbers (shape_at c.args.graph.now c.args.n).space) (outcome_of_rows at c.args.e c.args.place a b rs ss) (Ok c.column_at.result)) (at_is c.args.graph.now c.args.n c.number_of.result c.line_of.result v e c.number_of.ensures c.line_of.ensures)
    (end_answer (record { number = c.number_of.result; line = c.line_of.result }) c.args.e c.args.place a b rs ss (shape_at c.args.graph.now c.args.n).space c.column_at.result c.requires.space (c.in-Ok.ensures.outcomes c.args.e a b rs ss part c.args.place c.column_at.result c.requires.place c.column_at.ensures))

pub returns-in-Err-clause-fits : goal.returns-in-Err-clause-fits
returns-in-Err-clause-fits c =
    let p = c.requires.part in
    fault_fits c.args.graph.now c.args.n (record { number = c.number_of.result; line = c.line_of.result }) c.args.e c.args.place p.0 p.1 p.3.0 p.3.1 c.in-Err.fault (number_is c.args.graph.now c.args.n c.number_of.result c.requires.there c.number_of.ensures)
    (c.in-Err.ensures.fault c.args.e p.0 p.1 p.3.0 p.3.1 p.3.2)

pub returns-in-Err-clause-told : goal.returns-in-Err-clause-told
returns-in-Err-clause-told c v a b rs ss e part =
    subst (λ (at : At). TellsAnswer (has_numbers (shape_at c.args.graph.now c.args.n).space) (outcome_of_rows at c.args.e c.args.place a b rs ss) (Err c.in-Err.fault)) (at_is c.args.graph.now c.args.n c.number_of.result c.line_of.result v e c.number_of.ensures c.line_of.ensures)
    (fault_told (has_numbers (shape_at c.args.graph.now c.args.n).space) (record { number = c.number_of.result; line = c.line_of.result }) c.args.e c.args.place a b rs ss c.in-Err.fault (c.in-Err.ensures.fault c.args.e a b rs ss part))
