-- What the graph tells of a node's class and space is that of its value.
use Rattle.tall_deferred.specs.Operands.{beside_class}
use Rattle.tall_script.specs.ScriptValues.{beside_column}
use Rattle.tall_deferred.proofs.Operands.{classes_told, column_met, column_refused}
use Rattle.tall_deferred.proofs.operators.beside_column.Goals as goal

pub returns-in-Ok : goal.returns-in-Ok
returns-in-Ok c columns f m =
    let told = classes_told columns c.args.graph.now f c.args.x c.args.op c.args.swapped c.class_of.result c.is_scalar.result c.args.y.now.class c.classes_beside-class.result
    c.keeps_its_rules.ensures.made m c.requires c.class_of.ensures c.is_scalar.ensures (rw c.class.ensures at c.classes_beside-class.ensures) in
    column_met (beside_class c.args.op c.args.swapped (f c.args.x) c.args.y.now.class) c.classes_beside-class.result c.in-Ok.field-0 told c.in-Ok.is

pub returns-in-Err : goal.returns-in-Err
returns-in-Err c columns f m =
    let told = classes_told columns c.args.graph.now f c.args.x c.args.op c.args.swapped c.class_of.result c.is_scalar.result c.args.y.now.class c.classes_beside-class.result
    c.keeps_its_rules.ensures.made m c.requires c.class_of.ensures c.is_scalar.ensures (rw c.class.ensures at c.classes_beside-class.ensures) in
    c.refused_class.ensures (beside_column (beside_class c.args.op c.args.swapped (f c.args.x) c.args.y.now.class))
    (column_refused (beside_class c.args.op c.args.swapped (f c.args.x) c.args.y.now.class) c.classes_beside-class.result c.in-Err.fault told c.in-Err.is)
