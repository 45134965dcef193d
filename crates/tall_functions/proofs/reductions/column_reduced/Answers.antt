use Rattle.std.proofs.Common.{◌≡◌, Ok, rules}
use Rattle.tall_value.specs.Classes.{kind_of}
use Rattle.tall_value.specs.ClassTables.{class_result}
use Rattle.tall_value.specs.FunctionClasses.{reduction_kind}
use Rattle.tall_value.specs.Reductions.{reduced}
use Rattle.tall_local.specs.MemoryFunctions.{total_result}
use Rattle.tall_functions.proofs.ReductionLemmas.{one_row, with_taken}
use Rattle.tall_functions.proofs.reductions.column_reduced.Goals as goal

pub total_answer-requires : goal.total_answer-requires
total_answer-requires c =
    let x = c.args.x.now in
    one_row (reduced c.args.r (kind_of x.class) x.cells) c.args.r x.class c.finish.result (c.finish.ensures c.args.r x.class x.cells c.summarise.ensures)

pub returns-in-Ok : goal.returns-in-Ok
returns-in-Ok c =
    let x = c.args.x.now in
    let found = reduced c.args.r (kind_of x.class) x.cells in
    let told : class_result (reduction_kind c.args.r (kind_of x.class)) ≡ Ok c.in-Ok.field-0 = search rules in
    with_taken (reduction_kind c.args.r (kind_of x.class)) c.in-Ok.field-0 (total_result found) c.total_answer.result told
    (c.total_answer.ensures found c.args.r x.class (c.finish.ensures c.args.r x.class x.cells c.summarise.ensures))
