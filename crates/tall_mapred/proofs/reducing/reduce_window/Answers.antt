use Rattle.std.proofs.Common.{drop, take}
use Rattle.tall_grammar.specs.Views.{routine_of}
use Rattle.tall_mapred.specs.Phases.{reduce_wants}
use Rattle.tall_mapred.proofs.WindowLaws.{faults_answer, key_pieces_come}
use Rattle.tall_mapred.proofs.reducing.reduce_window.Goals as goal

pub returns-clause-appends : goal.returns-clause-appends
returns-clause-appends g c d =
    let f = routine_of c.args.function.now in
    let window = take c.args.count (drop c.args.first c.args.groups.now) in
    c.append_pieces.ensures.appends d (reduce_wants f window) (key_pieces_come d f window c.in-Ok.pieces.items c.in-Ok.ensures)

pub returns-clause-only : goal.returns-clause-only
returns-clause-only g c = faults_answer (routine_of c.args.function.now) (take c.args.count (drop c.args.first c.args.groups.now)) c.in-Ok.pieces.items c.append_pieces.result c.in-Ok.ensures c.append_pieces.ensures.fault
