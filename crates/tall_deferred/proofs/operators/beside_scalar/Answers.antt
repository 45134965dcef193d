-- The constant, and then the operator over it.
use Rattle.std.specs.Prelude.{[]}
use Rattle.tall_value.specs.Cells.{seen}
use Rattle.tall_value.specs.OwnedCells.{owned_seen}
use Rattle.tall_graph.specs.Vertices.{vertex}
use Rattle.tall_graph.specs.declared.operations.NodeOp.TheVariants as node
use Rattle.tall_script.specs.ScriptValues.{deferring}
use Rattle.tall_semantics.specs.Operations as op
use Rattle.tall_deferred.specs.Operands.{pair_of}
use Rattle.tall_deferred.specs.Values.{at_seen}
use Rattle.tall_deferred.proofs.Grown.{may_add, may_add_behind, adds_one, adds_behind, meaning_pushed, meaning_same}
use Rattle.tall_deferred.proofs.Operands.{args_within, joined_given, joined_refused, constant_refused}
use Rattle.tall_deferred.proofs.operators.beside_scalar.Goals as goal

pub computed-made-requires-clause-may : goal.computed-made-requires-clause-may
computed-made-requires-clause-may c = may_add (at_seen c.args.at) (op.constant (owned_seen c.in_ok-cell.cell)) [] c.args.graph.now c.requires.lower tt

pub computed-joined-requires-clause-may : goal.computed-joined-requires-clause-may
computed-joined-requires-clause-may c =
    let v = vertex c.args.at.number c.args.at.line (node.Constant c.in_ok-cell.cell) [] in
    may_add_behind (at_seen c.args.at) (owned_seen c.in_ok-cell.cell) (op.binary c.args.op) c.pair_of-args.result c.args.graph.now c.computed-made.new.graph c.requires.lower c.in-Ok.ensures.pushed.1
    (args_within c.args.graph.now c.computed-made.new.graph v c.args.swapped c.args.x c.in-Ok.constant c.pair_of-args.result c.requires.within c.in-Ok.ensures.pushed.0 c.in-Ok.ensures.pushed.1 c.pair_of-args.ensures)

pub returns-in-Ok-joined-clause-extends : goal.returns-in-Ok-joined-clause-extends
returns-in-Ok-joined-clause-extends c =
    let v = vertex c.args.at.number c.args.at.line (node.Constant c.in_ok-cell.cell) [] in
    adds_behind (at_seen c.args.at) (owned_seen c.in_ok-cell.cell) (op.binary c.args.op) c.pair_of-args.result c.args.graph.now c.computed-made.new.graph c.computed-joined.new.graph c.in-Ok.ensures.pushed.1
    (args_within c.args.graph.now c.computed-made.new.graph v c.args.swapped c.args.x c.in-Ok.constant c.pair_of-args.result c.requires.within c.in-Ok.ensures.pushed.0 c.in-Ok.ensures.pushed.1 c.pair_of-args.ensures)
    c.in-Ok-joined.ensures.pushed.1

pub returns-in-Err-joined-clause-extends : goal.returns-in-Err-joined-clause-extends
returns-in-Err-joined-clause-extends c =
    rw c.in-Err-joined.ensures.pushed (adds_one (at_seen c.args.at) (op.constant (owned_seen c.in_ok-cell.cell)) [] c.args.graph.now c.computed-made.new.graph tt c.in-Ok.ensures.pushed.1)

pub returns-in-Ok-joined-clause-given : goal.returns-in-Ok-joined-clause-given
returns-in-Ok-joined-clause-given c columns f m =
    let w = vertex c.args.at.number c.args.at.line (node.Binary c.args.op) c.pair_of-args.result in
    joined_given (at_seen c.args.at) (seen c.args.c.now) (owned_seen c.in_ok-cell.cell) c.args.op f c.args.swapped c.args.x c.in-Ok.constant c.in-Ok-joined.node c.pair_of-args.result
    c.in_ok-cell.ensures c.pair_of-args.ensures
    (c.in-Ok.ensures.means columns f (meaning_pushed c.computed-made.new.graph c.computed-joined.new.graph w columns f c.in-Ok-joined.ensures.pushed.1 m))
    (c.in-Ok-joined.ensures.means columns f m)

pub returns-in-Err-joined-clause-given : goal.returns-in-Err-joined-clause-given
returns-in-Err-joined-clause-given c columns f m =
    joined_refused (at_seen c.args.at) (seen c.args.c.now) (owned_seen c.in_ok-cell.cell) c.args.op f c.args.swapped c.args.x c.in-Ok.constant c.pair_of-args.result c.in-Err-joined.fault
    c.in_ok-cell.ensures c.pair_of-args.ensures
    (c.in-Ok.ensures.means columns f (meaning_same c.computed-made.new.graph c.computed-joined.new.graph columns f c.in-Err-joined.ensures.pushed m))
    (c.in-Err-joined.ensures.means columns f m)

pub returns-in-Err-clause-given : goal.returns-in-Err-clause-given
returns-in-Err-clause-given c columns f m =
    constant_refused (at_seen c.args.at) (seen c.args.c.now) (owned_seen c.in_ok-cell.cell) (λ y. deferring (at_seen c.args.at) (op.binary c.args.op) (pair_of c.args.swapped (f c.args.x) y)) c.in-Err.fault
    c.in_ok-cell.ensures (c.in-Err.ensures.means columns f m)
