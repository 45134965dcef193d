-- Part by part.
use Rattle.std.specs.Prelude.{◌≡◌, ◌<◌, ◌+◌, drop, length, map}
use Rattle.std.proofs.Common.{subst, sym, arith}
use Rattle.tall_graph.specs.Vertices.{part_of}
use Rattle.tall_local.specs.Lists.{each_of}
use Rattle.tall_semantics.specs.Deferred.{AllBelow}
use Rattle.tall_semantics.specs.Operations.{group}
use Rattle.tall_script.specs.ScriptValues.{parts_of}
use Rattle.tall_script.specs.VertexLaws.{vertex}
use Rattle.tall_deferred.specs.Lists.{followed}
use Rattle.tall_deferred.specs.Values.{at_seen}
use Rattle.tall_deferred.proofs.Grown.{meaning_pushed, meaning_same}
use Rattle.tall_deferred.proofs.GroupLaws.{part_column, part_may, parts_extend, nodes_grown, vertex_part, part_turn, part_stop, parts_end, as_many}
use Rattle.tall_deferred.proofs.RowLaws.{grown_at}
use Rattle.tall_deferred.specs.Groups.{group_vertices}
use Rattle.tall_deferred.proofs.groups.group_columns.Goals as goal

pub computed-requires-clause-may : goal.computed-requires-clause-may
computed-requires-clause-may c =
    part_may (at_seen c.args.at) c.args.method c.args.args.now c.loop-part.part c.args.graph.now c.loop-part.graph c.requires.lower c.requires.within
    (subst (λ n. c.loop-part.part < n) c.parts-count.ensures c.loop-part-test.true) c.loop-part.invariant.grown

pub returns-in-Err-clause-extends : goal.returns-in-Err-clause-extends
returns-in-Err-clause-extends c =
    rw c.in-Err.ensures.pushed (parts_extend (at_seen c.args.at) c.args.method c.args.args.now c.loop-part.part c.args.graph.now c.loop-part.graph c.requires.within c.loop-part.invariant.grown)

pub returns-in-Err-clause-given : goal.returns-in-Err-clause-given
returns-in-Err-clause-given c columns f m =
    part_stop (at_seen c.args.at) c.args.method c.args.args.now f c.loop-part.nodes.items c.loop-part.part (each_of (part_column (at_seen c.args.at) c.args.method c.args.args.now f) (parts_of c.args.method)) c.in-Err.fault
    (subst (λ n. c.loop-part.part < n) c.parts-count.ensures c.loop-part-test.true) (c.in-Err.ensures.means columns f m)
    (c.loop-part.invariant.given columns f (meaning_same c.loop-part.graph c.computed.new.graph columns f c.in-Err.ensures.pushed m))

pub returns-in_err-add-clause-extends : goal.returns-in_err-add-clause-extends
returns-in_err-add-clause-extends c =
    let l = subst (λ n. c.loop-part.part < n) c.parts-count.ensures c.loop-part-test.true in
    let w = vertex (at_seen c.args.at) (group c.args.method (part_of c.loop-part.part)) c.args.args.now in
    let ws = group_vertices (at_seen c.args.at) c.args.method c.args.args.now in
    parts_extend (at_seen c.args.at) c.args.method c.args.args.now (c.loop-part.part + 1) c.args.graph.now c.computed.new.graph c.requires.within
    (grown_at c.args.graph.now c.loop-part.graph c.computed.new.graph ws c.loop-part.part w (vertex_part (at_seen c.args.at) c.args.method c.args.args.now c.loop-part.part l) c.loop-part.invariant.grown c.in-Ok.ensures.pushed.1)

pub loop-part-preserved : goal.loop-part-preserved
loop-part-preserved c =
    let l = subst (λ n. c.loop-part.part < n) c.parts-count.ensures c.loop-part-test.true in
    let at = at_seen c.args.at in let w = vertex at (group c.args.method (part_of c.loop-part.part)) c.args.args.now in
    let ws = group_vertices at c.args.method c.args.args.now in let F = part_column at c.args.method c.args.args.now in
    record {
      grown = grown_at c.args.graph.now c.loop-part.graph c.computed.new.graph ws c.loop-part.part w (vertex_part at c.args.method c.args.args.now c.loop-part.part l) c.loop-part.invariant.grown c.in-Ok.ensures.pushed.1;
      within = subst (AllBelow (length c.computed.new.graph)) (sym c.in_ok-add.ensures)
          (nodes_grown c.loop-part.graph c.computed.new.graph w c.loop-part.nodes.items c.in-Ok.node c.loop-part.invariant.within c.in-Ok.ensures.pushed.0 c.in-Ok.ensures.pushed.1);
      count = as_many c.loop-part.nodes.items c.add.new.nodes.items c.in-Ok.node c.loop-part.part c.loop-part.invariant.count c.in_ok-add.ensures;
      given = λ columns f m.
          subst (λ ys. followed (map f ys) (each_of (F f) (drop (c.loop-part.part + 1) (parts_of c.args.method))) ≡ each_of (F f) (parts_of c.args.method)) (sym c.in_ok-add.ensures)
          (part_turn at c.args.method c.args.args.now f c.loop-part.nodes.items c.loop-part.part c.in-Ok.node (each_of (F f) (parts_of c.args.method)) l (c.in-Ok.ensures.means columns f m)
          (c.loop-part.invariant.given columns f (meaning_pushed c.loop-part.graph c.computed.new.graph w columns f c.in-Ok.ensures.pushed.1 m)));
    }

pub returns-clause-extends : goal.returns-clause-extends
returns-clause-extends c =
    parts_extend (at_seen c.args.at) c.args.method c.args.args.now c.loop-part.part c.args.graph.now c.loop-part.graph c.requires.within c.loop-part.invariant.grown

pub returns-clause-given : goal.returns-clause-given
returns-clause-given c columns f m =
    parts_end (at_seen c.args.at) c.args.method c.args.args.now f c.loop-part.nodes.items c.loop-part.part (each_of (part_column (at_seen c.args.at) c.args.method c.args.args.now f) (parts_of c.args.method))
    (let e = c.parts-count.ensures in let h = c.loop-part-test.false in omega (arith, e, h)) (c.loop-part.invariant.given columns f m)
