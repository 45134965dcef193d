-- Variable by variable.
use Rattle.std.specs.Prelude.{◌≡◌, ◌∷◌, [], ◌++◌, ℕ, ◌<◌, ◌≤◌, ◌+◌, Ok, List, drop, length}
use Rattle.std.specs.List.{All}
use Rattle.std.proofs.Common.{ap, subst, sym, ◌∙◌}
use Rattle.tall_semantics.specs.Additions.{MayAdd}
use Rattle.tall_semantics.specs.Deferred.{Vertex}
use Rattle.tall_local.specs.Values.{tall_table}
use Rattle.tall_script.specs.TallTables.{stored_variables, tall_of_store}
use Rattle.tall_script.specs.VertexLaws.{variable_of}
use Rattle.tall_deferred.specs.Values.{IsVariable, at_seen, variables_at}
use Rattle.tall_deferred.specs.declared.values.Variable.{Variable}
use Rattle.tall_deferred.proofs.RowLaws.{grown_within}
use Rattle.tall_sources.proofs.TallLemmas.{entry_at, store_of, same_vertex, variable_may, variable_grown, stored_before, meant_before, node_means, variable_turn, variables_end}
use Rattle.tall_sources.proofs.talls.tall_of.Goals as goal

abbrev variable : List ℕ → ℕ → Variable
variable name node = record { name = name; node = node }

pub stored-requires : goal.stored-requires
stored-requires c =
    let at = at_seen c.args.at in let store = c.args.store.now in let k = c.loop-k.k in
    subst (λ v. MayAdd c.loop-k.graph v) (sym (same_vertex at c.args.place c.in_ok-number.number store k c.class_at-class.result c.in_ok-number.ensures.number c.class_at-class.ensures.class))
    (variable_may at c.args.place store k c.args.graph.now c.loop-k.graph c.requires (subst (λ n. k < n) c.selected_count-k-end.ensures c.loop-k-test.true) c.loop-k.invariant.grown)

pub returns-in_err-add_variable-clause-extends : goal.returns-in_err-add_variable-clause-extends
returns-in_err-add_variable-clause-extends c =
    let at = at_seen c.args.at in let store = c.args.store.now in let k = c.loop-k.k in
    let same = same_vertex at c.args.place c.in_ok-number.number store k c.class_at-class.result c.in_ok-number.ensures.number c.class_at-class.ensures.class in (
      k + 1,
      variable_grown at c.args.place store k c.args.graph.now c.loop-k.graph c.stored.new.graph (subst (λ n. k < n) c.selected_count-k-end.ensures c.loop-k-test.true) c.loop-k.invariant.grown
          (c.in_ok-node.ensures.pushed.1 ∙ ap (λ (v : Vertex). c.loop-k.graph ++ v ∷ []) same),
    )

pub loop-k-preserved : goal.loop-k-preserved
loop-k-preserved c =
    let at = at_seen c.args.at in let store = c.args.store.now in let k = c.loop-k.k in let place = c.args.place in
    let mid = c.loop-k.graph in let new = c.stored.new.graph in let xs = c.loop-k.variables.items in
    let d = store_of at store in let w = variable_of at place (entry_at store k) in
    let y = variable c.selected_name.result.now c.in_ok-node.node in
    let l : k < length store.selected = subst (λ n. k < n) c.selected_count-k-end.ensures c.loop-k-test.true in
    let same = same_vertex at place c.in_ok-number.number store k c.class_at-class.result c.in_ok-number.ensures.number c.class_at-class.ensures.class in
    let pushed : new ≡ mid ++ w ∷ [] = c.in_ok-node.ensures.pushed.1 ∙ ap (λ (v : Vertex). mid ++ v ∷ []) same in
    record {
      grown = variable_grown at place store k c.args.graph.now mid new l c.loop-k.invariant.grown pushed;
      within = subst (λ ys. All (IsVariable (length new)) ys) (sym c.in_ok-add_variable.ensures)
          (grown_within mid new w xs y c.in_ok-node.ensures.pushed.0 pushed c.loop-k.invariant.within);
      given = λ files stores columns f there are m.
          subst (λ ys. variables_at f ys ++ stored_variables files place d (k + 1) (drop (k + 1) store.selected) ≡ stored_variables files place d 0 store.selected) (sym c.in_ok-add_variable.ensures)
          (variable_turn files place d f k xs y (stored_variables files place d 0 store.selected) l c.selected_name.ensures.name
          (node_means files stores columns f d place k c.in_ok-node.node (entry_at store k).1 mid new there c.in_ok-node.ensures.pushed.0 pushed are m)
          (c.loop-k.invariant.given files stores columns f there (stored_before files stores mid new (w ∷ []) columns pushed are) (meant_before mid new w columns f pushed m)));
    }

pub returns-clause-given : goal.returns-clause-given
returns-clause-given c files stores columns f there are m =
    let d = store_of (at_seen c.args.at) c.args.store.now in
    ap (tall_of_store files c.args.place) there
    ∙ ap (λ t. Ok (tall_table t)) (variables_end files c.args.place d f c.loop-k.k c.loop-k.variables.items (stored_variables files c.args.place d 0 c.args.store.now.selected)
    (subst (λ n. n ≤ c.loop-k.k) c.selected_count-k-end.ensures c.loop-k-test.false) (c.loop-k.invariant.given files stores columns f there are m))
