use Rattle.std.proofs.Common.{rules, true, ◌≡◌, ◌++◌, ◌∷◌, [], ◌+◌, map, sym, subst, drop, ℕ, refl, ◌≤◌, Vec, Global}
use Rattle.tall_evaluate.specs.declared.languages.Argument.{Argument}
use Rattle.tall_grammar.specs.Trees.{Tree, tree}
use Rattle.tall_grammar.specs.Trees as trees
use Rattle.tall_grammar.specs.Views.{arg_of, args_of, tree_of}
use Rattle.tall_evaluate.specs.Orders.{AreInOrder, ArgsAreInOrder}
use Rattle.tall_texts.proofs.Lists.{drop_get, get_here}
use Rattle.tall_grammar.specs.declared.expressions.Expr as q
use Rattle.std.specs.Prelude.{Err}
use Rattle.tall_local.specs.Expressions.{value, answered}
use Rattle.tall_local.specs.StateLaws.{calls_none}
use Rattle.tall_evaluate.specs.Calls.{function_call}
use Rattle.tall_evaluate.proofs.Forms.{as_tree, failed_as, prefix_failed, prefix_after, left_failed, infix_failed, infix_after, member_failed, member_after, function_after, index_failed, index_after, call_failed, call_after}
use Rattle.tall_evaluate.proofs.Still.{joined_still, function_still, index_still}
use Rattle.tall_evaluate.proofs.Lists.{Going, first_in_order, started, one_more, one_failed, no_room, going_at}
use Rattle.tall_grammar.proofs.expressions.Arg.TheLaws.{the_size}
use denote.Param.Weighed.{at_most, most}
use native.Mathlib.Omega.{arith}
use Rattle.tall_evaluate.proofs.walk.+walk.Goals as goal

pub evaluate-returns-in_err-right-in-Infix-clause-does :
    goal.evaluate-returns-in_err-right-in-Infix-clause-does
evaluate-returns-in_err-right-in-Infix-clause-does g t c =
    let m = g.L.Language.senses in
    let laws = g.met.L.Language.laws in
    let e : tree_of c.args.e.now ≡ tree c.args.e.now.number c.args.e.now.line (trees.joined c.in-Infix.op (tree_of c.get-in-Infix.result.now) (tree_of c.get-in-Infix-2.result.now)) = search (rules, q.the_lemmas) in
    let r : c.from_residual-in_err-right-in-Infix.result ≡ Err c.in_err-right-in-Infix.field-0.0 = search rules in
    as_tree m laws (tree_of c.args.e.now) _ c.args.language.now c.evaluate-in-Infix-2.new.language _ e
    (infix_failed m laws c.args.e.now.number c.args.e.now.line c.in-Infix.op (tree_of c.get-in-Infix.result.now) (tree_of c.get-in-Infix-2.result.now)
    c.args.language.now c.evaluate-in-Infix.new.language c.evaluate-in-Infix-2.new.language c.in_ok-left-in-Infix.left c.in_err-right-in-Infix.field-0.0 c.from_residual-in_err-right-in-Infix.result r
    c.in_ok-left-in-Infix.ensures.does c.in_err-right-in-Infix.ensures.does)

pub evaluate-infix-requires-clause-ready : goal.evaluate-infix-requires-clause-ready
evaluate-infix-requires-clause-ready g t c =
    let m = g.L.Language.senses in
    let e : tree_of c.args.e.now ≡ tree c.place_of-in-Infix.result.number c.place_of-in-Infix.result.line (trees.joined c.in-Infix.op (tree_of c.get-in-Infix.result.now) (tree_of c.get-in-Infix-2.result.now)) = search (rules, q.the_lemmas) in
    let o : AreInOrder m.follows (tree c.place_of-in-Infix.result.number c.place_of-in-Infix.result.line (trees.joined c.in-Infix.op (tree_of c.get-in-Infix.result.now) (tree_of c.get-in-Infix-2.result.now)))
    = subst (λ x. AreInOrder m.follows x) e c.requires.order in
    g.met.L.Language.laws.done_ready _ _ _ c.in_ok-right-in-Infix.ensures.done o.3

pub evaluate-returns-in_ok-operand-in-Prefix-clause-does :
    goal.evaluate-returns-in_ok-operand-in-Prefix-clause-does
evaluate-returns-in_ok-operand-in-Prefix-clause-does g t c =
    let m = g.L.Language.senses in
    let laws = g.met.L.Language.laws in
    let n = c.place_of.result.number in
    let l = c.place_of.result.line in
    let e : tree_of c.args.e.now ≡ tree c.place_of.result.number c.place_of.result.line (trees.prefixed c.in-Prefix.op (tree_of c.get.result.now)) = search (rules, q.the_lemmas) in
    as_tree m laws (tree_of c.args.e.now) _ c.args.language.now c.prefix.new.self c.prefix.result e
    (prefix_after m laws n l c.in-Prefix.op (tree_of c.get.result.now) c.args.language.now c.evaluate.new.language c.prefix.new.self c.in_ok-operand-in-Prefix.operand c.prefix.result
    c.in_ok-operand-in-Prefix.ensures.does c.prefix.ensures.does)

pub evaluate-returns-in_ok-right-in-Infix-clause-does :
    goal.evaluate-returns-in_ok-right-in-Infix-clause-does
evaluate-returns-in_ok-right-in-Infix-clause-does g t c =
    let m = g.L.Language.senses in
    let laws = g.met.L.Language.laws in
    let n = c.place_of-in-Infix.result.number in
    let l = c.place_of-in-Infix.result.line in
    let e : tree_of c.args.e.now ≡ tree c.place_of-in-Infix.result.number c.place_of-in-Infix.result.line (trees.joined c.in-Infix.op (tree_of c.get-in-Infix.result.now) (tree_of c.get-in-Infix-2.result.now)) = search (rules, q.the_lemmas) in
    as_tree m laws (tree_of c.args.e.now) _ c.args.language.now c.infix.new.self c.infix.result e
    (infix_after m laws n l c.in-Infix.op (tree_of c.get-in-Infix.result.now) (tree_of c.get-in-Infix-2.result.now)
    c.args.language.now c.evaluate-in-Infix.new.language c.evaluate-in-Infix-2.new.language c.infix.new.self c.in_ok-left-in-Infix.left c.in_ok-right-in-Infix.right c.infix.result
    c.in_ok-left-in-Infix.ensures.does c.in_ok-right-in-Infix.ensures.does c.infix.ensures.does)

pub evaluate-returns-in_ok-whole-in-Member-clause-does :
    goal.evaluate-returns-in_ok-whole-in-Member-clause-does
evaluate-returns-in_ok-whole-in-Member-clause-does g t c =
    let m = g.L.Language.senses in
    let laws = g.met.L.Language.laws in
    let n = c.place_of-in-Member.result.number in
    let l = c.place_of-in-Member.result.line in
    let e : tree_of c.args.e.now ≡ tree c.place_of-in-Member.result.number c.place_of-in-Member.result.line (trees.member (tree_of c.get-in-Member.result.now) c.in-Member.name) = search (rules, q.the_lemmas) in
    as_tree m laws (tree_of c.args.e.now) _ c.args.language.now c.member.new.self c.member.result e
    (member_after m laws n l c.in-Member.name (tree_of c.get-in-Member.result.now) c.args.language.now c.evaluate-in-Member.new.language c.member.new.self c.in_ok-whole-in-Member.whole c.member.result
    c.in_ok-whole-in-Member.ensures.does c.member.ensures.does)

pub evaluate-returns-in-Function-clause-does : goal.evaluate-returns-in-Function-clause-does
evaluate-returns-in-Function-clause-does g t c =
    let m = g.L.Language.senses in
    let laws = g.met.L.Language.laws in
    let n = c.place_of-in-Function.result.number in
    let l = c.place_of-in-Function.result.line in
    let args = args_of (map arg_of c.as_slice-in-Function.result.now) in
    let e : tree_of c.args.e.now ≡ tree c.place_of-in-Function.result.number c.place_of-in-Function.result.line (trees.call (tree_of c.get-callee.result.now) (args_of (map arg_of c.as_slice-in-Function.result.now))) = search (rules, q.the_lemmas) in
    as_tree m laws (tree_of c.args.e.now) _ c.args.language.now c.called.new.language c.called.result e
    (function_after m laws n l (tree_of c.get-callee.result.now) args c.in-Function.function c.args.language.now c.called.new.language c.called.result
    c.in-Function.ensures.callee c.called.ensures.does)

pub evaluate-returns-in_ok-whole-in-Value-clause-does :
    goal.evaluate-returns-in_ok-whole-in-Value-clause-does
evaluate-returns-in_ok-whole-in-Value-clause-does g t c =
    let m = g.L.Language.senses in
    let laws = g.met.L.Language.laws in
    let n = c.place_of-in-Value.result.number in
    let l = c.place_of-in-Value.result.line in
    let args = args_of (map arg_of c.as_slice-in-Value.result.now) in
    let e : tree_of c.args.e.now ≡ tree c.place_of-in-Value.result.number c.place_of-in-Value.result.line (trees.call (tree_of c.get-callee.result.now) (args_of (map arg_of c.as_slice-in-Value.result.now))) = search (rules, q.the_lemmas) in
    as_tree m laws (tree_of c.args.e.now) _ c.args.language.now c.indexed.new.language c.indexed.result e
    (index_after m laws n l (tree_of c.get-callee.result.now) args c.args.language.now c.evaluate-in-Value.new.language c.indexed.new.language c.in_ok-whole-in-Value.whole c.indexed.result
    c.in-Value.ensures.callee c.in_ok-whole-in-Value.ensures.does c.indexed.ensures.does)

pub evaluate_arguments-loop-arg-init : goal.evaluate_arguments-loop-arg-init
evaluate_arguments-loop-arg-init g t c =
    let h : Going g.L.Language.senses c.args.args.now c.args.takes c.args.after c.args.language.now c.args.language.now [] c.args.after c.args.args.now
    = started g.L.Language.senses g.met.L.Language.laws c.args.args.now c.args.takes c.args.after c.args.language.now c.requires.done c.requires.order in
    let e : c.new-arguments.result.items ≡ [] = c.new-arguments.ensures.items in
    subst (λ ys. Going g.L.Language.senses c.args.args.now c.args.takes c.args.after c.args.language.now c.args.language.now ys c.args.after c.args.args.now) (sym e) h

pub evaluate_arguments-argument-requires : goal.evaluate_arguments-argument-requires
evaluate_arguments-argument-requires g t c κs within =
    let k = c.loop-arg.arg-index in
    let x = c.arg-item.result in
    let is = drop_get c.args.args.now k x (get_here c.args.args.now k x c.loop-arg-test.true c.arg-item.is) in
    let order = first_in_order g.L.Language.senses.follows c.args.args.now k c.loop-arg.last x is c.loop-arg.invariant.order in
    let size : the_size x ≤ most the_size c.args.args.now
    = subst (λ y. the_size y ≤ most the_size c.args.args.now) (sym c.arg-item.is) (at_most the_size c.args.args.now k x c.loop-arg-test.true) in
    (omega (arith, size, c.decreases), (within.0, (within.1.0, (within.1.1.0, (within.1.1.1.0, (within.1.1.1.1, (c.requires.asks, (c.requires.gives, (c.loop-arg.invariant.ready, order)))))))))

pub evaluate_arguments-returns-in_err-value-clause-does :
    goal.evaluate_arguments-returns-in_err-value-clause-does
evaluate_arguments-returns-in_err-value-clause-does g t c =
    let m = g.L.Language.senses in
    let k = c.loop-arg.arg-index in
    let x = c.arg-item.result in
    let is = drop_get c.args.args.now k x (get_here c.args.args.now k x c.loop-arg-test.true c.arg-item.is) in
    let going = going_at m c.args.args.now c.args.takes c.args.after c.args.language.now c.loop-arg.language c.loop-arg.arguments.items c.loop-arg.last _ _ is c.loop-arg.invariant in
    let r : c.from_residual.result ≡ Err c.in_err-value.field-0.0 = search rules in
    one_failed m g.met.L.Language.laws c.args.args.now (drop (k + 1) c.args.args.now) c.args.takes c.args.after c.loop-arg.last c.args.language.now c.loop-arg.language c.argument.new.language
    c.loop-arg.arguments.items x going (λ (v : Vec (Argument g.row.L-Value.Denot) Global). v.items) c.in_err-value.field-0.0 c.from_residual.result r c.in_err-value.ensures.does

pub evaluate_arguments-returns-then-not-added-clause-does :
    goal.evaluate_arguments-returns-then-not-added-clause-does
evaluate_arguments-returns-then-not-added-clause-does g t c =
    let m = g.L.Language.senses in
    let k = c.loop-arg.arg-index in
    let x = c.arg-item.result in
    let is = drop_get c.args.args.now k x (get_here c.args.args.now k x c.loop-arg-test.true c.arg-item.is) in
    let going = going_at m c.args.args.now c.args.takes c.args.after c.args.language.now c.loop-arg.language c.loop-arg.arguments.items c.loop-arg.last _ _ is c.loop-arg.invariant in
    no_room m g.met.L.Language.laws c.args.args.now (drop (k + 1) c.args.args.now) c.args.takes c.args.after c.loop-arg.last c.args.language.now c.loop-arg.language c.argument.new.language
    c.loop-arg.arguments.items x going (λ (v : Vec (Argument g.row.L-Value.Denot) Global). v.items) c.in_ok-value.value c.out_of_memory.result c.in_ok-value.ensures.does c.out_of_memory.ensures

pub evaluate_arguments-loop-arg-preserved : goal.evaluate_arguments-loop-arg-preserved
evaluate_arguments-loop-arg-preserved g t c =
    let m = g.L.Language.senses in
    let k = c.loop-arg.arg-index in
    let x = c.arg-item.result in
    let is = drop_get c.args.args.now k x (get_here c.args.args.now k x c.loop-arg-test.true c.arg-item.is) in
    let going = going_at m c.args.args.now c.args.takes c.args.after c.args.language.now c.loop-arg.language c.loop-arg.arguments.items c.loop-arg.last _ _ is c.loop-arg.invariant in
    let added : c.added.new.arguments.items ≡ c.loop-arg.arguments.items ++ c.in_ok-value.value ∷ [] = search rules in
    one_more m g.met.L.Language.laws c.args.args.now (drop (k + 1) c.args.args.now) c.args.takes c.args.after c.loop-arg.last c.args.language.now c.loop-arg.language c.argument.new.language
    c.loop-arg.arguments.items x going c.in_ok-value.value c.added.new.arguments.items c.number_after-last.result
    c.in_ok-value.ensures.does c.in_ok-value.ensures.done c.in_ok-value.ensures.still added c.number_after-last.ensures

pub evaluate-returns-in_err-operand-in-Prefix-clause-does : goal.evaluate-returns-in_err-operand-in-Prefix-clause-does
evaluate-returns-in_err-operand-in-Prefix-clause-does g t c =
    let m = g.L.Language.senses in
    let laws = g.met.L.Language.laws in
    let e : tree_of c.args.e.now ≡ tree c.args.e.now.number c.args.e.now.line (trees.prefixed c.in-Prefix.op (tree_of c.get.result.now)) = search (rules, q.the_lemmas) in
    let r : c.from_residual.result ≡ Err c.in_err-operand-in-Prefix.field-0.0 = search rules in
    failed_as m laws (λ i v. value (m.defined i) (tree_of c.args.e.now) v) c.args.language.now c.evaluate.new.language c.from_residual.result c.in_err-operand-in-Prefix.field-0.0 r
    (as_tree m laws (tree_of c.args.e.now) _ c.args.language.now c.evaluate.new.language _ e (prefix_failed m laws c.args.e.now.number c.args.e.now.line c.in-Prefix.op (tree_of c.get.result.now) c.args.language.now c.evaluate.new.language c.in_err-operand-in-Prefix.field-0.0 c.in_err-operand-in-Prefix.ensures.does))

pub evaluate-returns-in_err-left-in-Infix-clause-does : goal.evaluate-returns-in_err-left-in-Infix-clause-does
evaluate-returns-in_err-left-in-Infix-clause-does g t c =
    let m = g.L.Language.senses in
    let laws = g.met.L.Language.laws in
    let e : tree_of c.args.e.now ≡ tree c.args.e.now.number c.args.e.now.line (trees.joined c.in-Infix.op (tree_of c.get-in-Infix.result.now) (tree_of c.in-Infix.right)) = search (rules, q.the_lemmas) in
    let r : c.from_residual-in_err-left-in-Infix.result ≡ Err c.in_err-left-in-Infix.field-0.0 = search rules in
    failed_as m laws (λ i v. value (m.defined i) (tree_of c.args.e.now) v) c.args.language.now c.evaluate-in-Infix.new.language c.from_residual-in_err-left-in-Infix.result c.in_err-left-in-Infix.field-0.0 r
    (as_tree m laws (tree_of c.args.e.now) _ c.args.language.now c.evaluate-in-Infix.new.language _ e (left_failed m laws c.args.e.now.number c.args.e.now.line c.in-Infix.op (tree_of c.get-in-Infix.result.now) (tree_of c.in-Infix.right) c.args.language.now c.evaluate-in-Infix.new.language c.in_err-left-in-Infix.field-0.0 c.in_err-left-in-Infix.ensures.does))

pub evaluate-returns-in_err-whole-in-Member-clause-does : goal.evaluate-returns-in_err-whole-in-Member-clause-does
evaluate-returns-in_err-whole-in-Member-clause-does g t c =
    let m = g.L.Language.senses in
    let laws = g.met.L.Language.laws in
    let e : tree_of c.args.e.now ≡ tree c.args.e.now.number c.args.e.now.line (trees.member (tree_of c.get-in-Member.result.now) c.in-Member.name) = search (rules, q.the_lemmas) in
    let r : c.from_residual-in_err-whole-in-Member.result ≡ Err c.in_err-whole-in-Member.field-0.0 = search rules in
    failed_as m laws (λ i v. value (m.defined i) (tree_of c.args.e.now) v) c.args.language.now c.evaluate-in-Member.new.language c.from_residual-in_err-whole-in-Member.result c.in_err-whole-in-Member.field-0.0 r
    (as_tree m laws (tree_of c.args.e.now) _ c.args.language.now c.evaluate-in-Member.new.language _ e (member_failed m laws c.args.e.now.number c.args.e.now.line c.in-Member.name (tree_of c.get-in-Member.result.now) c.args.language.now c.evaluate-in-Member.new.language c.in_err-whole-in-Member.field-0.0 c.in_err-whole-in-Member.ensures.does))

pub evaluate-returns-in_err-whole-in-Value-clause-does : goal.evaluate-returns-in_err-whole-in-Value-clause-does
evaluate-returns-in_err-whole-in-Value-clause-does g t c =
    let m = g.L.Language.senses in
    let laws = g.met.L.Language.laws in
    let e : tree_of c.args.e.now ≡ tree c.args.e.now.number c.args.e.now.line (trees.call (tree_of c.get-callee.result.now) (args_of (map arg_of c.in-Call.args))) = search (rules, q.the_lemmas) in
    let r : c.from_residual-in_err-whole-in-Value.result ≡ Err c.in_err-whole-in-Value.field-0.0 = search rules in
    failed_as m laws (λ i v. value (m.defined i) (tree_of c.args.e.now) v) c.args.language.now c.evaluate-in-Value.new.language c.from_residual-in_err-whole-in-Value.result c.in_err-whole-in-Value.field-0.0 r
    (as_tree m laws (tree_of c.args.e.now) _ c.args.language.now c.evaluate-in-Value.new.language _ e (index_failed m laws c.args.e.now.number c.args.e.now.line (tree_of c.get-callee.result.now) (args_of (map arg_of c.in-Call.args))
    c.args.language.now c.evaluate-in-Value.new.language c.in_err-whole-in-Value.field-0.0 c.in-Value.ensures.callee c.in_err-whole-in-Value.ensures.does))

pub evaluate-prefix-requires-clause-ready : goal.evaluate-prefix-requires-clause-ready
evaluate-prefix-requires-clause-ready g t c =
    let m = g.L.Language.senses in
    let e : tree_of c.args.e.now ≡ tree c.place_of.result.number c.place_of.result.line (trees.prefixed c.in-Prefix.op (tree_of c.get.result.now)) = search (rules, q.the_lemmas) in
    let o : AreInOrder m.follows (tree c.place_of.result.number c.place_of.result.line (trees.prefixed c.in-Prefix.op (tree_of c.get.result.now))) = subst (λ x. AreInOrder m.follows x) e c.requires.order in
    g.met.L.Language.laws.done_ready _ _ _ c.in_ok-operand-in-Prefix.ensures.done o.1

pub evaluate-returns-in_ok-operand-in-Prefix-clause-still : goal.evaluate-returns-in_ok-operand-in-Prefix-clause-still
evaluate-returns-in_ok-operand-in-Prefix-clause-still g t c =
    let m = g.L.Language.senses in
    let laws = g.met.L.Language.laws in
    let e : tree_of c.args.e.now ≡ tree c.args.e.now.number c.args.e.now.line (trees.prefixed c.in-Prefix.op (tree_of c.get.result.now)) = search (rules, q.the_lemmas) in
    λ none. laws.still_on.both c.args.language.now c.evaluate.new.language c.prefix.new.self (c.in_ok-operand-in-Prefix.ensures.still (subst (λ x. calls_none m.opens x ≡ true) e none)) c.prefix.ensures.still

pub evaluate-member-requires-clause-ready : goal.evaluate-member-requires-clause-ready
evaluate-member-requires-clause-ready g t c =
    let m = g.L.Language.senses in
    let e : tree_of c.args.e.now ≡ tree c.place_of-in-Member.result.number c.place_of-in-Member.result.line (trees.member (tree_of c.get-in-Member.result.now) c.in-Member.name) = search (rules, q.the_lemmas) in
    let o : AreInOrder m.follows (tree c.place_of-in-Member.result.number c.place_of-in-Member.result.line (trees.member (tree_of c.get-in-Member.result.now) c.in-Member.name)) = subst (λ x. AreInOrder m.follows x) e c.requires.order in
    g.met.L.Language.laws.done_ready _ _ _ c.in_ok-whole-in-Member.ensures.done o.1

pub evaluate-returns-in_ok-whole-in-Member-clause-still : goal.evaluate-returns-in_ok-whole-in-Member-clause-still
evaluate-returns-in_ok-whole-in-Member-clause-still g t c =
    let m = g.L.Language.senses in
    let laws = g.met.L.Language.laws in
    let e : tree_of c.args.e.now ≡ tree c.args.e.now.number c.args.e.now.line (trees.member (tree_of c.get-in-Member.result.now) c.in-Member.name) = search (rules, q.the_lemmas) in
    λ none. laws.still_on.both c.args.language.now c.evaluate-in-Member.new.language c.member.new.self (c.in_ok-whole-in-Member.ensures.still (subst (λ x. calls_none m.opens x ≡ true) e none)) c.member.ensures.still

pub evaluate-returns-in_err-right-in-Infix-clause-still : goal.evaluate-returns-in_err-right-in-Infix-clause-still
evaluate-returns-in_err-right-in-Infix-clause-still g t c =
    let m = g.L.Language.senses in
    let laws = g.met.L.Language.laws in
    let e : tree_of c.args.e.now ≡ tree c.args.e.now.number c.args.e.now.line (trees.joined c.in-Infix.op (tree_of c.get-in-Infix.result.now) (tree_of c.get-in-Infix-2.result.now)) = search (rules, q.the_lemmas) in
    joined_still m laws (tree_of c.args.e.now) c.args.e.now.number c.args.e.now.line c.in-Infix.op (tree_of c.get-in-Infix.result.now) (tree_of c.get-in-Infix-2.result.now)
    c.args.language.now c.evaluate-in-Infix.new.language c.evaluate-in-Infix-2.new.language c.evaluate-in-Infix-2.new.language e
    c.in_ok-left-in-Infix.ensures.still c.in_err-right-in-Infix.ensures.still (laws.still_on.nothing c.evaluate-in-Infix-2.new.language)

pub evaluate-returns-in_ok-right-in-Infix-clause-still : goal.evaluate-returns-in_ok-right-in-Infix-clause-still
evaluate-returns-in_ok-right-in-Infix-clause-still g t c =
    let m = g.L.Language.senses in
    let laws = g.met.L.Language.laws in
    let e : tree_of c.args.e.now ≡ tree c.args.e.now.number c.args.e.now.line (trees.joined c.in-Infix.op (tree_of c.get-in-Infix.result.now) (tree_of c.get-in-Infix-2.result.now)) = search (rules, q.the_lemmas) in
    joined_still m laws (tree_of c.args.e.now) c.args.e.now.number c.args.e.now.line c.in-Infix.op (tree_of c.get-in-Infix.result.now) (tree_of c.get-in-Infix-2.result.now)
    c.args.language.now c.evaluate-in-Infix.new.language c.evaluate-in-Infix-2.new.language c.infix.new.self e
    c.in_ok-left-in-Infix.ensures.still c.in_ok-right-in-Infix.ensures.still c.infix.ensures.still

pub evaluate-returns-in-Function-clause-still : goal.evaluate-returns-in-Function-clause-still
evaluate-returns-in-Function-clause-still g t c =
    let m = g.L.Language.senses in
    let laws = g.met.L.Language.laws in
    let e : tree_of c.args.e.now ≡ tree c.args.e.now.number c.args.e.now.line (trees.call (tree_of c.get-callee.result.now) (args_of (map arg_of c.as_slice-in-Function.result.now))) = search (rules, q.the_lemmas) in
    function_still m laws (tree_of c.args.e.now) c.args.e.now.number c.args.e.now.line (tree_of c.get-callee.result.now) (args_of (map arg_of c.as_slice-in-Function.result.now))
    (m.opens_by (m.named c.in-Function.function)) c.args.language.now c.called.new.language e c.in-Function.ensures.closed c.called.ensures.still

pub evaluate-returns-in_ok-whole-in-Value-clause-still : goal.evaluate-returns-in_ok-whole-in-Value-clause-still
evaluate-returns-in_ok-whole-in-Value-clause-still g t c =
    let m = g.L.Language.senses in
    let laws = g.met.L.Language.laws in
    let e : tree_of c.args.e.now ≡ tree c.args.e.now.number c.args.e.now.line (trees.call (tree_of c.get-callee.result.now) (args_of (map arg_of c.as_slice-in-Value.result.now))) = search (rules, q.the_lemmas) in
    index_still m laws (tree_of c.args.e.now) c.args.e.now.number c.args.e.now.line (tree_of c.get-callee.result.now) (args_of (map arg_of c.as_slice-in-Value.result.now))
    c.args.language.now c.evaluate-in-Value.new.language c.indexed.new.language e c.in_ok-whole-in-Value.ensures.still c.indexed.ensures.still

pub called-returns-in_err-arguments-clause-does : goal.called-returns-in_err-arguments-clause-does
called-returns-in_err-arguments-clause-does g t c =
    let m = g.L.Language.senses in
    let laws = g.met.L.Language.laws in
    let r : c.from_residual.result ≡ Err c.in_err-arguments.field-0.0 = search rules in
    failed_as m laws (λ i v. function_call (m.defined i) c.args.place.number c.args.place.line (m.named c.args.function) (args_of (map arg_of c.args.args.now)) v)
    c.args.language.now c.evaluate_arguments.new.language c.from_residual.result c.in_err-arguments.field-0.0 r
    (call_failed m laws (λ (v : Vec (Argument g.row.L-Value.Denot) Global). v.items) c.args.place.number c.args.place.line (args_of (map arg_of c.args.args.now)) c.args.language.now c.evaluate_arguments.new.language c.args.function c.takes_handles-takes.result
    c.in_err-arguments.field-0.0 c.takes_handles-takes.ensures c.in_err-arguments.ensures.does)

pub called-returns-clause-does : goal.called-returns-clause-does
called-returns-clause-does g t c =
    let m = g.L.Language.senses in
    let laws = g.met.L.Language.laws in
    let ready = laws.done_ready c.evaluate_arguments.new.language _ c.args.place.number c.in_ok-arguments.ensures.done c.requires.whole in
    call_after m laws (λ (v : Vec (Argument g.row.L-Value.Denot) Global). v.items) c.args.place.number c.args.place.line (args_of (map arg_of c.args.args.now)) c.args.language.now c.evaluate_arguments.new.language c.args.function c.takes_handles-takes.result
    c.in_ok-arguments.arguments c.call.new.arg2 c.call.result c.takes_handles-takes.ensures c.in_ok-arguments.ensures.does
    (c.requires.gives _ _ _ _ _ _ ready c.in_ok-arguments.ensures.does.fits c.call.ensures).does
