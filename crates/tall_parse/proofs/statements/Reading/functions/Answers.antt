use Rattle.std.proofs.Common.{rules, refl, arith, map, ℕ, List, ◌∷◌}
use Rattle.std.proofs.lemmas.Grind.{common_steps}
use Rattle.std.proofs.lemmas.Result.{IfOk-at_ok}
use Rattle.tall_grammar.specs.Kept.{with_it}
use Rattle.tall_grammar.specs.ScriptReader.{functions_from}
use Rattle.tall_grammar.specs.Views.{routine_of}
use Rattle.tall_expr.proofs.Turns.{one_more, run_out, with_last}
use Rattle.tall_parse.specs.FunctionNames.{Holds}
use Rattle.tall_parse.proofs.statements.Reading.functions.Goals as goal

pub returns-then-is_at_end : goal.returns-then-is_at_end
unfolding functions_from
returns-then-is_at_end c =
    let e = one_more (λ n. functions_from c.args.self.now.turns c.args.self.now.depth n c.loop-turn.invariant.0 (with_it (map routine_of) c.loop-turn.found) c.loop-turn.tokens) _ c.loop-turn._turn c.loop-turn-test.true c.loop-turn.invariant.2 in
    first_of (search rules, grind (arith, common_steps))

pub returns-in_err-expect_word : goal.returns-in_err-expect_word
unfolding functions_from
returns-in_err-expect_word c =
    let e = one_more (λ n. functions_from c.args.self.now.turns c.args.self.now.depth n c.loop-turn.invariant.0 (with_it (map routine_of) c.loop-turn.found) c.loop-turn.tokens) _ c.loop-turn._turn c.loop-turn-test.true c.loop-turn.invariant.2 in
    first_of (search rules, grind (arith, common_steps))

pub returns-in_err-name : goal.returns-in_err-name
unfolding functions_from
returns-in_err-name c =
    let held = c.loop-turn.invariant.1 in
    let e = one_more (λ n. functions_from c.args.self.now.turns c.args.self.now.depth n c.loop-turn.invariant.0 (with_it (map routine_of) c.loop-turn.found) c.loop-turn.tokens) _ c.loop-turn._turn c.loop-turn-test.true c.loop-turn.invariant.2 in
    let taken = c.new_name.ensures.taken c.loop-turn.invariant.0 held in
    first_of (search rules, grind (arith, common_steps))

pub returns-in_err-next : goal.returns-in_err-next
unfolding functions_from
returns-in_err-next c =
    let held = c.loop-turn.invariant.1 in
    let e = one_more (λ n. functions_from c.args.self.now.turns c.args.self.now.depth n c.loop-turn.invariant.0 (with_it (map routine_of) c.loop-turn.found) c.loop-turn.tokens) _ c.loop-turn._turn c.loop-turn-test.true c.loop-turn.invariant.2 in
    let taken = c.new_name.ensures.taken c.loop-turn.invariant.0 held in
    first_of (search rules, grind (arith, common_steps))

pub loop-turn-preserved : goal.loop-turn-preserved
unfolding functions_from
loop-turn-preserved c =
    let held = c.loop-turn.invariant.1 in
    let e = one_more (λ n. functions_from c.args.self.now.turns c.args.self.now.depth n c.loop-turn.invariant.0 (with_it (map routine_of) c.loop-turn.found) c.loop-turn.tokens) _ c.loop-turn._turn c.loop-turn-test.true c.loop-turn.invariant.2 in
    let taken = c.new_name.ensures.taken c.loop-turn.invariant.0 held in
    let l = with_last routine_of c.loop-turn.found c.in_ok-next.next in
    let added = IfOk-at_ok (λ name. (names : List (List ℕ)) → Holds c.loop-turn.before names → Holds c.new_name.new.before (name ∷ names)) c.in_ok-name.was c.new_name.ensures.added in
    (c.in_ok-name.name ∷ c.loop-turn.invariant.0, added c.loop-turn.invariant.0 held, first_of (search rules, grind (arith, common_steps)))

pub returns : goal.returns
unfolding functions_from
returns c = λ _. run_out (λ n. functions_from c.args.self.now.turns c.args.self.now.depth n c.loop-turn.invariant.0 (with_it (map routine_of) c.loop-turn.found) c.loop-turn.tokens) c.args.self.now.turns c.loop-turn._turn (omega arith) refl c.loop-turn.invariant.2
