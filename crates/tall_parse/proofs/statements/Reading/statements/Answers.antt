use Rattle.std.proofs.Common.{rules, refl, arith, map}
use Rattle.std.proofs.lemmas.Grind.{common_steps}
use Rattle.tall_grammar.specs.Kept.{with_it}
use Rattle.tall_grammar.specs.ScriptReader.{statements_from}
use Rattle.tall_grammar.specs.Views.{entry_of}
use Rattle.tall_expr.proofs.Turns.{one_more, run_out, with_last}
use Rattle.tall_parse.proofs.statements.Reading.statements.Goals as goal

pub returns-then-ends_statements : goal.returns-then-ends_statements
unfolding statements_from
returns-then-ends_statements c =
    let e = one_more (λ n. statements_from c.args.self.now.turns c.args.self.now.depth n (with_it (map entry_of) c.loop-turn.found) c.loop-turn.tokens) _ c.loop-turn._turn c.loop-turn-test.true c.loop-turn.invariant in
    first_of (search rules, grind (arith, common_steps))

pub returns-in_err-statement : goal.returns-in_err-statement
unfolding statements_from
returns-in_err-statement c =
    let e = one_more (λ n. statements_from c.args.self.now.turns c.args.self.now.depth n (with_it (map entry_of) c.loop-turn.found) c.loop-turn.tokens) _ c.loop-turn._turn c.loop-turn-test.true c.loop-turn.invariant in
    first_of (search rules, grind (arith, common_steps))

pub loop-turn-preserved : goal.loop-turn-preserved
unfolding statements_from
loop-turn-preserved c =
    let e = one_more (λ n. statements_from c.args.self.now.turns c.args.self.now.depth n (with_it (map entry_of) c.loop-turn.found) c.loop-turn.tokens) _ c.loop-turn._turn c.loop-turn-test.true c.loop-turn.invariant in
    let l = with_last entry_of c.loop-turn.found c.in_ok-statement.field-0 in
    first_of (search rules, grind (arith, common_steps))

pub returns : goal.returns
unfolding statements_from
returns c = λ _. run_out (λ n. statements_from c.args.self.now.turns c.args.self.now.depth n (with_it (map entry_of) c.loop-turn.found) c.loop-turn.tokens) c.args.self.now.turns c.loop-turn._turn (omega arith) refl c.loop-turn.invariant
