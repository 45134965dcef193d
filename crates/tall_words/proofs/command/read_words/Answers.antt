use Rattle.std.proofs.Common.{◌∙◌, ◌≡◌, ◌≤◌, ℕ, sym, subst, arith, refl, IfOk, IfSome, Some, Option}
use Rattle.std.proofs.lemmas.Result.{IfOk-weaker}
use Rattle.tall_words.specs.Commands.{Asked}
use Rattle.tall_words.specs.Seen.{seen}
use Rattle.tall_words.proofs.Finding.{command_told}
use Rattle.tall_words.proofs.command.read_words.Goals as goal

pub returns-in-Some-clause-command : goal.returns-in-Some-clause-command
returns-in-Some-clause-command c =
    let is = command_told _ c.in-Ok.matches _ _ _ c.in-Ok.ensures.found c.get_str.ensures
    (c.number-rows.ensures.value 1000000 (omega arith) c.in-Ok.ensures.found.demo)
    (sym c.in-Some.is ∙ c.number.ensures.value 64 (omega arith) c.in-Ok.ensures.found.workers) in
    subst (λ (asked : Option Asked). IfOk c.chosen.result (λ r. asked ≡ Some (seen r))) (sym is) c.chosen.ensures.chosen

pub returns-in-Some-clause-usage : goal.returns-in-Some-clause-usage
returns-in-Some-clause-usage c = λ usage.
    command_told _ c.in-Ok.matches _ _ _ c.in-Ok.ensures.found c.get_str.ensures
    (c.number-rows.ensures.value 1000000 (omega arith) c.in-Ok.ensures.found.demo)
    (sym c.in-Some.is ∙ c.number.ensures.value 64 (omega arith) c.in-Ok.ensures.found.workers)
    ∙ c.chosen.ensures.usage usage

pub returns-clause-usage : goal.returns-clause-usage
returns-clause-usage c = λ usage.
    command_told _ c.in-Ok.matches _ _ _ c.in-Ok.ensures.found refl
    (c.number-rows.ensures.value 1000000 (omega arith) c.in-Ok.ensures.found.demo)
    (sym c.in-None.is ∙ c.number.ensures.value 64 (omega arith) c.in-Ok.ensures.found.workers)

pub returns-in-Some-clause-rows : goal.returns-in-Some-clause-rows
returns-in-Some-clause-rows c =
    IfOk-weaker c.chosen.result _ _
    (λ asked is. subst (λ (rows : Option ℕ). IfSome rows (λ n. (1 ≤ n) × (n ≤ 1000000))) (sym is)
    (c.number-rows.ensures.range 1000000 (omega arith) c.in-Ok.ensures.found.demo))
    c.chosen.ensures.rows
