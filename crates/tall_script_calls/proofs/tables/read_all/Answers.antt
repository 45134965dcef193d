-- By the only value.
use Rattle.std.specs.Prelude.{Err, length}
use Rattle.std.proofs.Common.{sym, subst}
use Rattle.tall_local.specs.Arguments.{value_given}
use Rattle.tall_local.specs.Lists.{all_of}
use Rattle.tall_script.specs.ScriptLanguage.{readall_answer}
use Rattle.tall_deferred.specs.Answers.{Comes}
use Rattle.tall_deferred.specs.Values.{value_at}
use Rattle.tall_deferred.specs.declared.faults.ValueFault.TheVariants.{BadArgument}
use Rattle.tall_environment.specs.Values.{arguments_at}
use Rattle.tall_script_calls.proofs.SingleLaws.{computes_same, readall_not_one, readall_one}
use Rattle.tall_script_calls.proofs.tables.read_all.Goals as goal

pub returns-in-Some : goal.returns-in-Some
returns-in-Some c =
    let old = c.args.environment.now in
    computes_same c.args.at.number (λ files f. readall_answer (all_of value_given (arguments_at f c.args.args.now))) old c.shared_table.result c.requires.next
    (c.shared_table.ensures.within (length old.graph) (c.in-Some.ensures.within (length old.graph) c.requires.arguments))
    (λ files f. subst (λ w. Comes (value_at f) w c.shared_table.result)
    (sym (readall_one (arguments_at f c.args.args.now) (value_at f c.in-Some.value.now) (sym (c.in-Some.ensures.value f)))) (c.shared_table.ensures.given f))

pub returns-in-None : goal.returns-in-None
returns-in-None c =
    computes_same c.args.at.number (λ files f. readall_answer (all_of value_given (arguments_at f c.args.args.now))) c.args.environment.now (Err BadArgument) c.requires.next tt
    (λ files f. readall_not_one (arguments_at f c.args.args.now) (sym (c.in-None.ensures.value f)))
