use Rattle.std.proofs.Common.{◌∙◌, sym, ap, map}
use Rattle.std.proofs.lemmas.List.{length-map}
use Rattle.tall_local.specs.Applications.{takes}
use Rattle.tall_evaluate.specs.Senses.{argument_seen}
use Rattle.tall_fun.specs.Values.{held_seen}
use Rattle.tall_fun.proofs.HeldLemmas.{called_not_given, called_not_taken, called_not_in_memory, called_in_memory}
use Rattle.tall_fun.proofs.applications.function_called.Goals as goal

pub returns-then-not-are_given : goal.returns-then-not-are_given
returns-then-not-are_given c = called_not_given c.args.f (map (argument_seen held_seen) c.args.args.now) (sym c.are_given.ensures ∙ c.if-not-are_given.true)

pub returns-then-not-takes : goal.returns-then-not-takes
returns-then-not-takes c =
    called_not_taken c.args.f (map (argument_seen held_seen) c.args.args.now) (sym c.are_given.ensures ∙ c.if-not-are_given.false)
    (ap (λ n. takes c.args.f n) (length-map c.args.args.now (argument_seen held_seen)) ∙ sym c.takes.ensures ∙ c.if-not-takes.true)

pub returns-then-not-are_in_memory : goal.returns-then-not-are_in_memory
returns-then-not-are_in_memory c =
    called_not_in_memory c.args.f (map (argument_seen held_seen) c.args.args.now) (sym c.are_given.ensures ∙ c.if-not-are_given.false)
    (ap (λ n. takes c.args.f n) (length-map c.args.args.now (argument_seen held_seen)) ∙ sym c.takes.ensures ∙ c.if-not-takes.false)
    (sym c.are_in_memory.ensures ∙ c.if-not-are_in_memory.true)

pub returns : goal.returns
returns c =
    called_in_memory c.args.f (map (argument_seen held_seen) c.args.args.now) c.function_of_values.result c.kept.result (sym c.are_given.ensures ∙ c.if-not-are_given.false)
    (ap (λ n. takes c.args.f n) (length-map c.args.args.now (argument_seen held_seen)) ∙ sym c.takes.ensures ∙ c.if-not-takes.false)
    (sym c.are_in_memory.ensures ∙ c.if-not-are_in_memory.false) c.function_of_values.ensures c.kept.ensures
