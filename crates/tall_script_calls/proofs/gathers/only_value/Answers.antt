use Rattle.std.specs.Prelude.{not}
use Rattle.std.specs.Vec.Iter.{into_iter_items}
use Rattle.std.proofs.Common.{sym, ap, ◌∙◌}
use Rattle.tall_script_calls.proofs.GatherAnswers.{more_given}
use Rattle.tall_script_calls.proofs.gathers.only_value.Goals as goal

pub returns-in-Some-Given-clause-given : goal.returns-in-Some-Given-clause-given
returns-in-Some-Given-clause-given c = λ f.
    more_given f c.args.args.items (into_iter_items c.next.new.self) (into_iter_items c.next-in-Some-Given.new.self) c.in-Some-Given.field-0 c.next-in-Some-Given.result (sym c.into_iter-args.ensures.rest ∙ c.in-Some-Given.ensures.items)
    c.next-in-Some-Given.ensures.items (c.is_none.ensures ∙ ap not c.if-is_none.false)
