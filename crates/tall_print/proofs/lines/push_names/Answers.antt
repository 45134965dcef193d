use Rattle.std.proofs.Common.{rules, arith, ap, ◌∙◌, ◌++◌}
use Rattle.tall_local.specs.Names.{names_of}
use Rattle.tall_print.specs.Appended.{Begins}
use Rattle.tall_print.proofs.Appending.{begun_more, more_spaced, all_spaced}
use Rattle.tall_print.proofs.Tables.{name_here, length-names}
use Rattle.tall_print.proofs.lines.push_names.Goals as goal

pub returns-in_err-push_gap : goal.returns-in_err-push_gap
returns-in_err-push_gap c =
    let begins : Begins c.args.text.now.items c.push_gap.new.text.items = begun_more _ _ _ _ c.loop-place.invariant c.in_err-push_gap.ensures in
    search (rules, begins)

pub returns-in_err-push : goal.returns-in_err-push
returns-in_err-push c =
    let begins : Begins c.args.text.now.items c.push.new.text.items =
    begun_more _ _ _ _ c.loop-place.invariant (begun_more _ _ _ _ c.in_ok-push_gap.ensures c.in_err-push.ensures) in
    search (rules, begins)

pub loop-place-preserved : goal.loop-place-preserved
loop-place-preserved c =
    more_spaced (names_of c.args.table.now) c.loop-place.place c.name.result.now _ _ _ _ (name_here c.args.table.now c.loop-place.place c.name.result.now c.name.ensures)
    c.loop-place.invariant c.in_ok-push_gap.ensures (c.in_ok-push.ensures ∙ ap (λ t. c.push_gap.new.text.items ++ t) c.as_bytes.ensures.value)

pub returns : goal.returns
returns c =
    all_spaced (names_of c.args.table.now) c.loop-place.place _ _ (omega (arith, length-names c.args.table.now, c.width-place-end.ensures.width, c.loop-place-test.false)) c.loop-place.invariant
