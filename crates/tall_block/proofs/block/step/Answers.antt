use Rattle.std.specs.Prelude.{◌≡◌, refl, true, false, Some, option_map, slice_get}
use Rattle.std.proofs.Common.{ap, sym, subst, ◌∙◌}
use Rattle.std.proofs.lemmas.Option.{slice_get_read}
use Rattle.tall_semantics.specs.Faults.{fault_seen}
use Rattle.tall_semantics.specs.Least.{IsBelow}
use Rattle.tall_semantics.specs.Numbered.{number_at}
use Rattle.tall_blocks.specs.Pieces.{is_below_missing}
use Rattle.tall_fuse.specs.Kept.{carry}
use Rattle.tall_block.specs.BlockWork.{AreBlockValues}
use Rattle.tall_block.specs.Steps.{is_under, looked_first}
use Rattle.tall_block.proofs.StepLaws.{number_is, skipped}
use Rattle.tall_block.proofs.ValueLaws.{get_some}
use Rattle.tall_block.proofs.WorkLaws.{among_at, is_below_it, looked_kept, looked_left, next_is, no_scalar_here, not_below, number_told, ok_map}
use Rattle.tall_block.proofs.block.step.Goals as goal

pub number_of-number-requires : goal.number_of-number-requires
number_of-number-requires c = c.requires.places c.index-work-place.result (among_at c.args.work.now c.args.place c.index-work-place.result (slice_get_read c.args.work.now _ c.args.place c.index-work-place.result refl c.requires.place c.index-work-place.is))

pub is_scalar-requires : goal.is_scalar-requires
is_scalar-requires c = c.requires.places c.index-work-place.result (among_at c.args.work.now c.args.place c.index-work-place.result (slice_get_read c.args.work.now _ c.args.place c.index-work-place.result refl c.requires.place c.index-work-place.is))

pub compute-requires-clause-place : goal.compute-requires-clause-place
compute-requires-clause-place c = c.requires.places c.index-work-place.result (among_at c.args.work.now c.args.place c.index-work-place.result (slice_get_read c.args.work.now _ c.args.place c.index-work-place.result refl c.requires.place c.index-work-place.is))

pub returns-then-is_scalar-clause-values : goal.returns-then-is_scalar-clause-values
returns-then-is_scalar-clause-values c = λ columns so_far f cut h block going.
    let among = among_at c.args.work.now c.args.place c.index-work-place.result (slice_get_read c.args.work.now _ c.args.place c.index-work-place.result refl c.requires.place c.index-work-place.is) in
    absurd (no_scalar_here block c.index-work-place.result among (sym c.is_scalar.ensures ∙ c.if-is_scalar.true))

pub returns-then-not-is_below_number-clause-values : goal.returns-then-not-is_below_number-clause-values
returns-then-not-is_below_number-clause-values c = λ columns so_far f cut h block going.
    let e : slice_get c.args.work.now c.args.place ≡ Some c.index-work-place.result = slice_get_read c.args.work.now _ c.args.place c.index-work-place.result refl c.requires.place c.index-work-place.is in
    let w = get_some c.args.graph.now c.index-work-place.result (c.requires.places c.index-work-place.result (among_at c.args.work.now c.args.place c.index-work-place.result e)) in
    let number : number_at (slice_get c.args.graph.now c.index-work-place.result) ≡ c.number_of-number.result = number_is (slice_get c.args.graph.now c.index-work-place.result) w.0 w.1 ∙ sym (number_told (slice_get c.args.graph.now c.index-work-place.result) w.0 c.number_of-number.result w.1 c.number_of-number.ensures) in
    let keep : is_below_missing c.args.graph.now (λ i. carry c.args.known.now i c.args.block) c.args.work.now (number_at (slice_get c.args.graph.now c.index-work-place.result)) ≡ false =
    sym (c.requires.limit (number_at (slice_get c.args.graph.now c.index-work-place.result))) ∙ (ap (is_under c.args.limit) number ∙ (sym c.is_below_number.ensures ∙ c.if-not-is_below_number.true)) in
    subst (λ xs. AreBlockValues c.args.graph.now c.args.table.now c.args.made.now f cut h xs (option_map fault_seen c.args.least)) (sym (looked_left c.args.graph.now (λ i. carry c.args.known.now i c.args.block) c.args.work.now c.args.place c.index-work-place.result e keep)) going

pub returns-then-not-is_below_fault-clause-values : goal.returns-then-not-is_below_fault-clause-values
returns-then-not-is_below_fault-clause-values c = λ columns so_far f cut h block going.
    let e : slice_get c.args.work.now c.args.place ≡ Some c.index-work-place.result = slice_get_read c.args.work.now _ c.args.place c.index-work-place.result refl c.requires.place c.index-work-place.is in
    let w = get_some c.args.graph.now c.index-work-place.result (c.requires.places c.index-work-place.result (among_at c.args.work.now c.args.place c.index-work-place.result e)) in
    let told = number_told (slice_get c.args.graph.now c.index-work-place.result) w.0 c.number_of-number.result w.1 c.number_of-number.ensures in
    let number : number_at (slice_get c.args.graph.now c.index-work-place.result) ≡ c.number_of-number.result = number_is (slice_get c.args.graph.now c.index-work-place.result) w.0 w.1 ∙ sym told in
    let keep : is_below_missing c.args.graph.now (λ i. carry c.args.known.now i c.args.block) c.args.work.now (number_at (slice_get c.args.graph.now c.index-work-place.result)) ≡ true =
    sym (c.requires.limit (number_at (slice_get c.args.graph.now c.index-work-place.result))) ∙ (ap (is_under c.args.limit) number ∙ (sym c.is_below_number.ensures ∙ c.if-not-is_below_number.false)) in
    let next = next_is block c.keeps_its_rules.ensures.numbered c.keeps_its_rules.ensures.ordered c.args.place c.index-work-place.result e keep in
    subst (λ xs. AreBlockValues c.args.graph.now c.args.table.now c.args.made.now f cut h xs (option_map fault_seen c.args.least)) (sym (looked_kept c.args.graph.now (λ i. carry c.args.known.now i c.args.block) c.args.work.now c.args.place c.index-work-place.result e keep))
    (skipped block c.keeps_its_rules.ensures.numbered (looked_first c.args.graph.now (λ i. carry c.args.known.now i c.args.block) c.args.work.now c.args.place) c.index-work-place.result w.0 w.1 next.among next.within c.args.made.now (option_map fault_seen c.args.least) going
    (λ below. not_below (option_map fault_seen c.args.least) c.number_of-number.result (sym c.is_below_fault.ensures ∙ c.if-not-is_below_fault.true) (subst (IsBelow (option_map fault_seen c.args.least)) (sym told) below)))

pub returns-clause-values : goal.returns-clause-values
returns-clause-values c =
    let e : slice_get c.args.work.now c.args.place ≡ Some c.index-work-place.result = slice_get_read c.args.work.now _ c.args.place c.index-work-place.result refl c.requires.place c.index-work-place.is in
    let w = get_some c.args.graph.now c.index-work-place.result (c.requires.places c.index-work-place.result (among_at c.args.work.now c.args.place c.index-work-place.result e)) in
    let told = number_told (slice_get c.args.graph.now c.index-work-place.result) w.0 c.number_of-number.result w.1 c.number_of-number.ensures in
    let number : number_at (slice_get c.args.graph.now c.index-work-place.result) ≡ c.number_of-number.result = number_is (slice_get c.args.graph.now c.index-work-place.result) w.0 w.1 ∙ sym told in
    let keep : is_below_missing c.args.graph.now (λ i. carry c.args.known.now i c.args.block) c.args.work.now (number_at (slice_get c.args.graph.now c.index-work-place.result)) ≡ true =
    sym (c.requires.limit (number_at (slice_get c.args.graph.now c.index-work-place.result))) ∙ (ap (is_under c.args.limit) number ∙ (sym c.is_below_number.ensures ∙ c.if-not-is_below_number.false)) in
    let kept = looked_kept c.args.graph.now (λ i. carry c.args.known.now i c.args.block) c.args.work.now c.args.place c.index-work-place.result e keep in
    ok_map c.compute.result _ _ (λ p given. λ columns so_far f cut h block going.
    subst (λ xs. AreBlockValues c.args.graph.now c.args.table.now c.compute.new.made f cut h xs (option_map fault_seen p)) (sym kept)
    (given c.args.work.now (looked_first c.args.graph.now (λ i. carry c.args.known.now i c.args.block) c.args.work.now c.args.place) columns so_far f cut h block
    (next_is block c.keeps_its_rules.ensures.numbered c.keeps_its_rules.ensures.ordered c.args.place c.index-work-place.result e keep)
    (λ v g. subst (IsBelow (option_map fault_seen c.args.least)) (number_told (slice_get c.args.graph.now c.index-work-place.result) v c.number_of-number.result g c.number_of-number.ensures) (is_below_it (option_map fault_seen c.args.least) c.number_of-number.result (sym c.is_below_fault.ensures ∙ c.if-not-is_below_fault.false)))
    going)) c.compute.ensures.values
