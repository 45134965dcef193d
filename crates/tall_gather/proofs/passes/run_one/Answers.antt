use Rattle.std.specs.Prelude.{◌≡◌, refl, ◌<◌, ℕ, Option, None, Some, List, length, vec_len, slice_get}
use Rattle.std.proofs.Common.{arith, sym, ap, ◌∙◌}
use Rattle.std.proofs.lemmas.Option.{slice_get_read, slice_get_within}
use Rattle.tall_semantics.specs.Deferred.{IsAmong}
use Rattle.tall_semantics.specs.Operations.{stored}
use Rattle.tall_semantics.proofs.Basics.{inside}
use Rattle.tall_pass.specs.PassPlans.{IsBelowAt}
use Rattle.tall_gather.specs.Candidates.{seen}
use Rattle.tall_gather.proofs.WorkLaws.{collect_below, number_told, work_below}
use Rattle.tall_gather.proofs.OnePass.{IsPart, counts_set, fits_store, none_among, not_empty, part_variable, part_work, pass_unchanged, unchanged, variable_store}
use Rattle.tall_gather.proofs.OneTold.{no_work, told_nothing}
use Rattle.tall_gather.proofs.OneAnswer.{answered, given, passed, tells, went}
use Rattle.tall_gather.proofs.passes.run_one.Goals as goal

pub pass_below-requires-clause-work : goal.pass_below-requires-clause-work
pass_below-requires-clause-work g c = work_below c.args.graph.now c.keeps_its_rules.ensures.made c.args.roots.now c.requires.planned.there c.args.pass.now.store c.args.pass.now.level c.args.pass.now.work.items c.requires.planned.work

pub pass_below-requires-clause-collect : goal.pass_below-requires-clause-collect
pass_below-requires-clause-collect g c = collect_below c.args.graph.now c.keeps_its_rules.ensures.made c.args.roots.now c.requires.planned.there c.args.pass.now.store c.args.pass.now.level c.args.pass.now.collect.items c.requires.planned.collect

pub returns-then-is_empty-clause-passed : goal.returns-then-is_empty-clause-passed
returns-then-is_empty-clause-passed g c =
    let part : IsPart c.args.graph.now (seen c.args.candidate) c.args.pass.now c.in-Ok.part = record { store = c.in-Ok.ensures.place.0; level = c.in-Ok.ensures.place.1; work = c.in-Ok.ensures.work; collect = c.in-Ok.ensures.collect } in
    let none : vec_len c.in-Ok.part.work ≡ 0 = number_told _ 0 (sym c.is_empty.ensures ∙ c.if-is_empty.true) in
    let empty : length c.in-Ok.part.work.items ≡ 0 = omega (arith, none, c.in-Ok.part.work.ok.0) in
    pass_unchanged c.args.graph.now c.args.roots.now (seen c.args.candidate) _ c.args.pass.now c.args.known.now c.args.known.now c.requires.fit (unchanged c.args.known.now)
    (λ i m b p. none_among c.in-Ok.part.work.items empty i (part_work c.args.graph.now (seen c.args.candidate) c.args.pass.now c.in-Ok.part part i m b))

pub returns-then-is_empty-clause-told : goal.returns-then-is_empty-clause-told
returns-then-is_empty-clause-told g c files e list columns f told holds =
    let part : IsPart c.args.graph.now (seen c.args.candidate) c.args.pass.now c.in-Ok.part = record { store = c.in-Ok.ensures.place.0; level = c.in-Ok.ensures.place.1; work = c.in-Ok.ensures.work; collect = c.in-Ok.ensures.collect } in
    let none : vec_len c.in-Ok.part.work ≡ 0 = number_told _ 0 (sym c.is_empty.ensures ∙ c.if-is_empty.true) in
    let empty : length c.in-Ok.part.work.items ≡ 0 = omega (arith, none, c.in-Ok.part.work.ok.0) in
    let rules_of = c.keeps_its_rules.ensures in
    let nothing : (i : ℕ) → IsAmong c.args.pass.now.work.items i → IsBelowAt c.args.graph.now (seen c.args.candidate) i → ⊥ = λ i m b. none_among c.in-Ok.part.work.items empty i (part_work c.args.graph.now (seen c.args.candidate) c.args.pass.now c.in-Ok.part part i m b) in
    told_nothing columns c.args.graph.now f rules_of.made told.meaning rules_of.ordered rules_of.numbered c.args.roots.now c.requires.planned.there (seen c.args.candidate) c.args.pass.now c.in-Ok.part c.requires.planned part
    files list c.args.stores.now c.args.known.now c.args.known.now c.args.counts.now.items holds None c.args.counts.now.items (unchanged c.args.known.now)
    (no_work columns c.args.graph.now f rules_of.made told.meaning rules_of.ordered rules_of.numbered c.args.roots.now c.requires.planned.there (seen c.args.candidate) c.args.pass.now c.in-Ok.part c.requires.planned part nothing)
    (λ i m b p. nothing i m b) holds.counted

pub bounds-stores-place : goal.bounds-stores-place
bounds-stores-place g c =
    let part : IsPart c.args.graph.now (seen c.args.candidate) c.args.pass.now c.in-Ok.part = record { store = c.in-Ok.ensures.place.0; level = c.in-Ok.ensures.place.1; work = c.in-Ok.ensures.work; collect = c.in-Ok.ensures.collect } in
    let many : 0 < vec_len c.in-Ok.part.work = not_empty _ _ c.is_empty.ensures c.if-is_empty.false in
    let some : 0 < length c.in-Ok.part.work.items = omega (arith, many, c.in-Ok.part.work.ok.0) in
    let v = part_variable c.args.graph.now c.keeps_its_rules.ensures.made c.args.roots.now (seen c.args.candidate) c.args.pass.now c.in-Ok.part c.requires.planned part some in
    let d = variable_store c.args.graph.now c.args.stores.now c.args.pass.now.store c.requires.stores v in
    slice_get_within c.args.stores.now c.args.pass.now.store d.0 d.1

pub index_mut-requires : goal.index_mut-requires
index_mut-requires g c =
    let part : IsPart c.args.graph.now (seen c.args.candidate) c.args.pass.now c.in-Ok.part = record { store = c.in-Ok.ensures.place.0; level = c.in-Ok.ensures.place.1; work = c.in-Ok.ensures.work; collect = c.in-Ok.ensures.collect } in
    let many : 0 < vec_len c.in-Ok.part.work = not_empty _ _ c.is_empty.ensures c.if-is_empty.false in
    let some : 0 < length c.in-Ok.part.work.items = omega (arith, many, c.in-Ok.part.work.ok.0) in
    let v = part_variable c.args.graph.now c.keeps_its_rules.ensures.made c.args.roots.now (seen c.args.candidate) c.args.pass.now c.in-Ok.part c.requires.planned part some in
    let d = variable_store c.args.graph.now c.args.stores.now c.args.pass.now.store c.requires.stores v in
    let l = slice_get_within c.args.stores.now c.args.pass.now.store d.0 d.1 in
    let same = c.requires.files.stores in
    omega (arith, l, same, c.args.counts.now.ok.0)

pub run_pass-answer-requires-clause-store : goal.run_pass-answer-requires-clause-store
run_pass-answer-requires-clause-store g c κs within i w variable class e m =
    let part : IsPart c.args.graph.now (seen c.args.candidate) c.args.pass.now c.in-Ok.part = record { store = c.in-Ok.ensures.place.0; level = c.in-Ok.ensures.place.1; work = c.in-Ok.ensures.work; collect = c.in-Ok.ensures.collect } in
    let many : 0 < vec_len c.in-Ok.part.work = not_empty _ _ c.is_empty.ensures c.if-is_empty.false in
    let some : 0 < length c.in-Ok.part.work.items = omega (arith, many, c.in-Ok.part.work.ok.0) in
    let v = part_variable c.args.graph.now c.keeps_its_rules.ensures.made c.args.roots.now (seen c.args.candidate) c.args.pass.now c.in-Ok.part c.requires.planned part some in
    let d = variable_store c.args.graph.now c.args.stores.now c.args.pass.now.store c.requires.stores v in
    let at : slice_get c.args.stores.now c.args.pass.now.store ≡ Some c.index-stores-place.result = slice_get_read c.args.stores.now (length c.args.stores.now) c.args.pass.now.store c.index-stores-place.result refl (slice_get_within c.args.stores.now c.args.pass.now.store d.0 d.1) c.index-stores-place.is in
    fits_store c.args.graph.now c.args.stores.now c.args.pass.now.store c.index-stores-place.result c.requires.stores at i w variable class e (m ∙ ap (λ n. stored n variable class) part.store)

pub run_pass-answer-requires-clause-counts : goal.run_pass-answer-requires-clause-counts
run_pass-answer-requires-clause-counts g c κs within =
    let part : IsPart c.args.graph.now (seen c.args.candidate) c.args.pass.now c.in-Ok.part = record { store = c.in-Ok.ensures.place.0; level = c.in-Ok.ensures.place.1; work = c.in-Ok.ensures.work; collect = c.in-Ok.ensures.collect } in
    let many : 0 < vec_len c.in-Ok.part.work = not_empty _ _ c.is_empty.ensures c.if-is_empty.false in
    let some : 0 < length c.in-Ok.part.work.items = omega (arith, many, c.in-Ok.part.work.ok.0) in
    let v = part_variable c.args.graph.now c.keeps_its_rules.ensures.made c.args.roots.now (seen c.args.candidate) c.args.pass.now c.in-Ok.part c.requires.planned part some in
    let d = variable_store c.args.graph.now c.args.stores.now c.args.pass.now.store c.requires.stores v in
    let at : slice_get c.args.stores.now c.args.pass.now.store ≡ Some c.index-stores-place.result = slice_get_read c.args.stores.now (length c.args.stores.now) c.args.pass.now.store c.index-stores-place.result refl (slice_get_within c.args.stores.now c.args.pass.now.store d.0 d.1) c.index-stores-place.is in
    let ns = c.requires.files.files c.args.pass.now.store c.index-stores-place.result at in
    let here : slice_get c.args.counts.now.items c.args.pass.now.store ≡ Some c.index_mut.result.now = slice_get_read c.args.counts.now.items (length c.args.counts.now.items) c.args.pass.now.store c.index_mut.result.now refl (slice_get_within c.args.counts.now.items c.args.pass.now.store ns.0 ns.1) c.index_mut.ensures.value in
    let same : ns.0 ≡ c.index_mut.result.now = inside ns.0 c.index_mut.result.now (sym ns.1 ∙ here) in
    ap (λ (x : List (Option ℕ)). length x) (sym same) ∙ ns.2

pub answer_of-requires : goal.answer_of-requires
answer_of-requires g c =
    let part : IsPart c.args.graph.now (seen c.args.candidate) c.args.pass.now c.in-Ok.part = record { store = c.in-Ok.ensures.place.0; level = c.in-Ok.ensures.place.1; work = c.in-Ok.ensures.work; collect = c.in-Ok.ensures.collect } in
    let many : 0 < vec_len c.in-Ok.part.work = not_empty _ _ c.is_empty.ensures c.if-is_empty.false in
    let some : 0 < length c.in-Ok.part.work.items = omega (arith, many, c.in-Ok.part.work.ok.0) in
    let v = part_variable c.args.graph.now c.keeps_its_rules.ensures.made c.args.roots.now (seen c.args.candidate) c.args.pass.now c.in-Ok.part c.requires.planned part some in
    let d = variable_store c.args.graph.now c.args.stores.now c.args.pass.now.store c.requires.stores v in
    v

pub returns-clause-files : goal.returns-clause-files
returns-clause-files g c =
    let part : IsPart c.args.graph.now (seen c.args.candidate) c.args.pass.now c.in-Ok.part = record { store = c.in-Ok.ensures.place.0; level = c.in-Ok.ensures.place.1; work = c.in-Ok.ensures.work; collect = c.in-Ok.ensures.collect } in
    let many : 0 < vec_len c.in-Ok.part.work = not_empty _ _ c.is_empty.ensures c.if-is_empty.false in
    let some : 0 < length c.in-Ok.part.work.items = omega (arith, many, c.in-Ok.part.work.ok.0) in
    let v = part_variable c.args.graph.now c.keeps_its_rules.ensures.made c.args.roots.now (seen c.args.candidate) c.args.pass.now c.in-Ok.part c.requires.planned part some in
    let d = variable_store c.args.graph.now c.args.stores.now c.args.pass.now.store c.requires.stores v in
    let at : slice_get c.args.stores.now c.args.pass.now.store ≡ Some c.index-stores-place.result = slice_get_read c.args.stores.now (length c.args.stores.now) c.args.pass.now.store c.index-stores-place.result refl (slice_get_within c.args.stores.now c.args.pass.now.store d.0 d.1) c.index-stores-place.is in
    let ns = c.requires.files.files c.args.pass.now.store c.index-stores-place.result at in
    let here : slice_get c.args.counts.now.items c.args.pass.now.store ≡ Some c.index_mut.result.now = slice_get_read c.args.counts.now.items (length c.args.counts.now.items) c.args.pass.now.store c.index_mut.result.now refl (slice_get_within c.args.counts.now.items c.args.pass.now.store ns.0 ns.1) c.index_mut.ensures.value in
    counts_set c.args.counts.now.items c.args.stores.now c.args.pass.now.store c.index-stores-place.result c.index_mut.result.now c.run_pass-answer.new.counts c.requires.files at here c.run_pass-answer.ensures.counts.files

pub returns-clause-passed : goal.returns-clause-passed
returns-clause-passed g c =
    let part : IsPart c.args.graph.now (seen c.args.candidate) c.args.pass.now c.in-Ok.part = record { store = c.in-Ok.ensures.place.0; level = c.in-Ok.ensures.place.1; work = c.in-Ok.ensures.work; collect = c.in-Ok.ensures.collect } in
    let rules_of = c.keeps_its_rules.ensures in
    passed c.args.graph.now rules_of.made rules_of.ordered rules_of.numbered c.args.roots.now (seen c.args.candidate) c.args.pass.now c.in-Ok.part c.args.known.now c.run_pass-answer.new.known c.requires.planned part c.requires.fit
    c.run_pass-answer.result c.answer_of.result c.answer_of.ensures c.run_pass-answer.ensures.adds c.run_pass-answer.ensures.stays

pub returns-clause-went : goal.returns-clause-went
returns-clause-went g c =
    let part : IsPart c.args.graph.now (seen c.args.candidate) c.args.pass.now c.in-Ok.part = record { store = c.in-Ok.ensures.place.0; level = c.in-Ok.ensures.place.1; work = c.in-Ok.ensures.work; collect = c.in-Ok.ensures.collect } in
    let many : 0 < vec_len c.in-Ok.part.work = not_empty _ _ c.is_empty.ensures c.if-is_empty.false in
    let some : 0 < length c.in-Ok.part.work.items = omega (arith, many, c.in-Ok.part.work.ok.0) in
    let v = part_variable c.args.graph.now c.keeps_its_rules.ensures.made c.args.roots.now (seen c.args.candidate) c.args.pass.now c.in-Ok.part c.requires.planned part some in
    let d = variable_store c.args.graph.now c.args.stores.now c.args.pass.now.store c.requires.stores v in
    let at : slice_get c.args.stores.now c.args.pass.now.store ≡ Some c.index-stores-place.result = slice_get_read c.args.stores.now (length c.args.stores.now) c.args.pass.now.store c.index-stores-place.result refl (slice_get_within c.args.stores.now c.args.pass.now.store d.0 d.1) c.index-stores-place.is in
    went g.S.Shelf c.args.stores.now c.args.pass.now.store c.index-stores-place.result at c.args.shelf.now c.run_pass-answer.new.shelf c.run_pass-answer.result c.run_pass-answer.ensures.held c.run_pass-answer.ensures.later c.run_pass-answer.ensures.opens

pub returns-clause-answered : goal.returns-clause-answered
returns-clause-answered g c =
    let part : IsPart c.args.graph.now (seen c.args.candidate) c.args.pass.now c.in-Ok.part = record { store = c.in-Ok.ensures.place.0; level = c.in-Ok.ensures.place.1; work = c.in-Ok.ensures.work; collect = c.in-Ok.ensures.collect } in
    let many : 0 < vec_len c.in-Ok.part.work = not_empty _ _ c.is_empty.ensures c.if-is_empty.false in
    let some : 0 < length c.in-Ok.part.work.items = omega (arith, many, c.in-Ok.part.work.ok.0) in
    let v = part_variable c.args.graph.now c.keeps_its_rules.ensures.made c.args.roots.now (seen c.args.candidate) c.args.pass.now c.in-Ok.part c.requires.planned part some in
    let d = variable_store c.args.graph.now c.args.stores.now c.args.pass.now.store c.requires.stores v in
    let at : slice_get c.args.stores.now c.args.pass.now.store ≡ Some c.index-stores-place.result = slice_get_read c.args.stores.now (length c.args.stores.now) c.args.pass.now.store c.index-stores-place.result refl (slice_get_within c.args.stores.now c.args.pass.now.store d.0 d.1) c.index-stores-place.is in
    answered g.S.Shelf c.args.stores.now c.args.pass.now.store c.index-stores-place.result at c.args.shelf.now c.run_pass-answer.new.shelf c.args.graph.now c.index_mut.result.now c.run_pass-answer.result c.answer_of.result c.answer_of.ensures
    c.run_pass-answer.ensures.opens c.run_pass-answer.ensures.explained c.run_pass-answer.ensures.changed c.run_pass-answer.ensures.longer c.run_pass-answer.ensures.placed

pub returns-clause-told : goal.returns-clause-told
returns-clause-told g c files e list columns f told holds =
    let part : IsPart c.args.graph.now (seen c.args.candidate) c.args.pass.now c.in-Ok.part = record { store = c.in-Ok.ensures.place.0; level = c.in-Ok.ensures.place.1; work = c.in-Ok.ensures.work; collect = c.in-Ok.ensures.collect } in
    let many : 0 < vec_len c.in-Ok.part.work = not_empty _ _ c.is_empty.ensures c.if-is_empty.false in
    let some : 0 < length c.in-Ok.part.work.items = omega (arith, many, c.in-Ok.part.work.ok.0) in
    let v = part_variable c.args.graph.now c.keeps_its_rules.ensures.made c.args.roots.now (seen c.args.candidate) c.args.pass.now c.in-Ok.part c.requires.planned part some in
    let d = variable_store c.args.graph.now c.args.stores.now c.args.pass.now.store c.requires.stores v in
    let at : slice_get c.args.stores.now c.args.pass.now.store ≡ Some c.index-stores-place.result = slice_get_read c.args.stores.now (length c.args.stores.now) c.args.pass.now.store c.index-stores-place.result refl (slice_get_within c.args.stores.now c.args.pass.now.store d.0 d.1) c.index-stores-place.is in
    let ns = c.requires.files.files c.args.pass.now.store c.index-stores-place.result at in
    let here : slice_get c.args.counts.now.items c.args.pass.now.store ≡ Some c.index_mut.result.now = slice_get_read c.args.counts.now.items (length c.args.counts.now.items) c.args.pass.now.store c.index_mut.result.now refl (slice_get_within c.args.counts.now.items c.args.pass.now.store ns.0 ns.1) c.index_mut.ensures.value in
    let rules_of = c.keeps_its_rules.ensures in
    let store = c.index-stores-place.result in
    let w = told.same c.args.pass.now.store store at in
    let gives = given columns c.args.graph.now f rules_of.made rules_of.ordered rules_of.numbered c.args.roots.now (seen c.args.candidate) c.args.pass.now c.in-Ok.part c.requires.planned part files list c.args.stores.now store at c.args.known.now c.run_pass-answer.new.known c.args.counts.now.items told holds c.index_mut.result.now here in
    let tells_it = c.run_pass-answer.ensures.told files e list w.0 columns f c.args.roots.now (seen c.args.candidate) gives in
    let right = c.run_pass-answer.ensures.right files e (holds.counted c.args.pass.now.store store c.index_mut.result.now at here) in
    tells columns c.args.graph.now f rules_of.made rules_of.ordered rules_of.numbered c.args.roots.now (seen c.args.candidate) c.args.pass.now c.in-Ok.part c.requires.planned part files list c.args.stores.now store at c.args.known.now c.run_pass-answer.new.known c.args.counts.now.items told holds
    c.run_pass-answer.new.counts right some c.run_pass-answer.result c.answer_of.result c.answer_of.ensures c.run_pass-answer.ensures.adds c.run_pass-answer.ensures.stays tells_it
