use Rattle.std.specs.Prelude.{◌≡◌, refl, ℕ, Some, List, length, slice_get}
use Rattle.std.proofs.Common.{arith, subst, ap}
use Rattle.std.proofs.lemmas.Option.{slice_get_read}
use Rattle.tall_semantics.specs.Plans.{needed_of}
use Rattle.tall_stored.specs.StoredColumns.{rows_of_stores}
use Rattle.tall_stored.proofs.StoredLaws.{are_columns}
use Rattle.tall_gather.specs.Candidates.{seen}
use Rattle.tall_gather.proofs.RestLaws.{place_among}
use Rattle.tall_gather.proofs.RestLoop.{RestLoop, RestSoFar, loop_first, loop_next, rest_done, told_rest}
use Rattle.tall_gather.proofs.WorkLaws.{needed_within}
use Rattle.tall_gather.proofs.rest.rest_level.Goals as goal

pub rest_step-requires-clause-there : goal.rest_step-requires-clause-there
rest_step-requires-clause-there c =
    let at : slice_get c.args.needed.now c.loop-n.n-index ≡ Some c.n-item.result = slice_get_read c.args.needed.now (length c.args.needed.now) c.loop-n.n-index c.n-item.result refl c.loop-n-test.true c.n-item.is in
    let there : slice_get (needed_of c.args.graph.now c.args.roots.now) c.loop-n.n-index ≡ Some c.n-item.result = subst (λ (xs : List ℕ). slice_get xs c.loop-n.n-index ≡ Some c.n-item.result) c.requires.needed at in
    needed_within c.args.graph.now c.keeps_its_rules.ensures.made c.args.roots.now c.requires.there c.n-item.result (place_among _ c.loop-n.n-index c.n-item.result there)

pub loop-n-init : goal.loop-n-init
loop-n-init c = loop_first c.args.graph.now c.args.roots.now c.args.level (seen c.args.candidate) c.args.known.now c.requires.after.fit

pub loop-n-preserved : goal.loop-n-preserved
loop-n-preserved c =
    let at : slice_get c.args.needed.now c.loop-n.n-index ≡ Some c.n-item.result = slice_get_read c.args.needed.now (length c.args.needed.now) c.loop-n.n-index c.n-item.result refl c.loop-n-test.true c.n-item.is in
    let there : slice_get (needed_of c.args.graph.now c.args.roots.now) c.loop-n.n-index ≡ Some c.n-item.result = subst (λ (xs : List ℕ). slice_get xs c.loop-n.n-index ≡ Some c.n-item.result) c.requires.needed at in
    let rules_of = c.keeps_its_rules.ensures in
    loop_next c.args.graph.now rules_of.made rules_of.ordered rules_of.numbered rules_of.solved c.args.roots.now c.requires.there c.args.level (seen c.args.candidate) c.args.known.now c.loop-n.n-index c.loop-n.known c.rest_step.new.known c.loop-n.found c.of_data.result c.earlier-found.result c.n-item.result c.in_ok-fault.fault
    there c.requires.after.ranks c.loop-n.invariant c.in_ok-fault.ensures.step c.in_ok-fault.ensures.told c.of_data.ensures.seen c.of_data.ensures.of_data c.earlier-found.ensures.seen c.earlier-found.ensures.one

pub returns-clause-after : goal.returns-clause-after
returns-clause-after c =
    let all : c.loop-n.n-index ≡ length (needed_of c.args.graph.now c.args.roots.now) = omega (arith, c.loop-n-test.false, c.loop-n.auto.n-index-end, ap (λ (xs : List ℕ). length xs) c.requires.needed) in
    let rules_of = c.keeps_its_rules.ensures in
    rest_done c.args.graph.now rules_of.made rules_of.ordered rules_of.numbered rules_of.solved c.args.roots.now c.requires.there c.args.level (seen c.args.candidate) (seen c.loop-n.found) c.args.known.now c.loop-n.known c.requires.after.ranks
    (subst (λ n. RestSoFar c.args.graph.now (needed_of c.args.graph.now c.args.roots.now) c.args.level n (seen c.args.candidate) (seen c.loop-n.found) c.args.known.now c.loop-n.known) all c.loop-n.invariant.so)

pub returns-clause-told : goal.returns-clause-told
returns-clause-told c files stores counts list columns f told holds =
    let all : c.loop-n.n-index ≡ length (needed_of c.args.graph.now c.args.roots.now) = omega (arith, c.loop-n-test.false, c.loop-n.auto.n-index-end, ap (λ (xs : List ℕ). length xs) c.requires.needed) in
    let rules_of = c.keeps_its_rules.ensures in
    let loop = subst (λ n. RestLoop c.args.graph.now c.args.roots.now c.args.level (seen c.args.candidate) c.args.known.now n c.loop-n.known c.loop-n.found) all c.loop-n.invariant in
    told_rest columns c.args.graph.now f rules_of.made rules_of.ordered rules_of.numbered rules_of.solved told.meaning c.args.roots.now c.requires.there c.args.level (seen c.args.candidate) files list stores counts (seen c.loop-n.found) c.args.known.now c.loop-n.known told holds loop.so (loop.told columns f (record { meaning = told.meaning; of_stores = rows_of_stores files list; stored = are_columns files list c.args.graph.now columns told.stored }) holds.right.results)
