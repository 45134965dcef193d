use Rattle.std.proofs.Common.{arith, sym, ◌∙◌}
use Rattle.tall_kv.specs.Faults.{refusal_of}
use Rattle.tall_kv.specs.Stores.{rows_pairs}
use Rattle.tall_kv.proofs.StoreLemmas.{none_fits, none_of_store, first_is_fault, number_is_fault, all_are_fitting, all_are_store}
use Rattle.tall_kv.proofs.rows.Rows.fit.Goals as goal

pub returns-then-len-eq0-clause-fit : goal.returns-then-len-eq0-clause-fit
returns-then-len-eq0-clause-fit c = none_fits _ _ (sym c.if-len-eq0.true ∙ c.len.ensures.pairs)

pub returns-then-len-eq0-clause-store : goal.returns-then-len-eq0-clause-store
returns-then-len-eq0-clause-store c = none_of_store _ _ (sym c.if-len-eq0.true ∙ c.len.ensures.pairs) c.requires.kept.store

pub returns-in-Some-clause-fault : goal.returns-in-Some-clause-fault
returns-in-Some-clause-fault c =
    first_is_fault (rows_pairs c.args.self.now) (rows_pairs c.args.later.now) _ (refusal_of c.in-Some.misfit) c.at.result c.pair-key.ensures.pair (c.in-Some.ensures.misfit c.pair-key.result.2) c.at.ensures

pub returns-then-len-room-clause-fit : goal.returns-then-len-room-clause-fit
returns-then-len-room-clause-fit c =
    all_are_fitting (rows_pairs c.args.self.now) (rows_pairs c.args.later.now) _ c.requires.later_kept.store c.pair-key.ensures.pair (c.in_default.ensures.misfit c.pair-key.result.2)
    (let own = c.len-2.ensures.pairs in let more = c.len-3.ensures.pairs in let fits = c.if-len-room.true in omega (arith, own, more, fits))

pub returns-then-len-room-clause-store : goal.returns-then-len-room-clause-store
returns-then-len-room-clause-store c =
    all_are_store (rows_pairs c.args.self.now) (rows_pairs c.args.later.now) _ c.requires.kept.store c.requires.later_kept.store c.pair-key.ensures.pair (c.in_default.ensures.misfit c.pair-key.result.2)
    (let own = c.len-2.ensures.pairs in let more = c.len-3.ensures.pairs in let fits = c.if-len-room.true in omega (arith, own, more, fits))

pub returns-clause-fault : goal.returns-clause-fault
returns-clause-fault c =
    number_is_fault (rows_pairs c.args.self.now) (rows_pairs c.args.later.now) _ _ _ c.at-2.result c.requires.later_kept.store c.pair-key.ensures.pair (c.in_default.ensures.misfit c.pair-key.result.2)
    (let own = c.len-2.ensures.pairs in let within = c.requires.kept.store.within in omega (arith, own, within)) c.pair-line.ensures.pair c.at-2.ensures
