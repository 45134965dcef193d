use Rattle.std.proofs.Common.{sym, ap}
use Rattle.tall_grammar.specs.Views.{routine_of}
use Rattle.tall_deferred.specs.Values.{at_seen}
use Rattle.tall_script_calls.proofs.ReductionLaws.{store_evaluates, store_read, there_is}
use Rattle.tall_script_calls.proofs.reducing.reduce_with.Goals as goal

pub returns : goal.returns
returns g c =
    let e = c.args.environment.now in
    let t = there_is e.stores c.args.place c.requires.place in
    store_evaluates g.S.Shelf (at_seen c.args.at) c.args.place e c.allow.new.self t.0 (routine_of c.args.map.now) (routine_of c.args.reduce.now) c.args.shelf.now c.reduced_table-answer.new.shelf c.reduced_table-answer.result t.1 c.requires.next
    c.allow.ensures
    (c.reduced_table-answer.ensures t.0 (store_read e.stores c.stores.result.now c.args.place t.0 c.index-stores-place.result c.stores.ensures t.1 c.index-stores-place.is c.requires.place) (sym (ap (λ a. a.line) (c.call-line.ensures t.0 t.1))))
