use Rattle.std.proofs.Common.{Result, ap, length, ◌∙◌}
use Rattle.tall_outside.specs.Shelf.{Files}
use Rattle.tall_grammar.specs.Views.{routine_of}
use Rattle.tall_local.specs.Memory.{Memory}
use Rattle.tall_local.specs.Refusals.{Stop}
use Rattle.tall_local.specs.Values.{in_memory}
use Rattle.tall_script.specs.MapReduce.{map_reduced}
use Rattle.tall_script_calls.proofs.ReductionLaws.{names_below, reduces_lost, reduces_not, reduces_to}
use Rattle.tall_script_calls.proofs.reducing.reduced_table.Goals as goal

pub returns-in-Ok-in_memory : goal.returns-in-Ok-in_memory
returns-in-Ok-in_memory g c d same line =
    let want : Files → Result Memory Stop = (λ files. map_reduced files d (routine_of c.args.map.now) (routine_of c.args.reduce.now)) in
    reduces_to g.S.Shelf d c.args.store.now same want c.args.shelf.now c.mapreduce.new.shelf c.in-Ok.table c.in-Ok-in_memory.value c.in-Ok-in_memory.ensures.memory
    (λ f. c.in-Ok-in_memory.ensures.value f ∙ ap in_memory c.table.ensures)
    c.in-Ok.ensures.held c.in-Ok.ensures.later c.in-Ok.ensures.opens (λ files is. c.in-Ok.ensures.told files is d same)

pub returns-in-Err-in_memory : goal.returns-in-Err-in_memory
returns-in-Err-in_memory g c d same line =
    let want : Files → Result Memory Stop = (λ files. map_reduced files d (routine_of c.args.map.now) (routine_of c.args.reduce.now)) in
    reduces_lost g.S.Shelf d c.args.store.now same want c.args.shelf.now c.mapreduce.new.shelf c.in-Ok.table
    c.in-Ok.ensures.held c.in-Ok.ensures.later c.in-Ok.ensures.opens

pub map_failure-requires-clause-named : goal.map_failure-requires-clause-named
map_failure-requires-clause-named g c = names_below c.in-Err.fault c.in-Err.ensures.opens.opened (length c.args.store.now.files) c.in-Err.ensures.opens.within c.in-Err.ensures.opens.named

pub returns-in-Err : goal.returns-in-Err
returns-in-Err g c d same line =
    let want : Files → Result Memory Stop = (λ files. map_reduced files d (routine_of c.args.map.now) (routine_of c.args.reduce.now)) in
    reduces_not g.S.Shelf d c.args.store.now same want c.args.shelf.now c.mapreduce.new.shelf c.in-Err.fault c.map_failure.result
    c.in-Err.ensures.held c.in-Err.ensures.later c.in-Err.ensures.opens (λ files is. c.map_failure.ensures.stops d (want files) same line (c.in-Err.ensures.told files is d same))
    (c.map_failure.ensures.blames c.args.shelf.now c.mapreduce.new.shelf c.in-Err.ensures.explained c.in-Err.ensures.opens c.in-Err.ensures.longer)
