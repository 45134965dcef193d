use Rattle.std.proofs.Common.{None, Some, arith, map}
use Rattle.tall_grammar.specs.Views.{routine_of}
use Rattle.tall_script.specs.ScriptLanguage.{function_in}
use Rattle.tall_deferred.specs.Values.{at_seen}
use Rattle.tall_script_calls.proofs.ReductionLaws.{by_functions, function_named, no_map_there, no_reduce_there, no_store_there}
use Rattle.tall_script_calls.proofs.reducing.reduce_named.Goals as goal

pub returns-then-place-store_count : goal.returns-then-place-store_count
returns-then-place-store_count g c =
    let functions = map routine_of c.args.functions.now in
    no_store_there g.S.Shelf (at_seen c.args.at) c.args.place (function_in functions c.args.map_name.now) (function_in functions c.args.reduce_name.now) c.args.environment.now c.args.shelf.now
    c.bad_argument.result c.bad_argument.ensures.names c.bad_argument.ensures.inside (omega (arith, c.if-place-store_count.true, c.store_count.ensures))

pub returns-in-Some-function_of : goal.returns-in-Some-function_of
returns-in-Some-function_of g c =
    let functions = map routine_of c.args.functions.now in
    by_functions g.S.Shelf (at_seen c.args.at) c.args.place (function_in functions c.args.map_name.now) (function_in functions c.args.reduce_name.now) c.args.environment.now
    (Some (routine_of c.in-Some.map.now)) (Some (routine_of c.in-Some-function_of.reduce.now)) c.reduce_with.new.environment c.args.shelf.now c.reduce_with.new.shelf c.reduce_with.result
    (function_named functions (Some (routine_of c.in-Some.map.now)) c.as_str.result.now c.args.map_name.now c.in-Some.ensures c.as_str.ensures)
    (function_named functions (Some (routine_of c.in-Some-function_of.reduce.now)) c.as_str-in-Some.result.now c.args.reduce_name.now c.in-Some-function_of.ensures c.as_str-in-Some.ensures) c.reduce_with.ensures

pub returns-in-None-function_of : goal.returns-in-None-function_of
returns-in-None-function_of g c =
    let functions = map routine_of c.args.functions.now in
    no_reduce_there g.S.Shelf (at_seen c.args.at) c.args.place (function_in functions c.args.map_name.now) (function_in functions c.args.reduce_name.now) c.args.environment.now c.args.shelf.now
    c.bad_argument-in-None-function_of.result c.bad_argument-in-None-function_of.ensures.names c.bad_argument-in-None-function_of.ensures.inside (function_named functions None c.as_str-in-Some.result.now c.args.reduce_name.now c.in-None-function_of.ensures c.as_str-in-Some.ensures)

pub returns-in-None : goal.returns-in-None
returns-in-None g c =
    let functions = map routine_of c.args.functions.now in
    no_map_there g.S.Shelf (at_seen c.args.at) c.args.place (function_in functions c.args.map_name.now) (function_in functions c.args.reduce_name.now) c.args.environment.now c.args.shelf.now
    c.bad_argument-in-None.result c.bad_argument-in-None.ensures.names c.bad_argument-in-None.ensures.inside (function_named functions None c.as_str.result.now c.args.map_name.now c.in-None.ensures c.as_str.ensures)
