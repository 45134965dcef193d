use Rattle.tall_gather.specs.Smalls.{small_found}
use Rattle.tall_gather.proofs.RestLaws.{put_made, put_shown}
use Rattle.tall_gather.proofs.rest.put_small.Goals as goal

pub returns-in_ok-put-in-Made-clause-put : goal.returns-in_ok-put-in-Made-clause-put
returns-in_ok-put-in-Made-clause-put c =
    put_made c.args.graph.now c.args.n (small_found c.in-Made.value) c.args.known.now c.put.new.self c.in_ok-put-in-Made.ensures.put c.in-Made.ensures.fits c.requires.fit c.put.ensures.carries

pub returns-in_ok-put-in-Made-clause-told : goal.returns-in_ok-put-in-Made-clause-told
returns-in_ok-put-in-Made-clause-told c columns f computed shown =
    put_shown c.args.graph.now c.args.n (small_found c.in-Made.value) c.args.known.now c.put.new.self c.in_ok-put-in-Made.ensures.put f (c.in-Made.ensures.told columns f computed shown) shown

pub returns-in-Failed-clause-told : goal.returns-in-Failed-clause-told
returns-in-Failed-clause-told c columns f computed shown = (shown, c.in-Failed.ensures.told columns f computed shown)
