use Rattle.std.specs.Prelude.{refl, option_map}
use Rattle.std.proofs.Common.{sym, ◌∙◌}
use Rattle.tall_semantics.specs.Faults.{fault_seen}
use Rattle.tall_pass.specs.Endings.{PutsBelow, PutsOne}
use Rattle.tall_pass.proofs.EndingLaws.{if_ok}
use Rattle.tall_pass.proofs.PuttingLaws.{puts_here, puts_not}
use Rattle.tall_pass.proofs.finish.put_below.Goals as goal

pub returns-then-is_below : goal.returns-then-is_below
returns-then-is_below c =
    if_ok (λ x. PutsOne c.args.ended c.args.known.now c.put_one.new.known) (λ x. PutsBelow c.args.graph.now (option_map fault_seen c.args.bound) c.args.ended c.args.known.now c.put_one.new.known) c.put_one.result
    (λ x puts. puts_here c.args.graph.now (option_map fault_seen c.args.bound) c.args.ended c.args.known.now c.put_one.new.known c.number_of.result c.requires c.number_of.ensures (sym c.is_below.ensures ∙ c.if-is_below.true) puts) c.put_one.ensures

pub returns-else-is_below : goal.returns-else-is_below
returns-else-is_below c =
    puts_not c.args.graph.now (option_map fault_seen c.args.bound) c.args.ended c.args.known.now c.args.known.now c.number_of.result c.requires c.number_of.ensures (sym c.is_below.ensures ∙ c.if-is_below.false) (λ i. refl) (λ i b. refl)
