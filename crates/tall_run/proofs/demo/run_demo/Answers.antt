use Rattle.std.proofs.Common.{◌≡◌, rules}
use Rattle.std.specs.Prelude.{Some}
use Rattle.tall_outside.specs.CalmShelf.{state_of}
use Rattle.tall_outside.specs.contracts.calm_shelf.CalmShelfShelf.TheImpl as calm
use Rattle.tall_words.specs.Demo.{demo_files}
use Rattle.tall_run.proofs.Closing.{ends_as}
use Rattle.tall_run.proofs.DemoSize.{demo_within}
use Rattle.tall_run.proofs.Promising.{demo_end, no_rise}
use Rattle.tall_run.proofs.demo.run_demo.Goals as goal

pub returns-clause-ends : goal.returns-clause-ends
returns-clause-ends g c =
    let tells : Some (state_of c.in-Ok-new.shelf).files ≡ Some (demo_files c.args.rows) = search rules in
    ends_as (λ e is. demo_end calm.ghosts (demo_files c.args.rows) _ c.in-Ok-new.shelf c.run_script.new.shelf _ _ tells (demo_within c.args.rows c.requires.rows) no_rise e is) c.run_script.ensures.ends

pub returns-clause-front : goal.returns-clause-front
returns-clause-front g c = λ a answers.
    let tells : Some (state_of c.in-Ok-new.shelf).files ≡ Some (demo_files c.args.rows) = search rules in
    c.run_script.ensures.front (demo_files c.args.rows) tells a answers
