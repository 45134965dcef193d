use Rattle.std.proofs.Common.{◌∙◌, ap, length, subst}
use Rattle.std.specs.Prelude.{IfOk}
use Rattle.tall_outside.specs.ShelfCounts.{shelf_counts}
use Rattle.tall_pass.specs.Answered.{IsChange}
use Rattle.tall_pass.specs.Counts.{AllCounted, KeepsCounts}
use Rattle.tall_pass.specs.Taken.{HasStopped, OfInputs}
use Rattle.tall_pass.specs.Takers.{Takes, inputs_of, shared_inputs}
use Rattle.tall_pass.specs.Walking.{WalkTells, answer_of}
use Rattle.tall_pass.proofs.WalkLaws.{Says, changed, explained, inside_of, kept, longer, needs, opens, placed, says, some_sums, starts_at, stops_of, told}
use Rattle.tall_pass.proofs.walking.walk_given.Goals as goal

pub walk_files-end-requires-clause-fresh : goal.walk_files-end-requires-clause-fresh
walk_files-end-requires-clause-fresh g c =
    (c.requires.given, record { may = c.requires.asks; does = c.requires.gives }, starts_at (shared_inputs c.args.shared.now) g.K.PassGiven.counts c.args.counts c.args.sums c.new.result.items c.requires.places c.requires.ways c.requires.files c.requires.none c.new.ensures.items c.requires.known)

pub end_walk-requires : goal.end_walk-requires
end_walk-requires g c =
    needs (Takes (goal.C-pre g) (goal.C-post g) g.K.PassGiven c.walk_files-end.new.taker) (λ e before event. OfInputs g.K.PassGiven.inputs (λ v. HasStopped v.store g.K.PassGiven.counts e before event)) c.args.shared.now.store.now
    (g.S.Shelf.held c.args.shelf.now) (g.S.Shelf.opened c.args.shelf.now) (g.S.Shelf.opened c.walk_files-end.new.shelf) c.walk_files-end.result c.walk_files-end.ensures.walked

pub returns-clause-kept : goal.returns-clause-kept
returns-clause-kept g c =
    let w = shared_inputs c.args.shared.now in
    let first = g.K.PassGiven.counts in
    let taker = c.walk_files-end.new.taker in
    let held = g.S.Shelf.held c.args.shelf.now in
    let before = g.S.Shelf.opened c.args.shelf.now in
    let now = g.S.Shelf.opened c.walk_files-end.new.shelf in
    let how = c.walk_files-end.result in
    let walked = c.walk_files-end.ensures.walked in
    let s : Says w first held walked.opened how c.end_walk.result =
    says w first (Takes (goal.C-pre g) (goal.C-post g) g.K.PassGiven taker) held c.requires.store (λ es t. inside_of g.K.PassGiven.inputs (inputs_of taker) w first taker.joined taker.window.items taker.counts es c.requires.given t.0 t.2)
    (λ e es ev. OfInputs g.K.PassGiven.inputs (λ v. HasStopped v.store first e es ev)) before now how c.end_walk.result (λ e es ev h. stops_of g.K.PassGiven.inputs w first e es ev c.requires.given h) walked (c.end_walk.ensures w c.requires.given) in
    subst (λ f. IfOk c.end_walk.result (λ x. KeepsCounts f x.counts × AllCounted x.counts)) c.requires.known (kept w first held walked.opened how c.end_walk.result (ap length c.requires.known ∙ c.requires.files) s)

pub returns-clause-changed : goal.returns-clause-changed
returns-clause-changed g c =
    let w = shared_inputs c.args.shared.now in
    let first = g.K.PassGiven.counts in
    let taker = c.walk_files-end.new.taker in
    let held = g.S.Shelf.held c.args.shelf.now in
    let before = g.S.Shelf.opened c.args.shelf.now in
    let now = g.S.Shelf.opened c.walk_files-end.new.shelf in
    let how = c.walk_files-end.result in
    let walked = c.walk_files-end.ensures.walked in
    let s : Says w first held walked.opened how c.end_walk.result =
    says w first (Takes (goal.C-pre g) (goal.C-post g) g.K.PassGiven taker) held c.requires.store (λ es t. inside_of g.K.PassGiven.inputs (inputs_of taker) w first taker.joined taker.window.items taker.counts es c.requires.given t.0 t.2)
    (λ e es ev. OfInputs g.K.PassGiven.inputs (λ v. HasStopped v.store first e es ev)) before now how c.end_walk.result (λ e es ev h. stops_of g.K.PassGiven.inputs w first e es ev c.requires.given h) walked (c.end_walk.ensures w c.requires.given) in
    subst (λ f. IsChange f (answer_of c.end_walk.result)) c.requires.known (changed w first held walked.opened how c.end_walk.result s)

pub returns-clause-opens : goal.returns-clause-opens
returns-clause-opens g c =
    let w = shared_inputs c.args.shared.now in
    let first = g.K.PassGiven.counts in
    let taker = c.walk_files-end.new.taker in
    let held = g.S.Shelf.held c.args.shelf.now in
    let before = g.S.Shelf.opened c.args.shelf.now in
    let now = g.S.Shelf.opened c.walk_files-end.new.shelf in
    let how = c.walk_files-end.result in
    let walked = c.walk_files-end.ensures.walked in
    let s : Says w first held walked.opened how c.end_walk.result =
    says w first (Takes (goal.C-pre g) (goal.C-post g) g.K.PassGiven taker) held c.requires.store (λ es t. inside_of g.K.PassGiven.inputs (inputs_of taker) w first taker.joined taker.window.items taker.counts es c.requires.given t.0 t.2)
    (λ e es ev. OfInputs g.K.PassGiven.inputs (λ v. HasStopped v.store first e es ev)) before now how c.end_walk.result (λ e es ev h. stops_of g.K.PassGiven.inputs w first e es ev c.requires.given h) walked (c.end_walk.ensures w c.requires.given) in
    opens w first held walked.opened how before now c.end_walk.result walked.within walked.opens s

pub returns-clause-explained : goal.returns-clause-explained
returns-clause-explained g c =
    let w = shared_inputs c.args.shared.now in
    let first = g.K.PassGiven.counts in
    let taker = c.walk_files-end.new.taker in
    let held = g.S.Shelf.held c.args.shelf.now in
    let before = g.S.Shelf.opened c.args.shelf.now in
    let now = g.S.Shelf.opened c.walk_files-end.new.shelf in
    let how = c.walk_files-end.result in
    let walked = c.walk_files-end.ensures.walked in
    let s : Says w first held walked.opened how c.end_walk.result =
    says w first (Takes (goal.C-pre g) (goal.C-post g) g.K.PassGiven taker) held c.requires.store (λ es t. inside_of g.K.PassGiven.inputs (inputs_of taker) w first taker.joined taker.window.items taker.counts es c.requires.given t.0 t.2)
    (λ e es ev. OfInputs g.K.PassGiven.inputs (λ v. HasStopped v.store first e es ev)) before now how c.end_walk.result (λ e es ev h. stops_of g.K.PassGiven.inputs w first e es ev c.requires.given h) walked (c.end_walk.ensures w c.requires.given) in
    explained w first held walked.opened how (shelf_counts g.S.Shelf c.args.shelf.now) (shelf_counts g.S.Shelf c.walk_files-end.new.shelf) c.end_walk.result c.walk_files-end.ensures.explained s

pub returns-clause-longer : goal.returns-clause-longer
returns-clause-longer g c =
    let w = shared_inputs c.args.shared.now in
    let first = g.K.PassGiven.counts in
    let taker = c.walk_files-end.new.taker in
    let held = g.S.Shelf.held c.args.shelf.now in
    let before = g.S.Shelf.opened c.args.shelf.now in
    let now = g.S.Shelf.opened c.walk_files-end.new.shelf in
    let how = c.walk_files-end.result in
    let walked = c.walk_files-end.ensures.walked in
    let s : Says w first held walked.opened how c.end_walk.result =
    says w first (Takes (goal.C-pre g) (goal.C-post g) g.K.PassGiven taker) held c.requires.store (λ es t. inside_of g.K.PassGiven.inputs (inputs_of taker) w first taker.joined taker.window.items taker.counts es c.requires.given t.0 t.2)
    (λ e es ev. OfInputs g.K.PassGiven.inputs (λ v. HasStopped v.store first e es ev)) before now how c.end_walk.result (λ e es ev h. stops_of g.K.PassGiven.inputs w first e es ev c.requires.given h) walked (c.end_walk.ensures w c.requires.given) in
    λ files e. longer w first held walked.opened how files c.end_walk.result e c.walk_files-end.ensures.longer s

pub returns-clause-ok : goal.returns-clause-ok
returns-clause-ok g c =
    let w = shared_inputs c.args.shared.now in
    let first = g.K.PassGiven.counts in
    let taker = c.walk_files-end.new.taker in
    let held = g.S.Shelf.held c.args.shelf.now in
    let before = g.S.Shelf.opened c.args.shelf.now in
    let now = g.S.Shelf.opened c.walk_files-end.new.shelf in
    let how = c.walk_files-end.result in
    let walked = c.walk_files-end.ensures.walked in
    let s : Says w first held walked.opened how c.end_walk.result =
    says w first (Takes (goal.C-pre g) (goal.C-post g) g.K.PassGiven taker) held c.requires.store (λ es t. inside_of g.K.PassGiven.inputs (inputs_of taker) w first taker.joined taker.window.items taker.counts es c.requires.given t.0 t.2)
    (λ e es ev. OfInputs g.K.PassGiven.inputs (λ v. HasStopped v.store first e es ev)) before now how c.end_walk.result (λ e es ev h. stops_of g.K.PassGiven.inputs w first e es ev c.requires.given h) walked (c.end_walk.ensures w c.requires.given) in
    some_sums w first held walked.opened how c.end_walk.result s

pub returns-clause-placed : goal.returns-clause-placed
returns-clause-placed g c =
    let w = shared_inputs c.args.shared.now in
    let first = g.K.PassGiven.counts in
    let taker = c.walk_files-end.new.taker in
    let held = g.S.Shelf.held c.args.shelf.now in
    let before = g.S.Shelf.opened c.args.shelf.now in
    let now = g.S.Shelf.opened c.walk_files-end.new.shelf in
    let how = c.walk_files-end.result in
    let walked = c.walk_files-end.ensures.walked in
    let s : Says w first held walked.opened how c.end_walk.result =
    says w first (Takes (goal.C-pre g) (goal.C-post g) g.K.PassGiven taker) held c.requires.store (λ es t. inside_of g.K.PassGiven.inputs (inputs_of taker) w first taker.joined taker.window.items taker.counts es c.requires.given t.0 t.2)
    (λ e es ev. OfInputs g.K.PassGiven.inputs (λ v. HasStopped v.store first e es ev)) before now how c.end_walk.result (λ e es ev h. stops_of g.K.PassGiven.inputs w first e es ev c.requires.given h) walked (c.end_walk.ensures w c.requires.given) in
    placed w first held walked.opened how c.end_walk.result s

pub returns-clause-told : goal.returns-clause-told
returns-clause-told g c =
    let w = shared_inputs c.args.shared.now in
    let first = g.K.PassGiven.counts in
    let taker = c.walk_files-end.new.taker in
    let held = g.S.Shelf.held c.args.shelf.now in
    let before = g.S.Shelf.opened c.args.shelf.now in
    let now = g.S.Shelf.opened c.walk_files-end.new.shelf in
    let how = c.walk_files-end.result in
    let walked = c.walk_files-end.ensures.walked in
    let s : Says w first held walked.opened how c.end_walk.result =
    says w first (Takes (goal.C-pre g) (goal.C-post g) g.K.PassGiven taker) held c.requires.store (λ es t. inside_of g.K.PassGiven.inputs (inputs_of taker) w first taker.joined taker.window.items taker.counts es c.requires.given t.0 t.2)
    (λ e es ev. OfInputs g.K.PassGiven.inputs (λ v. HasStopped v.store first e es ev)) before now how c.end_walk.result (λ e es ev h. stops_of g.K.PassGiven.inputs w first e es ev c.requires.given h) walked (c.end_walk.ensures w c.requires.given) in
    λ files e. subst (λ f. WalkTells w files f c.end_walk.result) c.requires.known (told w first held walked.opened how files c.end_walk.result e s)
