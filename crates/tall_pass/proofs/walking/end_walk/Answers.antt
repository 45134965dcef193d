use Rattle.tall_walk.specs.Events.{blocks_in}
use Rattle.tall_pass.specs.Takers.{Takes, inputs_of}
use Rattle.tall_pass.proofs.WalkLaws.{ends_given, joins_given, reading_alone, reading_ended, whole_joined}
use Rattle.tall_pass.proofs.walking.end_walk.Goals as goal

pub returns-in-Ok : goal.returns-in-Ok
returns-in-Ok g c = λ w e.
    let new = c.work_off.new.self in
    whole_joined (Takes (goal.C-pre g) (goal.C-post g) g.K.PassGiven c.args.taker) c.args.end w g.K.PassGiven.counts (record { sums = c.work_off.new.self.joined.sums; counts = c.work_off.new.self.counts }) c.in-Whole.is
    (λ events t.
    let s = c.in-Ok.ensures.goes events t in
    joins_given g.K.PassGiven.inputs (inputs_of new) w g.K.PassGiven.counts new.joined new.window.items new.counts events e c.in-Ok.ensures.all s.0 s.2)

pub returns-in-Ok-work_off : goal.returns-in-Ok-work_off
returns-in-Ok-work_off g c = λ w e.
    let new = c.work_off-in-Reading.new.self in
    reading_alone (Takes (goal.C-pre g) (goal.C-post g) g.K.PassGiven c.args.taker) c.args.end w g.K.PassGiven.counts c.in-Reading.fault c.in-Reading.is
    (λ events t.
    let s = c.in-Ok-work_off.ensures.goes events t in
    (joins_given g.K.PassGiven.inputs (inputs_of new) w g.K.PassGiven.counts new.joined new.window.items new.counts events e c.in-Ok-work_off.ensures.all s.0 s.2).none)

pub returns-in-Reading : goal.returns-in-Reading
returns-in-Reading g c = λ w e.
    reading_ended (Takes (goal.C-pre g) (goal.C-post g) g.K.PassGiven c.args.taker) c.args.end w g.K.PassGiven.counts c.in-Reading.fault c.in-Err-work_off.earlier c.in-Reading.is
    (λ events t. ends_given g.K.PassGiven.inputs (inputs_of c.args.taker) w (blocks_in events) c.in-Err-work_off.earlier e t.0 (c.in-Err-work_off.ensures.ends events t))
