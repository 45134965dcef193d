use Rattle.std.proofs.Common.{Err, Ok, inl, inr, refl, subst, sym}
use Rattle.tall_mapred.specs.declared.faults.MapFault.TheVariants.{Reading}
use Rattle.tall_mapred.specs.Takers.{EndsWalk, Takes}
use Rattle.tall_mapred.proofs.WalkLaws.{all_appended}
use Rattle.tall_mapred.proofs.mapping.end_walk.Goals as goal

pub returns-in-Ok : goal.returns-in-Ok
returns-in-Ok g c =
    let new = c.work_off.new.self in
    subst (λ x. EndsWalk (Takes (goal.C-pre g) (goal.C-post g) g.K.MapGiven 0 c.args.taker) g.K.MapGiven.given x (Ok new.pairs)) (sym c.in-Whole.is)
    (λ events taken. all_appended g.K.MapGiven.given (goal.C-pre g new.call.now) (goal.C-post g new.call.now) new.most new.pairs new.window.items events c.in-Ok.ensures.all (c.in-Ok.ensures.goes events taken))

pub returns-in-Ok-work_off : goal.returns-in-Ok-work_off
returns-in-Ok-work_off g c =
    let new = c.work_off-in-Reading.new.self in
    subst (λ x. EndsWalk (Takes (goal.C-pre g) (goal.C-post g) g.K.MapGiven 0 c.args.taker) g.K.MapGiven.given x (Err (Reading c.in-Reading.fault))) (sym c.in-Reading.is)
    (λ events taken. inr (refl, new.pairs, all_appended g.K.MapGiven.given (goal.C-pre g new.call.now) (goal.C-post g new.call.now) new.most new.pairs new.window.items events c.in-Ok-work_off.ensures.all (c.in-Ok-work_off.ensures.goes events taken)))

pub returns-in-Reading : goal.returns-in-Reading
returns-in-Reading g c =
    subst (λ x. EndsWalk (Takes (goal.C-pre g) (goal.C-post g) g.K.MapGiven 0 c.args.taker) g.K.MapGiven.given x (Err c.in-Err-work_off.earlier)) (sym c.in-Reading.is) (λ events taken. inl (c.in-Err-work_off.ensures.ends events taken))
